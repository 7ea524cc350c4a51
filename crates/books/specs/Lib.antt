pub mod Outcome
pub mod Steps
pub mod Told
pub mod Small
pub mod Examples
