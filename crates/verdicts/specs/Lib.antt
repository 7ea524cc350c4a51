pub mod Outcome
pub mod Causes
pub mod Told
