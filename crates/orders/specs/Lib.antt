pub mod Outcome
pub mod Stored
pub mod Told
