pub mod Progress
pub mod Loaded
