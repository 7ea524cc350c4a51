pub mod Passed
pub mod Progress
pub mod Answers
pub mod Editions
pub mod Ranges
