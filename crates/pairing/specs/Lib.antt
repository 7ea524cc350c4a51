pub mod Weighing
pub mod Outcome
pub mod Storing
pub mod Answers
pub mod Promise
