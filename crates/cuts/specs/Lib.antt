pub mod Outcome
pub mod Answers
pub mod Promise
