pub mod Examples
pub mod Pairs
pub mod Requests
pub mod Answers
pub mod Logs
