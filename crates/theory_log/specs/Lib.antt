pub mod Pairs
pub mod Answers
pub mod Requests
pub mod Logs
pub mod Examples
