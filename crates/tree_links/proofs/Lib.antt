pub mod Chaining
pub mod Summing
