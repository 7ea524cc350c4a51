pub mod Solved
pub mod Ways
pub mod Counted
