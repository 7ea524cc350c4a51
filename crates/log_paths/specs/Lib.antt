pub mod Tables
pub mod Laws
pub mod Rows
pub mod Search
