pub mod Laws
pub mod Summing
