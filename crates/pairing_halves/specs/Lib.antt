pub mod Arrays
pub mod Adding
pub mod Splits
