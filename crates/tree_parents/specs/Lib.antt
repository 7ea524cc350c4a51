pub mod Parents
pub mod Roots
