pub mod Commas
pub mod CommaLaws
