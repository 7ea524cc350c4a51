pub mod Fields
pub mod FieldLaws
pub mod Capitals
pub mod Words
