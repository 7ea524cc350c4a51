pub mod Names
pub mod Lists
pub mod LookupLaws
pub mod TableLaws
