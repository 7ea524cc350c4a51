pub mod Accepted
pub mod Example
pub mod ShuffledPrinted
pub mod ShuffledSheets
pub mod Agree
pub mod Lines
pub mod Networks
