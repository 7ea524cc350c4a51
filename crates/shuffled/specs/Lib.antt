pub mod SameReports
pub mod Networks
pub mod Agree
pub mod Lines
pub mod ShuffledSheets
pub mod Accepted
pub mod Example
