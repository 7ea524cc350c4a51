pub mod Requests
pub mod RequestLaws
pub mod TwoEnds
pub mod Sheets
