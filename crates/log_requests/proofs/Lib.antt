pub mod RequestLaws
pub mod Sheets
pub mod TwoEnds
