pub mod Words
pub mod Lengths
pub mod TwoTexts
pub mod TwoSheets
pub mod TwoSheetsLaws
