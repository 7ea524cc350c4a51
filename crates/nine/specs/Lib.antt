pub mod Sheets
pub mod Planned
