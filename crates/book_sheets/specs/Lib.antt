pub mod Sheet
pub mod Rows
pub mod Steps
pub mod Reads
pub mod Totals
