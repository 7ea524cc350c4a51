pub mod Scan
pub mod ScanLaws
pub mod FoundLines
