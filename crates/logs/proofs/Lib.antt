pub mod AfterLines
pub mod Examples
pub mod OverNetwork
pub mod Told
pub mod Unmarked
