pub mod Arrays
pub mod Finding
pub mod Places
pub mod Matching
pub mod Moving
pub mod Settling
