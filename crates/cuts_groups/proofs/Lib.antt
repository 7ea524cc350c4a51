pub mod Kept
pub mod Sums
pub mod Words
pub mod Cut
pub mod Owners
pub mod ByTally
pub mod ByOwners
