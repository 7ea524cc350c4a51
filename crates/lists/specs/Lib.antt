pub mod Numbers
pub mod Sums
pub mod Parts
pub mod Tallies
pub mod Places
pub mod Maps
