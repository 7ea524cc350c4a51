pub mod Offsets
pub mod Decimals
pub mod Entered
pub mod PairLines
pub mod Judged
