pub mod Bits
pub mod Words
pub mod Steps
pub mod Standing
