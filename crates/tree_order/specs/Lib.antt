pub mod Links
pub mod Toward
pub mod Steps
pub mod Weights
pub mod Rooted
pub mod Examples
