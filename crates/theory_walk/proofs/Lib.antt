pub mod Bounds
pub mod Lowest
pub mod PartsMeaning
pub mod Steps
pub mod PartsLoops
pub mod PartsTheorem
