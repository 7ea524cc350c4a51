pub mod Visits
pub mod Frames
pub mod Laws
