pub mod Laws
pub mod OverNetwork
pub mod Told
