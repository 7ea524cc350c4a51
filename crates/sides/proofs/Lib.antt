pub mod Agree
pub mod OverNetwork
pub mod SideLaws
pub mod Small
pub mod Told
