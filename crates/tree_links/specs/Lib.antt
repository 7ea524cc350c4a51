pub mod Chains
pub mod Charts
