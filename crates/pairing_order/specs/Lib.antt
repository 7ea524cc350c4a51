pub mod PairList
pub mod Groups
pub mod Laws
pub mod Grouping
pub mod Chains
