pub mod SharedLink
pub mod LinkLaws
