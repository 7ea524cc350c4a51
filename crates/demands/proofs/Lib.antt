pub mod Demands
pub mod Example
pub mod MetLaws
pub mod ReadBack
pub mod WholeDemands
pub mod WholeMet
pub mod Records
pub mod Spelling
