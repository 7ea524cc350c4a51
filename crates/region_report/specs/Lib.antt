pub mod Lines
pub mod TwoRegions
pub mod OneRegion
pub mod OneRegionLaws
pub mod Laws
