pub mod Planned
pub mod PlannedWhole
