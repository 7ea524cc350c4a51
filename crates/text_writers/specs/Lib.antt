pub mod Fields
pub mod Wrote
pub mod Decimal
pub mod Writing
