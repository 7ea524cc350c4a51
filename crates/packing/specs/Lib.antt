pub mod Packed
pub mod Unpacked
pub mod Replayed
pub mod PackedSides
pub mod Sides
pub mod Exchanged
pub mod Judged
pub mod Named
