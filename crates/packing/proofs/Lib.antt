pub mod Judged
pub mod Named
pub mod Replayed
pub mod Sides
pub mod Unpacked
pub mod Exchanged
