pub mod Examples
pub mod LentBack
pub mod Taken
pub mod SharedLaws
pub mod Told
