pub mod Shared
pub mod Outcome
pub mod Causes
pub mod SharedLaws
pub mod Told
pub mod Taken
pub mod LentBack
pub mod Examples
