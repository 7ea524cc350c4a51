pub mod Log
pub mod Outcome
pub mod Causes
pub mod Unmarked
pub mod Examples
pub mod Told
pub mod AfterLines
pub mod Progress
