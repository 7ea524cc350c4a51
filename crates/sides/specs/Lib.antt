pub mod Outcome
pub mod Causes
pub mod SideLaws
pub mod Told
pub mod Agree
pub mod Small
