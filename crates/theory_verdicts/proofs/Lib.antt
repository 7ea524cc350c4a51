pub mod Accounts
pub mod Earlier
pub mod Loads
pub mod Largest
