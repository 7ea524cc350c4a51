pub mod HandPlan
pub mod Largest
pub mod Accounts
pub mod Loads
pub mod Earlier
