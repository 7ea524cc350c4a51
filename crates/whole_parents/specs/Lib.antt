pub mod Orders
pub mod Parents
pub mod Leads
