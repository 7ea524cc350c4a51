pub mod Line
pub mod Written
pub mod Laws
