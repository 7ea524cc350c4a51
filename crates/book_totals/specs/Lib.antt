pub mod Total
pub mod Laws
