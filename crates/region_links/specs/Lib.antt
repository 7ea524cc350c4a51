pub mod Partners
pub mod Laws
