pub mod TwoSites
