pub mod MetLaws
pub mod ReadBack
