pub mod Printed
pub mod Asked
pub mod ReadBack
