pub mod Labels
pub mod LabelPlaces
