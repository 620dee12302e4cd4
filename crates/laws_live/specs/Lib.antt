pub mod Same
pub mod Parts
pub mod PlaceReadings
