pub mod Best
pub mod Endings
pub mod Ring
pub mod Sightings
pub mod internal
