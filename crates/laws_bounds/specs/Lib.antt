pub mod StandsFor
pub mod Seen
pub mod BoundedParts
