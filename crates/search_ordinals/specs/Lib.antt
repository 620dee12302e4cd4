pub mod Ordinals
pub mod OrdinalOrder
pub mod OrdinalLaws
pub mod Told
pub mod Sparing
pub mod internal
