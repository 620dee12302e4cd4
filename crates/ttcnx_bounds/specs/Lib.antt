pub mod BoundedEndings
pub mod BoundedFound
pub mod Fewest
pub mod internal
