pub mod BoundedExplored
