pub mod KeptRuns
pub mod Bounded
pub mod BoundedLaws
