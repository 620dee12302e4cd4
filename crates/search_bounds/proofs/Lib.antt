pub mod Filters
pub mod Kept
pub mod BoundedRuns
pub mod Successors
pub mod Examples
