pub mod Fitting
pub mod Runs
pub mod Steps
pub mod Typed
pub mod internal
