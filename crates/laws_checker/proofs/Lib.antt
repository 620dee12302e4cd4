pub mod Descent
pub mod Fitting
pub mod Nothing
pub mod Typed
pub mod Whole
