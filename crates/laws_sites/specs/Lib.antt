pub mod Awaiting
pub mod Standing
