pub mod Definitions
pub mod Equality
pub mod Expressions
pub mod Parts
pub mod Statements
pub mod Templates
pub mod Values
