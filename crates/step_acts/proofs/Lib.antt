pub mod Choosing
pub mod First
pub mod Parts
pub mod Placing
pub mod InTurn
pub mod Takings
