pub mod Beside
pub mod Chains
pub mod Ends
pub mod Sizes
pub mod Steps
pub mod Tallies
