pub mod Names
pub mod Labels
pub mod Standings
