pub mod Sums
pub mod BoardKeeps
pub mod ClassLemmas
pub mod SeenWords
pub mod SeenKeeps
pub mod Marking
