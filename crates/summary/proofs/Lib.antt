pub mod NumberSetLemmas
pub mod Successors
pub mod Adding
pub mod OneAscent
