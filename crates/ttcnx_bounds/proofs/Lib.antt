pub mod Assembly
pub mod Bests
pub mod FewExpiries
pub mod Mapped
pub mod Sums
pub mod Unbounded
