pub mod Standing
pub mod Counted
pub mod Longer
pub mod Standings
pub mod BoundedTests
