pub mod Apart
pub mod Explored
pub mod Makes
pub mod Recalls
pub mod Spared
pub mod WorkedOut
