pub mod Answer
pub mod Given
pub mod Named
