pub mod Answers
pub mod FineAnswers
pub mod FrameLimit
pub mod Machines
pub mod Parts
pub mod Standing
pub mod Telling
pub mod internal
