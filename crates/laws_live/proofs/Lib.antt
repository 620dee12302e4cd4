pub mod SameSteps
pub mod SameRuns
pub mod SameReadings
pub mod Counting
pub mod PartCounts
pub mod NoSteps
