pub mod Pairs
pub mod Examples
pub mod LabelOrder
pub mod LabelsEnabled
pub mod Verdicts
pub mod LiveSteps
pub mod LiveTheorem
pub mod CanonicalRuns
