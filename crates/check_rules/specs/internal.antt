pub mod Findings
pub mod ProgramFields
pub mod TestCases
