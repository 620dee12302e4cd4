pub mod ByBytes
pub mod Findings
pub mod Judgements
pub mod Meanings
pub mod StatementForms
pub mod TemplateForms
pub mod TestCaseLemmas
pub mod ValueForms
