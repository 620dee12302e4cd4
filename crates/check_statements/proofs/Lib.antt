pub mod Blocks
pub mod Declared
pub mod DefinitionForms
pub mod Insides
pub mod Leasts
pub mod MemberForms
