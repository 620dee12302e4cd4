pub use Rattle.parse_grammar.specs.Grammar
pub use Rattle.parse_limits.specs.Groups
pub use Rattle.parse_limits.specs.LeftOut
pub use Rattle.parse_reader.specs.declared.error.ParseError
pub mod Refused
