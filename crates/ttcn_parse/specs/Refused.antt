-- Which module tokens are read as, and why they are refused.
use Rattle.std.specs.Prelude.{◌≡◌, List}
use Rattle.ttcn_syntax.specs.declared.token.Spanned.{Spanned}
use Rattle.ttcn_syntax.specs.declared.tree.definition.Module.{Module}
use Rattle.parse_grammar.specs.Grammar.{IsModule}
use Rattle.parse_limits.specs.Groups.{IsTooDeep}
use Rattle.parse_limits.specs.LeftOut.{HasLeftOut}
use Rattle.parse_reader.specs.declared.error.ParseError.{ParseError}
use Rattle.parse_reader.specs.declared.error.ParseError.TheVariants.{TooDeep, LeftOut, Unexpected, Memory}

-- the tokens are read as this module
pub record IsRead (tokens : List Spanned) (tree : Module) : Type 0 where
  pub not_deep : IsTooDeep tokens → ⊥
  pub not_left_out : HasLeftOut tokens → ⊥
  pub is_module : IsModule tokens tree

-- the tokens spell no module: neither too deep, nor left out
pub record IsUnread (tokens : List Spanned) : Type 0 where
  pub not_deep : IsTooDeep tokens → ⊥
  pub not_left_out : HasLeftOut tokens → ⊥
  pub no_module : (tree : Module) → IsModule tokens tree → ⊥

-- why the tokens are refused: too deep before left out before unexpected
abbrev pub IsRefused : List Spanned → ParseError → Type 0
IsRefused tokens (TooDeep place) = IsTooDeep tokens
IsRefused tokens (LeftOut place) = (IsTooDeep tokens → ⊥) × HasLeftOut tokens
IsRefused tokens (Unexpected place) = IsUnread tokens
IsRefused tokens Memory = Unit {0}

-- the tokens spell at most one module
abbrev pub HasOneTree : List Spanned → Type 0
HasOneTree tokens = (tree other : Module) → IsModule tokens tree → IsModule tokens other → tree ≡ other
