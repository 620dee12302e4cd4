-- Which texts are those of well-typed modules, and what the others are refused with. Stage by stage: the text, its
-- tokens, its module.
use Rattle.std.specs.Prelude.{ℕ, ◌<◌, ◌≤◌, List, length}
use Rattle.ttcn_syntax.specs.Cut.{IsCut, IsLeftmostFault}
use Rattle.ttcn_syntax.specs.Limits.{longest_text}
use Rattle.ttcn_syntax.specs.declared.error.LexError.{LexError}
use Rattle.ttcn_syntax.specs.declared.place.Span.{Span}
use Rattle.ttcn_syntax.specs.declared.token.Spanned.{Spanned}
use Rattle.ttcn_syntax.specs.declared.tree.definition.Module.{Module}
use Rattle.ttcn_parse.specs.Groups.{IsTooDeep}
use Rattle.ttcn_parse.specs.LeftOut.{HasLeftOut}
use Rattle.ttcn_parse.specs.Refused.{IsRead, IsUnread}
use Rattle.check_rules.specs.Rules.{AreWellTyped, IsLeast}
use Rattle.check_scope.specs.declared.rule.Rule.{Rule}
use Rattle.ttcnx.specs.Fault.{SameFault, lexical_fault}
use Rattle.ttcnx.specs.declared.fault.Fault.{Fault}
use Rattle.ttcnx.specs.declared.fault.Fault.TheVariants as fault
use Rattle.ttcnx.specs.declared.fault.Refusal.TheVariants as refusal

-- the text of a well-typed module: it isn't too long, is cut into tokens, and these are read as this module, which breaks no rule
pub record IsTextOf (text : List ℕ) (tree : Module) : Type 0 where
  pub tokens : List Spanned
  pub short : length text ≤ longest_text
  pub is_cut : IsCut text tokens
  pub is_read : IsRead tokens tree
  pub well_typed : AreWellTyped tree.definitions

-- a text of some well-typed module
abbrev pub IsAccepted : List ℕ → Type 0
IsAccepted text = (tree : Module) × IsTextOf text tree

-- why tokens are no well-typed module, with any place
pub data AreRefused (tokens : List Spanned) : Fault → Type 0 where
  -- brackets nest too deep
  too_deep : {place : Span} → IsTooDeep tokens → AreRefused tokens (fault.Refused refusal.TooDeep place)
  -- brackets don't nest too deep, and a word or character is left out
  left_out : {place : Span} → (IsTooDeep tokens → ⊥) → HasLeftOut tokens → AreRefused tokens (fault.Refused refusal.LeftOut place)
  -- brackets don't nest too deep, nothing is left out, and the tokens are no module
  unexpected : {place : Span} → IsUnread tokens → AreRefused tokens (fault.Refused refusal.Unexpected place)
  -- the tokens are read as a module that breaks rules: the least of them
  broken : {tree : Module} {rule : Rule} {place : Span} → IsRead tokens tree → IsLeast tree.definitions rule
      → AreRefused tokens (fault.Refused (refusal.Broken rule) place)

-- why a text is that of no well-typed module
pub data IsRefusedWith (text : List ℕ) : Fault → Type 0 where
  -- the text is longer than 1,048,576 bytes
  too_long : {place : Span} → longest_text < length text → IsRefusedWith text (fault.Refused refusal.TextTooLong place)
  -- the text is not too long, and can't be cut into tokens: its leftmost fault, where it stands
  uncut : {error : LexError} → length text ≤ longest_text → IsLeftmostFault text error → IsRefusedWith text (lexical_fault error)
  -- the text is not too long, and is cut into tokens that are refused: why
  cut : {tokens : List Spanned} {why : Fault} → length text ≤ longest_text → IsCut text tokens → AreRefused tokens why → IsRefusedWith text why

-- a text is not both accepted and refused, and not refused in two ways
pub record HasOneJudgement (text : List ℕ) : Type 0 where
  pub not_both : {why : Fault} → IsAccepted text → IsRefusedWith text why → ⊥
  pub one_refusal : {why other : Fault} → IsRefusedWith text why → IsRefusedWith text other → SameFault why other
