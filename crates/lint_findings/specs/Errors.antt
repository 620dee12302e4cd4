-- Whether a text is that of a well-typed module, and why not, stage by stage: the text, its tokens, its module. The first
-- error of a text has that reason.
use Rattle.std.specs.Prelude.{◌≡◌, ℕ, ◌<◌, ◌≤◌, List, [], ◌∷◌, length, Option, Some, None}
use Rattle.ttcn_syntax.specs.Cut.{IsCut, IsLeftmostFault}
use Rattle.ttcn_syntax.specs.Limits.{longest_text}
use Rattle.ttcn_syntax.specs.declared.error.LexError.{LexError}
use Rattle.ttcn_syntax.specs.declared.error.LexError.TheVariants as lexical
use Rattle.ttcn_syntax.specs.declared.token.Spanned.{Spanned}
use Rattle.ttcn_syntax.specs.declared.tree.definition.Module.{Module}
use Rattle.ttcn_parse.specs.Refused.{IsRead, IsRefused}
use Rattle.ttcn_parse.specs.ParseError.{ParseError}
use Rattle.ttcn_parse.specs.ParseError.TheVariants as reading
use Rattle.check_rules.specs.Rules.{AreWellTyped, IsLeast}
use Rattle.check_scope.specs.declared.rule.Rule.{Rule}
use Rattle.lint_findings.specs.declared.finding.Finding.{Finding}
use Rattle.lint_findings.specs.declared.finding.Reason.{Reason}
use Rattle.lint_findings.specs.declared.finding.Reason.TheVariants as reason

-- the reason for which a text is refused that can't be cut into tokens; want of memory is none
abbrev pub lexical_reason : LexError → Option Reason
lexical_reason lexical.TextTooLong = Some reason.TextTooLong
lexical_reason (lexical.BadByte place) = Some reason.BadByte
lexical_reason (lexical.OpenComment place) = Some reason.OpenComment
lexical_reason (lexical.OpenText place) = Some reason.OpenText
lexical_reason (lexical.IntegerTooLarge place) = Some reason.IntegerTooLarge
lexical_reason lexical.Memory = None

-- the reason for which tokens are refused that are no module
abbrev pub grammar_reason : ParseError → Option Reason
grammar_reason (reading.TooDeep place) = Some reason.TooDeep
grammar_reason (reading.LeftOut place) = Some reason.LeftOut
grammar_reason (reading.Unexpected place) = Some reason.Unexpected
grammar_reason reading.Memory = None

-- the reason of the first error, where there is one
abbrev pub first_reason : List Finding → Option Reason
first_reason [] = None
first_reason (first ∷ others) = Some first.reason

-- tokens are those of a well-typed module, or they are refused for a reason
pub data AreJudged (tokens : List Spanned) : Option Reason → Type 0 where
  -- they are read as a module that breaks no rule
  accepted : {tree : Module} → IsRead tokens tree → AreWellTyped tree.definitions → AreJudged tokens None
  -- they are no module: why they are refused
  unread : (error : ParseError) {why : Reason} → IsRefused tokens error → grammar_reason error ≡ Some why → AreJudged tokens (Some why)
  -- the module breaks rules: the least of them
  broken : {tree : Module} {rule : Rule} → IsRead tokens tree → IsLeast tree.definitions rule → AreJudged tokens (Some (reason.Broken rule))

-- a text is that of a well-typed module, or it is refused for a reason
pub data IsJudged (text : List ℕ) : Option Reason → Type 0 where
  -- it is too long
  too_long : longest_text < length text → IsJudged text (Some reason.TextTooLong)
  -- it is not too long, and can't be cut into tokens: what its leftmost fault is
  uncut : (error : LexError) {why : Reason} → length text ≤ longest_text → IsLeftmostFault text error → lexical_reason error ≡ Some why → IsJudged text (Some why)
  -- it is not too long, and is cut into tokens: what is judged of these
  cut : {tokens : List Spanned} {why : Option Reason} → length text ≤ longest_text → IsCut text tokens → AreJudged tokens why → IsJudged text why

-- a text is judged in one way: it is not both accepted and refused, and not refused for two reasons
abbrev pub HasOneJudgement : List ℕ → Type 0
HasOneJudgement text = (one other : Option Reason) → IsJudged text one → IsJudged text other → one ≡ other
