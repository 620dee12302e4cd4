-- Which rules a module breaks, and the least of them (ES 201 873-1, cut to this subset).
use Rattle.std.specs.Prelude.{ℕ, ◌≤◌, ◌⊎◌, List, Contains}
use Rattle.check_survey.specs.Graphs.{BeginsLongerChain, IsOnCircle, WeighsMore}
use Rattle.check_survey.specs.declared.thing.Thing.{Thing}
use Rattle.ttcn_syntax.specs.declared.tree.definition.Definition.{Definition}
use Rattle.check_rules.specs.Definitions.{check_sites}
use Rattle.check_scope.specs.Numbers.{number_of}
use Rattle.check_rules.specs.Limits.{longest_chain, most_fields, most_parts}
use Rattle.check_rules.specs.Parts.{altsteps, records, constants_and_templates}
use Rattle.check_scope.specs.declared.rule.Rule.{Rule}
use Rattle.check_scope.specs.declared.rule.Rule.TheVariants as rule

-- ---- circles and sizes

-- some thing refers to itself in a circle
abbrev pub HasCircle : List Thing → Type 0
HasCircle things = (i : ℕ) × IsOnCircle things i

-- things are in a chain that is too long, or too heavy, each with those that it refers to
abbrev pub AreTooLarge : List Thing → ℕ → ℕ → Type 0
AreTooLarge things longest heaviest = ((i : ℕ) × BeginsLongerChain things longest i) ⊎ ((i : ℕ) × WeighsMore things heaviest i)

-- ---- broken rules

-- a rule that the definitions of a module break: at some site, or by a circle or a size
pub data Breaks (definitions : List Definition) : Rule → Type 0 where
  site : {r : Rule} → Contains (check_sites definitions) r → Breaks definitions r
  -- a record contains itself
  in_itself : HasCircle (records definitions) → Breaks definitions rule.BadType
  -- constants or templates, or altsteps as branches, refer to themselves
  circle : HasCircle (constants_and_templates definitions) → Breaks definitions rule.Cycle
  altstep_circle : HasCircle (altsteps definitions) → Breaks definitions rule.Cycle
  -- sizes
  record_size : AreTooLarge (records definitions) longest_chain most_fields → Breaks definitions rule.Size
  size : AreTooLarge (constants_and_templates definitions) longest_chain most_parts → Breaks definitions rule.Size
  altstep_size : AreTooLarge (altsteps definitions) longest_chain most_parts → Breaks definitions rule.Size

-- a module is well typed where it breaks no rule
abbrev pub AreWellTyped : List Definition → Type 0
AreWellTyped definitions = (r : Rule) → Breaks definitions r → ⊥

-- the least rule that is broken
pub record IsLeast (definitions : List Definition) (r : Rule) : Type 0 where
  pub broken : Breaks definitions r
  pub least : (other : Rule) → Breaks definitions other → number_of r ≤ number_of other
