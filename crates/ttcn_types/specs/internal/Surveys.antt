-- The least of what is broken, and what surveys of circles and sizes find, in the words of their private contracts.
use Rattle.std.specs.Prelude.{ℕ, ◌≤◌, ◌⊎◌, List, Option, Some, None}
use Rattle.std.specs.Option.{option_map}
use Rattle.check_survey.specs.declared.thing.Thing.{Thing}
use Rattle.ttcn_syntax.specs.declared.tree.definition.Definition.{Definition}
use Rattle.check_scope.specs.Numbers.{number_of}
use Rattle.check_rules.specs.Limits.{longest_chain, most_fields, most_parts}
use Rattle.check_rules.specs.Parts.{altsteps, records, constants_and_templates}
use Rattle.check_rules.specs.Rules.{AreTooLarge, HasCircle}
use Rattle.check_scope.specs.declared.rule.Rule.{Rule}
use Rattle.check_scope.specs.declared.rule.Rule.TheVariants as rule

-- the least of the rules of which something holds, or none where it holds of none
abbrev pub IsLeastWhere : (Rule → Type 0) → Option Rule → Type 0
IsLeastWhere P None = (r : Rule) → P r → ⊥
IsLeastWhere P (Some r) = P r × ((other : Rule) → P other → number_of r ≤ number_of other)

-- the rule of a fault, without its place
abbrev pub rule_of : {A : Type 0} → Option (Rule × A) → Option Rule
rule_of fault = option_map (λ f. f.0) fault

-- what things that refer to one another break: a rule where there is a circle, and another where they are too large
pub data BreaksAmong (things : List Thing) (heaviest : ℕ) (circle : Rule) : Rule → Type 0 where
  in_circle : HasCircle things → BreaksAmong things heaviest circle circle
  too_large : AreTooLarge things longest_chain heaviest → BreaksAmong things heaviest circle rule.Size

-- what the records of a module break
abbrev pub BreaksInRecords : List Definition → Rule → Type 0
BreaksInRecords definitions = BreaksAmong (records definitions) most_fields rule.BadType

-- what its constants and templates break
abbrev pub BreaksWritten : List Definition → Rule → Type 0
BreaksWritten definitions = BreaksAmong (constants_and_templates definitions) most_parts rule.Cycle

-- what its altsteps break
abbrev pub BreaksInAltsteps : List Definition → Rule → Type 0
BreaksInAltsteps definitions = BreaksAmong (altsteps definitions) most_parts rule.Cycle

-- what definitions break by circles and sizes
abbrev pub BreaksBySurvey : List Definition → Rule → Type 0
BreaksBySurvey definitions r = (BreaksInRecords definitions r ⊎ BreaksWritten definitions r) ⊎ BreaksInAltsteps definitions r
