-- A scope within another one, which sees further names, and what stays fine there.
use Rattle.std.specs.Prelude.{◌≡◌, ℕ, List, [], Option, Some, IfSome}
use Rattle.ttcn_syntax.specs.declared.tree.value.Value.{Value}
use Rattle.check_rules.specs.Expressions.{Judgement}
use Rattle.check_scope.specs.Names.{Scope}
use Rattle.check_scope.specs.declared.rule.Rule.{Rule}
use Rattle.check_rules.specs.Statements.{Place, check_return}

-- a scope is within another one of the same module and component type: each name that it sees stands for the same there
pub record IsWithin (scope other : Scope) : Type 0 where
  pub definitions : other.definitions ≡ scope.definitions
  pub itself : other.itself ≡ scope.itself
  pub names : (name : List ℕ) → IfSome (scope.names name) (λ m. other.names name ≡ Some m)

-- what breaks no rule in a scope breaks none where further names are visible
abbrev pub StaysFine : (Scope → List Rule) → Type 0
StaysFine rules = (scope other : Scope) → IsWithin scope other → rules scope ≡ [] → rules other ≡ []

-- what is said of something that breaks no rule in a scope is the same where further names are visible
abbrev pub StaysSame : (Scope → Judgement) → Type 0
StaysSame judged = (scope other : Scope) → IsWithin scope other → (judged scope).broken ≡ [] → judged other ≡ judged scope

-- each `return` that may stand at a place and breaks no rule in a scope breaks none where further names are visible
abbrev pub ReturnsStayFine : Place → Type 0
ReturnsStayFine place = (given : Option Value) → StaysFine (λ s. check_return s place.returns given)
