-- Places in behaviours and numbers of enumerations, in the words of the private contracts.
use Rattle.std.specs.Prelude.{Bool, List, nat_eq, not, ◌&&◌, ◌≡◌}
use Rattle.std.specs.Bool.{beq}
use Rattle.std.specs.HashSet.{contains_by}
use Rattle.std.specs.List.{list_any}
use Rattle.ttcn_syntax.specs.declared.tree.definition.EnumNumber.{EnumNumber}
use Rattle.check_rules.specs.Definitions.{same_number}
use Rattle.check_statements.specs.declared.number_set.NumberSet.{NumberSet}
use Rattle.check_scope.specs.Names as spec
use Rattle.check_rules.specs.Statements as statement
use Rattle.check_statements.specs.declared.place.Place.{Place}

-- a number is below zero
abbrev pub is_negative : EnumNumber → Bool
is_negative n = n.minus && not (nat_eq n.magnitude 0)

-- numbers have one among them
abbrev pub given : NumberSet → EnumNumber → Bool
given set n = contains_by (λ key. beq (is_negative n) key.0 && nat_eq n.magnitude key.1) set.numbers

-- a set has these numbers and no others
abbrev pub AreGiven : NumberSet → List EnumNumber → Type 0
AreGiven set numbers = (n : EnumNumber) → given set n ≡ list_any (same_number n) numbers

-- a place in a behaviour, with what is visible there
abbrev pub place_with : spec.Scope → Place → statement.Place
place_with scope place = record { scope = scope; returns = place.returns; in_branch = place.in_branch }
