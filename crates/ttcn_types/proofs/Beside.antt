-- Things put to one another, part by part.
use Rattle.std.proofs.Common.{ℕ, List, map, drop}
use Rattle.check_survey.specs.declared.thing.Thing.{Thing}
use Rattle.check_survey.specs.Things.{add}
use Rattle.check_rules.specs.Parts.{all_of}

-- what is collected so far, with what is left of a list
abbrev pub collecting : {A : Type 0} → (A → Thing) → List A → ℕ → Thing → Thing
collecting part xs i now = add now (all_of (map part (drop i xs)))
