-- Lists that grow by what the elements of others give, element by element.
use Rattle.std.proofs.Common.{List, ℕ, ◌++◌, map, drop}
use Rattle.check_survey.specs.Things.{tally}
use Rattle.check_survey.specs.declared.thing.Thing.{Thing}

-- the list so far, with what is left
abbrev pub listing : {A : Type 0} → (A → Thing) → List A → ℕ → List Thing → List Thing
listing part xs i now = now ++ map tally (map part (drop i xs))
