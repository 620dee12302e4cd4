-- The fields of the record that is sent, one by one.
use Rattle.std.proofs.Common.{List, ◌++◌, Option}
use Rattle.value_types.specs.Outcomes.{Fails, Outcome, Yields}
use Rattle.value_types.specs.declared.value.Value.{Value}

-- the fields that are left, behind those so far
abbrev pub behind : List (Option Value) → Outcome (List (Option Value)) → Outcome (List (Option Value))
behind fields (Fails why) = Fails why
behind fields (Yields left) = Yields (fields ++ left)
