-- Where components stand.
use Rattle.std.specs.Prelude.{List, []}
use Rattle.semantics.specs.Configurations as rules
use Rattle.semantics.specs.Places.{standings}
use Rattle.step_labels.specs.declared.standing.Standing.{Standing}

-- the components that run, each with the place of its first remaining statement: none where the test case ended
abbrev pub standing_of : rules.Configuration → List Standing
standing_of (rules.Ended v) = []
standing_of (rules.Goes c) = standings c
