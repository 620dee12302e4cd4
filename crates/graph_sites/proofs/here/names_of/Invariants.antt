use Rattle.std.proofs.Common.{◌≡◌, ◌||◌, ℕ, List, drop}
use Rattle.check_scope.specs.internal.Tables.{has}
use Rattle.graph_sites.specs.internal.OwnNames.{is_one_of}
use Rattle.graph_sites.proofs.here.names_of.Given as goal

abbrev pub invariant-loop-parameter : goal.invariant-loop-parameter
invariant-loop-parameter l = (name : List ℕ) → (has l.names name || is_one_of (drop l.parameter-index l.parameters) name) ≡ is_one_of l.parameters name
