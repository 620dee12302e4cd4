-- What all runs of a system take and where they are blocked, as sets.
use Rattle.std.specs.Prelude.{ℕ, List, Option}
use Rattle.summary.specs.KeySet.{KeySet, empty, from_list, from_option, union_join}
use Rattle.summary.specs.Graph.{Graph}
use Rattle.summary.specs.Sums.{sum_of}

-- the branches that the steps of runs of at most n steps take
abbrev pub branches_of : {C L B : Type 0} → Graph C L → (C → L → Option B) → ℕ → KeySet B
branches_of g branch n = sum_of g union_join (record { at = λ c. empty; by = λ c label. from_option (branch c label) }) n

-- the components that are blocked where runs of at most n steps end
abbrev pub blocked_of : {C L S : Type 0} → Graph C L → (C → List S) → ℕ → KeySet S
blocked_of g blocked n = sum_of g union_join (record { at = λ c. from_list (blocked c); by = λ c label. empty }) n
