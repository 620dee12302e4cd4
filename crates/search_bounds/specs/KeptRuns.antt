-- Runs that keep a bound: with few expiries of timers, or with patient timers.
use Rattle.std.specs.Prelude.{◌≡◌, ◌≢◌, ℕ, suc, ◌≤◌, Bool, true, false, List, Option, None, Some, Contains, IsTrue, if◌then◌else◌}
use Rattle.search_bounds.specs.declared.bound.Bound.{Bound}
use Rattle.search_bounds.specs.declared.kind.Kind.{Kind}
use Rattle.search_bounds.specs.declared.kind.Kind.TheVariants.{Expiry, Other, Statement}
use Rattle.summary.specs.Graph.{Graph}
use Rattle.summary.specs.Run.{Run, Start, Then, IsRun, end_of}

-- whether a step is of a statement
abbrev pub is_statement : Kind → Bool
is_statement Statement = true
is_statement Expiry = false
is_statement Other = false

-- whether a step is the expiry of a timer
abbrev pub is_expiry : Kind → Bool
is_expiry Statement = false
is_expiry Expiry = true
is_expiry Other = false

-- how many steps of a run are expiries of timers
abbrev pub expiries_of : {L : Type 0} → (L → Kind) → Run L → ℕ
expiries_of kind_of Start = 0
expiries_of kind_of (Then run label) = if is_expiry (kind_of label) then suc (expiries_of kind_of run) else expiries_of kind_of run

-- a number is no greater than the most that is allowed, where there is a most
abbrev pub IsAtMost : Option ℕ → ℕ → Type 0
IsAtMost None number = Unit {0}
IsAtMost (Some most) number = number ≤ most

-- none of these labels is of a statement
abbrev pub NoStatement : {L : Type 0} → (L → Kind) → List L → Type 0
NoStatement {L} kind_of labels = (label : L) → Contains labels label → kind_of label ≢ Statement

-- each expiry in the run stands where no label of a statement is enabled
abbrev pub IsPatient : {C L : Type 0} → (L → Kind) → Graph C L → Run L → Type 0
IsPatient kind_of g Start = Unit {0}
IsPatient kind_of g (Then run label) = IsPatient kind_of g run × (kind_of label ≡ Expiry → NoStatement kind_of (g.enabled (end_of g run)))

-- a run of the graph that has no more expiries than the bound allows and, where the bound wants them, patient timers
pub record KeepsBound {C L : Type 0} (bound : Bound) (kind_of : L → Kind) (g : Graph C L) (run : Run L) : Type 0 where
  pub is_run : IsRun g run
  pub few : IsAtMost bound.expiries (expiries_of kind_of run)
  pub patient : IsTrue bound.patient → IsPatient kind_of g run
