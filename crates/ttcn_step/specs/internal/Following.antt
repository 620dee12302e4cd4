-- Fine runs, as the private functions know them.
use Rattle.std.specs.Prelude.{◌≡◌, List, map, Result, Ok, Err}
use Rattle.laws_fine.specs.Fine.{FineLabel}
use Rattle.laws_fine.specs.Holding.{hold_run}
use Rattle.step_coarse.specs.Fates.{told_by}
use Rattle.ttcn_step.specs.Machines.{Machine}
use Rattle.ttcn_step.specs.declared.coarsen.Followed.{Followed}
use Rattle.ttcn_step.specs.declared.error.CoarsenError.{CoarsenError}
use Rattle.ttcn_step.specs.declared.error.CoarsenError.TheVariants as coarsening
use Rattle.ttcn_step.specs.internal.Fine.{holding_of}

-- a call gives what is held where fine labels lead, and what came of each choice, or the number of the first that can't follow, unless memory was refused
abbrev pub Follows : Machine → List FineLabel → Result Followed CoarsenError → Type 0
Follows machine labels (Ok f) = hold_run machine.test labels ≡ Ok (holding_of machine f.fine.now f.fine.stored.items, map told_by f.told.items)
Follows machine labels (Err (coarsening.NotFine number)) = hold_run machine.test labels ≡ Err number
Follows machine labels (Err coarsening.NotEnded) = ⊥
Follows machine labels (Err coarsening.Memory) = Unit {0}
