-- What calls of a machine answer of fine runs.
use Rattle.std.specs.Prelude.{◌≡◌, ◌≤◌, ℕ, List, [], length, Result, Ok, Err}
use Rattle.std.specs.declared.alloc.Global.{Global}
use Rattle.std.specs.declared.vec.Vec.{Vec}
use Rattle.ttcn_syntax.specs.declared.tree.statement.Verdict.{Verdict}
use Rattle.laws_fine.specs.Doubling.{doubled}
use Rattle.laws_fine.specs.Fates.{coarse}
use Rattle.laws_fine.specs.Fine.{Fine, FineLabel, fine_replay}
use Rattle.semantics.specs.Configurations.{Configuration, Ended, Goes}
use Rattle.semantics.specs.Runs.{replay}
use Rattle.semantics.specs.Snapshots.{Test}
use Rattle.semantics.specs.Steps.{Label}
use Rattle.ttcn_step.specs.Machines.{Machine}
use Rattle.ttcn_step.specs.declared.error.CoarsenError.{CoarsenError}
use Rattle.ttcn_step.specs.declared.error.CoarsenError.TheVariants as coarsening
use Rattle.ttcn_step.specs.declared.error.ReplayError.{ReplayError}
use Rattle.ttcn_step.specs.declared.error.ReplayError.TheVariants as replaying

-- a test case has ended
abbrev pub HasEnded : Configuration → Type 0
HasEnded (Ended v) = Unit {0}
HasEnded (Goes c) = ⊥

-- fine labels lead to this
abbrev pub LeadTo : (Configuration → Type 0) → Result Fine ℕ → Type 0
LeadTo P (Ok f) = P f.now
LeadTo P (Err number) = ⊥

-- a call gives the run that fine labels stand for where they end the test case, or the number of the first that can't follow, or says that the test case hasn't ended, unless memory was refused
abbrev pub Coarsens : Machine → List FineLabel → Result (Vec Label Global) CoarsenError → Type 0
Coarsens machine labels (Ok run) = LeadTo HasEnded (fine_replay machine.test labels) × (run.items ≡ coarse machine.test labels)
Coarsens machine labels (Err (coarsening.NotFine number)) = fine_replay machine.test labels ≡ Err number
Coarsens machine labels (Err coarsening.NotEnded) = LeadTo (λ c. ¬ HasEnded c) (fine_replay machine.test labels)
Coarsens machine labels (Err coarsening.Memory) = Unit {0}

-- a run ends as fine labels do, and is no longer
pub record StandsFor (test : Test) (labels : List FineLabel) (run : List Label) : Type 0 where
  pub verdict : Verdict
  pub behind : Fine
  pub leads : fine_replay test labels ≡ Ok behind
  pub ends : behind.now ≡ Ended verdict
  pub replays : replay test run ≡ Ok (Ended verdict)
  pub short : length run ≤ length labels

-- each label is enabled where it stands
abbrev pub HasLed : Result Configuration ℕ → Type 0
HasLed (Ok c) = Unit {0}
HasLed (Err number) = ⊥

-- a call gives the doubling of a run, or the number of its first label that is not enabled, unless memory was refused
abbrev pub Doubles : Machine → List Label → Result (Vec FineLabel Global) ReplayError → Type 0
Doubles machine run (Ok labels) = HasLed (replay machine.test run) × (labels.items ≡ doubled machine.test run)
Doubles machine run (Err (replaying.NotEnabled number)) = replay machine.test run ≡ Err number
Doubles machine run (Err replaying.Memory) = Unit {0}

-- fine labels follow each other to where a run leads, leave no snapshot, and stand for this run
pub record IsDoubling (test : Test) (run : List Label) (labels : List FineLabel) : Type 0 where
  pub end : Configuration
  pub replays : replay test run ≡ Ok end
  pub leads : fine_replay test labels ≡ Ok (record { now = end; stored = [] })
  pub back : coarse test labels ≡ run
