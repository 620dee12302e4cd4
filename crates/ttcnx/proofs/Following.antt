-- What the stages of a replay answer.
use Rattle.std.proofs.Common.{◌≡◌, ℕ, List, refl, ap, inl, inr}
use Rattle.std.specs.Prelude.{◌⊎◌, Ok, Err}
use Rattle.std.specs.declared.alloc.Global.{Global}
use Rattle.std.specs.declared.vec.Vec.{Vec}
use Rattle.config_parts.specs.declared.config.Config.{Config}
use Rattle.report.specs.Runs.{ReadsRun, TellsError, lines_of}
use Rattle.report.specs.declared.run.RunError.{RunError}
use Rattle.report.specs.declared.run.RunError.TheVariants as listing
use Rattle.step_labels.specs.declared.label.Label.{Label}
use Rattle.semantics.specs.Runs.{replay}
use Rattle.semantics.specs.Snapshots.{Test}
use Rattle.ttcn_step.specs.Answers.{Ends}
use Rattle.ttcn_step.specs.Machines.{Machine, said}
use Rattle.ttcn_step.specs.declared.error.ReplayError.{ReplayError}
use Rattle.ttcn_step.specs.declared.error.ReplayError.TheVariants as replaying
use Rattle.ttcnx.specs.Fault.{listing_fault, replay_fault}
use Rattle.ttcnx.specs.Named.{HasNoTest, IsTestOf, Source}
use Rattle.ttcnx.specs.Replayed.{Answer, IsReplay, bad_label, lacking, named, not_enabled, replayed, replayed_text}
use Rattle.ttcnx.specs.declared.fault.Fault.{Fault}
use Rattle.ttcnx.specs.declared.fault.Fault.TheVariants as fault

-- the fault is that an allocation failed, or what is answered
abbrev pub Answers : Source → List ℕ → List ℕ → Fault → Type 0
Answers given name run why = (◌≡◌ {A = Answer} (Err why) (Err fault.Memory)) ⊎ IsReplay given name run (Err why)

pub name-answers : (given : Source) (name run : List ℕ) (why : Fault) → (why ≡ fault.Memory) ⊎ HasNoTest given name why → Answers given name run why
name-answers given name run why (inl is) = inl (ap Err is)
name-answers given name run why (inr is) = inr (lacking is)

pub listing-answers : (given : Source) (name run : List ℕ) (test : Test) (e : RunError) → IsTestOf given name test → TellsError (lines_of run) e → Answers given name run (listing_fault e)
listing-answers given name run test (listing.BadLabel line) is bad = inr (named is (bad_label bad))
listing-answers given name run test listing.Memory is bad = inl refl

pub replay-answers : (given : Source) (name run : List ℕ) (machine : Machine) (labels : List Label) (e : ReplayError) → IsTestOf given name machine.test → ReadsRun (lines_of run) labels
    → Ends machine (replay machine.test labels) (Err e) → Answers given name run (replay_fault e)
replay-answers given name run machine labels (replaying.NotEnabled number) is reads ends = inr (named is (not_enabled labels reads ends))
replay-answers given name run machine labels replaying.Memory is reads ends = inl refl

pub end-answers : (given : Source) (name run : List ℕ) (machine : Machine) (labels : List Label) (config : Config) (bytes : Vec ℕ Global) → IsTestOf given name machine.test
    → ReadsRun (lines_of run) labels → Ends machine (replay machine.test labels) (Ok config) → bytes.items ≡ replayed_text machine.test labels (said machine config)
    → (◌≡◌ {A = Answer} (Ok bytes) (Err fault.Memory)) ⊎ IsReplay given name run (Ok bytes)
end-answers given name run machine labels config bytes is reads ends told = inr (named is (replayed labels (said machine config) reads ends told))
