-- What the stages of an explanation answer.
use Rattle.std.proofs.Common.{◌≡◌, ◌++◌, ℕ, Bool, None, false, List, refl, ap, inl, inr}
use Rattle.std.specs.Prelude.{◌⊎◌, Ok, Err, Result}
use Rattle.std.specs.declared.alloc.Global.{Global}
use Rattle.std.specs.declared.vec.Vec.{Vec}
use Rattle.explore.specs.declared.ending.Stops.{Stops}
use Rattle.chart_steps.specs.Stories.{Refuses}
use Rattle.report.specs.Runs.{ReadsRun, TellsError, lines_of}
use Rattle.report.specs.declared.run.RunError.{RunError}
use Rattle.report.specs.declared.run.RunError.TheVariants as listing
use Rattle.search_layer.specs.declared.plan.Plan.{Plan}
use Rattle.semantics.specs.Configurations.{Configuration}
use Rattle.semantics.specs.Runs.{replay}
use Rattle.semantics.specs.Snapshots.{Test}
use Rattle.step_labels.specs.declared.label.Label.{Label}
use Rattle.ttcn_step.specs.Machines.{Machine}
use Rattle.ttcn_step.specs.declared.error.ReplayError.{ReplayError}
use Rattle.ttcn_step.specs.declared.error.ReplayError.TheVariants as replaying
use Rattle.ttcnx.proofs.Conversions.{Answers}
use Rattle.ttcnx.proofs.OneReplay.{err-is}
use Rattle.ttcnx.proofs.Untils.{sighted-refusal, sighted-report}
use Rattle.ttcnx.specs.Converted.{with_test}
use Rattle.ttcnx.specs.Explained.{IsExplained, IsExplainedAnswer, bad_line, charted, not_followed, reported, unreported}
use Rattle.ttcnx.specs.Fault.{listing_fault, replay_fault}
use Rattle.ttcnx.specs.Named.{IsTestOf, Source}
use Rattle.ttcnx.specs.Sighted.{IsAnswerSighted}
use Rattle.ttcnx.specs.Streamed.{told_as}
use Rattle.ttcnx.specs.declared.fault.Fault.{Fault}
use Rattle.ttcnx.specs.declared.fault.Fault.TheVariants as fault
use Rattle.ttcnx.specs.declared.until.Sighted.{Sighted}

pub explained-listing : (given : Source) (name run : List ℕ) (test : Test) (e : RunError) → IsTestOf given name test → TellsError (lines_of run) e → Answers (IsExplained given name run) (Err (listing_fault e))
explained-listing given name run test (listing.BadLabel number) is bad = inr (with_test is (bad_line bad))
explained-listing given name run test listing.Memory is bad = inl refl

pub refusal-answers : (given : Source) (name run : List ℕ) (machine : Machine) (labels : List Label) (e : ReplayError) → IsTestOf given name machine.test → ReadsRun (lines_of run) labels
    → Refuses machine labels e → Answers (IsExplained given name run) (Err (replay_fault e))
refusal-answers given name run machine labels (replaying.NotEnabled number) is reads refused = inr (with_test is (not_followed labels reads refused))
refusal-answers given name run machine labels replaying.Memory is reads any = inl refl

pub chart-answers : (given : Source) (name run : List ℕ) (machine : Machine) (labels : List Label) (c : Configuration) (bytes : Vec ℕ Global) → IsTestOf given name machine.test → ReadsRun (lines_of run) labels
    → replay machine.test labels ≡ Ok c → Answers (IsExplained given name run) (Ok bytes)
chart-answers given name run machine labels c bytes is reads leads = inr (with_test is (charted labels reads leads))

-- ---- reports

module _ (given : Source) (name : List ℕ) (plan : Plan) (json : Bool) (stops : Stops) (no_limit : stops.at_limit ≡ false) (no_complete : stops.when_complete ≡ false)
    (no_mark : stops.at_mark ≡ None) where
  pub unsighted-answers : (why : Fault) → (◌≡◌ {A = Result Sighted Fault} (Err why) (Err fault.Memory)) ⊎ IsAnswerSighted given name plan stops (Err why)
      → Answers (IsExplainedAnswer given name plan json) (Err why)
  unsighted-answers why (inl memory) = inl (ap Err (err-is memory))
  unsighted-answers why (inr is) = inr (unreported (sighted-refusal given name plan stops no_limit no_complete no_mark why is))

  pub sighted-answers : (sights : Sighted) (more : List ℕ) (bytes : Vec ℕ Global) → (◌≡◌ {A = Result Sighted Fault} (Ok sights) (Err fault.Memory)) ⊎ IsAnswerSighted given name plan stops (Ok sights)
      → bytes.items ≡ told_as json sights.until.report ++ more → Answers (IsExplainedAnswer given name plan json) (Ok bytes)
  sighted-answers sights more bytes (inl memory) told = absurd (let no = memory in cc)
  sighted-answers sights more bytes (inr is) told = inr (reported more (sighted-report given name plan stops no_limit no_complete no_mark sights is) told)
