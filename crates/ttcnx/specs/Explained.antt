-- What is answered for a text, the name of a test case and a run file where the run is explained, unless an allocation fails.
-- Stage by stage: the text and its module, the lines of the run file, their labels. Which words a chart has is not said.
use Rattle.std.specs.Prelude.{◌≡◌, ◌++◌, ℕ, Bool, List, Ok, Err}
use Rattle.std.specs.declared.alloc.Global.{Global}
use Rattle.std.specs.declared.vec.Vec.{Vec}
use Rattle.report.specs.Runs.{IsFirstBad, ReadsRun, lines_of}
use Rattle.report.specs.declared.report.Report.{Report}
use Rattle.search_layer.specs.declared.plan.Plan.{Plan}
use Rattle.step_labels.specs.declared.label.Label.{Label}
use Rattle.semantics.specs.Configurations.{Configuration}
use Rattle.semantics.specs.Runs.{replay}
use Rattle.semantics.specs.Snapshots.{Test}
use Rattle.ttcnx.specs.Answer.{IsAnswer}
use Rattle.ttcnx.specs.Converted.{IsConverted}
use Rattle.ttcnx.specs.Named.{Source}
use Rattle.ttcnx.specs.Replayed.{Answer}
use Rattle.ttcnx.specs.Streamed.{told_as}
use Rattle.ttcnx.specs.declared.fault.Fault.{Fault}
use Rattle.ttcnx.specs.declared.fault.Fault.TheVariants as fault

-- what is answered for a test case
pub data OfExplainedRun (run : List ℕ) (test : Test) : Answer → Type 0 where
  -- some line is no label: the first such line
  bad_line : {number : ℕ} → IsFirstBad (lines_of run) number → OfExplainedRun run test (Err (fault.BadLabel number))
  -- all lines are labels, and one is not enabled where it stands: the first such label
  not_followed : {number : ℕ} (labels : List Label) → ReadsRun (lines_of run) labels → replay test labels ≡ Err number
      → OfExplainedRun run test (Err (fault.NotEnabled number))
  -- each label is enabled where it stands: a chart
  charted : {text : Vec ℕ Global} {c : Configuration} (labels : List Label) → ReadsRun (lines_of run) labels → replay test labels ≡ Ok c
      → OfExplainedRun run test (Ok text)

-- the chart of a run, or why there is none
abbrev pub IsExplained : Source → List ℕ → List ℕ → Answer → Type 0
IsExplained given name run answer = IsConverted (OfExplainedRun run) given name answer

-- ---- reports

-- what is answered where the runs of a report are explained
pub data IsExplainedAnswer (given : Source) (name : List ℕ) (plan : Plan) (json : Bool) : Answer → Type 0 where
  -- there is no report: why
  unreported : {why : Fault} → IsAnswer given name plan (Err why) → IsExplainedAnswer given name plan json (Err why)
  -- there is one: its text or its JSON, and something behind it
  reported : {text : Vec ℕ Global} {report : Report} (more : List ℕ) → IsAnswer given name plan (Ok report) → text.items ≡ told_as json report ++ more
      → IsExplainedAnswer given name plan json (Ok text)
