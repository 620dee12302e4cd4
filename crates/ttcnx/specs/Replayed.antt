-- What is answered for a module, a script, the name of a test case and a run file, unless an allocation fails. Stage by stage:
-- the module's text, the script, the lines of the run file, their labels.
use Rattle.std.specs.Prelude.{◌≡◌, ℕ, List, [], ◌∷◌, ◌++◌, codes, length, Result, Ok, Err}
use Rattle.std.specs.Fmt.{decimal}
use Rattle.std.specs.declared.alloc.Global.{Global}
use Rattle.std.specs.declared.vec.Vec.{Vec}
use Rattle.report.specs.Runs.{IsFirstBad, ReadsRun, lines_of}
use Rattle.report.specs.Texts.{line, word_of}
use Rattle.step_labels.specs.declared.label.Label.{Label}
use Rattle.semantics.specs.Configurations.{Configuration, Ended, Goes}
use Rattle.semantics.specs.Labels.{labels}
use Rattle.semantics.specs.Runs.{replay}
use Rattle.semantics.specs.Snapshots.{Test}
use Rattle.ttcnx.specs.Fault.{SameFault}
use Rattle.ttcnx.specs.Named.{HasNoTest, IsTestOf, Source}
use Rattle.ttcnx.specs.declared.fault.Fault.{Fault}
use Rattle.ttcnx.specs.declared.fault.Fault.TheVariants as fault

-- the bytes that are printed, or why there are none
abbrev pub Answer : Type 0
Answer = Result (Vec ℕ Global) Fault

-- whether some label is enabled
abbrev pub open_or_blocked : List Label → List ℕ
open_or_blocked [] = codes "blocked"
open_or_blocked (label ∷ others) = codes "open"

-- where a run ends: the test case has ended with a verdict, some label is enabled, or none is
abbrev pub ending_text : Test → Configuration → List ℕ
ending_text test (Ended verdict) = codes "ended " ++ word_of verdict
ending_text test (Goes c) = open_or_blocked (labels test (Goes c))

-- how many labels were followed, and where they lead
abbrev pub replayed_text : Test → List Label → Configuration → List ℕ
replayed_text test labels c = line (codes "replayed " ++ decimal (length labels)) ++ line (ending_text test c)

-- what is answered for a test case
pub data OfRun (test : Test) (run : List ℕ) : Answer → Type 0 where
  -- some line is no label: the first such line
  bad_label : {number : ℕ} → IsFirstBad (lines_of run) number → OfRun test run (Err (fault.BadLabel number))
  -- all lines are labels, and one is not enabled where it stands: the first such label
  not_enabled : {number : ℕ} (labels : List Label) → ReadsRun (lines_of run) labels → replay test labels ≡ Err number
      → OfRun test run (Err (fault.NotEnabled number))
  -- all lines are labels, and each is enabled where it stands: where they lead
  replayed : {text : Vec ℕ Global} (labels : List Label) (c : Configuration) → ReadsRun (lines_of run) labels → replay test labels ≡ Ok c
      → text.items ≡ replayed_text test labels c → OfRun test run (Ok text)

-- what is answered
pub data IsReplay (given : Source) (name run : List ℕ) : Answer → Type 0 where
  -- there is no test case of the name with the script: why
  lacking : {why : Fault} → HasNoTest given name why → IsReplay given name run (Err why)
  -- there is one: the answer for it
  named : {test : Test} {answer : Answer} → IsTestOf given name test → OfRun test run answer → IsReplay given name run answer

-- answers that tell the same
abbrev pub SameReplay : Answer → Answer → Type 0
SameReplay (Ok text) (Ok other) = text.items ≡ other.items
SameReplay (Ok text) (Err other) = ⊥
SameReplay (Err one) (Ok other) = ⊥
SameReplay (Err one) (Err other) = SameFault one other

-- a module, a script, a name and a run file have one answer at most
abbrev pub HasOneReplay : Source → List ℕ → List ℕ → Type 0
HasOneReplay given name run = (answer other : Answer) → IsReplay given name run answer → IsReplay given name run other → SameReplay answer other
