-- What is answered for a text, the name of a test case and a run file where a fine run becomes the run that it stands for, or a
-- run becomes its doubling, unless an allocation fails. Stage by stage: the text and its module, the lines of the run file,
-- their labels, the end.
use Rattle.std.specs.Prelude.{◌≡◌, ℕ, List, Ok, Err}
use Rattle.std.specs.List.{flat_map}
use Rattle.std.specs.declared.alloc.Global.{Global}
use Rattle.std.specs.declared.vec.Vec.{Vec}
use Rattle.laws_fine.specs.Doubling.{doubled}
use Rattle.laws_fine.specs.Fates.{coarse}
use Rattle.laws_fine.specs.Fine.{fine_replay}
use Rattle.report.specs.Labels.{fine_text, label_text}
use Rattle.report.specs.Runs.{IsFirstBad, IsFirstBadFine, ReadsFineRun, ReadsRun, lines_of}
use Rattle.report.specs.Texts.{line}
use Rattle.step_labels.specs.declared.fine.FineLabel.{FineLabel}
use Rattle.step_labels.specs.declared.label.Label.{Label}
use Rattle.semantics.specs.Configurations.{Configuration}
use Rattle.semantics.specs.Runs.{replay}
use Rattle.semantics.specs.Snapshots.{Test}
use Rattle.ttcn_step.specs.FineAnswers.{HasEnded, LeadTo}
use Rattle.ttcnx.specs.Named.{HasNoTest, IsTestOf, Source}
use Rattle.ttcnx.specs.Replayed.{Answer, SameReplay}
use Rattle.ttcnx.specs.declared.fault.Fault.{Fault}
use Rattle.ttcnx.specs.declared.fault.Fault.TheVariants as fault

-- ---- lines

-- labels, a line each
abbrev pub label_lines : List Label → List ℕ
label_lines labels = flat_map (λ label. line (label_text label)) labels

-- labels of a fine run, a line each
abbrev pub fine_lines : List FineLabel → List ℕ
fine_lines labels = flat_map (λ label. line (fine_text label)) labels

-- ---- the run that a fine run stands for

-- what is answered for a test case
pub data OfFineRun (run : List ℕ) (test : Test) : Answer → Type 0 where
  -- some line is no label: the first such line
  bad_fine_label : {number : ℕ} → IsFirstBadFine (lines_of run) number → OfFineRun run test (Err (fault.BadLabel number))
  -- all lines are labels, and one can't follow where it stands: the first such label
  not_fine : {number : ℕ} (labels : List FineLabel) → ReadsFineRun (lines_of run) labels → fine_replay test labels ≡ Err number
      → OfFineRun run test (Err (fault.NotFine number))
  -- each label follows, and the test case goes on behind the last one
  not_ended : (labels : List FineLabel) → ReadsFineRun (lines_of run) labels → LeadTo (λ c. ¬ HasEnded c) (fine_replay test labels)
      → OfFineRun run test (Err fault.NotEnded)
  -- the labels end the test case: those of the run that they stand for
  coarsened : {text : Vec ℕ Global} (labels : List FineLabel) → ReadsFineRun (lines_of run) labels → LeadTo HasEnded (fine_replay test labels)
      → text.items ≡ label_lines (coarse test labels) → OfFineRun run test (Ok text)

-- ---- the doubling of a run

-- what is answered for a test case
pub data OfPlainRun (run : List ℕ) (test : Test) : Answer → Type 0 where
  -- some line is no label: the first such line
  bad_plain_label : {number : ℕ} → IsFirstBad (lines_of run) number → OfPlainRun run test (Err (fault.BadLabel number))
  -- all lines are labels, and one is not enabled where it stands: the first such label
  stopped : {number : ℕ} (labels : List Label) → ReadsRun (lines_of run) labels → replay test labels ≡ Err number
      → OfPlainRun run test (Err (fault.NotEnabled number))
  -- each label is enabled where it stands: the labels of the doubling
  doubling : {text : Vec ℕ Global} {c : Configuration} (labels : List Label) → ReadsRun (lines_of run) labels → replay test labels ≡ Ok c
      → text.items ≡ fine_lines (doubled test labels) → OfPlainRun run test (Ok text)

-- ---- what is given, and names

-- what is answered, by what is answered for a test case
pub data IsConverted (Of : Test → Answer → Type 0) (given : Source) (name : List ℕ) : Answer → Type 0 where
  -- there is no test case of the name with the script: why
  without_test : {why : Fault} → HasNoTest given name why → IsConverted Of given name (Err why)
  -- there is one: the answer for it
  with_test : {test : Test} {answer : Answer} → IsTestOf given name test → Of test answer → IsConverted Of given name answer

-- the run that a fine run stands for, or why there is none
abbrev pub IsCoarsened : Source → List ℕ → List ℕ → Answer → Type 0
IsCoarsened given name run answer = IsConverted (OfFineRun run) given name answer

-- the doubling of a run, or why there is none
abbrev pub IsDoubled : Source → List ℕ → List ℕ → Answer → Type 0
IsDoubled given name run answer = IsConverted (OfPlainRun run) given name answer

-- there is one answer at most
abbrev pub HasOneConversion : (Answer → Type 0) → Type 0
HasOneConversion Is = (answer other : Answer) → Is answer → Is other → SameReplay answer other
