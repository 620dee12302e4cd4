-- What the stages of a conversion answer.
use Rattle.std.proofs.Common.{◌≡◌, ℕ, List, refl, ap, inl, inr, ◌∙◌}
use Rattle.std.specs.Prelude.{◌⊎◌, Ok, Err}
use Rattle.std.specs.List.{flat_map}
use Rattle.std.specs.declared.alloc.Global.{Global}
use Rattle.std.specs.declared.vec.Vec.{Vec}
use Rattle.report.specs.Labels.{fine_text, label_text}
use Rattle.report.specs.Runs.{ReadsFineRun, ReadsRun, TellsError, TellsFineError, lines_of}
use Rattle.report.specs.Texts.{line}
use Rattle.report.specs.declared.run.RunError.{RunError}
use Rattle.report.specs.declared.run.RunError.TheVariants as listing
use Rattle.step_labels.specs.declared.fine.FineLabel.{FineLabel}
use Rattle.step_labels.specs.declared.label.Label.{Label}
use Rattle.semantics.specs.Snapshots.{Test}
use Rattle.ttcn_step.specs.FineAnswers.{Coarsens, Doubles, IsDoubling}
use Rattle.ttcn_step.specs.Machines.{Machine}
use Rattle.ttcn_step.specs.declared.error.CoarsenError.{CoarsenError}
use Rattle.ttcn_step.specs.declared.error.CoarsenError.TheVariants as coarsening
use Rattle.ttcn_step.specs.declared.error.ReplayError.{ReplayError}
use Rattle.ttcn_step.specs.declared.error.ReplayError.TheVariants as replaying
use Rattle.ttcnx.specs.Converted.{IsCoarsened, IsConverted, IsDoubled, bad_fine_label, bad_plain_label, coarsened, doubling, fine_lines, label_lines, not_ended, not_fine, stopped, with_test, without_test}
use Rattle.ttcnx.specs.Fault.{coarsen_fault, listing_fault, replay_fault}
use Rattle.ttcnx.specs.Named.{HasNoTest, IsTestOf, Source}
use Rattle.ttcnx.specs.Replayed.{Answer}
use Rattle.ttcnx.specs.declared.fault.Fault.{Fault}
use Rattle.ttcnx.specs.declared.fault.Fault.TheVariants as fault

-- the fault is that an allocation failed, or what is answered
abbrev pub Answers : (Answer → Type 0) → Answer → Type 0
Answers Is answer = (◌≡◌ {A = Answer} answer (Err fault.Memory)) ⊎ Is answer

-- ---- names

pub name-converts : (Of : Test → Answer → Type 0) (given : Source) (name : List ℕ) (why : Fault) → (why ≡ fault.Memory) ⊎ HasNoTest given name why → Answers (IsConverted Of given name) (Err why)
name-converts Of given name why (inl is) = inl (ap Err is)
name-converts Of given name why (inr is) = inr (without_test is)

-- ---- fine runs

pub fine-listing : (given : Source) (name run : List ℕ) (test : Test) (e : RunError) → IsTestOf given name test → TellsFineError (lines_of run) e → Answers (IsCoarsened given name run) (Err (listing_fault e))
fine-listing given name run test (listing.BadLabel number) is bad = inr (with_test is (bad_fine_label bad))
fine-listing given name run test listing.Memory is bad = inl refl

pub coarsen-answers : (given : Source) (name run : List ℕ) (machine : Machine) (labels : List FineLabel) (e : CoarsenError) → IsTestOf given name machine.test → ReadsFineRun (lines_of run) labels
    → Coarsens machine labels (Err e) → Answers (IsCoarsened given name run) (Err (coarsen_fault e))
coarsen-answers given name run machine labels (coarsening.NotFine number) is reads ends = inr (with_test is (not_fine labels reads ends))
coarsen-answers given name run machine labels coarsening.NotEnded is reads goes = inr (with_test is (not_ended labels reads goes))
coarsen-answers given name run machine labels coarsening.Memory is reads any = inl refl

pub coarse-answers : (given : Source) (name run : List ℕ) (machine : Machine) (labels : List FineLabel) (made : Vec Label Global) (bytes : Vec ℕ Global) → IsTestOf given name machine.test → ReadsFineRun (lines_of run) labels
    → Coarsens machine labels (Ok made) → bytes.items ≡ flat_map (λ label. line (label_text label)) made.items → Answers (IsCoarsened given name run) (Ok bytes)
coarse-answers given name run machine labels made bytes is reads ends told = inr (with_test is (coarsened labels reads ends.0 (told ∙ ap label_lines ends.1)))

-- ---- runs

pub plain-listing : (given : Source) (name run : List ℕ) (test : Test) (e : RunError) → IsTestOf given name test → TellsError (lines_of run) e → Answers (IsDoubled given name run) (Err (listing_fault e))
plain-listing given name run test (listing.BadLabel number) is bad = inr (with_test is (bad_plain_label bad))
plain-listing given name run test listing.Memory is bad = inl refl

pub double-answers : (given : Source) (name run : List ℕ) (machine : Machine) (labels : List Label) (e : ReplayError) → IsTestOf given name machine.test → ReadsRun (lines_of run) labels
    → Doubles machine labels (Err e) → Answers (IsDoubled given name run) (Err (replay_fault e))
double-answers given name run machine labels (replaying.NotEnabled number) is reads ends = inr (with_test is (stopped labels reads ends))
double-answers given name run machine labels replaying.Memory is reads any = inl refl

pub doubled-answers : (given : Source) (name run : List ℕ) (machine : Machine) (labels : List Label) (made : Vec FineLabel Global) (bytes : Vec ℕ Global) → IsTestOf given name machine.test → ReadsRun (lines_of run) labels
    → Doubles machine labels (Ok made) → IsDoubling machine.test labels made.items → bytes.items ≡ flat_map (λ label. line (fine_text label)) made.items
    → Answers (IsDoubled given name run) (Ok bytes)
doubled-answers given name run machine labels made bytes is reads ends fine told = inr (with_test is (doubling labels reads fine.replays (told ∙ ap fine_lines ends.1)))
