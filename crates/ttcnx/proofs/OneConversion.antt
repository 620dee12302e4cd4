-- A text, the name of a test case and a run file have one conversion.
use Rattle.std.proofs.Common.{◌≡◌, ℕ, List, Result, Ok, Err, refl, sym, ap, subst, ◌∙◌}
use Rattle.laws_fine.specs.Doubling.{doubled}
use Rattle.laws_fine.specs.Fates.{coarse}
use Rattle.laws_fine.specs.Fine.{Fine, fine_replay}
use Rattle.report.proofs.Lines.{fine-run-has-no-bad, fine-run-same, first-bad-fine-same, first-bad-same, run-has-no-bad, run-same}
use Rattle.report.specs.Runs.{ReadsFineRun, lines_of}
use Rattle.step_labels.specs.declared.fine.FineLabel.{FineLabel}
use Rattle.semantics.specs.Configurations.{Configuration}
use Rattle.semantics.specs.Snapshots.{Test}
use Rattle.ttcn_step.specs.FineAnswers.{HasEnded, LeadTo}
use Rattle.ttcnx.proofs.OneAnswer.{not_both, one-reason, one-test}
use Rattle.ttcnx.proofs.OneReplay.{err-is, one-end}
use Rattle.ttcnx.specs.Converted.{HasOneConversion, IsCoarsened, IsConverted, IsDoubled, OfFineRun, OfPlainRun, bad_fine_label, bad_plain_label, coarsened, doubling, fine_lines, label_lines, not_ended, not_fine, stopped, with_test, without_test}
use Rattle.ttcnx.specs.Named.{Source}
use Rattle.ttcnx.specs.Replayed.{Answer, SameReplay}
use Rattle.ttcnx.specs.declared.fault.Fault.TheVariants as fault

-- ---- where fine labels lead

-- nowhere, and somewhere
no-lead : (P : Configuration → Type 0) (o : Result Fine ℕ) (number : ℕ) → o ≡ Err number → LeadTo P o → ⊥
no-lead P o number is leads = subst (LeadTo P) is leads

both-lead : (P Q : Configuration → Type 0) (o : Result Fine ℕ) → LeadTo P o → LeadTo Q o → ((c : Configuration) → P c → Q c → ⊥) → ⊥
both-lead P Q (Ok f) one other apart = apart f.now one other
both-lead P Q (Err number) one other apart = one

module _ (test : Test) (run : List ℕ) where
  abbrev Leads : List FineLabel → Result Fine ℕ
  Leads labels = fine_replay test labels

  same-labels : (labels others : List FineLabel) → ReadsFineRun (lines_of run) labels → ReadsFineRun (lines_of run) others → Leads labels ≡ Leads others
  same-labels labels others reads also = ap Leads (fine-run-same (lines_of run) labels others reads also)

  one-of-fine : (a b : Answer) → OfFineRun run test a → OfFineRun run test b → SameReplay a b
  one-of-fine a b (bad_fine_label {number = m} bad) (bad_fine_label {number = n} also) = ap fault.BadLabel (first-bad-fine-same (lines_of run) m n bad also)
  one-of-fine a b (bad_fine_label {number = m} bad) (not_fine labels reads ends) = absurd (fine-run-has-no-bad (lines_of run) labels m reads bad)
  one-of-fine a b (bad_fine_label {number = m} bad) (not_ended labels reads goes) = absurd (fine-run-has-no-bad (lines_of run) labels m reads bad)
  one-of-fine a b (bad_fine_label {number = m} bad) (coarsened labels reads ends told) = absurd (fine-run-has-no-bad (lines_of run) labels m reads bad)
  one-of-fine a b (not_fine labels reads ends) (bad_fine_label {number = m} bad) = absurd (fine-run-has-no-bad (lines_of run) labels m reads bad)
  one-of-fine a b (not_fine {number = m} labels reads ends) (not_fine {number = n} others also too) =
      ap fault.NotFine (err-is (sym ends ∙ same-labels labels others reads also ∙ too))
  one-of-fine a b (not_fine {number = m} labels reads ends) (not_ended others also goes) =
      absurd (no-lead (λ c. ¬ HasEnded c) (Leads others) m (sym (same-labels labels others reads also) ∙ ends) goes)
  one-of-fine a b (not_fine {number = m} labels reads ends) (coarsened others also done told) =
      absurd (no-lead HasEnded (Leads others) m (sym (same-labels labels others reads also) ∙ ends) done)
  one-of-fine a b (not_ended labels reads goes) (bad_fine_label {number = m} bad) = absurd (fine-run-has-no-bad (lines_of run) labels m reads bad)
  one-of-fine a b (not_ended labels reads goes) (not_fine {number = m} others also ends) =
      absurd (no-lead (λ c. ¬ HasEnded c) (Leads labels) m (same-labels labels others reads also ∙ ends) goes)
  one-of-fine a b (not_ended labels reads goes) (not_ended others also too) = refl
  one-of-fine a b (not_ended labels reads goes) (coarsened others also done told) =
      absurd (both-lead HasEnded (λ c. ¬ HasEnded c) (Leads labels) (subst (LeadTo HasEnded) (sym (same-labels labels others reads also)) done) goes (λ c ended on. on ended))
  one-of-fine a b (coarsened labels reads done told) (bad_fine_label {number = m} bad) = absurd (fine-run-has-no-bad (lines_of run) labels m reads bad)
  one-of-fine a b (coarsened labels reads done told) (not_fine {number = m} others also ends) =
      absurd (no-lead HasEnded (Leads labels) m (same-labels labels others reads also ∙ ends) done)
  one-of-fine a b (coarsened labels reads done told) (not_ended others also goes) =
      absurd (both-lead HasEnded (λ c. ¬ HasEnded c) (Leads others) (subst (LeadTo HasEnded) (same-labels labels others reads also) done) goes (λ c ended on. on ended))
  one-of-fine a b (coarsened labels reads done told) (coarsened others also too told_too) =
      told ∙ ap (λ ls. label_lines (coarse test ls)) (fine-run-same (lines_of run) labels others reads also) ∙ sym told_too

  one-of-plain : (a b : Answer) → OfPlainRun run test a → OfPlainRun run test b → SameReplay a b
  one-of-plain a b (bad_plain_label {number = m} bad) (bad_plain_label {number = n} also) = ap fault.BadLabel (first-bad-same (lines_of run) m n bad also)
  one-of-plain a b (bad_plain_label {number = m} bad) (stopped labels reads ends) = absurd (run-has-no-bad (lines_of run) labels m reads bad)
  one-of-plain a b (bad_plain_label {number = m} bad) (doubling labels reads ends told) = absurd (run-has-no-bad (lines_of run) labels m reads bad)
  one-of-plain a b (stopped labels reads ends) (bad_plain_label {number = m} bad) = absurd (run-has-no-bad (lines_of run) labels m reads bad)
  one-of-plain a b (stopped {number = m} labels reads ends) (stopped {number = n} others also too) =
      ap fault.NotEnabled (err-is (one-end test run labels others (Err m) (Err n) reads also ends too))
  one-of-plain a b (stopped {number = m} labels reads ends) (doubling {c = c} others also too told) =
      let same = one-end test run labels others (Err m) (Ok c) reads also ends too in cc
  one-of-plain a b (doubling labels reads ends told) (bad_plain_label {number = m} bad) = absurd (run-has-no-bad (lines_of run) labels m reads bad)
  one-of-plain a b (doubling {c = c} labels reads ends told) (stopped {number = n} others also too) =
      let same = one-end test run labels others (Ok c) (Err n) reads also ends too in cc
  one-of-plain a b (doubling labels reads ends told) (doubling others also too told_too) =
      told ∙ ap (λ ls. fine_lines (doubled test ls)) (run-same (lines_of run) labels others reads also) ∙ sym told_too

-- ---- what is given, and names

one-conversion : (Of : Test → Answer → Type 0) → ((test : Test) (a b : Answer) → Of test a → Of test b → SameReplay a b) → (given : Source) (name : List ℕ) → HasOneConversion (IsConverted Of given name)
one-conversion Of each given name a b (without_test {why = one} why) (without_test {why = other} too) = one-reason given name one other why too
one-conversion Of each given name a b (without_test {why = one} why) (with_test {test = test} is more) = absurd (not_both given name test one is why)
one-conversion Of each given name a b (with_test {test = test} is more) (without_test {why = one} why) = absurd (not_both given name test one is why)
one-conversion Of each given name a b (with_test {test = test} is more) (with_test {test = other} too more_too) =
    each other a b (subst (λ t. Of t a) (one-test given name test other is too) more) more_too

pub one_coarsened : (given : Source) (name run : List ℕ) → HasOneConversion (IsCoarsened given name run)
one_coarsened given name run = one-conversion (OfFineRun run) (λ test. one-of-fine test run) given name

pub one_doubled : (given : Source) (name run : List ℕ) → HasOneConversion (IsDoubled given name run)
one_doubled given name run = one-conversion (OfPlainRun run) (λ test. one-of-plain test run) given name
