-- A text, the name of a test case and a run file have one answer.
use Rattle.std.proofs.Common.{◌≡◌, ℕ, List, sym, ap, subst, ◌∙◌}
use Rattle.std.specs.Prelude.{Result, Ok, Err}
use Rattle.report.proofs.Lines.{first-bad-same, run-has-no-bad, run-same}
use Rattle.report.specs.Runs.{ReadsRun, lines_of}
use Rattle.step_labels.specs.declared.label.Label.{Label}
use Rattle.semantics.specs.Configurations.{Configuration}
use Rattle.semantics.specs.Runs.{replay}
use Rattle.semantics.specs.Snapshots.{Test}
use Rattle.ttcnx.specs.Replayed.{Answer, HasOneReplay, OfRun, SameReplay, bad_label, lacking, named, not_enabled, replayed, replayed_text}
use Rattle.ttcnx.specs.Named.{Source}
use Rattle.ttcnx.specs.declared.fault.Fault.TheVariants as fault
use Rattle.ttcnx.proofs.OneAnswer.{not_both, one-reason, one-test}

ok-is : {A E : Type 0} {a b : A} → ◌≡◌ {A = Result A E} (Ok a) (Ok b) → a ≡ b
ok-is {A = A} {E = E} {a = a} h =
    let the : Result A E → A = λ r. elim r as (λ _. A) [ Ok x ↦ x | Err e ↦ a ] in ap the h

pub err-is : {A E : Type 0} {a b : E} → ◌≡◌ {A = Result A E} (Err a) (Err b) → a ≡ b
err-is {A = A} {E = E} {a = a} h =
    let the : Result A E → E = λ r. elim r as (λ _. E) [ Ok x ↦ a | Err e ↦ e ] in ap the h

module _ (test : Test) (run : List ℕ) where
  -- labels that were read from one file lead to one end
  pub one-end : (labels others : List Label) (a b : Result Configuration ℕ) → ReadsRun (lines_of run) labels → ReadsRun (lines_of run) others
      → replay test labels ≡ a → replay test others ≡ b → a ≡ b
  one-end labels others a b reads also ends too =
      sym ends ∙ ap (replay test) (run-same (lines_of run) labels others reads also) ∙ too

  one-of-run : (a b : Answer) → OfRun test run a → OfRun test run b → SameReplay a b
  one-of-run a b (bad_label {number = m} bad) (bad_label {number = n} also) = ap fault.BadLabel (first-bad-same (lines_of run) m n bad also)
  one-of-run a b (bad_label {number = m} bad) (not_enabled labels reads ends) = absurd (run-has-no-bad (lines_of run) labels m reads bad)
  one-of-run a b (bad_label {number = m} bad) (replayed labels c reads ends told) = absurd (run-has-no-bad (lines_of run) labels m reads bad)
  one-of-run a b (not_enabled labels reads ends) (bad_label {number = m} bad) = absurd (run-has-no-bad (lines_of run) labels m reads bad)
  one-of-run a b (not_enabled {number = m} labels reads ends) (not_enabled {number = n} others also too) =
      ap fault.NotEnabled (err-is (one-end labels others (Err m) (Err n) reads also ends too))
  one-of-run a b (not_enabled {number = m} labels reads ends) (replayed others c also too told) =
      let same = one-end labels others (Err m) (Ok c) reads also ends too in cc
  one-of-run a b (replayed labels c reads ends told) (bad_label {number = m} bad) = absurd (run-has-no-bad (lines_of run) labels m reads bad)
  one-of-run a b (replayed labels c reads ends told) (not_enabled {number = n} others also too) =
      let same = one-end labels others (Ok c) (Err n) reads also ends too in cc
  one-of-run a b (replayed labels c reads ends told) (replayed others d also too told_too) =
      told ∙ ap (λ labels. replayed_text test labels c) (run-same (lines_of run) labels others reads also)
      ∙ ap (replayed_text test others) (ok-is (one-end labels others (Ok c) (Ok d) reads also ends too)) ∙ sym told_too

pub one_replay : (given : Source) (name run : List ℕ) → HasOneReplay given name run
one_replay given name run a b (lacking {why = one} why) (lacking {why = other} too) = one-reason given name one other why too
one_replay given name run a b (lacking {why = one} why) (named {test = test} is more) = absurd (not_both given name test one is why)
one_replay given name run a b (named {test = test} is more) (lacking {why = one} why) = absurd (not_both given name test one is why)
one_replay given name run a b (named {test = test} is more) (named {test = other} too more_too) =
    let same = one-test given name test other is too in
    one-of-run other run a b (subst (λ test. OfRun test run a) same more) more_too
