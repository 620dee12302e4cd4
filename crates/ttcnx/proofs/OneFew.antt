-- A report has one report whose runs have the fewest expiries of timers.
use Rattle.std.proofs.Common.{◌≡◌, ℕ, suc, Bool, List, [], ◌∷◌, refl, sym, ap, subst, ◌∙◌, arith, inl, inr}
use Rattle.std.specs.Prelude.{Some, string_bytes}
use Rattle.std.specs.List.{AllZip}
use mathlib.Core.Logic.{dite}
use native.Mathlib.Decide.{dec_le}
use Rattle.laws_bounds.specs.BoundedParts.{HasMarkBounded}
use Rattle.report.specs.Json.{json_text}
use Rattle.report.specs.Texts.{report_text}
use Rattle.report.specs.declared.report.Outcome.{Outcome}
use Rattle.report.specs.declared.report.Report.{Report}
use Rattle.search_layer.specs.declared.plan.Plan.{Plan}
use Rattle.semantics.specs.Snapshots.{Test}
use Rattle.semantics.specs.Steps.{Label}
use Rattle.summary.specs.Run.{Run}
use Rattle.ttcn_syntax.specs.declared.tree.statement.Verdict.{Verdict}
use Rattle.ttcnx.proofs.Checks.{some-is}
use Rattle.ttcnx.proofs.OneAnswer.{not_both, one-reason, one-test}
use Rattle.ttcnx.proofs.OneBounded.{best-alike}
use Rattle.ttcnx.proofs.OneReport.{SameOutcome, same-said}
use Rattle.ttcnx.specs.Few.{HasFewExpiries, HasOneAnswerFew, IsFewestOutcome, as_it_was, beyond, fewest, lacking, told, too_many}
use Rattle.ttcnx.specs.Named.{Source}
use Rattle.ttcnx_bounds.specs.Fewest.{HasFewest, any_number, at_most}

module _ (test : Test) (patient : Bool) (n : ℕ) where
  -- the fewest are one number
  expiries-once : (verdict : Verdict) (one other : ℕ) (labels others : List Label) → HasFewest test patient n verdict one labels → HasFewest test patient n verdict other others → one ≡ other
  expiries-once verdict one other labels others h k = dite (dec_le (suc one) other)
      (λ less. absurd (k.none_fewer one less h.best.0 h.best.1.has))
      (λ no. dite (dec_le (suc other) one)
      (λ less. absurd (h.none_fewer other less k.best.0 k.best.1.has))
      (λ nor. omega arith))

  labels-once : (verdict : Verdict) (one other : ℕ) (labels others : List Label) → HasFewest test patient n verdict one labels → HasFewest test patient n verdict other others → labels ≡ others
  labels-once verdict one other labels others h k =
      let same = expiries-once verdict one other labels others h k in
      some-is (best-alike test (at_most patient other) n verdict (Some labels) (Some others) (subst (λ (e : ℕ). HasFewest test patient n verdict e labels) same h).best k.best)

  -- a run with few expiries is one with any number of them
  in-all : (verdict expiries : ℕ) (run : Run Label) → HasMarkBounded test (at_most patient expiries) n verdict run → HasMarkBounded test (any_number patient) n verdict run
  in-all verdict expiries run has = record {
    keeps = record { is_run = has.keeps.is_run; few = tt; patient = has.keeps.patient };
    short = has.short;
    marked = has.marked;
  }

  outcome-once : (outcome a b : Outcome) → IsFewestOutcome test patient n outcome a → IsFewestOutcome test patient n outcome b → SameOutcome a b
  outcome-once outcome a b (fewest {expiries = one} same h) (fewest {expiries = other} also k) =
      (same ∙ sym also, labels-once outcome.verdict one other a.run.items b.run.items h k)
  outcome-once outcome a b (fewest {expiries = one} same h) (as_it_was none is) = absurd (none h.best.0 (in-all _ one h.best.0 h.best.1.has))
  outcome-once outcome a b (as_it_was none is) (fewest {expiries = one} same h) = absurd (none h.best.0 (in-all _ one h.best.0 h.best.1.has))
  outcome-once outcome a b (as_it_was none is) (as_it_was also too) = let same = is ∙ sym too in (ap (λ o. o.verdict) same, ap (λ o. o.run.items) same)

  each-once : (outcomes first second : List Outcome) → AllZip (IsFewestOutcome test patient n) outcomes first → AllZip (IsFewestOutcome test patient n) outcomes second → AllZip SameOutcome first second
  each-once [] [] [] h k = tt
  each-once [] [] (b ∷ more) h k = absurd k
  each-once [] (a ∷ rest) second h k = absurd h
  each-once (o ∷ os) [] second h k = absurd h
  each-once (o ∷ os) (a ∷ rest) [] h k = absurd k
  each-once (o ∷ os) (a ∷ rest) (b ∷ more) h k = (outcome-once o a b h.0 k.0, each-once os rest more h.1 k.1)

  report-once : (report a b : Report) → HasFewExpiries test patient n report a → HasFewExpiries test patient n report b → (report_text a ≡ report_text b) × (json_text a ≡ json_text b)
  report-once report a b h k =
      same-said a b (ap (λ r. string_bytes r.testcase) h.others ∙ sym (ap (λ r. string_bytes r.testcase) k.others)) (ap (λ r. r.steps) h.others ∙ sym (ap (λ r. r.steps) k.others))
      (ap (λ r. r.configurations) h.others ∙ sym (ap (λ r. r.configurations) k.others)) (ap (λ r. r.complete) h.others ∙ sym (ap (λ r. r.complete) k.others))
      (each-once report.outcomes.items a.outcomes.items b.outcomes.items h.outcomes k.outcomes)
      (ap (λ r. r.branches.items) h.others ∙ sym (ap (λ r. r.branches.items) k.others)) (ap (λ r. r.blocked.items) h.others ∙ sym (ap (λ r. r.blocked.items) k.others))

module _ (given : Source) (name : List ℕ) (patient : Bool) (plan : Plan) (report : Report) where
  pub one_few : HasOneAnswerFew given name patient plan report
  one_few answer other (too_many fine is among many) k = inl refl
  one_few answer other (beyond out) (beyond also) = inr (inr refl)
  one_few answer other (beyond out) (lacking fine lacks) = absurd (out fine)
  one_few answer other (beyond out) (too_many fine is among many) = absurd (out fine)
  one_few answer other (beyond out) (told fine is few) = absurd (out fine)
  one_few answer other (lacking fine lacks) (beyond out) = absurd (out fine)
  one_few answer other (lacking {why = why} fine lacks) (lacking {why = second} also lacks_too) = inr (inr (one-reason given name why second lacks lacks_too))
  one_few answer other (lacking fine lacks) (too_many also is among many) = inr (inl refl)
  one_few answer other (lacking {why = why} fine lacks) (told {test = test} also is few) = absurd (not_both given name test why is lacks)
  one_few answer other (told fine is few) (beyond out) = absurd (out fine)
  one_few answer other (told {test = test} fine is few) (lacking {why = why} also lacks) = absurd (not_both given name test why is lacks)
  one_few answer other (told fine is few) (too_many also is_too among many) = inr (inl refl)
  one_few answer other (told {test = test} {told = one} fine is few) (told {test = too} {told = second} also is_too few_too) =
      inr (inr (report-once too patient plan.steps report one second
      (subst (λ (t : Test). HasFewExpiries t patient plan.steps report one) (one-test given name test too is is_too) few) few_too))
