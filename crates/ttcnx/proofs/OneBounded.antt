-- A module, a script, the name of a test case, a bound on expiries of timers, a plan and stops have one answer.
use Rattle.std.proofs.Common.{◌≡◌, ◌≤◌, ℕ, List, length, refl, sym, ap, subst, ◌∙◌, arith}
use Rattle.std.specs.Prelude.{◌↔◌, Option, None, Some, IsTrue}
use Rattle.explore.specs.declared.ending.Ending.{Ending}
use Rattle.explore.specs.declared.ending.Stops.{Stops}
use Rattle.laws_bounds.specs.BoundedParts.{CountsBounded, IsCompleteBounded}
use Rattle.laws_live.proofs.Counting.{no-longer}
use Rattle.report.specs.Json.{json_text}
use Rattle.report.specs.Texts.{report_text}
use Rattle.report.specs.declared.report.Report.{Report}
use Rattle.search_bounds.specs.declared.bound.Bound.{Bound}
use Rattle.search_layer.specs.declared.plan.Plan.{Plan}
use Rattle.semantics.specs.Labels.{label_cmp}
use Rattle.semantics.specs.Snapshots.{Test}
use Rattle.semantics.specs.Steps.{Label}
use Rattle.step_labels.specs.Labels.{label_total}
use Rattle.step_labels.specs.Standings.{place_total, standing_total}
use Rattle.step_labels.specs.declared.standing.Standing.{Standing}
use Rattle.summary.specs.Run.{labels_of}
use Rattle.ttcn_syntax.specs.declared.place.Span.{Span}
use Rattle.ttcn_syntax.specs.declared.tree.statement.Verdict.{Verdict}
use Rattle.ttcnx.proofs.OneAnswer.{not_both, one-reason, one-test}
use Rattle.ttcnx.proofs.OneEnding as ending
use Rattle.ttcnx.proofs.OneReport.{one-list, place-coded, same-answer, same-report, same-run, standing-coded}
use Rattle.ttcnx.specs.Bounded.{HasOneAnswerBounded, TellsBounded, TellsOfBoundedRuns, beyond, lacking, told, too_many}
use Rattle.ttcnx.specs.Named.{Source}
use Rattle.ttcnx.specs.Tells.{labels_in}
use Rattle.ttcnx_bounds.specs.BoundedEndings.{AreTooManyBounded, HaveEndedBounded, MayEndBounded}
use Rattle.ttcnx_bounds.specs.BoundedFound.{AreBlockedBounded, AreBranchesBounded, IsBestRunBounded}

module _ (test : Test) (bound : Bound) (n : ℕ) where
  -- ---- what is told of the runs of at most n steps that keep the bound

  no-more : (count other : ℕ) → CountsBounded test bound n count → CountsBounded test bound n other → count ≤ other
  no-more count other counts more =
      let fits : length counts.parts ≤ length more.parts =
      no-longer counts.parts more.parts counts.different (λ part found. more.all part (counts.reached part found)) in
      omega (arith, fits, counts.number, more.number)

  counts-once : (count other : ℕ) → CountsBounded test bound n count → CountsBounded test bound n other → count ≡ other
  counts-once count other counts more =
      let up = no-more count other counts more in
      let down = no-more other count more counts in
      omega (arith, up, down)

  pub best-alike : (verdict : Verdict) (a b : Option (List Label)) → IsBestRunBounded test bound n verdict a → IsBestRunBounded test bound n verdict b → a ≡ b
  best-alike verdict None None h k = refl
  best-alike verdict None (Some b) h k = absurd (h k.0 k.1.has)
  best-alike verdict (Some a) None h k = absurd (k h.0 h.1.has)
  best-alike verdict (Some a) (Some b) h k =
      ap Some (h.2 ∙ ap labels_of (same-run label_cmp label_total h.0 k.0 (h.1.least k.0 k.1.has) (k.1.least h.0 h.1.has)) ∙ sym k.2)

  branches-alike : (places others : List Span) → AreBranchesBounded test bound n places → AreBranchesBounded test bound n others → places ≡ others
  branches-alike places others h k = one-list place-coded place_total places others (h.summed ∙ sym k.summed) h.ascend k.ascend

  blocked-alike : (standings others : List Standing) → AreBlockedBounded test bound n standings → AreBlockedBounded test bound n others → standings ≡ others
  blocked-alike standings others h k =
      one-list standing-coded standing_total standings others (h.summed ∙ sym k.summed) h.ascend k.ascend

-- what a report says of the runs of so many steps
record Said (test : Test) (bound : Bound) (report : Report) (n : ℕ) : Type 0 where
  runs : TellsOfBoundedRuns test bound n report
  complete : IsTrue report.complete ↔ IsCompleteBounded test bound n

one-report : (test : Test) (name : List ℕ) (bound : Bound) (plan : Plan) (a b : Report) → a.steps ≡ b.steps → TellsBounded test name bound plan a → TellsBounded test name bound plan b
    → (report_text a ≡ report_text b) × (json_text a ≡ json_text b)
one-report test name bound plan a b steps h moved =
    let n = a.steps in
    let k = subst (λ (m : ℕ). Said test bound b m) (sym steps) (record { runs = moved.runs; complete = moved.complete }) in
    same-report a b (h.testcase ∙ sym moved.testcase) steps
    (counts-once test bound n a.configurations b.configurations (h.runs).configurations (k.runs).configurations)
    (same-answer a.complete b.complete h.complete k.complete)
    (h.runs).run_of (k.runs).run_of (h.runs).outcomes (k.runs).outcomes
    (λ verdict. best-alike test bound n verdict (labels_in ((h.runs).run_of verdict)) (labels_in ((k.runs).run_of verdict)) ((h.runs).best verdict) ((k.runs).best verdict))
    (branches-alike test bound n a.branches.items b.branches.items (h.runs).branches (k.runs).branches)
    (blocked-alike test bound n a.blocked.items b.blocked.items (h.runs).blocked (k.runs).blocked)

-- ---- one answer

module _ (given : Source) (name : List ℕ) (bound : Bound) (plan : Plan) (stops : Stops) where
  -- a report tells of as many pairs as the limit at most
  not-many : (test other : Test) (report : Report) (why : Ending) → test ≡ other → TellsBounded test name bound plan report → HaveEndedBounded test bound plan stops report.steps why
      → AreTooManyBounded other bound plan stops → ⊥
  not-many test other report why same tells ended many =
      let more = subst (λ (t : Test). AreTooManyBounded t bound plan stops) (sym same) many report.steps why ended.may in
      let equal = counts-once test bound report.steps more.0 report.configurations more.1 (tells.runs).configurations in
      let over = more.2 in
      let within = tells.within in
      omega (arith, equal, within, over)

  pub one_bounded : HasOneAnswerBounded given name bound plan stops
  one_bounded answer other (beyond out) (beyond also) = refl
  one_bounded answer other (beyond out) (lacking fine lacks) = absurd (out fine)
  one_bounded answer other (beyond out) (too_many fine is limited many) = absurd (out fine)
  one_bounded answer other (beyond out) (told fine is tells ended) = absurd (out fine)
  one_bounded answer other (lacking fine lacks) (beyond out) = absurd (out fine)
  one_bounded answer other (lacking {why = why} fine lacks) (lacking {why = second} also lacks_too) = one-reason given name why second lacks lacks_too
  one_bounded answer other (lacking {why = why} fine lacks) (too_many {test = test} also is limited many) = absurd (not_both given name test why is lacks)
  one_bounded answer other (lacking {why = why} fine lacks) (told {test = test} also is tells ended) = absurd (not_both given name test why is lacks)
  one_bounded answer other (too_many fine is limited many) (beyond out) = absurd (out fine)
  one_bounded answer other (too_many {test = test} fine is limited many) (lacking {why = why} also lacks) = absurd (not_both given name test why is lacks)
  one_bounded answer other (too_many fine is limited many) (too_many also is_too limited_too many_too) = refl
  one_bounded answer other (too_many {test = test} fine is limited many) (told {until = until} {test = second} also is_too tells ended) =
      absurd (not-many second test until.report until.ending (one-test given name second test is_too is) tells ended many)
  one_bounded answer other (told fine is tells ended) (beyond out) = absurd (out fine)
  one_bounded answer other (told {test = test} fine is tells ended) (lacking {why = why} also lacks) = absurd (not_both given name test why is lacks)
  one_bounded answer other (told {until = until} {test = test} fine is tells ended) (too_many {test = second} also is_too limited many) =
      absurd (not-many test second until.report until.ending (one-test given name test second is is_too) tells ended many)
  one_bounded answer other (told {until = until} {test = test} fine is tells ended) (told {until = second} {test = too} also is_too tells_too ended_too) =
      let to = one-test given name test too is is_too in
      let moved = subst (λ (t : Test). HaveEndedBounded t bound plan stops until.report.steps until.ending) to ended in
      let may = MayEndBounded too bound plan stops in
      let same = ending.steps-once may until.report.steps second.report.steps until.ending second.ending moved.may ended_too.may moved.least ended_too.least in
      let there = subst (λ (n : ℕ). HaveEndedBounded too bound plan stops n until.ending) same moved in (
        one-report too name bound plan until.report second.report same (subst (λ (t : Test). TellsBounded t name bound plan until.report) to tells) tells_too,
        ending.reason-once may second.report.steps until.ending second.ending there.may ended_too.may there.first ended_too.first,
      )
