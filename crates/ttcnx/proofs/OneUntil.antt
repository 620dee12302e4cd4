-- A module, a script, the name of a test case, a plan and stops have one answer, and one with an aim.
use Rattle.std.proofs.Common.{◌≡◌, ◌≤◌, ℕ, List, refl, subst, arith}
use Rattle.std.specs.Prelude.{Option, Ok}
use Rattle.explore.specs.Sightings.{shown_at_end, shown_by_step}
use Rattle.explore.specs.declared.ending.Ending.{Ending}
use Rattle.explore.specs.declared.ending.Stops.{Stops}
use Rattle.laws_live.proofs.PartCounts.{counts-once}
use Rattle.laws_live.specs.Parts.{CountsParts}
use Rattle.report.specs.declared.report.Report.{Report}
use Rattle.search_layer.specs.Limits.{IsWithinLimits}
use Rattle.search_layer.specs.declared.plan.Plan.{Plan}
use Rattle.semantics.specs.Labels.{label_cmp}
use Rattle.semantics.specs.Runs.{graph_of}
use Rattle.semantics.specs.Snapshots.{Test}
use Rattle.semantics.specs.Steps.{Label}
use Rattle.step_labels.specs.Labels.{label_total}
use Rattle.ttcnx.proofs.OneAnswer.{not_both, one-reason, one-test, one_answer}
use Rattle.ttcnx.proofs.OneEnding as ending
use Rattle.ttcnx.proofs.OneReport.{one-least}
use Rattle.ttcnx.specs.Aims as aims
use Rattle.ttcnx.specs.Aims.{HasOneAnswerTo, IsLeastToAim, labels_of_run}
use Rattle.ttcnx.specs.Answer.{IsAnswer, named, told}
use Rattle.ttcnx.specs.Fault.{SameFault}
use Rattle.ttcnx.specs.Named.{IsTestOf, Source}
use Rattle.ttcnx.specs.Until.{HasOneAnswerUntil, IsAnswerUntil, IsRefusedUntil, beyond, lacking, reached, refused, too_many, with_steps}
use Rattle.ttcnx.specs.declared.aim.Aim.{Aim}
use Rattle.ttcnx.specs.declared.aim.Aim.TheVariants as aim
use Rattle.ttcnx.specs.declared.fault.Fault.{Fault}
use Rattle.ttcnx.specs.declared.until.Until.{Until}
use Rattle.ttcnx_runs.specs.Aims.{is_at, stands_at}
use Rattle.ttcnx_runs.specs.Endings.{AreTooMany, HaveEnded, MayEnd}
use Rattle.ttcnx_runs.specs.Sights.{block_in, place_in_text}

-- ---- one number of steps, and one reason

module _ (test : Test) (plan : Plan) (stops : Stops) where
  steps-once : (m n : ℕ) (one other : Ending) → HaveEnded test plan stops m one → HaveEnded test plan stops n other → m ≡ n
  steps-once m n one other h k = ending.steps-once (MayEnd test plan stops) m n one other h.may k.may h.least k.least

  reason-once : (n : ℕ) (one other : Ending) → HaveEnded test plan stops n one → HaveEnded test plan stops n other → one ≡ other
  reason-once n one other h k = ending.reason-once (MayEnd test plan stops) n one other h.may k.may h.first k.first

one-aim : (test : Test) (n : ℕ) (a : Aim) (one other : Option (List Label)) → IsLeastToAim test n a one → IsLeastToAim test n a other → one ≡ other
one-aim test n (aim.Step place) one other h k = one-least (graph_of test) label_cmp label_total n (shown_by_step (graph_of test) (place_in_text test)) (is_at place) one other h k
one-aim test n (aim.Block place) one other h k = one-least (graph_of test) label_cmp label_total n (shown_at_end (graph_of test) (block_in test)) (stands_at place) one other h k

-- ---- one answer

module _ (given : Source) (name : List ℕ) (plan : Plan) (stops : Stops) where
  one-refusal : (why other : Fault) → IsRefusedUntil given name plan stops why → IsRefusedUntil given name plan stops other → SameFault why other
  one-refusal why other (beyond out) (beyond also) = refl
  one-refusal why other (beyond out) (lacking fine lacks) = absurd (out fine)
  one-refusal why other (beyond out) (too_many fine is limited many) = absurd (out fine)
  one-refusal why other (lacking fine lacks) (beyond out) = absurd (out fine)
  one-refusal why other (lacking fine lacks) (lacking also lacks_too) = one-reason given name why other lacks lacks_too
  one-refusal why other (lacking fine lacks) (too_many {test = test} also is limited many) = absurd (not_both given name test why is lacks)
  one-refusal why other (too_many fine is limited many) (beyond out) = absurd (out fine)
  one-refusal why other (too_many {test = test} fine is limited many) (lacking also lacks) = absurd (not_both given name test other is lacks)
  one-refusal why other (too_many fine is limited many) (too_many also is_too limited_too many_too) = refl

  -- the configurations of a report are within the limit
  few : (test : Test) (n : ℕ) (report : Report) → IsTestOf given name test → IsAnswer given name (with_steps plan n) (Ok report)
      → CountsParts test n report.configurations × (report.configurations ≤ plan.limit)
  few test n report is (named {test = other} fine also (told tells)) =
      (subst (λ (t : Test). CountsParts t n report.configurations) (one-test given name other test also is) (tells.runs).configurations, tells.within)

  not-many : (test : Test) (n count : ℕ) (why : Ending) → CountsParts test n count → count ≤ plan.limit → HaveEnded test plan stops n why → AreTooMany test plan stops → ⊥
  not-many test n count why counts within ended many =
      let more = many n why ended.may in
      let same = counts-once test n more.0 count more.1 counts in
      let over = more.2 in
      omega (arith, same, within, over)

  -- where runs of so many steps are explored, nothing is refused
  refused-or-reached : (why : Fault) (test : Test) (n count : ℕ) (end : Ending) → IsWithinLimits plan → IsRefusedUntil given name plan stops why → IsTestOf given name test
      → CountsParts test n count → count ≤ plan.limit → HaveEnded test plan stops n end → ⊥
  refused-or-reached why test n count end fine (beyond out) is counts within ended = out fine
  refused-or-reached why test n count end fine (lacking also lacks) is counts within ended = not_both given name test why is lacks
  refused-or-reached why test n count end fine (too_many {test = other} also too limited many) is counts within ended =
      not-many test n count end counts within ended (subst (λ (t : Test). AreTooMany t plan stops) (one-test given name other test too is) many)

  -- reports are of one number of steps
  pub one_number : (until second : Until) → IsAnswerUntil given name plan stops (Ok until) → IsAnswerUntil given name plan stops (Ok second) → until.report.steps ≡ second.report.steps
  one_number until second (reached {test = test} fine is low answered ended) (reached {test = too} also is_too low_too answered_too ended_too) =
      let moved = subst (λ (t : Test). HaveEnded t plan stops until.report.steps until.ending) (one-test given name test too is is_too) ended in
      steps-once too plan stops until.report.steps second.report.steps until.ending second.ending moved ended_too

  pub one_until : HasOneAnswerUntil given name plan stops
  one_until answer other (refused {why = why} h) (refused {why = second} k) = one-refusal why second h k
  one_until answer other (refused {why = why} h) (reached {until = until} {test = test} fine is low answered ended) =
      let fits = few test until.report.steps until.report is answered in
      absurd (refused-or-reached why test until.report.steps until.report.configurations until.ending fine h is fits.0 fits.1 ended)
  one_until answer other (reached {until = until} {test = test} fine is low answered ended) (refused {why = why} k) =
      let fits = few test until.report.steps until.report is answered in
      absurd (refused-or-reached why test until.report.steps until.report.configurations until.ending fine k is fits.0 fits.1 ended)
  one_until answer other (reached {until = until} {test = test} fine is low answered ended) (reached {until = second} {test = too} also is_too low_too answered_too ended_too) =
      let moved = subst (λ (t : Test). HaveEnded t plan stops until.report.steps until.ending) (one-test given name test too is is_too) ended in
      let same = steps-once too plan stops until.report.steps second.report.steps until.ending second.ending moved ended_too in (
        one_answer given name (with_steps plan second.report.steps) (Ok until.report) (Ok second.report) (subst (λ (n : ℕ). IsAnswer given name (with_steps plan n) (Ok until.report)) same answered) answered_too,
        reason-once too plan stops second.report.steps until.ending second.ending (subst (λ (n : ℕ). HaveEnded too plan stops n until.ending) same moved) ended_too,
      )

  pub one_to : (aim : Aim) → HasOneAnswerTo given name plan stops aim
  one_to aim answer other (aims.refused {why = why} h) (aims.refused {why = second} k) = one-refusal why second h k
  one_to aim answer other (aims.refused {why = why} h) (aims.reached {reaching = reaching} {test = test} {count = count} fine is low counts within ended least) =
      absurd (refused-or-reached why test reaching.steps count reaching.ending fine h is counts within ended)
  one_to aim answer other (aims.reached {reaching = reaching} {test = test} {count = count} fine is low counts within ended least) (aims.refused {why = why} k) =
      absurd (refused-or-reached why test reaching.steps count reaching.ending fine k is counts within ended)
  one_to aim answer other (aims.reached {reaching = reaching} {test = test} fine is low counts within ended least)
      (aims.reached {reaching = second} {test = too} also is_too low_too counts_too within_too ended_too least_too) =
      let to = one-test given name test too is is_too in
      let moved = subst (λ (t : Test). HaveEnded t plan stops reaching.steps reaching.ending) to ended in
      let same = steps-once too plan stops reaching.steps second.steps reaching.ending second.ending moved ended_too in (
        same,
        reason-once too plan stops second.steps reaching.ending second.ending (subst (λ (n : ℕ). HaveEnded too plan stops n reaching.ending) same moved) ended_too,
        one-aim too second.steps aim (labels_of_run reaching) (labels_of_run second)
            (subst (λ (n : ℕ). IsLeastToAim too n aim (labels_of_run reaching)) same (subst (λ (t : Test). IsLeastToAim t reaching.steps aim (labels_of_run reaching)) to least)) least_too,
      )
