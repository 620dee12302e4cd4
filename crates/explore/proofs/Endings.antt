-- Why an exploration went no further, from why the search did.
use Rattle.std.proofs.Common.{◌≡◌, ℕ, suc, ◌<◌, ◌≤◌, Bool, List, [], length, take, drop, Option, None, true, false, true≢false, ◌&&◌, ◌∙◌, refl, sym, arith}
use Rattle.std.specs.declared.cmp.Ordering.{Ordering}
use Rattle.std.specs.Prelude.{◌↔◌, All, IsTrue, Some}
use mathlib.Core.Logic.{dite}
use native.Mathlib.Decide.{dec_le}
use Rattle.explore.proofs.Counting.{counts-grow}
use Rattle.explore.proofs.Outcome.{best-is, complete-is, count-is, marked-is, no-shorter-marked, not-complete, too_many}
use Rattle.explore.proofs.Stopping.{unmarked-both}
use Rattle.explore.proofs.Visits.{IsLawful}
use Rattle.explore.specs.Endings as told
use Rattle.explore.specs.Endings.{AreTooMany, HasEnded, MayEnd, rank}
use Rattle.explore.specs.declared.ending.Ending.{Ending}
use Rattle.explore.specs.declared.ending.Ending.TheVariants as ending
use Rattle.explore.specs.declared.ending.Stops.{Stops}
use Rattle.explore.specs.declared.layers.Explored.{Explored}
use Rattle.explore.specs.internal.Stopped.{HasNoRoom, HasStopped, IsEnd, IsQuiet, IsReason, IsUnmarked, all_done, at_limit, at_mark, complete, is_quiet, kept, marked}
use Rattle.search_layer.specs.declared.plan.Plan.{Plan}
use Rattle.search_layer.specs.declared.visited.Step.{Step}
use Rattle.search_layer.proofs.SearchSteps.{found-grows}
use Rattle.search_layer.specs.internal.Search.{as_found, found_after}
use Rattle.summary.specs.Exploration.{Counts, HasMark}
use Rattle.summary.specs.Graph.{Graph}
use Rattle.summary.specs.Run.{Run}
use Rattle.summary.specs.Sums.{IsSemilattice, Join, Observation}

module _ {C L S : Type 0} (g : Graph C L) (cmp : L → L → Ordering) (eq : C → C → Bool) (F : C → Type 0) (lawful : IsLawful g cmp eq F)
    (j : Join S) (r : Observation C L S) (laws : IsSemilattice j) (plan : Plan) (stops : Stops) where
  may-end : (steps : ℕ) (states : List C) (lasts : List (Option (Step L))) (from : ℕ) (summary : S) → as_found states lasts from summary ≡ found_after g j r eq steps
      → (why : Ending) → HasStopped g j r eq plan stops states from steps why → MayEnd g plan stops steps why
  may-end steps states lasts from summary is why (all_done done) = told.all_done done
  may-end steps states lasts from summary is why (at_limit stop below many) =
      let more = too_many g cmp eq F lawful j r laws (suc steps) plan.limit many in
      told.at_limit stop below more.1 more.2
  may-end steps states lasts from summary is why (complete stop quiet) =
      told.complete stop ((complete-is g cmp eq F lawful j r laws steps states lasts from summary is).0 quiet)
  may-end steps states lasts from summary is why (at_mark m) =
      let found = marked-is g cmp eq F lawful j r laws steps states lasts from summary is m.number m.place m.within m.marked in
      told.at_mark m.is found.1

  -- a search that led on up to its last layer may not end with fewer steps
  no-sooner : (steps : ℕ) (states : List C) (lasts : List (Option (Step L))) (from : ℕ) (summary : S) → as_found states lasts from summary ≡ found_after g j r eq steps
      → length states ≤ plan.limit → steps ≤ plan.steps → (stops.when_complete ≡ true → (layer : ℕ) → layer < steps → ¬ IsQuiet g (found_after g j r eq layer))
      → IsUnmarked g (take from states) stops.at_mark → (fewer : ℕ) (other : Ending) → fewer < steps → ¬ MayEnd g plan stops fewer other
  no-sooner steps states lasts from summary is within below led unmarked fewer other low (told.all_done done) = absurd (omega arith)
  no-sooner steps states lasts from summary is within below led unmarked fewer other low (told.at_limit {count} stop early counts many) =
      let fits : count ≤ length states = counts-grow g (suc fewer) steps count (length states) (omega arith) counts (count-is g cmp eq F lawful j r laws steps states lasts from summary is) in
      absurd (omega arith)
  no-sooner steps states lasts from summary is within below led unmarked fewer other low (told.complete stop all) =
      absurd (not-complete g cmp eq F lawful j r laws fewer (led stop fewer low) all)
  no-sooner steps states lasts from summary is within below led unmarked fewer other low (told.at_mark {mark} {run} wanted has) =
      absurd (no-shorter-marked g cmp eq F lawful j r laws steps states lasts from summary is mark (unmarked mark wanted) fewer low run has)

  -- where fewer steps than the plan's are done, that isn't the reason
  none-is-left : (steps : ℕ) (why : Ending) → MayEnd g plan stops steps why → steps < plan.steps → rank why ≤ 2
  none-is-left steps why (told.all_done done) below = absurd (omega arith)
  none-is-left steps why (told.at_limit stop early counts many) below = omega arith
  none-is-left steps why (told.complete stop all) below = omega arith
  none-is-left steps why (told.at_mark wanted has) below = omega arith

  at-most-last : (why : Ending) → rank why ≤ 3
  at-most-last ending.Mark = omega arith
  at-most-last ending.Complete = omega arith
  at-most-last ending.Limit = omega arith
  at-most-last ending.Steps = omega arith

  module _ (e : Explored C L S) (is : IsEnd g j r eq F plan stops e) (quiet : Bool) (exact : IsTrue quiet ↔ All (λ c. g.enabled c ≡ []) (drop e.from e.visited.states.keys)) where
    -- no run ends with the mark that no state has
    no-mark : {mark : ℕ} {run : Run L} → IsUnmarked g (drop e.from e.visited.states.keys) stops.at_mark → stops.at_mark ≡ Some mark → HasMark g e.steps mark run → ⊥
    no-mark {mark} {run} unmarked wanted has =
        best-is g cmp eq F lawful j r laws e.steps e.visited.states.keys e.visited.steps e.from e.summary is.found mark None
        (unmarked-both g e.visited.states.keys e.from stops.at_mark is.unmarked unmarked mark wanted) run has

    stopped-for : (why : Ending) → IsReason g stops e quiet why → HasStopped g j r eq plan stops e.visited.states.keys e.from e.steps why
    stopped-for why (marked m) = at_mark m
    stopped-for why (is_quiet unmarked stop all_quiet) = complete stop (exact.0 all_quiet)
    stopped-for why (kept unmarked not) = is.stopped

    may-for : (why : Ending) → IsReason g stops e quiet why → MayEnd g plan stops e.steps why
    may-for why reason = may-end e.steps e.visited.states.keys e.visited.steps e.from e.summary is.found why (stopped-for why reason)

    comes-first : (why : Ending) → IsReason g stops e quiet why → (other : Ending) → MayEnd g plan stops e.steps other → rank why ≤ rank other
    comes-first why (marked m) other may = omega arith
    comes-first why (is_quiet unmarked stop all_quiet) other (told.all_done done) = omega arith
    comes-first why (is_quiet unmarked stop all_quiet) other (told.at_limit also early counts many) = omega arith
    comes-first why (is_quiet unmarked stop all_quiet) other (told.complete also all) = omega arith
    comes-first why (is_quiet unmarked stop all_quiet) other (told.at_mark wanted has) = absurd (no-mark unmarked wanted has)
    comes-first why (kept unmarked not) other (told.all_done done) = at-most-last e.ending
    comes-first why (kept unmarked not) other (told.at_limit also early counts many) = none-is-left e.steps e.ending (may-for e.ending (kept unmarked not)) early
    comes-first why (kept unmarked not) other (told.complete also all) =
        let all_quiet : quiet ≡ true = exact.1 ((complete-is g cmp eq F lawful j r laws e.steps e.visited.states.keys e.visited.steps e.from e.summary is.found).1 all) in
        absurd (true≢false ((λ i. sym also i && sym all_quiet i) ∙ not))
    comes-first why (kept unmarked not) other (told.at_mark wanted has) = absurd (no-mark unmarked wanted has)

    pub ends : (why : Ending) → IsReason g stops e quiet why → HasEnded g plan stops e.steps why
    ends why reason = record {
      may = may-for why reason;
      least = no-sooner e.steps e.visited.states.keys e.visited.steps e.from e.summary is.found is.within is.steps is.led_on is.unmarked;
      first = comes-first why reason;
    }

  -- where a search has no room, each number of steps with which it may end has none
  pub no-room-left : HasNoRoom g j r eq plan stops → stops.at_limit ≡ false → AreTooMany g plan stops
  no-room-left no_room limited = each
    where
      beyond : (steps : ℕ) → no_room.layer < steps → (count : ℕ) × Counts g steps count × (plan.limit < count)
      beyond steps more =
          let grown = found-grows g j r eq (suc no_room.layer) steps (omega arith) in
          too_many g cmp eq F lawful j r laws steps plan.limit (let many = no_room.many in omega arith)

      unless : (steps : ℕ) → (steps ≤ no_room.layer → ⊥) → (count : ℕ) × Counts g steps count × (plan.limit < count)
      unless steps beside = dite (dec_le steps no_room.layer) (λ low. absurd (beside low)) (λ high. beyond steps (omega arith))

      each : (steps : ℕ) (why : Ending) → MayEnd g plan stops steps why → (count : ℕ) × Counts g steps count × (plan.limit < count)
      each steps why (told.all_done done) = beyond steps (let below = no_room.below in omega arith)
      each steps why (told.at_limit stop below counts many) = absurd (true≢false (sym stop ∙ limited))
      each steps why (told.complete stop all) = unless steps (λ low. not-complete g cmp eq F lawful j r laws steps (no_room.led_on steps (omega arith)) all)
      each steps why (told.at_mark {mark} {run} wanted has) = unless steps (λ low.
          let found = found_after g j r eq no_room.layer in
          best-is g cmp eq F lawful j r laws no_room.layer found.states found.steps found.from found.summary refl mark None (no_room.unmarked mark wanted) run
          (record { is_run = has.is_run; short = (let short = has.short in omega arith); marked = has.marked }))

-- an exploration without stops has done all steps
done-without-stops : {C L : Type 0} (g : Graph C L) (plan : Plan) (stops : Stops) (steps : ℕ) (why : Ending) → stops.at_limit ≡ false → stops.when_complete ≡ false → stops.at_mark ≡ None
    → MayEnd g plan stops steps why → steps ≡ plan.steps
done-without-stops g plan stops steps why no_limit no_complete no_mark (told.all_done done) = done
done-without-stops g plan stops steps why no_limit no_complete no_mark (told.at_limit stop below counts many) = absurd (true≢false (sym stop ∙ no_limit))
done-without-stops g plan stops steps why no_limit no_complete no_mark (told.complete stop is) = absurd (true≢false (sym stop ∙ no_complete))
done-without-stops g plan stops steps why no_limit no_complete no_mark (told.at_mark is has) = cc

pub without-stops : {C L : Type 0} (g : Graph C L) (plan : Plan) (stops : Stops) (steps : ℕ) (why : Ending) → stops.at_limit ≡ false → stops.when_complete ≡ false → stops.at_mark ≡ None
    → HasEnded g plan stops steps why → steps ≡ plan.steps
without-stops g plan stops steps why no_limit no_complete no_mark ended = done-without-stops g plan stops steps why no_limit no_complete no_mark ended.may
