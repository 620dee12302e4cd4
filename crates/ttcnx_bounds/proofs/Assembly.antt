-- What a search over live parts within a bound answers is true of the runs that keep it, on whole configurations.
use Rattle.std.proofs.Common.{◌≡◌, ℕ, None, false, true≢false, suc, ◌≤◌, length, subst, sym, ap, ◌∙◌}
use Rattle.std.specs.Prelude.{◌↔◌, IsTrue, Ok, Err}
use Rattle.explore.specs.Best.{AreBest}
use Rattle.explore.specs.Endings as ended
use Rattle.explore.specs.Endings.{AreTooMany, HasEnded, MayEnd}
use Rattle.explore.specs.declared.ending.Ending.{Ending}
use Rattle.explore.specs.declared.ending.Stops.{Stops}
use Rattle.laws_bounds.proofs.BoundedTests.{complete-bounded, counts-bounded, marked-bounded}
use Rattle.laws_bounds.specs.BoundedParts.{CountsBounded, IsCompleteBounded}
use Rattle.search_bounds.specs.declared.bound.Bound.{Bound}
use Rattle.search_layer.specs.Limits.{IsWithinLimits}
use Rattle.search_layer.specs.declared.plan.ExploreError.{ExploreError}
use Rattle.search_layer.specs.declared.plan.ExploreError.TheVariants as refused
use Rattle.search_layer.specs.declared.plan.Plan.{Plan}
use Rattle.semantics.specs.Labels.{label_cmp}
use Rattle.semantics.specs.Snapshots.{Test}
use Rattle.summary.specs.Exploration.{Counts, IsComplete}
use Rattle.ttcnx_bounds.proofs.Bests.{best-stays, best-within}
use Rattle.ttcnx_bounds.proofs.Sums.{blocked-bounded, blocked_within, branch_within, branches-bounded, parts_within}
use Rattle.ttcnx_bounds.specs.BoundedEndings.{AreTooManyBounded, HaveEndedBounded, MayEndBounded, all_done, at_limit, at_mark, complete}
use Rattle.ttcnx_bounds.specs.BoundedFound.{AreFoundBounded}
use Rattle.ttcnx_bounds.specs.internal.BoundedExplored.{IsExploredBounded}
use Rattle.ttcnx_runs.specs.Answers.{IsMadeOf, Searched}
use Rattle.ttcnx_runs.specs.Found.{run_kept}
use Rattle.ttcnx_runs.specs.Sums.{blocked_of, branches_of}
use Rattle.ttcnx_runs.specs.declared.exploration.Exploration.{Exploration}

-- the answer is that of the runs of at most n steps
pub record AreSummedBounded (test : Test) (bound : Bound) (n : ℕ) (answer : Searched) : Type 0 where
  pub counts : Counts (parts_within test bound) n answer.count
  pub branches : answer.summary.second.first.places ≡ branches_of (parts_within test bound) (branch_within test) n
  pub blocked : answer.summary.second.second.components ≡ blocked_of (parts_within test bound) (blocked_within test) n

module _ (test : Test) (bound : Bound) where
  -- why the search over live parts may end is why the exploration of the runs may
  parts-may : (plan : Plan) (stops : Stops) (steps : ℕ) (why : Ending) → MayEnd (parts_within test bound) plan stops steps why → MayEndBounded test bound plan stops steps why
  parts-may plan stops steps why (ended.all_done done) = all_done done
  parts-may plan stops steps why (ended.at_limit {count} stop low counts many) = at_limit stop low ((counts-bounded test bound (suc steps) count).0 counts) many
  parts-may plan stops steps why (ended.complete stop is) = complete stop ((complete-bounded test bound steps).0 is)
  parts-may plan stops steps why (ended.at_mark {mark} {run} is has) = at_mark is ((marked-bounded test bound steps mark run).0 has)

  runs-may : (plan : Plan) (stops : Stops) (steps : ℕ) (why : Ending) → MayEndBounded test bound plan stops steps why → MayEnd (parts_within test bound) plan stops steps why
  runs-may plan stops steps why (all_done done) = ended.all_done done
  runs-may plan stops steps why (at_limit {count} stop low counts many) = ended.at_limit stop low ((counts-bounded test bound (suc steps) count).1 counts) many
  runs-may plan stops steps why (complete stop is) = ended.complete stop ((complete-bounded test bound steps).1 is)
  runs-may plan stops steps why (at_mark {mark} {run} is has) = ended.at_mark is ((marked-bounded test bound steps mark run).1 has)

  -- why the search over live parts went no further is why the exploration of the runs did not
  runs-ended : (plan : Plan) (stops : Stops) (steps : ℕ) (why : Ending) → HasEnded (parts_within test bound) plan stops steps why → HaveEndedBounded test bound plan stops steps why
  runs-ended plan stops steps why end = record {
    may = parts-may plan stops steps why end.may;
    least = λ fewer other low may. end.least fewer other low (runs-may plan stops fewer other may);
    first = λ other may. end.first other (runs-may plan stops steps other may);
  }

  too-many-pairs : (plan : Plan) (stops : Stops) → AreTooMany (parts_within test bound) plan stops → AreTooManyBounded test bound plan stops
  too-many-pairs plan stops many steps why may = let more = many steps why (runs-may plan stops steps why may) in (more.0, (counts-bounded test bound steps more.0).0 more.1, more.2)

  module _ (found : Exploration) (answer : Searched) (made : IsMadeOf found answer) where
    complete-pairs : (n : ℕ) → (IsTrue answer.complete ↔ IsComplete (parts_within test bound) n) → IsTrue found.complete ↔ IsCompleteBounded test bound n
    complete-pairs n is = subst (λ b. IsTrue b ↔ IsCompleteBounded test bound n) (sym made.complete)
        (λ h. (complete-bounded test bound n).0 (is.0 h), λ h. is.1 ((complete-bounded test bound n).1 h))

    counted : (n : ℕ) → Counts (parts_within test bound) n answer.count → CountsBounded test bound n found.configurations
    counted n counts = subst (CountsBounded test bound n) (sym made.configurations) ((counts-bounded test bound n answer.count).0 counts)

    are-found : (n : ℕ) → AreSummedBounded test bound n answer → AreBest (parts_within test bound) label_cmp n answer.best.items → AreFoundBounded test bound n found
    are-found n summed best = record {
      configurations = counted n summed.counts;
      eight = ap length made.best ∙ best.eight;
      best = λ v. best-within test bound n v found.best.items (subst (AreBest (parts_within test bound) label_cmp n) (sym made.best) best);
      branches = branches-bounded test bound n answer.summary.second.first.places summed.branches found.branches.items made.branches made.ascending;
      blocked = blocked-bounded test bound n answer.summary.second.second.components summed.blocked found.blocked.items made.blocked made.in_order;
    }

    found-later : (n steps : ℕ) → n ≤ steps → AreFoundBounded test bound n found → AreSummedBounded test bound steps answer → AreFoundBounded test bound steps found
    found-later n steps le is summed = record {
      configurations = counted steps summed.counts;
      eight = is.eight;
      best = λ v. best-stays test bound n steps le found.configurations is.configurations (counted steps summed.counts) v (run_kept found v) (is.best v);
      branches = branches-bounded test bound steps answer.summary.second.first.places summed.branches found.branches.items made.branches made.ascending;
      blocked = blocked-bounded test bound steps answer.summary.second.second.components summed.blocked found.blocked.items made.blocked made.in_order;
    }

    -- what was found, as the answer of an exploration
    pub found-explored : (plan : Plan) (stops : Stops) (n : ℕ) (why : Ending) → IsWithinLimits plan → n ≤ plan.steps
        → HasEnded (parts_within test bound) plan stops n why
        → Counts (parts_within test bound) n answer.count × (answer.count ≤ plan.limit)
        → answer.summary.second.first.places ≡ branches_of (parts_within test bound) (branch_within test) n → answer.summary.second.second.components ≡ blocked_of (parts_within test bound) (blocked_within test) n
        → (IsTrue answer.complete ↔ IsComplete (parts_within test bound) n) → AreBest (parts_within test bound) label_cmp n answer.best.items
        → (IsTrue answer.complete → (steps : ℕ) → n ≤ steps → Counts (parts_within test bound) steps answer.count
        × (answer.summary.second.first.places ≡ branches_of (parts_within test bound) (branch_within test) steps) × (answer.summary.second.second.components ≡ blocked_of (parts_within test bound) (blocked_within test) steps))
        → IsExploredBounded test bound plan stops (Ok (record { steps = n; found = found; ending = why }))
    found-explored plan stops n why fine low stopped count taken stands whole best later =
        let is = are-found n (record { counts = count.0; branches = taken; blocked = stands }) best in
        record {
          bad_plan = (λ refused. let no = refused in cc, λ no. absurd (no fine));
          planned = fine;
          too_many = λ refused. let no = refused in cc;
          limited = λ refused. let no = refused in cc;
          steps = low;
          ended = runs-ended plan stops n why stopped;
          found = is;
          within = subst (λ (k : ℕ). k ≤ plan.limit) (sym made.configurations) count.1;
          complete = complete-pairs n whole;
          every_bound = λ all steps above.
              let more = later (subst IsTrue made.complete all) steps above in
              found-later n steps above is (record { counts = more.0; branches = more.1; blocked = more.2 });
        }

  -- why nothing was found
  pub refused-explored : (plan : Plan) (stops : Stops) (why : ExploreError) → ((why ≡ refused.BadPlan) → ¬ IsWithinLimits plan) → (¬ IsWithinLimits plan → why ≡ refused.BadPlan)
      → (why ≡ refused.TooMany → AreTooMany (parts_within test bound) plan stops)
      → (why ≡ refused.TooMany → stops.at_limit ≡ false) → IsExploredBounded test bound plan stops (Err why)
  refused-explored plan stops why bad_plan beyond too_many limited = record {
    bad_plan = (λ is. bad_plan (let same = is in cc), λ no. ap Err (beyond no));
    planned = tt;
    too_many = λ is. too-many-pairs plan stops (too_many (let same = is in cc));
    limited = λ is. limited (let same = is in cc);
    steps = tt;
    ended = tt;
    found = tt;
    within = tt;
    complete = tt;
    every_bound = tt;
  }

-- an exploration without stops has done all steps
done-without-stops : (test : Test) (bound : Bound) (plan : Plan) (stops : Stops) (n : ℕ) (why : Ending) → stops.at_limit ≡ false → stops.when_complete ≡ false → stops.at_mark ≡ None
    → MayEndBounded test bound plan stops n why → n ≡ plan.steps
done-without-stops test bound plan stops n why no_limit no_complete no_mark (all_done done) = done
done-without-stops test bound plan stops n why no_limit no_complete no_mark (at_limit stop below counts many) = absurd (true≢false (sym stop ∙ no_limit))
done-without-stops test bound plan stops n why no_limit no_complete no_mark (complete stop is) = absurd (true≢false (sym stop ∙ no_complete))
done-without-stops test bound plan stops n why no_limit no_complete no_mark (at_mark is has) = cc

pub all-steps : (test : Test) (bound : Bound) (plan : Plan) (stops : Stops) (n : ℕ) (why : Ending) → stops.at_limit ≡ false → stops.when_complete ≡ false → stops.at_mark ≡ None
    → HaveEndedBounded test bound plan stops n why → n ≡ plan.steps
all-steps test bound plan stops n why no_limit no_complete no_mark end = done-without-stops test bound plan stops n why no_limit no_complete no_mark end.may
