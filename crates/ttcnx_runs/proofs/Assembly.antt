-- What a search over live parts answers is true of the runs, on whole configurations.
use Rattle.std.proofs.Common.{◌≡◌, ℕ, None, false, true≢false, suc, ◌≤◌, length, subst, sym, ap, ◌∙◌}
use Rattle.std.specs.Prelude.{◌↔◌, IsTrue, Ok, Err}
use Rattle.explore.specs.Best.{AreBest}
use Rattle.search_layer.specs.Limits.{IsWithinLimits}
use Rattle.search_layer.specs.declared.plan.ExploreError.{ExploreError}
use Rattle.search_layer.specs.declared.plan.ExploreError.TheVariants as refused
use Rattle.search_layer.specs.declared.plan.Plan.{Plan}
use Rattle.ttcnx_runs.proofs.Best.{best-run}
use Rattle.ttcnx_runs.proofs.Longer.{best-later}
use Rattle.ttcnx_runs.proofs.Sums.{blocked-found, branches-found}
use Rattle.ttcnx_runs.specs.Found.{AreFound, run_kept}
use Rattle.ttcnx_runs.specs.declared.exploration.Exploration.{Exploration}
use Rattle.explore.specs.Endings as ended
use Rattle.explore.specs.Endings.{HasEnded}
use Rattle.explore.specs.declared.ending.Ending.{Ending}
use Rattle.explore.specs.declared.ending.Stops.{Stops}
use Rattle.ttcnx_runs.specs.Endings.{AreTooMany, HaveEnded, MayEnd, all_done, at_limit, at_mark, complete}
use Rattle.ttcnx_runs.specs.Extents.{IsExtent}
use Rattle.ttcnx_runs.specs.Answers.{IsMadeOf, Searched}
use Rattle.ttcnx_runs.specs.internal.Explored.{IsExplored}
use Rattle.ttcnx_runs.specs.Sums.{blocked_of, branches_of}
use Rattle.laws_live.proofs.SameRuns.{same-complete, same-counts, same-marked}
use Rattle.laws_live.specs.Parts.{CountsParts, IsCompleteByParts}
use Rattle.semantics.specs.Canonical.{canonical_graph}
use Rattle.semantics.specs.Labels.{label_cmp}
use Rattle.semantics.specs.Places.{blocked, branch_of}
use Rattle.semantics.specs.Snapshots.{Test}
use Rattle.summary.specs.Exploration.{Counts, IsComplete}

-- the answer is that of the runs of at most n steps
pub record AreSummed (test : Test) (n : ℕ) (answer : Searched) : Type 0 where
  pub counts : Counts (canonical_graph test) n answer.count
  pub branches : answer.summary.second.first.places ≡ branches_of (canonical_graph test) (branch_of test) n
  pub blocked : answer.summary.second.second.components ≡ blocked_of (canonical_graph test) (blocked test) n

module _ (test : Test) where
  -- why the search over live parts may end is why the exploration of all runs may
  parts-may : (plan : Plan) (stops : Stops) (steps : ℕ) (why : Ending) → ended.MayEnd (canonical_graph test) plan stops steps why → MayEnd test plan stops steps why
  parts-may plan stops steps why (ended.all_done done) = all_done done
  parts-may plan stops steps why (ended.at_limit {count} stop low counts many) = at_limit stop low ((same-counts test (suc steps) count).0 counts) many
  parts-may plan stops steps why (ended.complete stop is) = complete stop ((same-complete test steps).0 is)
  parts-may plan stops steps why (ended.at_mark {mark} {run} is has) = at_mark is ((same-marked test steps mark run).0 has)

  runs-may : (plan : Plan) (stops : Stops) (steps : ℕ) (why : Ending) → MayEnd test plan stops steps why → ended.MayEnd (canonical_graph test) plan stops steps why
  runs-may plan stops steps why (all_done done) = ended.all_done done
  runs-may plan stops steps why (at_limit {count} stop low counts many) = ended.at_limit stop low ((same-counts test (suc steps) count).1 counts) many
  runs-may plan stops steps why (complete stop is) = ended.complete stop ((same-complete test steps).1 is)
  runs-may plan stops steps why (at_mark {mark} {run} is has) = ended.at_mark is ((same-marked test steps mark run).1 has)

  -- why the search over live parts went no further is why the exploration of all runs did not
  pub runs-ended : (plan : Plan) (stops : Stops) (steps : ℕ) (why : Ending) → HasEnded (canonical_graph test) plan stops steps why → HaveEnded test plan stops steps why
  runs-ended plan stops steps why end = record {
    may = parts-may plan stops steps why end.may;
    least = λ fewer other low may. end.least fewer other low (runs-may plan stops fewer other may);
    first = λ other may. end.first other (runs-may plan stops steps other may);
  }

  pub too-many-parts : (plan : Plan) (stops : Stops) → ended.AreTooMany (canonical_graph test) plan stops → AreTooMany test plan stops
  too-many-parts plan stops many steps why may = let more = many steps why (runs-may plan stops steps why may) in (more.0, (same-counts test steps more.0).0 more.1, more.2)

  module _ (found : Exploration) (answer : Searched) (made : IsMadeOf found answer) where
    pub complete-parts : (n : ℕ) → (IsTrue answer.complete ↔ IsComplete (canonical_graph test) n) → IsTrue found.complete ↔ IsCompleteByParts test n
    complete-parts n is = subst (λ b. IsTrue b ↔ IsCompleteByParts test n) (sym made.complete)
        (λ h. (same-complete test n).0 (is.0 h), λ h. is.1 ((same-complete test n).1 h))

    counted : (n : ℕ) → Counts (canonical_graph test) n answer.count → CountsParts test n found.configurations
    counted n counts = subst (CountsParts test n) (sym made.configurations) ((same-counts test n answer.count).0 counts)

    pub are-found : (n : ℕ) → AreSummed test n answer → AreBest (canonical_graph test) label_cmp n answer.best.items → AreFound test n found
    are-found n summed best = record {
      configurations = counted n summed.counts;
      eight = ap length made.best ∙ best.eight;
      best = λ v. best-run test n v found.best.items (subst (AreBest (canonical_graph test) label_cmp n) (sym made.best) best);
      branches = branches-found test n answer.summary.second.first.places summed.branches found.branches.items made.branches made.ascending;
      blocked = blocked-found test n answer.summary.second.second.components summed.blocked found.blocked.items made.blocked made.in_order;
    }

    pub found-later : (n bound : ℕ) → n ≤ bound → AreFound test n found → AreSummed test bound answer → AreFound test bound found
    found-later n bound le is summed = record {
      configurations = counted bound summed.counts;
      eight = is.eight;
      best = λ v. best-later test n bound le found.configurations is.configurations (counted bound summed.counts) v (run_kept found v) (is.best v);
      branches = branches-found test bound answer.summary.second.first.places summed.branches found.branches.items made.branches made.ascending;
      blocked = blocked-found test bound answer.summary.second.second.components summed.blocked found.blocked.items made.blocked made.in_order;
    }

    -- what was found is true of the runs that the search went through
    pub extent-found : (plan : Plan) (stops : Stops) (n : ℕ) (why : Ending) → n ≤ plan.steps
        → HasEnded (canonical_graph test) plan stops n why
        → Counts (canonical_graph test) n answer.count × (answer.count ≤ plan.limit)
        → answer.summary.second.first.places ≡ branches_of (canonical_graph test) (branch_of test) n → answer.summary.second.second.components ≡ blocked_of (canonical_graph test) (blocked test) n
        → (IsTrue answer.complete ↔ IsComplete (canonical_graph test) n) → AreBest (canonical_graph test) label_cmp n answer.best.items
        → (IsTrue answer.complete → (bound : ℕ) → n ≤ bound → Counts (canonical_graph test) bound answer.count
        × (answer.summary.second.first.places ≡ branches_of (canonical_graph test) (branch_of test) bound) × (answer.summary.second.second.components ≡ blocked_of (canonical_graph test) (blocked test) bound))
        → IsExtent test plan stops (record { steps = n; found = found; ending = why })
    extent-found plan stops n why low stopped count taken stands whole best later =
        let is = are-found n (record { counts = count.0; branches = taken; blocked = stands }) best in
        record {
          steps = low;
          ended = runs-ended plan stops n why stopped;
          found = is;
          within = subst (λ (k : ℕ). k ≤ plan.limit) (sym made.configurations) count.1;
          complete = complete-parts n whole;
          every_bound = λ all bound above.
              let more = later (subst IsTrue made.complete all) bound above in
              found-later n bound above is (record { counts = more.0; branches = more.1; blocked = more.2 });
        }

  module _ {A : Type 0} (plan : Plan) (stops : Stops) (is : A → Type 0) where
    -- what was found, as the answer of an exploration
    pub answer-explored : (a : A) → IsWithinLimits plan → is a → IsExplored test plan stops is (Ok a)
    answer-explored a fine holds = record {
      bad_plan = (λ refused. let no = refused in cc, λ no. absurd (no fine));
      planned = fine;
      too_many = λ refused. let no = refused in cc;
      limited = λ refused. let no = refused in cc;
      answer = holds;
    }

    -- why nothing was found
    pub refused-explored : (why : ExploreError) → ((why ≡ refused.BadPlan) → ¬ IsWithinLimits plan) → (¬ IsWithinLimits plan → why ≡ refused.BadPlan)
        → (why ≡ refused.TooMany → ended.AreTooMany (canonical_graph test) plan stops)
        → (why ≡ refused.TooMany → stops.at_limit ≡ false) → IsExplored test plan stops is (Err why)
    refused-explored why bad_plan beyond too_many limited = record {
      bad_plan = (λ is. bad_plan (let same = is in cc), λ no. ap Err (beyond no));
      planned = tt;
      too_many = λ is. too-many-parts plan stops (too_many (let same = is in cc));
      limited = λ is. limited (let same = is in cc);
      answer = tt;
    }

-- an exploration without stops has done all steps
done-without-stops : (test : Test) (plan : Plan) (stops : Stops) (n : ℕ) (why : Ending) → stops.at_limit ≡ false → stops.when_complete ≡ false → stops.at_mark ≡ None
    → MayEnd test plan stops n why → n ≡ plan.steps
done-without-stops test plan stops n why no_limit no_complete no_mark (all_done done) = done
done-without-stops test plan stops n why no_limit no_complete no_mark (at_limit stop below counts many) = absurd (true≢false (sym stop ∙ no_limit))
done-without-stops test plan stops n why no_limit no_complete no_mark (complete stop is) = absurd (true≢false (sym stop ∙ no_complete))
done-without-stops test plan stops n why no_limit no_complete no_mark (at_mark is has) = cc

pub all-steps : (test : Test) (plan : Plan) (stops : Stops) (n : ℕ) (why : Ending) → stops.at_limit ≡ false → stops.when_complete ≡ false → stops.at_mark ≡ None
    → HaveEnded test plan stops n why → n ≡ plan.steps
all-steps test plan stops n why no_limit no_complete no_mark end = done-without-stops test plan stops n why no_limit no_complete no_mark end.may
