-- What is answered of runs of ordinals is answered of the runs that they tell.
use Rattle.std.proofs.Common.{◌≡◌, ℕ, ◌<◌, List, length, Option, sym, ap, refl, subst, ◌∙◌}
use Rattle.std.specs.Prelude.{AllPairs, IfSome, None, Some, slice_index_or}
use Rattle.std.specs.Cmp.{IsTotalOrder}
use Rattle.std.specs.FinSet as ordered
use Rattle.std.specs.declared.alloc.Global.{Global}
use Rattle.std.specs.declared.cmp.Ordering.{Ordering}
use Rattle.std.specs.declared.cmp.Ordering.TheVariants.{Less}
use Rattle.std.specs.declared.vec.Vec.{Vec}
use Rattle.explore.specs.Best.{AreBest, IsBestOf}
use Rattle.explore.specs.Endings.{AreTooMany, HasEnded, MayEnd, all_done, at_limit, at_mark, complete}
use Rattle.explore.specs.declared.ending.Ending.{Ending}
use Rattle.explore.specs.declared.ending.Stops.{Stops}
use Rattle.search_layer.specs.declared.plan.Plan.{Plan}
use Rattle.search_ordinals.proofs.Explored.{best-told, complete-told, counts-told, marked-told, told-counts, told-marked}
use Rattle.search_ordinals.proofs.Runs.{run-of, told-of}
use Rattle.search_ordinals.proofs.Sums.{sums-told}
use Rattle.search_ordinals.specs.OrdinalOrder.{ordinal_cmp}
use Rattle.search_ordinals.specs.Ordinals.{ordinal_graph}
use Rattle.search_ordinals.specs.Told.{AreToldWhereTold, IsTelling}
use Rattle.search_ordinals.specs.declared.ordinal.Ordinal.{Ordinal}
use Rattle.summary.specs.Graph.{Graph}
use Rattle.summary.specs.KeySet.{empty, from_list, from_option, union}
use Rattle.summary.specs.NumberSet.{numbers_of}
use Rattle.summary.specs.Run.{IsRun, Run, end_of}
use Rattle.summary.specs.Sums.{Join, Observation, sum_of}
use Rattle.summary.specs.declared.blocked.Blocked.{Blocked}
use Rattle.summary.specs.declared.both.Both.{Both}
use Rattle.summary.specs.declared.branches.Branches.{Branches}
use Rattle.summary.specs.declared.verdicts.Verdicts.{Verdicts}

module _ {C L B : Type 0} (branch : C → L → Option B) (g : Graph C L) where
  abbrev h : Graph C (Ordinal B)
  h = ordinal_graph branch g

  may-told : (plan : Plan) (stops : Stops) (steps : ℕ) (end : Ending) → MayEnd h plan stops steps end → MayEnd g plan stops steps end
  may-told plan stops steps end (all_done same) = all_done same
  may-told plan stops steps end (at_limit wanted below counts more) = at_limit wanted below (counts-told branch g _ _ counts) more
  may-told plan stops steps end (complete wanted is) = complete wanted ((complete-told branch g steps).0 is)
  may-told plan stops steps end (at_mark wanted has) =
      let found = run-of branch g _ has.is_run in at_mark wanted (marked-told branch g steps _ found.0 _ found.1 has)

  told-may : (plan : Plan) (stops : Stops) (steps : ℕ) (end : Ending) → MayEnd g plan stops steps end → MayEnd h plan stops steps end
  told-may plan stops steps end (all_done same) = all_done same
  told-may plan stops steps end (at_limit wanted below counts more) = at_limit wanted below (told-counts branch g _ _ counts) more
  told-may plan stops steps end (complete wanted is) = complete wanted ((complete-told branch g steps).1 is)
  told-may plan stops steps end (at_mark wanted has) =
      let found = told-of branch g _ has.is_run in at_mark wanted (told-marked branch g steps _ _ found.0 found.1 has)

  pub ended-told : (plan : Plan) (stops : Stops) (steps : ℕ) (end : Ending) → HasEnded h plan stops steps end → HasEnded g plan stops steps end
  ended-told plan stops steps end ended = record {
    may = may-told plan stops steps end ended.may;
    least = λ fewer other low may. ended.least fewer other low (told-may plan stops fewer other may);
    first = λ other may. ended.first other (told-may plan stops steps other may);
  }

  pub too-many-told : (plan : Plan) (stops : Stops) → AreTooMany h plan stops → AreTooMany g plan stops
  too-many-told plan stops many steps why may = let more = many steps why (told-may plan stops steps why may) in (more.0, counts-told branch g steps more.0 more.1, more.2)

  module _ (cmp : L → L → Ordering) (n : ℕ) where
    -- where a run of ordinals is best, some run is told by it
    telling : (mark : ℕ) (told : Option (Vec (Ordinal B) Global)) → IsBestOf h ordinal_cmp n mark told → IfSome told (λ ordinals. IsTelling branch g ordinals.items)
    telling mark None is = tt
    telling mark (Some ordinals) is = let found = run-of branch g is.0 ((is.1).has).is_run in (found.0, is.0, found.1, is.2)

    pub all-telling : (best : List (Option (Vec (Ordinal B) Global))) → AreBest h ordinal_cmp n best
        → (k : ℕ) → k < length best → IfSome (slice_index_or best k None) (λ ordinals. IsTelling branch g ordinals.items)
    all-telling best are k below = telling k (slice_index_or best k None) (are.each k (subst (λ (m : ℕ). k < m) are.eight below))

    module _ (total : IsTotalOrder cmp) (ascends : (run : Run L) → IsRun g run → AllPairs (λ l m. cmp l m ≡ Less) (g.enabled (end_of g run))) where
      best-of-told : (mark : ℕ) (told : Option (Vec (Ordinal B) Global)) (labels : Option (Vec L Global)) → IsBestOf h ordinal_cmp n mark told → AreToldWhereTold branch g told labels → IsBestOf g cmp n mark labels
      best-of-told mark None None is same = λ run has. let found = told-of branch g run has.is_run in is found.0 (told-marked branch g n mark run found.0 found.1 has)
      best-of-told mark None (Some labels) is same = absurd same
      best-of-told mark (Some ordinals) None is same = absurd same
      best-of-told mark (Some ordinals) (Some labels) is same =
          let found = run-of branch g is.0 ((is.1).has).is_run in
          (found.0, best-told branch g cmp total ascends n mark found.0 is.0 found.1 is.1, same found.0 is.0 found.1 is.2)

      pub all-best : (told : List (Option (Vec (Ordinal B) Global))) (best : List (Option (Vec L Global))) → AreBest h ordinal_cmp n told → length best ≡ length told
          → ((k : ℕ) → k < length told → AreToldWhereTold branch g (slice_index_or told k None) (slice_index_or best k None)) → AreBest g cmp n best
      all-best told best are as-many each = record {
        eight = as-many ∙ are.eight;
        each = λ mark below. best-of-told mark (slice_index_or told mark None) (slice_index_or best mark None) (are.each mark below)
            (each mark (subst (λ (m : ℕ). mark < m) (sym are.eight) below));
      }

-- ---- marks, branches and blocked components, as one summary

abbrev pub Shown : Type 0 → Type 0 → Type 0
Shown B T = Both Verdicts (Both (Branches B) (Blocked T))

abbrev pub shown_join : {B T : Type 0} → Join (Shown B T)
shown_join = record {
  none = record { first = record { marks = ordered.empty }; second = record { first = record { places = empty }; second = record { components = empty } } };
  join = λ x y. record {
    first = record { marks = ordered.union x.first.marks y.first.marks };
    second = record { first = record { places = union x.second.first.places y.second.first.places }; second = record { components = union x.second.second.components y.second.second.components } };
  };
}

abbrev pub shown_reading : {C L B T : Type 0} → Graph C L → (C → L → Option B) → (C → List T) → Observation C L (Shown B T)
shown_reading g branch blocked = record {
  at = λ c. record { first = record { marks = numbers_of (g.mark c) }; second = record { first = record { places = empty }; second = record { components = from_list (blocked c) } } };
  by = λ c label. record { first = record { marks = ordered.empty }; second = record { first = record { places = from_option (branch c label) }; second = record { components = empty } } };
}

module _ {C L B T : Type 0} (branch : C → L → Option B) (blocked : C → List T) (g : Graph C L) where
  pub shown-told : (n : ℕ) → sum_of (ordinal_graph branch g) shown_join (shown_reading (ordinal_graph branch g) (λ c o. o.branch) blocked) n ≡ sum_of g shown_join (shown_reading g branch blocked) n
  shown-told n =
      sums-told branch g shown_join (shown_reading g branch blocked) (shown_reading (ordinal_graph branch g) (λ c o. o.branch) blocked) (λ c. refl)
      (λ c label o takes. ap (λ (taken : Option B). record { first = record { marks = ordered.empty }; second = record { first = record { places = from_option taken }; second = record { components = empty } } }) takes) n
