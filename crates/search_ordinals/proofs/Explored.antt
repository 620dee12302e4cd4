-- What is found of runs of ordinals is true of the runs that they tell.
use Rattle.std.proofs.Common.{◌≡◌, ℕ, ◌<◌, ◌≤◌, List, [], ◌∷◌, Option, refl, sym, ap, subst, ◌∙◌}
use Rattle.std.specs.Prelude.{◌↔◌, AllPairs, Contains}
use Rattle.std.specs.Cmp.{IsTotalOrder}
use Rattle.std.specs.declared.cmp.Ordering.{Ordering}
use Rattle.std.specs.declared.cmp.Ordering.TheVariants.{Less}
use Rattle.search_ordinals.proofs.Order.{no-later}
use Rattle.search_ordinals.proofs.Runs.{is-run, is-told-run, run-of, same-ends, same-steps, told-of}
use Rattle.search_ordinals.specs.OrdinalOrder.{ordinal_cmp}
use Rattle.search_ordinals.specs.Ordinals.{ordinal_graph, ordinals_from}
use Rattle.search_ordinals.specs.Told.{IsTold}
use Rattle.search_ordinals.specs.declared.ordinal.Ordinal.{Ordinal}
use Rattle.summary.specs.Exploration.{Counts, HasMark, IsBest, IsComplete, IsReached}
use Rattle.summary.specs.Graph.{Graph}
use Rattle.summary.specs.Run.{IsRun, Run, Start, Then, end_of}

module _ {C L B : Type 0} (branch : C → L → Option B) (g : Graph C L) where
  abbrev h : Graph C (Ordinal B)
  h = ordinal_graph branch g

  -- ---- what is reached, and how many

  from-reached : (n : ℕ) (c : C) → IsReached h n c → IsReached g n c
  from-reached n c is =
      let found = run-of branch g is.run is.is_run in
      record {
        run = found.0;
        is_run = is-run branch g found.0 is.run found.1;
        short = subst (λ (k : ℕ). k ≤ n) (same-steps branch g found.0 is.run found.1) is.short;
        ends = sym (same-ends branch g found.0 is.run found.1) ∙ is.ends;
      }

  to-reached : (n : ℕ) (c : C) → IsReached g n c → IsReached h n c
  to-reached n c is =
      let found = told-of branch g is.run is.is_run in
      record {
        run = found.0;
        is_run = is-told-run branch g is.run found.0 found.1;
        short = subst (λ (k : ℕ). k ≤ n) (sym (same-steps branch g is.run found.0 found.1)) is.short;
        ends = same-ends branch g is.run found.0 found.1 ∙ is.ends;
      }

  pub counts-told : (n count : ℕ) → Counts h n count → Counts g n count
  counts-told n count counts = record {
    configurations = counts.configurations;
    different = counts.different;
    reached = λ c found. from-reached n c (counts.reached c found);
    all = λ c is. counts.all c (to-reached n c is);
    number = counts.number;
  }

  pub told-counts : (n count : ℕ) → Counts g n count → Counts h n count
  told-counts n count counts = record {
    configurations = counts.configurations;
    different = counts.different;
    reached = λ c found. to-reached n c (counts.reached c found);
    all = λ c is. counts.all c (from-reached n c is);
    number = counts.number;
  }

  -- ---- whether longer runs reach more

  none-told : (c : C) → g.enabled c ≡ [] → h.enabled c ≡ []
  none-told c e = ap (ordinals_from (branch c) 0) e

  none-enabled : (c : C) → h.enabled c ≡ [] → g.enabled c ≡ []
  none-enabled c e = none (g.enabled c) e
    where
      none : (labels : List L) → ordinals_from (branch c) 0 labels ≡ [] → labels ≡ []
      none [] e = refl
      none (l ∷ ls) e = cc

  from-complete : (n : ℕ) → IsComplete h n → IsComplete g n
  from-complete n complete run is long first =
      let found = told-of branch g run is in
      let ends = same-ends branch g run found.0 found.1 in
      none-enabled (end_of g run) (subst (λ (c : C). h.enabled c ≡ []) ends
      (complete found.0 (is-told-run branch g run found.0 found.1) (same-steps branch g run found.0 found.1 ∙ long)
      (λ other also short same.
      let before = run-of branch g other also in
      first before.0 (is-run branch g before.0 other before.1) (subst (λ (k : ℕ). k < n) (same-steps branch g before.0 other before.1) short)
      (sym (same-ends branch g before.0 other before.1) ∙ same ∙ ends))))

  to-complete : (n : ℕ) → IsComplete g n → IsComplete h n
  to-complete n complete told is long first =
      let found = run-of branch g told is in
      let ends = same-ends branch g found.0 told found.1 in
      subst (λ (c : C). h.enabled c ≡ []) (sym ends) (none-told (end_of g found.0)
      (complete found.0 (is-run branch g found.0 told found.1) (sym (same-steps branch g found.0 told found.1) ∙ long)
      (λ other also short same.
      let before = told-of branch g other also in
      first before.0 (is-told-run branch g other before.0 before.1) (subst (λ (k : ℕ). k < n) (sym (same-steps branch g other before.0 before.1)) short)
      (same-ends branch g other before.0 before.1 ∙ same ∙ sym ends))))

  pub complete-told : (n : ℕ) → IsComplete h n ↔ IsComplete g n
  complete-told n = (from-complete n, to-complete n)

  -- ---- marks

  pub marked-told : (n mark : ℕ) (run : Run L) (told : Run (Ordinal B)) → IsTold branch g run told → HasMark h n mark told → HasMark g n mark run
  marked-told n mark run told is has = record {
    is_run = is-run branch g run told is;
    short = subst (λ (k : ℕ). k ≤ n) (same-steps branch g run told is) has.short;
    marked = ap g.mark (sym (same-ends branch g run told is)) ∙ has.marked;
  }

  pub told-marked : (n mark : ℕ) (run : Run L) (told : Run (Ordinal B)) → IsTold branch g run told → HasMark g n mark run → HasMark h n mark told
  told-marked n mark run told is has = record {
    is_run = is-told-run branch g run told is;
    short = subst (λ (k : ℕ). k ≤ n) (sym (same-steps branch g run told is)) has.short;
    marked = ap g.mark (same-ends branch g run told is) ∙ has.marked;
  }

  module _ (cmp : L → L → Ordering) (total : IsTotalOrder cmp) (ascends : (run : Run L) → IsRun g run → AllPairs (λ l m. cmp l m ≡ Less) (g.enabled (end_of g run))) where
    pub best-told : (n mark : ℕ) (run : Run L) (told : Run (Ordinal B)) → IsTold branch g run told → IsBest h ordinal_cmp n mark told → IsBest g cmp n mark run
    best-told n mark run told is best = record {
      has = marked-told n mark run told is best.has;
      least = λ other has.
          let also = told-of branch g other has.is_run in
          no-later branch g cmp total ascends run other told also.0 is also.1 (best.least also.0 (told-marked n mark other also.0 also.1 has));
    }

-- ---- fits

module _ {C L : Type 0} (g : Graph C L) (F : C → Type 0) (first : F g.first) (after : (c : C) (l : L) → F c → Contains (g.enabled c) l → F (g.after c l)) where
  pub run-fits : (run : Run L) → IsRun g run → F (end_of g run)
  run-fits Start is = first
  run-fits (Then run label) is = after (end_of g run) label (run-fits run is.0) is.1
