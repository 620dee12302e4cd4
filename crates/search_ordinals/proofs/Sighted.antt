-- What runs of ordinals show is shown by the runs that they tell.
use Rattle.std.proofs.Common.{◌≡◌, ℕ, zero, suc, ◌<◌, ◌≤◌, arith, List, [], ◌∷◌, length, get_or, Option, refl, sym, ap, subst, ◌∙◌}
use Rattle.std.proofs.lemmas.List.Elements.{All-cons, All-nil}
use Rattle.std.specs.List.{All, AllZip}
use Rattle.std.specs.Prelude.{AllPairs, Contains}
use Rattle.std.specs.Cmp.{IsTotalOrder}
use Rattle.std.specs.declared.cmp.Ordering.{Ordering}
use Rattle.std.specs.declared.cmp.Ordering.TheVariants.{Less}
use Rattle.explore.specs.Sightings.{AreSighted, HasShown, IsLeastShowing, shown_at_end, shown_by_step}
use Rattle.explore.specs.declared.sightings.Sighting.{Sighting}
use Rattle.search_ordinals.proofs.Numbers.{shown-there}
use Rattle.search_ordinals.proofs.Order.{comes-before, no-later}
use Rattle.search_ordinals.proofs.Runs.{is-run, is-told-run, run-of, same-ends, same-steps, told-of}
use Rattle.search_ordinals.specs.OrdinalOrder.{ordinal_cmp}
use Rattle.search_ordinals.specs.Ordinals.{ordinal_graph, shown_at}
use Rattle.search_ordinals.specs.Told.{IsTelling, IsTold}
use Rattle.search_ordinals.specs.internal.Sighted.{IsSightingTold}
use Rattle.search_ordinals.specs.declared.ordinal.Ordinal.{Ordinal}
use Rattle.summary.specs.Graph.{Graph}
use Rattle.summary.specs.Run.{IsRun, Run, Start, Then, end_of, labels_of}

-- ---- lists that are zipped

module _ {A B : Type 0} (R : A → B → Type 0) where
  zipped-there : (xs : List A) (ys : List B) → AllZip R xs ys → (k : ℕ) (d : B) → k < length ys → (x : A) × (k < length xs) × (get_or xs k x ≡ x) × R x (get_or ys k d)
  zipped-there [] [] all k d below = absurd (omega (arith, below))
  zipped-there [] (y ∷ ys) all k d below = absurd all
  zipped-there (x ∷ xs) [] all k d below = absurd all
  zipped-there (x ∷ xs) (y ∷ ys) all zero d below = (x, omega arith, refl, all.0)
  zipped-there (x ∷ xs) (y ∷ ys) all (suc k) d below =
      let rest = zipped-there xs ys all.1 k d (omega (arith, below)) in
      (rest.0, let low = rest.1 in omega (arith, low), rest.2, rest.3)

  -- what one list contains has its counterpart in the other one
  counterpart : (xs : List A) (ys : List B) → AllZip R xs ys → (y : B) → Contains ys y → (x : A) × Contains xs x × R x y
  counterpart xs ys all y found =
      let there = zipped-there xs ys all found.0 y found.1 in
      (there.0, (found.0, there.1, there.2), subst (R there.0) found.2 there.3)

  zipped-long : (xs : List A) (ys : List B) → AllZip R xs ys → length xs ≡ length ys
  zipped-long [] [] all = refl
  zipped-long [] (y ∷ ys) all = absurd all
  zipped-long (x ∷ xs) [] all = absurd all
  zipped-long (x ∷ xs) (y ∷ ys) all = ap suc (zipped-long xs ys all.1)

  zipped-at : (xs : List A) (ys : List B) → AllZip R xs ys → (k : ℕ) (d : A) (e : B) → k < length xs → R (get_or xs k d) (get_or ys k e)
  zipped-at [] [] all k d e below = absurd (omega (arith, below))
  zipped-at [] (y ∷ ys) all k d e below = absurd all
  zipped-at (x ∷ xs) [] all k d e below = absurd all
  zipped-at (x ∷ xs) (y ∷ ys) all zero d e below = all.0
  zipped-at (x ∷ xs) (y ∷ ys) all (suc k) d e below = zipped-at xs ys all.1 k d e (omega (arith, below))

module _ {C L B : Type 0} (branch : C → L → Option B) (g : Graph C L) where
  abbrev h : Graph C (Ordinal B)
  h = ordinal_graph branch g

  -- ---- what is shown

  pub step-shown : {E : Type 0} (event : C → L → Option E) (run : Run L) (told : Run (Ordinal B)) → IsTold branch g run told
      → shown_by_step h (λ c o. shown_at (event c) (g.enabled c) o.nth) told ≡ shown_by_step g event run
  step-shown event Start Start is = refl
  step-shown event Start (Then told o) is = absurd is
  step-shown event (Then run label) Start is = absurd is
  step-shown event (Then run label) (Then told o) is =
      ap (λ c. shown_at (event c) (g.enabled c) o.nth) (same-ends branch g run told is.0)
      ∙ shown-there (branch (end_of g run)) (event (end_of g run)) (g.enabled (end_of g run)) o.nth label is.1

  pub end-shown : {E : Type 0} (stand : C → Option E) (run : Run L) (told : Run (Ordinal B)) → IsTold branch g run told → shown_at_end h stand told ≡ shown_at_end g stand run
  end-shown stand run told is = ap stand (same-ends branch g run told is)

  module _ {E : Type 0} (n : ℕ) (shown : Run L → Option E) (by-ordinals : Run (Ordinal B) → Option E) (alike : (run : Run L) (told : Run (Ordinal B)) → IsTold branch g run told → by-ordinals told ≡ shown run) where
    has-told : (e : E) (run : Run L) (told : Run (Ordinal B)) → IsTold branch g run told → HasShown h n by-ordinals e told → HasShown g n shown e run
    has-told e run told is has = record {
      is_run = is-run branch g run told is;
      short = subst (λ (k : ℕ). k ≤ n) (same-steps branch g run told is) has.short;
      shows = sym (alike run told is) ∙ has.shows;
    }

    told-has : (e : E) (run : Run L) (told : Run (Ordinal B)) → IsTold branch g run told → HasShown g n shown e run → HasShown h n by-ordinals e told
    told-has e run told is has = record {
      is_run = is-told-run branch g run told is;
      short = subst (λ (k : ℕ). k ≤ n) (sym (same-steps branch g run told is)) has.short;
      shows = alike run told is ∙ has.shows;
    }

    -- the least run of ordinals that shows something, and its labels
    abbrev IsLeastOne : Sighting E (Ordinal B) → Run (Ordinal B) → Type 0
    IsLeastOne s run = IsLeastShowing h ordinal_cmp n by-ordinals s.event run × (s.run.items ≡ labels_of run)

    -- each sighting's ordinals tell some run
    telling : (told : List (Sighting E (Ordinal B))) (runs : List (Run (Ordinal B))) → AllZip IsLeastOne told runs → All (λ s. IsTelling branch g s.run.items) told
    telling [] [] all = All-nil (λ s. IsTelling branch g s.run.items)
    telling [] (r ∷ rs) all = absurd all
    telling (s ∷ ss) [] all = absurd all
    telling (s ∷ ss) (r ∷ rs) all =
        let found = run-of branch g r ((all.0.0).has).is_run in
        All-cons (λ s. IsTelling branch g s.run.items) s ss (found.0, r, found.1, all.0.1) (telling ss rs all.1)

    pub all-telling : (told : List (Sighting E (Ordinal B))) → AreSighted h ordinal_cmp n by-ordinals told → All (λ s. IsTelling branch g s.run.items) told
    all-telling told are = telling told are.runs are.least

    module _ (cmp : L → L → Ordering) (total : IsTotalOrder cmp) (ascends : (run : Run L) → IsRun g run → AllPairs (λ l m. cmp l m ≡ Less) (g.enabled (end_of g run))) where
      least-told : (e : E) (run : Run L) (told : Run (Ordinal B)) → IsTold branch g run told → IsLeastShowing h ordinal_cmp n by-ordinals e told → IsLeastShowing g cmp n shown e run
      least-told e run told is least = record {
        has = has-told e run told is least.has;
        least = λ other has.
            let also = told-of branch g other has.is_run in
            no-later branch g cmp total ascends run other told also.0 is also.1 (least.least also.0 (told-has e other also.0 also.1 has));
      }

      -- the least runs, which the least runs of ordinals tell
      least-runs : (told : List (Sighting E (Ordinal B))) (runs : List (Run (Ordinal B))) (sightings : List (Sighting E L)) → AllZip IsLeastOne told runs → AllZip (IsSightingTold branch g) sightings told
          → (rs : List (Run L)) × AllZip (IsTold branch g) rs runs × AllZip (λ s run. IsLeastShowing g cmp n shown s.event run × (s.run.items ≡ labels_of run)) sightings rs
      least-runs [] [] [] all same = ([], tt, tt)
      least-runs [] [] (s ∷ ss) all same = absurd same
      least-runs [] (r ∷ rs) ss all same = absurd all
      least-runs (t ∷ ts) [] ss all same = absurd all
      least-runs (t ∷ ts) (r ∷ rs) [] all same = absurd same
      least-runs (t ∷ ts) (r ∷ rs) (s ∷ ss) all same =
          let found = run-of branch g r ((all.0.0).has).is_run in
          let rest = least-runs ts rs ss all.1 same.1 in (
            found.0 ∷ rest.0,
            (found.1, rest.1),
            (
              (
                subst (λ (e : E). IsLeastShowing g cmp n shown e found.0) (sym same.0.0) (least-told t.event found.0 r found.1 all.0.0),
                same.0.1 found.0 r found.1 all.0.1,
              ),
              rest.2,
            ),
          )

      pub all-sighted : (told : List (Sighting E (Ordinal B))) (sightings : List (Sighting E L)) → AreSighted h ordinal_cmp n by-ordinals told → AllZip (IsSightingTold branch g) sightings told
          → AreSighted g cmp n shown sightings
      all-sighted told sightings are same =
          let found = least-runs told are.runs sightings are.least same in
          record {
            runs = found.0;
            ordered = λ i j d less below.
                let long = zipped-long (IsTold branch g) found.0 are.runs found.1 in
                let also = told-of branch g Start tt in
                comes-before branch g cmp total ascends (get_or found.0 i d) (get_or found.0 j d) (get_or are.runs i also.0) (get_or are.runs j also.0)
                (zipped-at (IsTold branch g) found.0 are.runs found.1 i d also.0 (omega (arith, less, below)))
                (zipped-at (IsTold branch g) found.0 are.runs found.1 j d also.0 below)
                (are.ordered i j also.0 less (omega (arith, long, below)));
            least = found.2;
            all = λ e run has.
                let also = told-of branch g run has.is_run in
                let seen = are.all e also.0 (told-has e run also.0 also.1 has) in
                let there = counterpart (IsSightingTold branch g) sightings told same seen.0 seen.1 in
                (there.0, there.1, (there.2).0 ∙ seen.2);
          }
