-- Runs, and the runs of ordinals that tell them.
use Rattle.std.proofs.Common.{◌≡◌, ℕ, zero, suc, List, [], ◌∷◌, Option, refl, sym, ap, subst, ◌∙◌}
use Rattle.std.specs.Prelude.{Contains}
use Rattle.search_ordinals.specs.OrdinalLaws.{contains_from_nth, label_of, led_there, nth_from_contains, ordinal_of}
use Rattle.search_ordinals.specs.Ordinals.{led_to, ordinal_graph, ordinals_from}
use Rattle.search_ordinals.specs.Told.{IsNth, IsTold}
use Rattle.search_ordinals.specs.declared.ordinal.Ordinal.{Ordinal}
use Rattle.summary.specs.Graph.{Graph}
use Rattle.summary.specs.Run.{IsRun, Run, Start, Then, end_of, steps_of}

pub nth-one : {A : Type 0} (xs : List A) (n : ℕ) (x y : A) → IsNth xs n x → IsNth xs n y → x ≡ y
nth-one [] n x y h k = absurd h
nth-one (z ∷ zs) zero x y h k = sym h ∙ k
nth-one (z ∷ zs) (suc n) x y h k = nth-one zs n x y h k

module _ {C L B : Type 0} (branch : C → L → Option B) (g : Graph C L) where
  abbrev h : Graph C (Ordinal B)
  h = ordinal_graph branch g

  -- ---- where they end, after how many steps

  pub same-ends : (run : Run L) (told : Run (Ordinal B)) → IsTold branch g run told → end_of h told ≡ end_of g run
  same-ends Start Start is = refl
  same-ends Start (Then told o) is = absurd is
  same-ends (Then run label) Start is = absurd is
  same-ends (Then run label) (Then told o) is =
      ap (λ c. led_to g c (g.enabled c) o.nth) (same-ends run told is.0) ∙ led_there branch g (end_of g run) (g.enabled (end_of g run)) o.nth label is.1

  pub same-steps : (run : Run L) (told : Run (Ordinal B)) → IsTold branch g run told → steps_of told ≡ steps_of run
  same-steps Start Start is = refl
  same-steps Start (Then told o) is = absurd is
  same-steps (Then run label) Start is = absurd is
  same-steps (Then run label) (Then told o) is = ap suc (same-steps run told is.0)

  -- ---- both are runs

  pub is-run : (run : Run L) (told : Run (Ordinal B)) → IsTold branch g run told → IsRun g run
  is-run Start Start is = tt
  is-run Start (Then told o) is = absurd is
  is-run (Then run label) Start is = absurd is
  is-run (Then run label) (Then told o) is = (is-run run told is.0, contains_from_nth (g.enabled (end_of g run)) o.nth label is.1)

  pub is-told-run : (run : Run L) (told : Run (Ordinal B)) → IsTold branch g run told → IsRun h told
  is-told-run Start Start is = tt
  is-told-run Start (Then told o) is = absurd is
  is-told-run (Then run label) Start is = absurd is
  is-told-run (Then run label) (Then told o) is = (
    is-told-run run told is.0,
    subst (λ (c : C). Contains (ordinals_from (branch c) 0 (g.enabled c)) o) (sym (same-ends run told is.0)) (ordinal_of (branch (end_of g run)) (g.enabled (end_of g run)) o label is.1 is.2),
  )

  -- ---- each run is told, and each run of ordinals tells one

  pub told-of : (run : Run L) → IsRun g run → (told : Run (Ordinal B)) × IsTold branch g run told
  told-of Start is = (Start, tt)
  told-of (Then run label) is =
      let before = told-of run is.0 in
      let at = nth_from_contains (g.enabled (end_of g run)) label is.1 in
      (Then before.0 (record { nth = at.0; branch = branch (end_of g run) label }), (before.1, at.1, refl))

  pub run-of : (told : Run (Ordinal B)) → IsRun h told → (run : Run L) × IsTold branch g run told
  run-of Start is = (Start, tt)
  run-of (Then told o) is =
      let before = run-of told is.0 in
      let there : Contains (ordinals_from (branch (end_of g before.0)) 0 (g.enabled (end_of g before.0))) o =
      subst (λ (c : C). Contains (ordinals_from (branch c) 0 (g.enabled c)) o) (same-ends before.0 told before.1) is.1 in
      let found = label_of (branch (end_of g before.0)) (g.enabled (end_of g before.0)) o there in
      (Then before.0 found.0, (before.1, found.1, found.2))

  pub one-run : (run other : Run L) (told : Run (Ordinal B)) → IsTold branch g run told → IsTold branch g other told → run ≡ other
  one-run Start Start told is also = refl
  one-run Start (Then other m) Start is also = absurd also
  one-run Start (Then other m) (Then told o) is also = absurd is
  one-run (Then run l) Start Start is also = absurd is
  one-run (Then run l) Start (Then told o) is also = absurd also
  one-run (Then run l) (Then other m) Start is also = absurd is
  one-run (Then run l) (Then other m) (Then told o) is also =
      let before = one-run run other told is.0 also.0 in
      let there : IsNth (g.enabled (end_of g run)) o.nth m = subst (λ (r : Run L). IsNth (g.enabled (end_of g r)) o.nth m) (sym before) also.1 in
      λ i. Then (before i) (nth-one (g.enabled (end_of g run)) o.nth l m is.1 there i)
