-- What is summed up over runs of ordinals is what is summed up over the runs that they tell.
use Rattle.std.proofs.Common.{◌≡◌, ℕ, zero, suc, ◌+◌, List, [], ◌∷◌, ◌++◌, map, Option, refl, sym, ap, subst, ◌∙◌, arith}
use Rattle.std.specs.List.{flat_map}
use Rattle.search_ordinals.proofs.Runs.{same-ends}
use Rattle.search_ordinals.specs.Ordinals.{ordinal_graph, ordinals_from}
use Rattle.search_ordinals.specs.Told.{IsNth, IsTold}
use Rattle.search_ordinals.specs.declared.ordinal.Ordinal.{Ordinal}
use Rattle.summary.specs.Graph.{Graph}
use Rattle.summary.specs.Run.{Run, Start, Then, all_runs, end_of, longer, runs_of}
use Rattle.summary.specs.Sums.{Join, Observation, join_all, shown, sum_of}

module _ {C L B S : Type 0} (branch : C → L → Option B) (g : Graph C L) (j : Join S) (r : Observation C L S) (t : Observation C (Ordinal B) S)
    (at : (c : C) → t.at c ≡ r.at c) (by : (c : C) (label : L) (o : Ordinal B) → o.branch ≡ branch c label → t.by c o ≡ r.by c label) where
  abbrev h : Graph C (Ordinal B)
  h = ordinal_graph branch g

  -- runs of ordinals, each of which tells the run at its place
  abbrev AreTold : List (Run L) → List (Run (Ordinal B)) → Type 0
  AreTold [] [] = Unit {0}
  AreTold [] (told ∷ more) = ⊥
  AreTold (run ∷ runs) [] = ⊥
  AreTold (run ∷ runs) (told ∷ more) = IsTold branch g run told × AreTold runs more

  shown-alike : (run : Run L) (told : Run (Ordinal B)) → IsTold branch g run told → shown h j t told ≡ shown g j r run
  shown-alike Start Start is = at g.first
  shown-alike Start (Then told o) is = absurd is
  shown-alike (Then run label) Start is = absurd is
  shown-alike (Then run label) (Then told o) is =
      let step : t.by (end_of h told) o ≡ r.by (end_of g run) label =
      ap (λ (c : C). t.by c o) (same-ends branch g run told is.0) ∙ by (end_of g run) label o is.2 in
      let end : t.at (end_of h (Then told o)) ≡ r.at (end_of g (Then run label)) =
      ap t.at (same-ends branch g (Then run label) (Then told o) is) ∙ at (end_of g (Then run label)) in
      λ i. j.join (step i) (end i)

  all-shown : (runs : List (Run L)) (tolds : List (Run (Ordinal B))) → AreTold runs tolds → map (shown h j t) tolds ≡ map (shown g j r) runs
  all-shown [] [] are = refl
  all-shown [] (told ∷ more) are = absurd are
  all-shown (run ∷ runs) [] are = absurd are
  all-shown (run ∷ runs) (told ∷ more) are = λ i. shown-alike run told are.0 i ∷ all-shown runs more are.1 i

  both-told : (runs also : List (Run L)) (tolds more : List (Run (Ordinal B))) → AreTold runs tolds → AreTold also more → AreTold (runs ++ also) (tolds ++ more)
  both-told [] also [] more are then = then
  both-told [] also (told ∷ tolds) more are then = absurd are
  both-told (run ∷ runs) also [] more are then = absurd are
  both-told (run ∷ runs) also (told ∷ tolds) more are then = (are.0, both-told runs also tolds more are.1 then)

  -- a run goes on by each label, and what tells it by each ordinal

  longer-told : (run : Run L) (told : Run (Ordinal B)) → IsTold branch g run told → AreTold (longer g run) (longer h told)
  longer-told run told is =
      subst (λ (c : C). AreTold (longer g run) (map (λ o. Then told o) (ordinals_from (branch c) 0 (g.enabled c)))) (sym (same-ends branch g run told is))
      (from-there 0 (g.enabled (end_of g run)) (λ k l there. subst (λ (m : ℕ). IsNth (g.enabled (end_of g run)) m l) (let e : k ≡ 0 + k = omega arith in e) there))
    where
      from-there : (n : ℕ) (ls : List L) → ((k : ℕ) (l : L) → IsNth ls k l → IsNth (g.enabled (end_of g run)) (n + k) l)
          → AreTold (map (λ l. Then run l) ls) (map (λ o. Then told o) (ordinals_from (branch (end_of g run)) n ls))
      from-there n [] there = tt
      from-there n (l ∷ ls) there = (
        (is, subst (λ (m : ℕ). IsNth (g.enabled (end_of g run)) m l) (let e : n + 0 ≡ n = omega arith in e) (there 0 l refl), refl),
        from-there (suc n) ls (λ k m found. subst (λ (p : ℕ). IsNth (g.enabled (end_of g run)) p m) (let e : n + suc k ≡ suc n + k = omega arith in e) (there (suc k) m found)),
      )

  all-longer : (runs : List (Run L)) (tolds : List (Run (Ordinal B))) → AreTold runs tolds → AreTold (flat_map (longer g) runs) (flat_map (longer h) tolds)
  all-longer [] [] are = tt
  all-longer [] (told ∷ more) are = absurd are
  all-longer (run ∷ runs) [] are = absurd are
  all-longer (run ∷ runs) (told ∷ more) are =
      both-told (longer g run) (flat_map (longer g) runs) (longer h told) (flat_map (longer h) more) (longer-told run told are.0) (all-longer runs more are.1)

  layer-told : (n : ℕ) → AreTold (runs_of g n) (runs_of h n)
  layer-told zero = (tt, tt)
  layer-told (suc n) = all-longer (runs_of g n) (runs_of h n) (layer-told n)

  runs-told : (n : ℕ) → AreTold (all_runs g n) (all_runs h n)
  runs-told zero = (tt, tt)
  runs-told (suc n) = both-told (all_runs g n) (runs_of g (suc n)) (all_runs h n) (runs_of h (suc n)) (runs-told n) (layer-told (suc n))

  pub sums-told : (n : ℕ) → sum_of h j t n ≡ sum_of g j r n
  sums-told n = ap (join_all j) (all-shown (all_runs g n) (all_runs h n) (runs-told n))
