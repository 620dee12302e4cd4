-- The runs over live parts are the runs over configurations.
use Rattle.std.proofs.Common.{◌≡◌, ℕ, zero, suc, List, [], ◌∷◌, ◌++◌, map, Option, Some, None, option_map, refl, sym, ap, subst, ◌∙◌, ◌↔◌}
use Rattle.std.specs.List.{Contains, flat_map}
use Rattle.semantics.proofs.LiveTheorem.{labels_live, live_twice, mark_live, next_live}
use Rattle.semantics.specs.Canonical.{SeesLiveParts, canonical_graph}
use Rattle.semantics.specs.Configurations.{Configuration}
use Rattle.semantics.specs.LiveParts.{live_part}
use Rattle.semantics.specs.Runs.{graph_of, mark_of, option_elim}
use Rattle.semantics.specs.Snapshots.{Test}
use Rattle.semantics.specs.Steps.{Label, next}
use Rattle.summary.specs.Exploration.{HasMark, IsBest}
use Rattle.summary.specs.Graph.{Graph}
use Rattle.summary.specs.Sums.{Join, Observation, join_all, shown, sum_of}
use Rattle.summary.specs.Run.{IsRun, Run, Start, Then, all_runs, end_of, longer, runs_of}
use Rattle.std.specs.declared.cmp.Ordering.{Ordering}

module _ (test : Test) where
  abbrev g : Graph Configuration Label
  g = graph_of test

  abbrev h : Graph Configuration Label
  h = canonical_graph test

  elim-live : (c d : Configuration) (o p : Option Configuration) → live_part c ≡ live_part d → option_map live_part o ≡ option_map live_part p
      → live_part (option_elim c (λ x. x) o) ≡ live_part (option_elim d (λ x. x) p)
  elim-live c d None None same e = same
  elim-live c d (Some x) (Some y) same e = let found = e in let alike : live_part x ≡ live_part y = cc in alike
  elim-live c d None (Some y) same e = absurd (let found = e in cc)
  elim-live c d (Some x) None same e = absurd (let found = e in cc)

  after-live : (c : Configuration) (label : Label) → live_part (g.after (live_part c) label) ≡ live_part (g.after c label)
  after-live c label = elim-live (live_part c) c (next test (live_part c) label) (next test c label) (live_twice c) (next_live test c label)

  pub ends_live : (run : Run Label) → end_of h run ≡ live_part (end_of g run)
  ends_live Start = refl
  ends_live (Then run label) = ap (λ c. live_part (g.after c label)) (ends_live run) ∙ after-live (end_of g run) label

  enabled-alike : (run : Run Label) → h.enabled (end_of h run) ≡ g.enabled (end_of g run)
  enabled-alike run = ap g.enabled (ends_live run) ∙ labels_live test (end_of g run)

  pub runs_alike : (run : Run Label) → IsRun h run ≡ IsRun g run
  runs_alike Start = refl
  runs_alike (Then run label) = ap (λ T. T × Contains (h.enabled (end_of h run)) label) (runs_alike run) ∙ ap (λ ls. IsRun g run × Contains ls label) (enabled-alike run)

  longer-alike : (run : Run Label) → longer h run ≡ longer g run
  longer-alike run = ap (map (λ label. Then run label)) (enabled-alike run)

  flat-alike : {A B : Type 0} (f k : A → List B) → ((a : A) → f a ≡ k a) → (xs : List A) → flat_map f xs ≡ flat_map k xs
  flat-alike f k same [] = refl
  flat-alike f k same (x ∷ xs) = ap (λ us. us ++ flat_map f xs) (same x) ∙ ap (λ us. k x ++ us) (flat-alike f k same xs)

  runs-of-alike : (n : ℕ) → runs_of h n ≡ runs_of g n
  runs-of-alike zero = refl
  runs-of-alike (suc n) = ap (flat_map (longer h)) (runs-of-alike n) ∙ flat-alike (longer h) (longer g) longer-alike (runs_of g n)

  pub all_runs_alike : (n : ℕ) → all_runs h n ≡ all_runs g n
  all_runs_alike zero = refl
  all_runs_alike (suc n) = ap (λ rs. rs ++ runs_of h (suc n)) (all_runs_alike n) ∙ ap (λ rs. all_runs g n ++ rs) (runs-of-alike (suc n))

  pub marks-alike : (run : Run Label) → h.mark (end_of h run) ≡ g.mark (end_of g run)
  marks-alike run = ap mark_of (ends_live run) ∙ mark_live (end_of g run)

  module _ {S : Type 0} (j : Join S) (r : Observation Configuration Label S) (sees : SeesLiveParts r) where
    shown-alike : (run : Run Label) → shown h j r run ≡ shown g j r run
    shown-alike Start = sees.at g.first
    shown-alike (Then run label) =
        ap (λ c. j.join (r.by c label) (r.at (end_of h (Then run label)))) (ends_live run)
        ∙ ap (λ s. j.join s (r.at (end_of h (Then run label)))) (sees.by (end_of g run) label)
        ∙ ap (λ c. j.join (r.by (end_of g run) label) (r.at c)) (ends_live (Then run label))
        ∙ ap (j.join (r.by (end_of g run) label)) (sees.at (end_of g (Then run label)))

    map-alike : {A B : Type 0} (f k : A → B) → ((a : A) → f a ≡ k a) → (xs : List A) → map f xs ≡ map k xs
    map-alike f k same [] = refl
    map-alike f k same (x ∷ xs) = ap (λ y. y ∷ map f xs) (same x) ∙ ap (λ ys. k x ∷ ys) (map-alike f k same xs)

    pub sums_alike : (n : ℕ) → sum_of h j r n ≡ sum_of g j r n
    sums_alike n = ap (λ rs. join_all j (map (shown h j r) rs)) (all_runs_alike n) ∙ ap (join_all j) (map-alike (shown h j r) (shown g j r) shown-alike (all_runs g n))

  module _ (cmp : Label → Label → Ordering) (n mark : ℕ) (run : Run Label) where
    to-canonical : (other : Run Label) → HasMark g n mark other → HasMark h n mark other
    to-canonical other has = record { is_run = subst (λ T. T) (sym (runs_alike other)) has.is_run; short = has.short; marked = marks-alike other ∙ has.marked }

    from-canonical : (other : Run Label) → HasMark h n mark other → HasMark g n mark other
    from-canonical other has = record { is_run = subst (λ T. T) (runs_alike other) has.is_run; short = has.short; marked = sym (marks-alike other) ∙ has.marked }

    pub best_alike : IsBest h cmp n mark run ↔ IsBest g cmp n mark run
    best_alike = (
      λ best. record { has = from-canonical run best.has; least = λ other has. best.least other (to-canonical other has) },
      λ best. record { has = to-canonical run best.has; least = λ other has. best.least other (from-canonical other has) },
    )
