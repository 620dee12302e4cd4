-- What holds of a graph that stands for another: the same runs, ends that are kept, the same marks and sums.
use Rattle.std.proofs.Common.{◌≡◌, ℕ, zero, suc, List, [], ◌∷◌, ◌++◌, map, refl, sym, ap, subst, ◌∙◌, ◌↔◌}
use Rattle.std.specs.List.{Contains, flat_map}
use Rattle.laws_bounds.specs.StandsFor.{SeesKept, StandsFor}
use Rattle.summary.specs.Exploration.{HasMark, IsBest}
use Rattle.summary.specs.Graph.{Graph}
use Rattle.summary.specs.Sums.{Join, Observation, join_all, shown, sum_of}
use Rattle.summary.specs.Run.{IsRun, Run, Start, Then, all_runs, end_of, longer, runs_of}
use Rattle.std.specs.declared.cmp.Ordering.{Ordering}

flat-alike : {A B : Type 0} (f k : A → List B) → ((a : A) → f a ≡ k a) → (xs : List A) → flat_map f xs ≡ flat_map k xs
flat-alike f k same [] = refl
flat-alike f k same (x ∷ xs) = ap (λ us. us ++ flat_map f xs) (same x) ∙ ap (λ us. k x ++ us) (flat-alike f k same xs)

map-alike : {A B : Type 0} (f k : A → B) → ((a : A) → f a ≡ k a) → (xs : List A) → map f xs ≡ map k xs
map-alike f k same [] = refl
map-alike f k same (x ∷ xs) = ap (λ y. y ∷ map f xs) (same x) ∙ ap (λ ys. k x ∷ ys) (map-alike f k same xs)

module _ {C D L : Type 0} (g : Graph C L) (h : Graph D L) (kept : C → D) (stands : StandsFor g h kept) where
  pub ends-kept : (run : Run L) → end_of h run ≡ kept (end_of g run)
  ends-kept Start = stands.first
  ends-kept (Then run label) = ap (λ d. h.after d label) (ends-kept run) ∙ stands.after (end_of g run) label

  pub enabled-alike : (run : Run L) → h.enabled (end_of h run) ≡ g.enabled (end_of g run)
  enabled-alike run = ap h.enabled (ends-kept run) ∙ stands.enabled (end_of g run)

  -- ---- runs

  runs-alike : (run : Run L) → IsRun h run ≡ IsRun g run
  runs-alike Start = refl
  runs-alike (Then run label) = ap (λ T. T × Contains (h.enabled (end_of h run)) label) (runs-alike run) ∙ ap (λ ls. IsRun g run × Contains ls label) (enabled-alike run)

  pub to-run : (run : Run L) → IsRun g run → IsRun h run
  to-run run is = subst (λ T. T) (sym (runs-alike run)) is

  pub from-run : (run : Run L) → IsRun h run → IsRun g run
  from-run run is = subst (λ T. T) (runs-alike run) is

  pub same-runs : (run : Run L) → IsRun h run ↔ IsRun g run
  same-runs run = (from-run run, to-run run)

  longer-alike : (run : Run L) → longer h run ≡ longer g run
  longer-alike run = ap (map (λ label. Then run label)) (enabled-alike run)

  runs-of-alike : (n : ℕ) → runs_of h n ≡ runs_of g n
  runs-of-alike zero = refl
  runs-of-alike (suc n) = ap (flat_map (longer h)) (runs-of-alike n) ∙ flat-alike (longer h) (longer g) longer-alike (runs_of g n)

  pub all-runs-alike : (n : ℕ) → all_runs h n ≡ all_runs g n
  all-runs-alike zero = refl
  all-runs-alike (suc n) = ap (λ rs. rs ++ runs_of h (suc n)) (all-runs-alike n) ∙ ap (λ rs. all_runs g n ++ rs) (runs-of-alike (suc n))

  -- ---- marks

  pub marks-alike : (run : Run L) → h.mark (end_of h run) ≡ g.mark (end_of g run)
  marks-alike run = ap h.mark (ends-kept run) ∙ stands.mark (end_of g run)

  from-marked : (n mark : ℕ) (run : Run L) → HasMark h n mark run → HasMark g n mark run
  from-marked n mark run has = record { is_run = from-run run has.is_run; short = has.short; marked = sym (marks-alike run) ∙ has.marked }

  to-marked : (n mark : ℕ) (run : Run L) → HasMark g n mark run → HasMark h n mark run
  to-marked n mark run has = record { is_run = to-run run has.is_run; short = has.short; marked = marks-alike run ∙ has.marked }

  pub same-marked : (n mark : ℕ) (run : Run L) → HasMark h n mark run ↔ HasMark g n mark run
  same-marked n mark run = (from-marked n mark run, to-marked n mark run)

  pub same-best : (cmp : L → L → Ordering) (n mark : ℕ) (run : Run L) → IsBest h cmp n mark run ↔ IsBest g cmp n mark run
  same-best cmp n mark run = (
    λ best. record { has = from-marked n mark run best.has; least = λ other has. best.least other (to-marked n mark other has) },
    λ best. record { has = to-marked n mark run best.has; least = λ other has. best.least other (from-marked n mark other has) },
  )

  -- ---- sums

  module _ {S : Type 0} (j : Join S) (r : Observation C L S) (q : Observation D L S) (sees : SeesKept kept r q) where
    at-end : (run : Run L) → q.at (end_of h run) ≡ r.at (end_of g run)
    at-end run = ap q.at (ends-kept run) ∙ sees.at (end_of g run)

    shown-alike : (run : Run L) → shown h j q run ≡ shown g j r run
    shown-alike Start = at-end Start
    shown-alike (Then run label) =
        ap (λ d. j.join (q.by d label) (q.at (end_of h (Then run label)))) (ends-kept run)
        ∙ ap (λ s. j.join s (q.at (end_of h (Then run label)))) (sees.by (end_of g run) label)
        ∙ ap (j.join (r.by (end_of g run) label)) (at-end (Then run label))

    pub same-sums : (n : ℕ) → sum_of h j q n ≡ sum_of g j r n
    same-sums n = ap (λ rs. join_all j (map (shown h j q) rs)) (all-runs-alike n) ∙ ap (join_all j) (map-alike (shown h j q) (shown g j r) shown-alike (all_runs g n))
