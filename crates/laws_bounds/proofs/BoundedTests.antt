-- The runs of a test case that keep a bound, by the search over live parts.
use Rattle.std.proofs.Common.{◌≡◌, ℕ, ◌<◌, List, [], ◌∷◌, Option, refl, sym, ap, subst, ◌∙◌, ◌↔◌, arith}
use Rattle.std.specs.Prelude.{Contains}
use Rattle.std.specs.declared.cmp.Ordering.{Ordering}
use Rattle.laws_bounds.proofs.Counted.{same-complete, same-counts}
use Rattle.laws_bounds.proofs.Standing.{same-marked, same-sums}
use Rattle.laws_bounds.proofs.Standings.{bounded-seen, bounded-stands, live-seen, live-stands}
use Rattle.laws_bounds.specs.BoundedParts.{CountsBounded, EndAlike, HasMarkBounded, IsBestBounded, IsBoundedReached, IsCompleteBounded, Keeps, kind_of, left_behind}
use Rattle.laws_bounds.specs.Seen.{CountsKept, IsCompleteByKept, IsKeptReached}
use Rattle.laws_bounds.specs.StandsFor.{StandsFor, of_states, with_left}
use Rattle.search_bounds.proofs.BoundedRuns.{same-ends, same-runs, what-is-left}
use Rattle.search_bounds.specs.Bounded.{bounded}
use Rattle.search_bounds.specs.declared.bound.Bound.{Bound}
use Rattle.search_bounds.specs.declared.state.Bounded.{Bounded}
use Rattle.semantics.specs.Canonical.{SeesLiveParts, canonical_graph}
use Rattle.semantics.specs.Configurations.{Configuration}
use Rattle.semantics.specs.LiveParts.{live_part}
use Rattle.semantics.specs.Runs.{graph_of}
use Rattle.semantics.specs.Snapshots.{Test}
use Rattle.semantics.specs.Steps.{Label}
use Rattle.summary.specs.Exploration.{Counts, HasMark, IsBest, IsComplete}
use Rattle.summary.specs.Graph.{Graph}
use Rattle.summary.specs.Sums.{Join, Observation, sum_of}
use Rattle.summary.specs.Run.{IsRun, Run, Then, end_of}

abbrev made : Configuration → Option ℕ → Bounded Configuration
made state left = record { state = state; left = left }

one-pair : (part : Bounded Configuration) (state : Configuration) (left : Option ℕ) → state ≡ part.state → left ≡ part.left → made state left ≡ part
one-pair part state left same as-many = λ i. made (same i) (as-many i)

module _ {A : Type 0} where
  none-in : (x : A) → Contains [] x → ⊥
  none-in x found = nothing found.0 found.1
    where
      nothing : (k : ℕ) → k < 0 → ⊥
      nothing k below = omega arith

  no-element : (xs : List A) → ((x : A) → Contains xs x → ⊥) → xs ≡ []
  no-element [] none = refl
  no-element (x ∷ xs) none = absurd (none x (0, omega arith, refl))

module _ (test : Test) (bound : Bound) where
  abbrev whole : Graph (Bounded Configuration) Label
  whole = bounded bound kind_of (graph_of test)

  abbrev shrunk : Graph (Bounded Configuration) Label
  shrunk = bounded bound kind_of (canonical_graph test)

  abbrev part-of : Bounded Configuration → Bounded Configuration
  part-of = with_left live_part

  pub shrunk-stands : StandsFor whole shrunk part-of
  shrunk-stands = bounded-stands bound kind_of (graph_of test) (canonical_graph test) live_part (live-stands test)

  -- ---- runs that keep the bound

  to-keeps : (run : Run Label) → IsRun whole run → Keeps test bound run
  to-keeps run = (same-runs bound kind_of (graph_of test) run).0

  to-run : (run : Run Label) → Keeps test bound run → IsRun whole run
  to-run run = (same-runs bound kind_of (graph_of test) run).1

  end-is : (run : Run Label) → (end_of whole run).state ≡ end_of (graph_of test) run
  end-is = same-ends bound kind_of (graph_of test)

  left-is : (run : Run Label) → (end_of whole run).left ≡ left_behind bound run
  left-is = what-is-left bound kind_of (graph_of test)

  -- ---- what is reached, and how many

  from-reached : (n : ℕ) (part : Bounded Configuration) → IsKeptReached whole part-of n part → IsBoundedReached test bound n part
  from-reached n part is = record {
    run = is.run;
    keeps = to-keeps is.run is.is_run;
    short = is.short;
    ends = ap live_part (sym (end-is is.run)) ∙ ap (λ b. b.state) is.ends;
    leaves = sym (left-is is.run) ∙ ap (λ b. b.left) is.ends;
  }

  to-reached : (n : ℕ) (part : Bounded Configuration) → IsBoundedReached test bound n part → IsKeptReached whole part-of n part
  to-reached n part is = record {
    run = is.run;
    is_run = to-run is.run is.keeps;
    short = is.short;
    ends = one-pair part (live_part (end_of whole is.run).state) (end_of whole is.run).left (ap live_part (end-is is.run) ∙ is.ends) (left-is is.run ∙ is.leaves);
  }

  from-counts : (n count : ℕ) → CountsKept whole part-of n count → CountsBounded test bound n count
  from-counts n count counts = record {
    parts = counts.parts;
    different = counts.different;
    reached = λ part found. from-reached n part (counts.reached part found);
    all = λ part is. counts.all part (to-reached n part is);
    number = counts.number;
  }

  to-counts : (n count : ℕ) → CountsBounded test bound n count → CountsKept whole part-of n count
  to-counts n count counts = record {
    parts = counts.parts;
    different = counts.different;
    reached = λ part found. to-reached n part (counts.reached part found);
    all = λ part is. counts.all part (from-reached n part is);
    number = counts.number;
  }

  pub counts-bounded : (n count : ℕ) → Counts shrunk n count ↔ CountsBounded test bound n count
  counts-bounded n count =
      let same = same-counts whole shrunk part-of shrunk-stands n count in
      (λ counts. from-counts n count (same.0 counts), λ counts. same.1 (to-counts n count counts))

  -- ---- whether longer runs reach more

  from-alike : (other run : Run Label) → part-of (end_of whole other) ≡ part-of (end_of whole run) → EndAlike test bound other run
  from-alike other run same = (
    ap live_part (sym (end-is other)) ∙ ap (λ b. b.state) same ∙ ap live_part (end-is run),
    sym (left-is other) ∙ ap (λ b. b.left) same ∙ left-is run,
  )

  to-alike : (other run : Run Label) → EndAlike test bound other run → part-of (end_of whole other) ≡ part-of (end_of whole run)
  to-alike other run alike = one-pair (part-of (end_of whole run)) (live_part (end_of whole other).state) (end_of whole other).left
      (ap live_part (end-is other) ∙ alike.0 ∙ ap live_part (sym (end-is run)))
      (left-is other ∙ alike.1 ∙ sym (left-is run))

  from-complete : (n : ℕ) → IsCompleteByKept whole part-of n → IsCompleteBounded test bound n
  from-complete n complete run keeps long first label more =
      let none : whole.enabled (end_of whole run) ≡ [] = complete run (to-run run keeps) long (λ other also short same. first other (to-keeps other also) short (from-alike other run same)) in
      none-in label (subst (λ (labels : List Label). Contains labels label) none (to-run (Then run label) more).1)

  to-complete : (n : ℕ) → IsCompleteBounded test bound n → IsCompleteByKept whole part-of n
  to-complete n complete run is long first =
      no-element (whole.enabled (end_of whole run)) (λ label found.
      complete run (to-keeps run is) long (λ other also short alike. first other (to-run other also) short (to-alike other run alike)) label (to-keeps (Then run label) (is, found)))

  pub complete-bounded : (n : ℕ) → IsComplete shrunk n ↔ IsCompleteBounded test bound n
  complete-bounded n =
      let same = same-complete whole shrunk part-of shrunk-stands n in
      (λ complete. from-complete n (same.0 complete), λ complete. same.1 (to-complete n complete))

  -- ---- marks

  from-marked : (n mark : ℕ) (run : Run Label) → HasMark whole n mark run → HasMarkBounded test bound n mark run
  from-marked n mark run has = record { keeps = to-keeps run has.is_run; short = has.short; marked = ap (graph_of test).mark (sym (end-is run)) ∙ has.marked }

  to-marked : (n mark : ℕ) (run : Run Label) → HasMarkBounded test bound n mark run → HasMark whole n mark run
  to-marked n mark run has = record { is_run = to-run run has.keeps; short = has.short; marked = ap (graph_of test).mark (end-is run) ∙ has.marked }

  pub marked-bounded : (n mark : ℕ) (run : Run Label) → HasMark shrunk n mark run ↔ HasMarkBounded test bound n mark run
  marked-bounded n mark run =
      let same = same-marked whole shrunk part-of shrunk-stands n mark run in
      (λ has. from-marked n mark run (same.0 has), λ has. same.1 (to-marked n mark run has))

  pub best-bounded : (cmp : Label → Label → Ordering) (n mark : ℕ) (run : Run Label) → IsBest shrunk cmp n mark run ↔ IsBestBounded test bound cmp n mark run
  best-bounded cmp n mark run = (
    λ best. record { has = (marked-bounded n mark run).0 best.has; least = λ other has. best.least other ((marked-bounded n mark other).1 has) },
    λ best. record { has = (marked-bounded n mark run).1 best.has; least = λ other has. best.least other ((marked-bounded n mark other).0 has) },
  )

  -- ---- sums

  pub sums-bounded : {S : Type 0} (j : Join S) (reading : Observation Configuration Label S) → SeesLiveParts reading → (n : ℕ) → sum_of shrunk j (of_states reading) n ≡ sum_of whole j (of_states reading) n
  sums-bounded j reading sees = same-sums whole shrunk part-of shrunk-stands j (of_states reading) (of_states reading) (bounded-seen live_part reading reading (live-seen reading sees))
