-- The runs of a bounded graph are those that keep the bound.
use Rattle.std.proofs.Common.{◌≡◌, ℕ, ◌-◌, List, Option, option_map, refl, sym, ap, subst, ◌∙◌}
use Rattle.std.specs.Prelude.{◌↔◌, Contains}
use Rattle.search_bounds.proofs.Kept.{enabled-before, few-before, few-behind, few-enough, few-first, few-here, left-first, left-step, may-be-taken, none-waits}
use Rattle.search_bounds.specs.Bounded.{allowed, bounded, left_after}
use Rattle.search_bounds.specs.KeptRuns.{KeepsBound, expiries_of}
use Rattle.search_bounds.specs.declared.bound.Bound.{Bound}
use Rattle.search_bounds.specs.declared.kind.Kind.{Kind}
use Rattle.search_bounds.specs.declared.state.Bounded.{Bounded}
use Rattle.summary.specs.Graph.{Graph}
use Rattle.summary.specs.Run.{Run, Start, Then, IsRun, end_of}

module _ {C L : Type 0} (bound : Bound) (kind_of : L → Kind) (g : Graph C L) where
  abbrev h : Graph (Bounded C) L
  h = bounded bound kind_of g

  -- ---- where runs end, and what is left there

  pub same-ends : (run : Run L) → (end_of h run).state ≡ end_of g run
  same-ends Start = refl
  same-ends (Then run label) = ap (λ c. g.after c label) (same-ends run)

  -- what so many expiries leave
  abbrev behind : ℕ → Option ℕ
  behind n = option_map (λ most. most - n) bound.expiries

  pub what-is-left : (run : Run L) → (end_of h run).left ≡ behind (expiries_of kind_of run)
  what-is-left Start = left-first bound.expiries
  what-is-left (Then run label) = ap (left_after (kind_of label)) (what-is-left run) ∙ left-step (kind_of label) bound.expiries (expiries_of kind_of run)

  -- ---- what is enabled

  abbrev left-open : Run L → List L
  left-open run = allowed bound.patient kind_of (behind (expiries_of kind_of run)) (g.enabled (end_of g run))

  pub enabled-there : (run : Run L) → h.enabled (end_of h run) ≡ left-open run
  enabled-there run =
      ap (λ c. allowed bound.patient kind_of (end_of h run).left (g.enabled c)) (same-ends run)
      ∙ ap (λ left. allowed bound.patient kind_of left (g.enabled (end_of g run))) (what-is-left run)

  -- ---- runs

  keeps : (run : Run L) → IsRun h run → KeepsBound bound kind_of g run
  keeps Start is = record { is_run = tt; few = few-first bound.expiries; patient = λ p. tt }
  keeps (Then run label) is =
      let before = keeps run is.0 in
      let here : Contains (left-open run) label = subst (λ (labels : List L). Contains labels label) (enabled-there run) is.1 in
      record {
        is_run = (before.is_run, enabled-before kind_of (g.enabled (end_of g run)) bound.patient bound.expiries (expiries_of kind_of run) label here);
        few = few-behind (kind_of label) bound.expiries (expiries_of kind_of run) before.few
            (few-enough kind_of (g.enabled (end_of g run)) bound.patient bound.expiries (expiries_of kind_of run) label here);
        patient = λ p. (before.patient p, none-waits kind_of (g.enabled (end_of g run)) bound.patient bound.expiries (expiries_of kind_of run) label here p);
      }

  is-kept : (run : Run L) → KeepsBound bound kind_of g run → IsRun h run
  is-kept Start keep = tt
  is-kept (Then run label) keep =
      let before : KeepsBound bound kind_of g run = record {
        is_run = (keep.is_run).0;
        few = few-before (kind_of label) bound.expiries (expiries_of kind_of run) keep.few;
        patient = λ p. (keep.patient p).0;
      } in
      let here : Contains (left-open run) label = may-be-taken kind_of (g.enabled (end_of g run)) bound.patient bound.expiries (expiries_of kind_of run) label
      (keep.is_run).1 (few-here (kind_of label) bound.expiries (expiries_of kind_of run) keep.few) (λ p. (keep.patient p).1) in
      (is-kept run before, subst (λ (labels : List L). Contains labels label) (sym (enabled-there run)) here)

  pub same-runs : (run : Run L) → IsRun h run ↔ KeepsBound bound kind_of g run
  same-runs run = (keeps run, is-kept run)
