-- What workers did, put together.
use Rattle.std.proofs.Common.{◌≡◌, ℕ, ◌/◌, Bool, true, false, cond, List, ◌++◌, sym, refl, ap, ◌∙◌, arith}
use Rattle.std.proofs.lemmas.Grind.{flat_map-append}
use mathlib.Core.Logic.{dite}
use native.Mathlib.Decide.{dec_le}
use Rattle.std.specs.Fork.{slice_chunk}
use Rattle.summary.specs.Graph.{Graph}
use Rattle.summary.specs.Sums.{Join, IsSemilattice, Observation}
use Rattle.shared.specs.Totals.{times}
use Rattle.shared.proofs.Sums.{times-append}
use Rattle.search_layer.specs.declared.visited.Candidate.{Candidate}
use Rattle.search_layer.specs.internal.Search.{with_steps}
use Rattle.search_layer.specs.internal.Work.{in_pieces, HasPlaced}
use Rattle.search_layer.proofs.StepSums.{steps-append, steps-join}

pub neither : (a b : Bool) → cond a true b ≡ false → (a ≡ false) × (b ≡ false)
neither true b e = absurd (cc)
neither false b e = (refl, e)

pub joined-placed : {C L : Type 0} (eq : C → C → Bool) (known : List C) (cs : List (Candidate C L)) (size : ℕ) (ps qs xs ys : List ℕ)
    → HasPlaced eq known cs size ps xs → HasPlaced eq known cs size qs ys → HasPlaced eq known cs size (ps ++ qs) (xs ++ ys)
joined-placed eq known cs size ps qs xs ys h k = record {
  members = λ i.
      let placed = times-append i xs ys in
      let drawn = times-append (i / size) ps qs in (
        λ has. dite (dec_le 1 (times i xs))
            (λ one. let m = (h.members i).0 one in ((let d = m.0 in omega arith), m.1))
            (λ none. let m = (k.members i).0 (omega arith) in ((let d = m.0 in omega arith), m.1)),
        λ m. dite (dec_le 1 (times (i / size) ps))
            (λ one. let s = (h.members i).1 (one, m.1) in omega arith)
            (λ none. let s = (k.members i).1 ((let d = m.0 in omega arith), m.1) in omega arith),
      );
}

pub joined-shown : {C D L S : Type 0} (j : Join S) (r : Observation C L S) (g : Graph C L) (states : List C) (laws : IsSemilattice j) (size : ℕ) (cs : List (Candidate D L)) (ps qs : List ℕ) (s t u : S)
    → s ≡ with_steps j r g states j.none (in_pieces size cs ps) → t ≡ with_steps j r g states j.none (in_pieces size cs qs) → u ≡ j.join s t
    → u ≡ with_steps j r g states j.none (in_pieces size cs (ps ++ qs))
joined-shown j r g states laws size cs ps qs s t u a b e =
    e ∙ (λ i. j.join (a i) (b i))
    ∙ sym (steps-join j r g states laws (with_steps j r g states j.none (in_pieces size cs ps)) (in_pieces size cs qs))
    ∙ sym (steps-append j r g states j.none (in_pieces size cs ps) (in_pieces size cs qs))
    ∙ ap (with_steps j r g states j.none) (sym (flat_map-append (slice_chunk cs size) ps qs))
