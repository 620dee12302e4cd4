-- Which positions are placed, from one candidate to all pieces.
use Rattle.std.proofs.Common.{◌≡◌, ℕ, ◌+◌, ◌*◌, ◌/◌, ◌<◌, ◌≤◌, Bool, true, false, List, [], ◌∷◌, ◌++◌, length, get_or, sym, refl, ap, subst, ◌∙◌, inl, inr, arith}
use Rattle.std.specs.Prelude.{slice_get, Some}
use Rattle.std.specs.List.{list_any}
use Rattle.std.proofs.lemmas.Option.{slice_get_read, slice_get_within}
use Rattle.std.proofs.Math.Nat.{add-mul}
use Rattle.std.proofs.lemmas.Nat.{le-div, div_below, div-add-mod', mod_below}
use mathlib.Core.Logic.{dite}
use native.Mathlib.Decide.{ℕ_discrete, dec_le}
use Rattle.shared.specs.Totals.{Stands}
use Rattle.shared.proofs.Sums.{times-append, times-push-hit, times-push-miss}
use Rattle.search_layer.specs.declared.visited.Candidate.{Candidate}
use Rattle.search_layer.specs.internal.Work.{IsNew, AddsNew, HasPlaced}

-- the positions of a piece
pub of-piece : (i size piece : ℕ) → 0 < size → piece * size ≤ i → i < piece * size + size → piece ≡ i / size
of-piece i size piece some low high =
    let up : i < (piece + 1) * size = (let e = add-mul piece 1 size in omega arith) in
    let a = le-div piece i size some low in let b = div_below i size (piece + 1) some up in omega arith

pub in-piece : (i size piece : ℕ) → 0 < size → piece ≡ i / size → (piece * size ≤ i) × (i < piece * size + size)
in-piece i size piece some e =
    let whole = div-add-mod' i size in let rest = mod_below i size some in let m : piece * size ≡ i / size * size = ap (λ k. k * size) e in (omega arith, omega arith)

module _ {C L : Type 0} (eq : C → C → Bool) (known : List C) (cs : List (Candidate C L)) where
  -- a position that has a new candidate is placed
  pub one-placed : (at : ℕ) (c : Candidate C L) (old new : List ℕ) → at < length cs → c ≡ get_or cs at c → list_any (eq c.state) known ≡ false → new ≡ old ++ at ∷ []
      → AddsNew eq known cs at (at + 1) old new
  one-placed at c old new low is fresh e = record {
    members = λ i. (
      λ has. dite (ℕ_discrete i at)
          (λ here. inr (omega arith, omega arith, subst (IsNew eq known cs) (sym here) (c, slice_get_read cs (length cs) at c refl low is, fresh)))
          (λ other. inl (let had = subst (λ ps. Stands i ps) e has in let miss = times-push-miss i at old (λ k. other (sym k)) in omega arith)),
      λ had. subst (λ ps. Stands i ps) (sym e) (let both = times-append i old (at ∷ []) in elim had [
        | inl before ↦ omega arith
        | inr here ↦ let a : at ≡ i = (let l = here.0 in let h = here.1 in omega arith) in let hit = times-push-hit i at old a in omega arith
      ]),
    );
  }

  -- one that has a known state is not
  pub none-placed : (at : ℕ) (c : Candidate C L) (old : List ℕ) → at < length cs → c ≡ get_or cs at c → list_any (eq c.state) known ≡ true
      → AddsNew eq known cs at (at + 1) old old
  none-placed at c old low is found = record {
    members = λ i. (
      λ had. inl had,
      λ had. elim had [
        | inl before ↦ before
        | inr here ↦ absurd (
            let a : i ≡ at = (let l = here.0 in let h = here.1 in omega arith) in
            let there : slice_get cs at ≡ Some here.2.0 = ap (slice_get cs) (sym a) ∙ here.2.1 in
            let same : Some c ≡ Some here.2.0 = sym (slice_get_read cs (length cs) at c refl low is) ∙ there in
            let e : c ≡ here.2.0 = (cc) in
            let f : false ≡ true = sym here.2.2 ∙ ap (λ (d : Candidate C L). list_any (eq d.state) known) (sym e) ∙ found in cc)
      ],
    );
  }

  pub then-placed : (from at to : ℕ) (old mid new : List ℕ) → from ≤ at → at ≤ to → AddsNew eq known cs from at old mid → AddsNew eq known cs at to mid new → AddsNew eq known cs from to old new
  then-placed from at to old mid new low high a b = record {
    members = λ i. (
      λ has. elim ((b.members i).0 has) [
        | inl before ↦ elim ((a.members i).0 before) [
          | inl had ↦ inl had
          | inr here ↦ inr (here.0, (let h = here.1 in omega arith), here.2)
        ]
        | inr here ↦ inr ((let l = here.0 in omega arith), here.1, here.2)
      ],
      λ had. elim had [
        | inl before ↦ (b.members i).1 (inl ((a.members i).1 (inl before)))
        | inr here ↦ dite (dec_le at i)
            (λ late. (b.members i).1 (inr (late, here.1, here.2)))
            (λ early. (b.members i).1 (inl ((a.members i).1 (inr (here.0, omega arith, here.2)))))
      ],
    );
  }

  -- beyond the last candidate there is nothing to place
  pub placed-further : (from at to : ℕ) (old new : List ℕ) → length cs ≤ at → at ≤ to → AddsNew eq known cs from at old new → AddsNew eq known cs from to old new
  placed-further from at to old new end le a = record {
    members = λ i. (
      λ has. elim ((a.members i).0 has) [
        | inl had ↦ inl had
        | inr here ↦ inr (here.0, (let h = here.1 in omega arith), here.2)
      ],
      λ had. elim had [
        | inl before ↦ (a.members i).1 (inl before)
        | inr here ↦ (a.members i).1 (inr (here.0, (let w = slice_get_within cs i here.2.0 here.2.1 in omega arith), here.2))
      ],
    );
  }

  -- one piece more
  pub piece-placed : (size piece : ℕ) (pieces old new : List ℕ) → 0 < size → HasPlaced eq known cs size pieces old → AddsNew eq known cs (piece * size) (piece * size + size) old new
      → HasPlaced eq known cs size (pieces ++ piece ∷ []) new
  piece-placed size piece pieces old new some h a = record {
    members = λ i. (
      λ has. elim ((a.members i).0 has) [
        | inl had ↦ let k = (h.members i).0 had in ((let both = times-append (i / size) pieces (piece ∷ []) in let s = k.0 in omega arith), k.1)
        | inr here ↦ ((let e = of-piece i size piece some here.0 here.1 in let hit = times-push-hit (i / size) piece pieces e in omega arith), here.2)
      ],
      λ k. dite (ℕ_discrete piece (i / size))
          (λ here. let at = in-piece i size piece some here in (a.members i).1 (inr (at.0, at.1, k.1)))
          (λ other. let miss = times-push-miss (i / size) piece pieces other in (a.members i).1 (inl ((h.members i).1 ((let s = k.0 in omega arith), k.1)))),
    );
  }
