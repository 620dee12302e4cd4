-- Cells and the lists that they begin.
use Rattle.std.proofs.Common.{◌≡◌, refl, sym, ap, subst, ◌∙◌, ℕ, zero, suc, ◌+◌, ◌-◌, ◌<◌, ◌≤◌, Bool, true, false, true≢false, ◌&&◌, ◌||◌, List, [], ◌∷◌, ◌++◌, length, get_or, slice_get, fold, nat_eq, Option, Some, None, is_some, arith, inl, inr, if◌then◌else◌}
use Rattle.std.specs.Prelude.{◌⊎◌, Result, Ok, Err, IfOk, OnErr}
use Rattle.std.specs.List.{IsDistinct, list_any}
use Rattle.std.proofs.lemmas.List.{append-nil, append_assoc, get_or_append_left, get_or_push, length-append}
use Rattle.std.proofs.lemmas.List.Sums.{fold-append}
use Rattle.std.proofs.lemmas.Bool.{eq-eqb, eqb-true}
use Rattle.std.proofs.lemmas.Option.{slice_get_within}
use Rattle.indexmap.specs.IndexSet.{insert_key}
use Rattle.graph_numbers.specs.Lists.{AreDifferent, Extends, HaveRests, IsPut, lists_of, with_cell}
use Rattle.graph_numbers.specs.declared.lists.Cell.{Cell}
use Rattle.graph_numbers.proofs.OnePlace.{one-place}

some-is : {X : Type 0} {a b : X} → ◌≡◌ {A = Option X} (Some a) (Some b) → a ≡ b
some-is {a = a} h = ap (λ o. elim o as (λ _. _) [ None ↦ a | Some x ↦ x ]) h

or-true : (b : Bool) → (b || true) ≡ true
or-true true = refl
or-true false = refl

module _ {I : Type 0} where
  -- ---- lists

  extends : (lists : List (List I)) (cells : List (Cell I)) → Extends lists (fold with_cell lists cells)
  extends lists [] = ([], sym (append-nil lists))
  extends lists (c ∷ cs) =
      let more = extends (with_cell lists c) cs in
      ((c.item ∷ get_or lists c.rest []) ∷ more.0, more.1 ∙ append_assoc lists ((c.item ∷ get_or lists c.rest []) ∷ []) more.0)

  kept : (old new : List (List I)) → Extends old new → (p : ℕ) → p < length old → get_or new p [] ≡ get_or old p []
  kept old new grown p below = ap (λ lists. get_or lists p []) grown.1 ∙ get_or_append_left old grown.0 [] p below

  one_more : (lists : List (List I)) (c : Cell I) → length (with_cell lists c) ≡ length lists + 1
  one_more lists c = length-append lists ((c.item ∷ get_or lists c.rest []) ∷ [])

  count : (lists : List (List I)) (cells : List (Cell I)) → length (fold with_cell lists cells) ≡ length lists + length cells
  count lists [] = omega arith
  count lists (c ∷ cs) = let rest = count (with_cell lists c) cs in let one = one_more lists c in omega (arith, rest, one)

  pub count-lists : (cells : List (Cell I)) → length cells + 1 ≡ length (lists_of cells)
  count-lists cells = let all = count ([] ∷ []) cells in omega (arith, all)

  stands : (lists : List (List I)) (cells : List (Cell I)) (i : ℕ) (cell : Cell I) → slice_get cells i ≡ Some cell → cell.rest < length lists + i
      → get_or (fold with_cell lists cells) (length lists + i) [] ≡ cell.item ∷ get_or (fold with_cell lists cells) cell.rest []
  stands lists [] i cell h below = absurd (true≢false (sym (ap is_some h)))
  stands lists (c ∷ cs) zero cell h below =
      let whole = fold with_cell (with_cell lists c) cs in
      let grown = extends (with_cell lists c) cs in
      let one = one_more lists c in
      let low : c.rest < length lists = subst (λ x. x.rest < length lists) (sym (some-is h)) (omega (arith, below)) in
      let there : get_or whole (length lists + 0) [] ≡ c.item ∷ get_or lists c.rest [] =
      kept (with_cell lists c) whole grown (length lists + 0) (omega (arith, one))
      ∙ get_or_push lists (c.item ∷ get_or lists c.rest []) [] (length lists + 0) (omega arith) in
      let rest : get_or whole c.rest [] ≡ get_or lists c.rest [] =
      kept (with_cell lists c) whole grown c.rest (omega (arith, one, low))
      ∙ get_or_append_left lists ((c.item ∷ get_or lists c.rest []) ∷ []) [] c.rest low in
      subst (λ x. get_or whole (length lists + 0) [] ≡ x.item ∷ get_or whole x.rest []) (some-is h) (there ∙ ap (λ l. c.item ∷ l) (sym rest))
  stands lists (c ∷ cs) (suc i) cell h below =
      let one = one_more lists c in
      let found = stands (with_cell lists c) cs i cell h (omega (arith, below, one)) in
      let at : length (with_cell lists c) + i ≡ length lists + suc i = omega (arith, one) in
      subst (λ n. get_or (fold with_cell (with_cell lists c) cs) n [] ≡ cell.item ∷ get_or (fold with_cell (with_cell lists c) cs) cell.rest []) at found

  pub stands-there : (cells : List (Cell I)) → HaveRests cells → (i : ℕ) (cell : Cell I) → slice_get cells i ≡ Some cell
      → get_or (lists_of cells) (i + 1) [] ≡ cell.item ∷ get_or (lists_of cells) cell.rest []
  stands-there cells rests i cell h =
      let low = rests i cell h in
      let at : 1 + i ≡ i + 1 = omega arith in
      subst (λ n. get_or (lists_of cells) n [] ≡ cell.item ∷ get_or (lists_of cells) cell.rest []) at (stands ([] ∷ []) cells i cell h (omega (arith, low)))

  pub empty-there : (cells : List (Cell I)) → get_or (lists_of cells) 0 [] ≡ []
  empty-there cells = kept ([] ∷ []) (lists_of cells) (extends ([] ∷ []) cells) 0 (omega arith)

  -- what a position says: by its cell, where there is one
  pub at-cell : (cells : List (Cell I)) → HaveRests cells → (at : ℕ) → (at ≡ 0 → ⊥) → (cell : Cell I) → slice_get cells (at - 1) ≡ Some cell
      → get_or (lists_of cells) at [] ≡ cell.item ∷ get_or (lists_of cells) cell.rest []
  at-cell cells rests at some cell h =
      let is : at - 1 + 1 ≡ at = omega (arith, some) in
      subst (λ n. get_or (lists_of cells) n [] ≡ cell.item ∷ get_or (lists_of cells) cell.rest []) is (stands-there cells rests (at - 1) cell h)

  pub has-cell : (cells : List (Cell I)) (at : ℕ) → (at ≡ 0 → ⊥) → at < length (lists_of cells) → at - 1 < length cells
  has-cell cells at some below = let all = count-lists cells in omega (arith, some, below, all)

  pub before : (cells : List (Cell I)) → HaveRests cells → (at : ℕ) → (at ≡ 0 → ⊥) → (cell : Cell I) → slice_get cells (at - 1) ≡ Some cell → cell.rest < at
  before cells rests at some cell h = let low = rests (at - 1) cell h in omega (arith, some, low)

  -- ---- one more cell

  at_end : (cells : List (Cell I)) (c : Cell I) (i : ℕ) (cell : Cell I) → slice_get (cells ++ c ∷ []) i ≡ Some cell
      → (slice_get cells i ≡ Some cell) ⊎ ((i ≡ length cells) × (c ≡ cell))
  at_end [] c zero cell h = inr (refl, some-is h)
  at_end [] c (suc i) cell h = absurd (true≢false (sym (ap is_some h)))
  at_end (x ∷ xs) c zero cell h = inl h
  at_end (x ∷ xs) c (suc i) cell h = elim (at_end xs c i cell h) as (λ _. (slice_get xs i ≡ Some cell) ⊎ ((suc i ≡ suc (length xs)) × (c ≡ cell)))
      [ inl there ↦ inl there | inr end ↦ inr (ap suc end.0, end.1) ]

  pushed : (cells : List (Cell I)) (c : Cell I) → HaveRests cells → c.rest ≤ length cells → HaveRests (cells ++ c ∷ [])
  pushed cells c rests low i cell h = elim (at_end cells c i cell h) as (λ _. cell.rest ≤ i) [
    | inl there ↦ rests i cell there
    | inr end ↦ let same = end.0 in let is = ap (λ x. x.rest) end.1 in omega (arith, low, same, is)
  ]

  module _ (eq : Cell I → Cell I → Bool) where
    pub inserted : (cells : List (Cell I)) (c : Cell I) → HaveRests cells → c.rest ≤ length cells → HaveRests (insert_key eq cells c)
    inserted cells c rests low = by (list_any (eq c) cells)
      where
        by : (b : Bool) → HaveRests (if b then cells else (cells ++ c ∷ []))
        by true = rests
        by false = pushed cells c rests low

    grown : (cells : List (Cell I)) (c : Cell I) → Extends (lists_of cells) (lists_of (insert_key eq cells c))
    grown cells c = by (list_any (eq c) cells)
      where
        by : (b : Bool) → Extends (lists_of cells) (lists_of (if b then cells else (cells ++ c ∷ [])))
        by true = ([], sym (append-nil (lists_of cells)))
        by false = ((c.item ∷ get_or (lists_of cells) c.rest []) ∷ [], fold-append with_cell ([] ∷ []) cells (c ∷ []))

    any-at : ((c : Cell I) → eq c c ≡ true) → (cells : List (Cell I)) (c cell : Cell I) (i : ℕ) → slice_get cells i ≡ Some cell → c ≡ cell → list_any (eq c) cells ≡ true
    any-at itself [] c cell i h same = absurd (true≢false (sym (ap is_some h)))
    any-at itself (x ∷ xs) c cell zero h same = ap (λ y. eq c y || list_any (eq c) xs) (some-is h ∙ sym same) ∙ ap (λ b. b || list_any (eq c) xs) (itself c)
    any-at itself (x ∷ xs) c cell (suc i) h same = ap (λ b. eq c x || b) (any-at itself xs c cell i h same) ∙ or-true (eq c x)

    alone : ((c : Cell I) → eq c c ≡ true) → (cells new : List (Cell I)) (c cell : Cell I) (i : ℕ) → new ≡ insert_key eq cells c → slice_get new i ≡ Some cell → c ≡ cell
        → (p : ℕ) → length (lists_of cells) ≤ p → p < length (lists_of new) → p ≡ i + 1
    alone itself cells new c cell i is h same p from below = by (list_any (eq c) cells) refl is
      where
        by : (b : Bool) → list_any (eq c) cells ≡ b → new ≡ (if b then cells else (cells ++ c ∷ [])) → p ≡ i + 1
        by true any new_is = let all = ap (λ cs. length (lists_of cs)) new_is in absurd (omega (arith, from, below, all))
        by false any new_is = elim (at_end cells c i cell (subst (λ cs. slice_get cs i ≡ Some cell) new_is h)) as (λ _. p ≡ i + 1) [
          | inl there ↦ absurd (true≢false (sym (any-at itself cells c cell i there same) ∙ any))
          | inr end ↦
              let at = end.0 in
              let one = ap length new_is ∙ length-append cells (c ∷ []) in
              let old = count-lists cells in
              let more = count-lists new in
              omega (arith, from, below, at, one, old, more)
        ]

    pub is-put : ((c : Cell I) → eq c c ≡ true) → (cells new : List (Cell I)) (c cell : Cell I) (i : ℕ) → new ≡ insert_key eq cells c → HaveRests new → c.rest < length (lists_of cells)
        → slice_get new i ≡ Some cell → c ≡ cell → IsPut (lists_of cells) (lists_of new) (i + 1) c.item c.rest
    is-put itself cells new c cell i is rests low h same =
        let more : Extends (lists_of cells) (lists_of new) = subst (λ x. Extends (lists_of cells) (lists_of x)) (sym is) (grown cells c) in
        let inside = slice_get_within new i cell h in
        let all = count-lists new in
        let there : get_or (lists_of new) (i + 1) [] ≡ c.item ∷ get_or (lists_of new) c.rest [] =
        subst (λ x. get_or (lists_of new) (i + 1) [] ≡ x.item ∷ get_or (lists_of new) x.rest []) (sym same) (stands-there new rests i cell h) in
        record {
          extended = more;
          within = omega (arith, inside, all);
          stands = there ∙ ap (λ l. c.item ∷ l) (kept (lists_of cells) (lists_of new) more c.rest low);
          alone = alone itself cells new c cell i is h same;
        }

  -- ---- no list has two positions

  some-at : (cells : List (Cell I)) (i : ℕ) → i < length cells → (c : Cell I) × (slice_get cells i ≡ Some c)
  some-at [] i h = absurd (omega (arith, h))
  some-at (c ∷ cs) zero h = (c, refl)
  some-at (c ∷ cs) (suc i) h = some-at cs i (omega (arith, h))

  head-is : {a b : I} {xs ys : List I} → a ∷ xs ≡ b ∷ ys → a ≡ b
  head-is {a = a} h = ap (λ l. elim l as (λ _. I) [ [] ↦ a | x ∷ xs ↦ x ]) h

  tail-is : {a b : I} {xs ys : List I} → a ∷ xs ≡ b ∷ ys → xs ≡ ys
  tail-is {xs = xs} h = ap (λ l. elim l as (λ _. List I) [ [] ↦ xs | x ∷ rest ↦ rest ]) h

  not-empty : {a : I} {xs : List I} → [] ≡ a ∷ xs → ⊥
  not-empty h = let none = ap length h in omega (arith, none)

  module _ (eq : Cell I → Cell I → Bool) (itself : (c : Cell I) → eq c c ≡ true) where
    at-suc : (cells : List (Cell I)) → HaveRests cells → (i : ℕ) (cell : Cell I) → slice_get cells i ≡ Some cell
        → get_or (lists_of cells) (suc i) [] ≡ cell.item ∷ get_or (lists_of cells) cell.rest []
    at-suc cells rests i cell h =
        let at : i + 1 ≡ suc i = omega arith in
        subst (λ n. get_or (lists_of cells) n [] ≡ cell.item ∷ get_or (lists_of cells) cell.rest []) at (stands-there cells rests i cell h)

    differ-below : (cells : List (Cell I)) → HaveRests cells → IsDistinct eq cells → (n p q : ℕ) → p < n → p < length cells + 1 → q < length cells + 1
        → get_or (lists_of cells) p [] ≡ get_or (lists_of cells) q [] → p ≡ q
    differ-below cells rests apart zero p q few inside there same = absurd (omega (arith, few))
    differ-below cells rests apart (suc n) zero zero few inside there same = refl
    differ-below cells rests apart (suc n) zero (suc j) few inside there same =
        let d = some-at cells j (omega (arith, there)) in
        absurd (not-empty (sym (empty-there cells) ∙ same ∙ at-suc cells rests j d.0 d.1))
    differ-below cells rests apart (suc n) (suc i) zero few inside there same =
        let c = some-at cells i (omega (arith, inside)) in
        absurd (not-empty (sym (empty-there cells) ∙ sym same ∙ at-suc cells rests i c.0 c.1))
    differ-below cells rests apart (suc n) (suc i) (suc j) few inside there same =
        let c = some-at cells i (omega (arith, inside)) in
        let d = some-at cells j (omega (arith, there)) in
        let lists = sym (at-suc cells rests i c.0 c.1) ∙ same ∙ at-suc cells rests j d.0 d.1 in
        let below = rests i c.0 c.1 in
        let before = rests j d.0 d.1 in
        let rest = differ-below cells rests apart n c.0.rest d.0.rest (omega (arith, below, few)) (omega (arith, below, inside)) (omega (arith, before, there)) (tail-is lists) in
        let one : c.0 ≡ d.0 = λ k. record { item = head-is lists k; rest = rest k } in
        ap suc (one-place eq itself cells apart i j c.0 c.1 (d.1 ∙ ap Some (sym one)))

    pub differ : (cells : List (Cell I)) → HaveRests cells → IsDistinct eq cells → AreDifferent (lists_of cells)
    differ cells rests apart p q inside there same =
        let all = count-lists cells in
        differ-below cells rests apart (suc p) p q (omega arith) (omega (arith, inside, all)) (omega (arith, there, all)) same

module _ {I E : Type 0} (eq : Cell I → Cell I → Bool) where
  -- after an `insert_full`, which may be refused
  pub rests-after : (old new : List (Cell I)) (c : Cell I) (result : Result (ℕ × Bool) E) → HaveRests old → c.rest < length (lists_of old)
      → IfOk result (λ _. new ≡ insert_key eq old c) → OnErr result (new ≡ old) → HaveRests new
  rests-after old new c (Ok r) rests low is same =
      let all = count-lists old in
      subst HaveRests (sym is) (inserted eq old c rests (omega (arith, low, all)))
  rests-after old new c (Err e) rests low is same = subst HaveRests (sym same) rests

-- a cell is equal to itself
pub cell-itself : {I : Type 0} (eq : I → I → Bool) → ((a : I) → eq a a ≡ true) → (c : Cell I) → (eq c.item c.item && nat_eq c.rest c.rest) ≡ true
cell-itself eq itself c = ap (λ b. b && nat_eq c.rest c.rest) (itself c.item) ∙ eq-eqb c.rest c.rest refl

-- equal cells are one
pub cell-is : {I : Type 0} (eq : I → I → Bool) → ((a b : I) → eq a b ≡ true → a ≡ b) → (a b : Cell I)
    → (eq a.item b.item && nat_eq a.rest b.rest) ≡ true → a ≡ b
cell-is eq exact a b h = by (eq a.item b.item) refl h
  where
    by : (x : Bool) → eq a.item b.item ≡ x → (x && nat_eq a.rest b.rest) ≡ true → a ≡ b
    by true is same = λ k. record { item = exact a.item b.item is k; rest = eqb-true a.rest b.rest same k }
    by false is same = absurd (true≢false (sym same))
