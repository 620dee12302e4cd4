-- Positions that are marked, one by one, and gathered in ascending order.
use Rattle.std.proofs.Common.{◌≡◌, ℕ, zero, suc, ◌+◌, ◌-◌, ◌<◌, ◌≤◌, ◌⊎◌, ◌↔◌, Bool, true, false, cond, ◌==◌, List, [], ◌∷◌, ◌++◌, length, set, slice_index, slice_index_or, sym, refl, ap, subst, ◌∙◌, ⊎_elim, inl, inr, lt_of_not-le, eq-eqb, arith}
use Rattle.std.proofs.lemmas.List.{get_or-set_same, get_or-set_other, length-set}
use Rattle.std.proofs.lemmas.List.Sums.{sum_by-cons}
use Rattle.std.specs.List.Sorted.{IsStrictlyIncreasing}
use mathlib.Core.Option.{some, some-injective, some-ne-none}
use mathlib.Core.Logic.{dite}
use native.Mathlib.Decide.{dec_le, ℕ_discrete}
use lib.ListN.{get_elem?}
use Rattle.shared.specs.Totals.{times, Stands}
use Rattle.shared.proofs.Sums.{times-push-hit, times-push-miss}

pub index-at : (ws : List ℕ) (a n : ℕ) → get_elem? ws a ≡ some n → slice_index ws a ≡ n
index-at [] a n e = absurd (some-ne-none n (sym e))
index-at (w ∷ ws) zero n e = some-injective w n e
index-at (w ∷ ws) (suc a) n e = index-at ws a n e

-- one more mark
pub mark-cases : (marks : List Bool) (i j : ℕ) → slice_index_or (set marks i true) j false ≡ true → (j ≡ i) ⊎ (slice_index_or marks j false ≡ true)
mark-cases marks i j e = dite (ℕ_discrete j i) inl (λ other. inr (sym (get_or-set_other marks i j true false other) ∙ e))

pub mark-kept : (marks : List Bool) (i j : ℕ) → i < length marks → slice_index_or marks j false ≡ true → slice_index_or (set marks i true) j false ≡ true
mark-kept marks i j low e = dite (ℕ_discrete j i) (λ is. ap (λ k. slice_index_or (set marks i true) k false) is ∙ get_or-set_same marks i true false low) (λ other. get_or-set_other marks i j true false other ∙ e)

pub mark-here : (marks : List Bool) (i : ℕ) → i < length marks → slice_index_or (set marks i true) i false ≡ true
mark-here marks i low = get_or-set_same marks i true false low

pub stands-push : (xs : List ℕ) (x j : ℕ) → Stands j (xs ++ x ∷ []) → (j ≡ x) ⊎ (Stands j xs)
stands-push xs x j more = dite (ℕ_discrete x j) (λ is. inl (sym is)) (λ other. inr (omega (arith, more, times-push-miss j x xs other)))

pub stands-here : (xs : List ℕ) (x : ℕ) → Stands x (xs ++ x ∷ [])
stands-here xs x = omega (arith, times-push-hit x x xs refl)

pub stands-still : (xs : List ℕ) (x j : ℕ) → Stands j xs → Stands j (xs ++ x ∷ [])
stands-still xs x j h = dite (ℕ_discrete x j) (λ is. omega (arith, times-push-hit j x xs is)) (λ other. omega (arith, h, times-push-miss j x xs other))

stands-at : (xs : List ℕ) (k : ℕ) → k < length xs → Stands (slice_index xs k) xs
stands-at [] k low = absurd (omega arith)
stands-at (x ∷ xs) zero low = let one : times x (x ∷ xs) ≡ 1 + times x xs = sum_by-cons (λ (y : ℕ). cond (y == x) 1 0) x xs ∙ ap (λ b. cond b 1 0 + times x xs) (eq-eqb x x refl) in omega (arith, one)
stands-at (x ∷ xs) (suc k) low = let r = stands-at xs k (omega arith) in let more : times (slice_index xs k) (x ∷ xs) ≡ cond (x == slice_index xs k) 1 0 + times (slice_index xs k) xs = sum_by-cons (λ (y : ℕ). cond (y == slice_index xs k) 1 0) x xs in omega (arith, r, more)

last-is : (xs : List ℕ) (x k : ℕ) → k ≡ length xs → slice_index (xs ++ x ∷ []) k ≡ x
last-is [] x zero e = refl
last-is [] x (suc k) e = absurd (omega arith)
last-is (y ∷ ys) x zero e = absurd (omega arith)
last-is (y ∷ ys) x (suc k) e = last-is ys x k (omega arith)

front-is : (xs : List ℕ) (x k : ℕ) → k < length xs → slice_index (xs ++ x ∷ []) k ≡ slice_index xs k
front-is [] x k low = absurd (omega arith)
front-is (y ∷ ys) x zero low = refl
front-is (y ∷ ys) x (suc k) low = front-is ys x k (omega arith)

length_push : (xs : List ℕ) (x : ℕ) → length (xs ++ x ∷ []) ≡ length xs + 1
length_push [] x = refl
length_push (y ∷ ys) x = omega (arith, length_push ys x)

-- a number above all others goes behind them
pub rises : (xs : List ℕ) (x : ℕ) → IsStrictlyIncreasing xs → ((j : ℕ) → Stands j xs → j < x) → IsStrictlyIncreasing (xs ++ x ∷ [])
rises xs x up above k near = let long = length_push xs x in dite (dec_le (length xs) (k + 1))
    (λ last. omega (arith, front-is xs x k (omega (arith, near, long)), last-is xs x (k + 1) (omega (arith, near, long)), above (slice_index xs k) (stands-at xs k (omega (arith, near, long)))))
    (λ inner. let less = lt_of_not-le inner in omega (arith, front-is xs x k (omega (arith, less)), front-is xs x (k + 1) less, up k less))

-- what was gathered so far
pub record IsGathered (marks : List Bool) (position : ℕ) (firsts : List ℕ) : Type 0 where
  pub ascending : IsStrictlyIncreasing firsts
  pub members : (j : ℕ) → Stands j firsts ↔ ((j < position) × (slice_index_or marks j false ≡ true))

pub gathers : (marks : List Bool) (position : ℕ) (old new : List ℕ) → IsStrictlyIncreasing old → ((j : ℕ) → Stands j old ↔ ((j < position) × (slice_index_or marks j false ≡ true)))
    → ((slice_index_or marks position false ≡ true) × (new ≡ old ++ position ∷ [])) ⊎ ((slice_index_or marks position false ≡ false) × (new ≡ old)) → IsGathered marks (position + 1) new
gathers marks position old new up members step = ⊎_elim
    (λ marked. subst (IsGathered marks (position + 1)) (sym marked.1) (record {
      ascending = rises old position up (λ j here. ((members j).0 here).0);
      members = λ j. (
        (λ here. ⊎_elim (λ is. (omega arith, ap (λ k. slice_index_or marks k false) is ∙ marked.0)) (λ was. let m = (members j).0 was in (omega (arith, m.0), m.1)) (stands-push old position j here)),
        λ m. dite (ℕ_discrete j position) (λ is. subst (λ k. Stands k (old ++ position ∷ [])) (sym is) (stands-here old position)) (λ other. stands-still old position j ((members j).1 (omega (arith, m.0), m.1))),
      );
    }))
    (λ bare. subst (IsGathered marks (position + 1)) (sym bare.1) (record {
      ascending = up;
      members = λ j. (
        (λ here. let m = (members j).0 here in (omega (arith, m.0), m.1)),
        λ m. (members j).1 (dite (ℕ_discrete j position) (λ is. let no_mark = sym (ap (λ k. slice_index_or marks k false) is) in cc) (λ other. omega (arith, m.0)), m.1),
      );
    }))
    step

-- what was marked so far
pub record IsMarked (words : List ℕ) (count word : ℕ) (marks : List Bool) : Type 0 where
  pub size : length marks ≡ count
  pub marked : (j : ℕ) → slice_index_or marks j false ≡ true → (a : ℕ) × (slice_index words a ≡ j + 1)
  pub all : (a j : ℕ) → a < word → slice_index words a ≡ j + 1 → slice_index_or marks j false ≡ true

pub marks-one : (words : List ℕ) (count word held : ℕ) (old new : List Bool) → IsMarked words count word old → held ≤ count → slice_index words word ≡ held
    → ((0 < held) × (new ≡ set old (held - 1) true)) ⊎ ((held ≡ 0) × (new ≡ old)) → IsMarked words count (word + 1) new
marks-one words count word held old new was low has step = ⊎_elim
    (λ marked. let inside : held - 1 < length old = omega (arith, marked.0, low, was.size) in subst (IsMarked words count (word + 1)) (sym marked.1) (record {
      size = length-set old (held - 1) true ∙ was.size;
      marked = λ j e. ⊎_elim (λ is. (word, omega (arith, has, is, marked.0))) (was.marked j) (mark-cases old (held - 1) j e);
      all = λ a j near e. dite (ℕ_discrete a word) (λ here. let is : j ≡ held - 1 = omega (arith, e, has, ap (slice_index words) here) in ap (λ k. slice_index_or (set old (held - 1) true) k false) is ∙ mark-here old (held - 1) inside)
          (λ other. mark-kept old (held - 1) j inside (was.all a j (omega (arith, near)) e));
    }))
    (λ free. subst (IsMarked words count (word + 1)) (sym free.1) (record {
      size = was.size;
      marked = was.marked;
      all = λ a j near e. dite (ℕ_discrete a word) (λ here. absurd (omega (arith, e, has, free.0, ap (slice_index words) here))) (λ other. was.all a j (omega (arith, near)) e);
    }))
    step
