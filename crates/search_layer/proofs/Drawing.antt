-- Numbers below n that differ are at most n; and what a seat keeps.
use Rattle.std.proofs.Common.{◌≡◌, ℕ, zero, suc, ◌+◌, ◌<◌, ◌≤◌, cond, ◌==◌, List, [], ◌∷◌, ◌++◌, length, get_or, sym, ap, ◌∙◌, refl, eq-eqb, lt_of_not-le, arith}
use Rattle.std.proofs.lemmas.List.Sums.{sum_by-cons}
use mathlib.Core.Logic.{dite}
use native.Mathlib.Decide.{dec_le, ℕ_discrete}
use Rattle.shared.specs.Totals.{times, Stands}
use Rattle.shared.specs.SeenRule.{IsSameSeat}
use Rattle.shared.specs.declared.seen.view.SeenView.{SeenView}
use Rattle.shared.proofs.Sums.{times-push-miss}
use Rattle.shared.proofs.SeenWords.{too_many}

pub times-cons : (x y : ℕ) (ys : List ℕ) → times x (y ∷ ys) ≡ cond (y == x) 1 0 + times x ys
times-cons x y ys = sum_by-cons (λ (z : ℕ). cond (z == x) 1 0) y ys

one-here : (x y : ℕ) (ys : List ℕ) → y ≡ x → times x (y ∷ ys) ≡ 1 + times x ys
one-here x y ys e = times-cons x y ys ∙ ap (λ b. cond b 1 0 + times x ys) (eq-eqb y x e)

pub stands-at : (xs : List ℕ) (a : ℕ) → a < length xs → Stands (get_or xs a 0) xs
stands-at [] a low = absurd (omega arith)
stands-at (x ∷ xs) zero low = let e = one-here x x xs refl in omega arith
stands-at (x ∷ xs) (suc a) low = let e = times-cons (get_or xs a 0) x xs in let h = stands-at xs a (omega arith) in omega arith

twice : (xs : List ℕ) (a b : ℕ) → a < b → b < length xs → get_or xs a 0 ≡ get_or xs b 0 → 2 ≤ times (get_or xs b 0) xs
twice [] a b less low e = absurd (omega arith)
twice (x ∷ xs) a zero less low e = absurd (omega arith)
twice (x ∷ xs) zero (suc b) less low e = let f = one-here (get_or xs b 0) x xs e in let h = stands-at xs b (omega arith) in omega arith
twice (x ∷ xs) (suc a) (suc b) less low e = let f = times-cons (get_or xs b 0) x xs in let h = twice xs a b (omega arith) (omega arith) e in omega arith

-- numbers below n, none of them twice, are at most n
pub few : (n : ℕ) (xs : List ℕ) → ((x : ℕ) → times x xs ≤ 1) → ((x : ℕ) → Stands x xs → x < n) → length xs ≤ n
few n xs once low = dite (dec_le (length xs) n) (λ le. le)
    (λ more. absurd (too_many n (length xs) (λ a. get_or xs a 0) (lt_of_not-le more)
    (λ a near. low (get_or xs a 0) (stands-at xs a near))
    (λ a b near here e. dite (dec_le (suc a) b)
    (λ less. absurd (let t = twice xs a b less here e in let o = once (get_or xs b 0) in omega arith))
    (λ no_less. dite (dec_le (suc b) a)
    (λ less. absurd (let t = twice xs b a less near (sym e) in let o = once (get_or xs a 0) in omega arith))
    (λ no_more. let p = lt_of_not-le no_less in let q = lt_of_not-le no_more in omega arith)))))

pub same-seat-then : (u v w : SeenView) → IsSameSeat u v → IsSameSeat v w → IsSameSeat u w
same-seat-then u v w a b = (b.0 ∙ a.0, b.1 ∙ a.1, b.2 ∙ a.2, b.3 ∙ a.3, b.4 ∙ a.4, b.5 ∙ a.5)

-- one number more
pub low-more : (n p : ℕ) (xs : List ℕ) → p < n → ((x : ℕ) → Stands x xs → x < n) → (x : ℕ) → Stands x (xs ++ p ∷ []) → x < n
low-more n p xs less low x has = dite (ℕ_discrete p x)
    (λ here. omega arith)
    (λ other. low x (let miss = times-push-miss x p xs other in omega arith))
