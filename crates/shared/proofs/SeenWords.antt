-- Probe paths, lists of words after one changed, what two seats know together, and that n + 1 words are too many for n classes.
use Rattle.std.proofs.Common.{◌≡◌, ◌≢◌, ℕ, zero, suc, ◌+◌, ◌-◌, ◌<◌, ◌≤◌, ◌⊎◌, cond, List, [], ◌∷◌, length, replicate, set, slice_index, sym, refl, ap, ◌∙◌, ⊎_elim, inl, inr, lt_of_not-le, eq-eqb, ne_eqb, eqb, arith}
use Rattle.std.proofs.lemmas.Bool.Decides.{nat_tests}
use Rattle.std.proofs.lemmas.List.{get_or-set_same, get_or-set_other}
use mathlib.Core.Logic.{dite}
use native.Mathlib.Decide.{dec_le, ℕ_discrete}
use Rattle.shared.specs.SeenRule.{along, either_known, OneWordEach}

pub along-is : (m s t : ℕ) → s + t < m → along m s t ≡ s + t
along-is m s t low = grind (arith, nat_tests)

pub along-round : (m s t : ℕ) → m ≤ s + t → along m s t ≡ s + t - m
along-round m s t high = grind (arith, nat_tests)

pub along-low : (m s t : ℕ) → s < m → t < m → along m s t < m
along-low m s t low near = dite (dec_le m (s + t)) (λ high. omega (arith, along-round m s t high)) (λ less. let is = along-is m s t (lt_of_not-le less) in omega (arith, is, lt_of_not-le less))

-- the next word on the way
pub along-turn : (m s t : ℕ) → s < m → t < m → along m s t + 1 ≡ m → along m s (t + 1) ≡ 0
along-turn m s t low near last = dite (dec_le m (s + t)) (λ high. absurd (omega (arith, along-round m s t high)))
    (λ less. let is = along-is m s t (lt_of_not-le less) in omega (arith, is, along-round m s (t + 1) (omega (arith, is, lt_of_not-le less))))

pub along-next : (m s t : ℕ) → s < m → t < m → along m s t + 1 ≢ m → along m s (t + 1) ≡ along m s t + 1
along-next m s t low near inner = dite (dec_le m (s + t)) (λ high. omega (arith, along-round m s t high, along-round m s (t + 1) (omega arith)))
    (λ less. let is = along-is m s t (lt_of_not-le less) in dite (dec_le m (s + t + 1)) (λ over. absurd (inner (omega (arith, is, lt_of_not-le less))))
    (λ more. omega (arith, is, along-is m s (t + 1) (omega (arith, lt_of_not-le more)))))

-- each word is on the way from each start
pub along-reach : (m s a : ℕ) → s < m → a < m → (t : ℕ) × (t < m) × (along m s t ≡ a)
along-reach m s a low near = dite (dec_le s a) (λ le. (a - s, omega arith, omega (arith, along-is m s (a - s) (omega arith))))
    (λ no_more. let less = lt_of_not-le no_more in (a + m - s, omega (arith, less), omega (arith, less, along-round m s (a + m - s) (omega (arith, less)))))

pub set-at : (ws : List ℕ) (a n : ℕ) → a < length ws → slice_index (set ws a n) a ≡ n
set-at ws a n low = get_or-set_same ws a n 0 low

pub set-off : (ws : List ℕ) (a b n : ℕ) → b ≢ a → slice_index (set ws a n) b ≡ slice_index ws b
set-off ws a b n other = get_or-set_other ws a b n 0 other

-- what a changed list of words has at one place
pub set-cases : (ws : List ℕ) (a b n x : ℕ) → a < length ws → slice_index (set ws a n) b ≡ x → ((b ≡ a) × (n ≡ x)) ⊎ ((b ≢ a) × (slice_index ws b ≡ x))
set-cases ws a b n x low e = dite (ℕ_discrete b a) (λ is. inl (is, sym (set-at ws a n low) ∙ ap (slice_index (set ws a n)) (sym is) ∙ e)) (λ other. inr (other, sym (set-off ws a b n other) ∙ e))

pub zeros : (m a : ℕ) → slice_index (replicate m 0) a ≡ 0
zeros zero a = refl
zeros (suc m) zero = refl
zeros (suc m) (suc a) = zeros m a

pub length-either : (xs ys : List ℕ) → length xs ≡ length ys → length (either_known xs ys) ≡ length xs
length-either [] ys e = refl
length-either (x ∷ xs) [] e = absurd (omega arith)
length-either (zero ∷ xs) (y ∷ ys) e = ap suc (length-either xs ys (omega arith))
length-either (suc x ∷ xs) (y ∷ ys) e = ap suc (length-either xs ys (omega arith))

pub either-cases : (xs ys : List ℕ) (a n : ℕ) → slice_index (either_known xs ys) a ≡ n → (slice_index xs a ≡ n) ⊎ (slice_index ys a ≡ n)
either-cases [] ys a n e = inl e
either-cases (x ∷ xs) [] a n e = inl e
either-cases (zero ∷ xs) (y ∷ ys) zero n e = inr e
either-cases (zero ∷ xs) (y ∷ ys) (suc a) n e = either-cases xs ys a n e
either-cases (suc x ∷ xs) (y ∷ ys) zero n e = inl e
either-cases (suc x ∷ xs) (y ∷ ys) (suc a) n e = either-cases xs ys a n e

-- f with the value n given the value of the last place in its stead
moved : (ℕ → ℕ) → ℕ → ℕ → ℕ → ℕ
moved f n m a = cond (eqb (f a) n) (f m) (f a)

moved-hit : (f : ℕ → ℕ) (n m a : ℕ) → f a ≡ n → moved f n m a ≡ f m
unfolding moved
moved-hit f n m a e = ap (λ b. cond b (f m) (f a)) (eq-eqb (f a) n e)

moved-miss : (f : ℕ → ℕ) (n m a : ℕ) → f a ≢ n → moved f n m a ≡ f a
unfolding moved
moved-miss f n m a e = ap (λ b. cond b (f m) (f a)) (ne_eqb (f a) n e)

-- more places than values: two places have one value
pub too_many : (n m : ℕ) (f : ℕ → ℕ) → n < m → ((a : ℕ) → a < m → f a < n) → ((a b : ℕ) → a < m → b < m → f a ≡ f b → a ≡ b) → ⊥
too_many zero m f more low apart = let none = low 0 more in omega arith
too_many (suc n) zero f more low apart = omega arith
too_many (suc n) (suc m) f more low apart =
    let differs : (a : ℕ) → a < m → f a ≢ f m = λ a less e. let same = apart a m (omega arith) (omega arith) e in absurd (omega arith) in
    let last = low m (omega arith) in
    too_many n m (moved f n m) (omega arith)
    (λ a less. let here = low a (omega arith) in let other = differs a less in
    dite (ℕ_discrete (f a) n) (λ is. let e = moved-hit f n m a is in omega arith) (λ no_hit. let e = moved-miss f n m a no_hit in omega arith))
    (λ a b less near e. dite (ℕ_discrete (f a) n)
    (λ is. dite (ℕ_discrete (f b) n) (λ too. apart a b (omega arith) (omega arith) (is ∙ sym too))
    (λ no_hit. absurd (differs b near (sym (sym (moved-hit f n m a is) ∙ e ∙ moved-miss f n m b no_hit)))))
    (λ no_hit. dite (ℕ_discrete (f b) n) (λ too. absurd (differs a less (sym (moved-miss f n m a no_hit) ∙ e ∙ moved-hit f n m b too)))
    (λ no_two. apart a b (omega arith) (omega arith) (sym (moved-miss f n m a no_hit) ∙ e ∙ moved-miss f n m b no_two))))

-- the word after this one on the way
pub next-on : (m s t word next : ℕ) → s < m → t < m → word ≡ along m s t → ((word + 1 ≡ m) × (next ≡ 0)) ⊎ ((word + 1 ≢ m) × (next ≡ word + 1)) → next ≡ along m s (t + 1)
next-on m s t word next low near on went = ⊎_elim (λ end. end.1 ∙ sym (along-turn m s t low near (omega (arith, on, end.0))))
    (λ inner. omega (arith, on, inner.1, along-next m s t low near (λ e. inner.0 (omega (arith, on, e)))))
    went

-- where there are more words than classes, not every word has a class of its own
pub no-room : (n m s : ℕ) (classes known : List ℕ) → n < m → s < m → OneWordEach classes known → ((j : ℕ) → j < n → slice_index classes j < n)
    → ((t : ℕ) → t < m → (j : ℕ) × (slice_index known (along m s t) ≡ j + 1) × (j < n)) → ⊥
no-room n m s classes known room low one class_low full =
    let at : (a : ℕ) → a < m → (j : ℕ) × (slice_index known a ≡ j + 1) × (j < n) = λ a near. let r = along-reach m s a low near in let o = full r.0 r.1 in (o.0, ap (slice_index known) (sym r.2) ∙ o.1, o.2) in
    let class : (a : ℕ) (near : a < m) → slice_index classes (slice_index known a - 1) ≡ slice_index classes (at a near).0 = λ a near. let e = (at a near).1 in let p : slice_index known a - 1 ≡ (at a near).0 = omega arith in ap (slice_index classes) p in
    too_many n m (λ a. slice_index classes (slice_index known a - 1)) room
    (λ a near. let e = class a near in let c = class_low (at a near).0 (at a near).2 in omega arith)
    (λ a b near here e. one a b (at a near).0 (at b here).0 (at a near).1 (at b here).1 (sym (class a near) ∙ e ∙ class b here))
