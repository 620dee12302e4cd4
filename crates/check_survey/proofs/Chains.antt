-- Chains that are made longer and shorter, circles, and why what weighs something is on none.
use Rattle.std.proofs.Common.{◌≡◌, ℕ, zero, suc, ◌+◌, ◌<◌, List, [], ◌∷◌, ◌++◌, length, get_or, Option, Some, None, refl, sym, ap, subst, arith, inl, inr}
use Rattle.std.specs.Prelude.{◌⊎◌, All, Contains, slice_get}
use Rattle.std.specs.Option.{option_map_or}
use Rattle.std.proofs.lemmas.Option.{get_or_from_slice_get, slice_get_read, slice_get_within}
use Rattle.std.proofs.lemmas.List.Elements.{All-contains}
use Rattle.check_survey.specs.Graphs.Weigh.{nothing, one_more}
use Rattle.check_survey.specs.Graphs.{AreComplete, IsChain, IsOnCircle, Weigh, own, references}
use Rattle.check_survey.specs.internal.Search.{IsPath}
use Rattle.check_survey.specs.declared.thing.Thing.{Thing}

-- what a list contains is its first or among the others
pub Contains-cases : (x : ℕ) (xs : List ℕ) (y : ℕ) → Contains (x ∷ xs) y → (x ≡ y) ⊎ Contains xs y
Contains-cases x xs y (zero, within, is) = inl is
Contains-cases x xs y (suc k, within, is) = inr (k, omega arith, is)

pub Contains-first : (x : ℕ) (xs : List ℕ) → Contains (x ∷ xs) x
Contains-first x xs = (0, omega arith, refl)

pub Contains-only : (x y : ℕ) → Contains (x ∷ []) y → x ≡ y
Contains-only x y c = elim (Contains-cases x [] y c) [ inl is ↦ is | inr among ↦ absurd (omega (arith, among.1)) ]

-- what the code reads of a thing
pub references-read : (things : List Thing) (i : ℕ) (thing : Thing) → i < length things → thing ≡ get_or things i thing
    → references things i ≡ thing.references
references-read things i thing within is = ap (λ o. option_map_or (λ t. t.references) o []) (slice_get_read things (length things) i thing refl within is)

pub own-read : (things : List Thing) (i : ℕ) (thing : Thing) → i < length things → thing ≡ get_or things i thing → own things i ≡ thing.own
own-read things i thing within is = ap (λ o. option_map_or (λ t. t.own) o 0) (slice_get_read things (length things) i thing refl within is)

-- what is referred to is a thing
pub refers-within : (things : List Thing) → AreComplete things → (i k : ℕ) → Contains (references things i) k → k < length things
refers-within things complete i k c = go (slice_get things i) refl c
  where
    go : (o : Option Thing) → slice_get things i ≡ o → Contains (option_map_or (λ t. t.references) o []) k → k < length things
    go (Some t) e d =
        let whole = complete i t (slice_get_within things i t e) in
        All-contains (λ j. j < length things) t.references k (subst (λ u. All (λ j. j < length things) u.references) (get_or_from_slice_get things i t t e) whole) d
    go None e d = absurd (omega (arith, d.1))

module _ (things : List Thing) where
  -- what refers to something is a thing
  pub referrer : (i k : ℕ) → Contains (references things i) k → i < length things
  referrer i k c = go (slice_get things i) refl c
    where
      go : (o : Option Thing) → slice_get things i ≡ o → Contains (option_map_or (λ t. t.references) o []) k → i < length things
      go (Some t) e d = slice_get_within things i t e
      go None e d = absurd (omega (arith, d.1))

  pub chain-head : (i : ℕ) (rest : List ℕ) → IsChain things (i ∷ rest) → i < length things
  chain-head i [] chain = chain
  chain-head i (next ∷ rest) chain = referrer i next chain.0

  -- one more at its end
  pub chain-more : (xs : List ℕ) (i k : ℕ) → IsChain things (xs ++ i ∷ []) → Contains (references things i) k → k < length things
      → IsChain things ((xs ++ i ∷ []) ++ k ∷ [])
  chain-more [] i k chain refers within = (refers, within)
  chain-more (x ∷ []) i k chain refers within = (chain.0, (refers, within))
  chain-more (x ∷ y ∷ xs) i k chain refers within = (chain.0, chain-more (y ∷ xs) i k chain.1 refers within)

  -- one less at its end
  pub path-front : (xs : List ℕ) (i : ℕ) → IsPath things (xs ++ i ∷ []) → IsPath things xs
  path-front [] i path = tt
  path-front (x ∷ []) i path = referrer x i path.0
  path-front (x ∷ y ∷ xs) i path = (path.0, path-front (y ∷ xs) i path.1)

  -- the last member of a chain refers to a member of it
  pub chain-circle : (xs : List ℕ) (i k : ℕ) → IsChain things (xs ++ i ∷ []) → Contains (xs ++ i ∷ []) k
      → Contains (references things i) k → k < length things → IsOnCircle things k
  chain-circle [] i k chain among refers within =
      ([], (subst (λ j. Contains (references things j) k) (Contains-only i k among) refers, within))
  chain-circle (x ∷ xs) i k chain among refers within =
      elim (Contains-cases x (xs ++ i ∷ []) k among) [
        | inl is ↦ (xs ++ i ∷ [], subst (λ j. IsChain things ((j ∷ xs ++ i ∷ []) ++ k ∷ [])) is (chain-more (x ∷ xs) i k chain refers within))
        | inr later ↦ chain-circle xs i k (tail xs chain) later refers within
      ]
    where
      tail : (ys : List ℕ) → IsChain things (x ∷ ys ++ i ∷ []) → IsChain things (ys ++ i ∷ [])
      tail [] c = c.1
      tail (y ∷ ys) c = c.1

  -- a circle goes on from the next thing on it
  next-on : (i k : ℕ) (rest : List ℕ) → IsChain things (i ∷ (k ∷ rest) ++ i ∷ []) → IsOnCircle things k
  next-on i k rest chain = (rest ++ i ∷ [], chain-more (k ∷ rest) i k chain.1 chain.0 (chain-head k (rest ++ i ∷ []) chain.1))

  -- a thing on a circle refers to one that is on a circle
  next-circle : (i : ℕ) → IsOnCircle things i → (k : ℕ) × Contains (references things i) k × IsOnCircle things k
  next-circle i ([], chain) = (i, chain.0, ([], chain))
  next-circle i (k ∷ rest, chain) = (k, chain.0, next-on i k rest chain)

  -- what weighs something is on no circle
  pub weigh-no-circle : (xs : List ℕ) (n : ℕ) → Weigh things xs n → (i : ℕ) → Contains xs i → IsOnCircle things i → ⊥
  weigh-no-circle xs n nothing i among circle = omega (arith, among.1)
  weigh-no-circle xs n (one_more {i = x} {inside = inside} {beside = beside} {others = others} within referred further) i among circle =
      elim (Contains-cases x others i among) [
        | inl is ↦ (let next = next-circle x (subst (IsOnCircle things) (sym is) circle) in weigh-no-circle (references things x) inside referred next.0 next.1 next.2)
        | inr later ↦ weigh-no-circle others beside further i later circle
      ]

  -- what weighs something is a thing
  pub weigh-within : (i n : ℕ) → Weigh things (i ∷ []) n → i < length things
  weigh-within i n (one_more within referred further) = within

  -- things have one weight together
  pub weigh-once : (xs : List ℕ) (m n : ℕ) → Weigh things xs m → Weigh things xs n → m ≡ n
  weigh-once xs m n nothing nothing = refl
  weigh-once xs m n (one_more {i = x} {others = others} within referred further) (one_more within' referred' further') =
      let e = weigh-once (references things x) _ _ referred referred' in
      let f = weigh-once others _ _ further further' in
      omega (arith, e, f)

  pub weigh-append : (xs ys : List ℕ) (m n : ℕ) → Weigh things xs m → Weigh things ys n → Weigh things (xs ++ ys) (m + n)
  weigh-append xs ys m n nothing w = let e : n ≡ 0 + n = omega arith in subst (Weigh things ys) e w
  weigh-append xs ys m n (one_more {i = x} {inside = inside} {beside = beside} {others = others} within referred further) w =
      let e : own things x + inside + (beside + n) ≡ own things x + inside + beside + n = omega arith in
      subst (Weigh things (x ∷ (others ++ ys))) e (one_more within referred (weigh-append others ys beside n further w))

  pub weigh-thing : (i m : ℕ) → i < length things → Weigh things (references things i) m → Weigh things (i ∷ []) (m + own things i)
  weigh-thing i m within referred =
      let e : own things i + m + 0 ≡ m + own things i = omega arith in subst (Weigh things (i ∷ [])) e (one_more within referred nothing)
