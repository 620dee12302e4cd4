-- What is known once all things are done.
use Rattle.std.proofs.Common.{◌≡◌, ℕ, ◌^◌, ◌<◌, ◌≤◌, List, [], ◌∷◌, length, Option, Some, None, refl, sym, ap, subst, ◌∙◌, arith, inl, inr}
use Rattle.std.specs.Prelude.{All, MatchOption}
use Rattle.std.proofs.lemmas.Bool.{cases_lt}
use Rattle.std.proofs.lemmas.List.{get_or_past}
use Rattle.check_survey.specs.Graphs.{AllChainsWithin, AllWeigh, AllWeighWithin, BeginsLongerChain, IsChain, IsFirst, IsOnCircle, WeighsMore}
use Rattle.check_survey.specs.internal.Search.{HaveSize, IsSearched, size_of, state_of}
use Rattle.check_survey.specs.declared.search.State.{State}
use Rattle.check_survey.specs.declared.search.State.TheVariants.{New, Open, Done}
use Rattle.check_survey.specs.declared.size.Size.{Size}
use Rattle.check_survey.specs.declared.thing.Thing.{Thing}
use Rattle.check_survey.proofs.Chains.{Contains-first, Contains-only, chain-head, weigh-no-circle, weigh-once, weigh-within}

module _ (things : List Thing) (states : List State) (known : IsSearched things states []) (at : ℕ) (begun : (i : ℕ) → state_of states i ≡ New → at ≤ i)
    (last : length things ≤ at) where
  -- each thing has its size
  size-at : (i : ℕ) → i < length things → HaveSize things (i ∷ []) (size_of (state_of states i))
  size-at i within = go (state_of states i) refl
    where
      go : (state : State) → state_of states i ≡ state → HaveSize things (i ∷ []) (size_of state)
      go New is = absurd (let b = begun i is in omega (arith, b))
      go Open is = absurd (let c = known.on_path i is in omega (arith, c.1))
      go (Done size) is = known.done i size is

  -- what is not among the things has no size
  size-within : (i limit : ℕ) (part : Size → ℕ) → part (size_of New) ≡ 0 → limit < part (size_of (state_of states i)) → i < length things
  size-within i limit part none more = elim (cases_lt i (length things)) [
    | inl within ↦ within
    | inr past ↦ absurd (let e = ap (λ state. part (size_of state)) (get_or_past states i New (let c = known.count in omega (arith, c))) ∙ none in omega (arith, e))
  ]

  pub all-weigh : AllWeigh things
  all-weigh i within = let has = size-at i within in (has.total, has.weigh)

  pub no_circle : (i : ℕ) → IsOnCircle things i → ⊥
  no_circle i (between, chain) =
      let has = size-at i (chain-head things i _ chain) in
      weigh-no-circle things (i ∷ []) has.total has.weigh i (Contains-first i []) (between, chain)

  -- the longest chain from a thing, as its state has it
  longer-chain : (longest i : ℕ) → longest < (size_of (state_of states i)).chain → BeginsLongerChain things longest i
  longer-chain longest i more =
      let within = size-within i longest (λ size. size.chain) refl more in
      let has = size-at i within in
      let e = has.chain in
      let r = has.has_longest.reached (omega (arith, e)) in
      (r.1, subst (λ k. IsChain things (k ∷ r.1)) (sym (Contains-only i r.0 r.2)) r.3, (let f = r.4 in omega (arith, e, f)))

  longer-known : (longest i : ℕ) → longest < 2 ^ 32 → BeginsLongerChain things longest i → longest < (size_of (state_of states i)).chain
  longer-known longest i small (rest, chain, more) =
      let has = size-at i (chain-head things i rest chain) in
      let bound = has.has_longest.bound i rest (Contains-first i []) chain in
      let e = has.chain in
      omega (arith, bound, e)

  -- what a thing weighs, as its state has it
  weighs-more : (heaviest i : ℕ) → heaviest < (size_of (state_of states i)).weight → WeighsMore things heaviest i
  weighs-more heaviest i more =
      let within = size-within i heaviest (λ size. size.weight) refl more in
      let has = size-at i within in
      (has.total, has.weigh, (let e = has.weight in omega (arith, e)))

  more-known : (heaviest i : ℕ) → heaviest < 2 ^ 32 → WeighsMore things heaviest i → heaviest < (size_of (state_of states i)).weight
  more-known heaviest i small (n, weighs, more) =
      let has = size-at i (weigh-within things i n weighs) in
      let e = has.weight in
      let same = weigh-once things (i ∷ []) n has.total weighs has.weigh in
      omega (arith, e, same)

  -- what holds of the size of each state holds of that of a thing
  of-thing : (P : Size → Type 0) → All (λ state. P (size_of state)) states → (i : ℕ) → i < length things → P (size_of (state_of states i))
  of-thing P all i within = all i New (let e = known.count in omega (arith, e))

  -- what is found among the states
  pub too_long : (longest : ℕ) → longest < 2 ^ 32 → (seen : List State) → seen ≡ states → (found : Option ℕ)
      → MatchOption found (All (λ state. (size_of state).chain ≤ longest) seen) (IsFirst (λ i. longest < (size_of (state_of seen i)).chain))
      → MatchOption found (AllChainsWithin things longest) (IsFirst (BeginsLongerChain things longest))
  too_long longest small seen is (Some i) first =
      let here = subst (λ l. IsFirst (λ k. longest < (size_of (state_of l k)).chain) i) is first in
      (longer-chain longest i here.0, λ k below longer. here.1 k below (longer-known longest k small longer))
  too_long longest small seen is None all = within
    where
      within : AllChainsWithin things longest
      within [] chain = absurd chain
      within (i ∷ rest) chain =
          let bound = of-thing (λ size. size.chain ≤ longest) (subst (All (λ state. (size_of state).chain ≤ longest)) is all) i (chain-head things i rest chain) in
          elim (cases_lt longest (length (i ∷ rest))) [
            | inl longer ↦ absurd (let e = longer-known longest i small (rest, chain, longer) in omega (arith, bound, e))
            | inr fits ↦ fits
          ]

  pub too_heavy : (heaviest : ℕ) → heaviest < 2 ^ 32 → (seen : List State) → seen ≡ states → (found : Option ℕ)
      → MatchOption found (All (λ state. (size_of state).weight ≤ heaviest) seen) (IsFirst (λ i. heaviest < (size_of (state_of seen i)).weight))
      → MatchOption found (AllWeighWithin things heaviest) (IsFirst (WeighsMore things heaviest))
  too_heavy heaviest small seen is (Some i) first =
      let here = subst (λ l. IsFirst (λ k. heaviest < (size_of (state_of l k)).weight) i) is first in
      (weighs-more heaviest i here.0, λ k below more. here.1 k below (more-known heaviest k small more))
  too_heavy heaviest small seen is None all = λ i n weighs.
      let bound = of-thing (λ size. size.weight ≤ heaviest) (subst (All (λ state. (size_of state).weight ≤ heaviest)) is all) i (weigh-within things i n weighs) in
      elim (cases_lt heaviest n) [
        | inl more ↦ absurd (let e = more-known heaviest i small (n, weighs, more) in omega (arith, bound, e))
        | inr fits ↦ fits
      ]
