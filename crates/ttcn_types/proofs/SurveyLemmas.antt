-- What surveys find is the least of what is broken.
use Rattle.std.proofs.Common.{◌≡◌, ℕ, ◌<◌, ◌≤◌, List, [], ◌∷◌, ◌++◌, length, Option, Some, None, sym, subst, ◌∙◌, arith, inl, inr}
use Rattle.std.specs.Option.{option_or}
use Rattle.std.specs.Prelude.{MatchOption}
use Rattle.check_survey.specs.Graphs.{AllChainsWithin, AllWeighWithin, BeginsLongerChain, IfCircle, IfSizes, IsFirst, IsOnCircle, WeighsMore}
use Rattle.check_survey.specs.declared.findings.Findings.{Findings}
use Rattle.check_survey.specs.declared.findings.Findings.TheVariants.{Circle, Sizes}
use Rattle.check_survey.specs.declared.thing.Thing.{Thing}
use Rattle.check_survey.proofs.Chains.{chain-head, weigh-within}
use Rattle.check_scope.specs.Numbers.{number_of}
use Rattle.check_rules.specs.Limits.{longest_chain}
use Rattle.check_rules.specs.Rules.{AreTooLarge}
use Rattle.ttcn_types.specs.internal.Surveys.{BreaksAmong, IsLeastWhere}
use Rattle.ttcn_types.specs.internal.Surveys.BreaksAmong.{in_circle, too_large}
use Rattle.check_scope.specs.declared.rule.Rule.{Rule}
use Rattle.check_scope.specs.declared.rule.Rule.TheVariants as rule

module _ (things : List Thing) (heaviest : ℕ) (circle : Rule) where
  circle-below : number_of circle ≤ 5 → (other : Rule) → BreaksAmong things heaviest circle other → number_of circle ≤ number_of other
  circle-below small _ (in_circle has) = omega arith
  circle-below small _ (too_large large) = small

  -- a circle was found
  pub circle-least : (findings : Findings) (i : ℕ) → number_of circle ≤ 5 → findings ≡ Circle i → IfCircle findings (IsOnCircle things)
      → IsLeastWhere (BreaksAmong things heaviest circle) (Some circle)
  circle-least findings i small is found =
      let on : IsOnCircle things i = subst (λ f. IfCircle f (IsOnCircle things)) is found in
      (in_circle (i, on), circle-below small)

  pub circle-within : (findings : Findings) (i : ℕ) → findings ≡ Circle i → IfCircle findings (IsOnCircle things) → i < length things
  circle-within findings i is found =
      let on : IsOnCircle things i = subst (λ f. IfCircle f (IsOnCircle things)) is found in
      chain-head things i (on.0 ++ i ∷ []) on.1

  -- no circle was found
  abbrev NoCircle : Type 0
  NoCircle = (i : ℕ) → IsOnCircle things i → ⊥

  size-below : NoCircle → (other : Rule) → BreaksAmong things heaviest circle other → 5 ≤ number_of other
  size-below none _ (in_circle has) = absurd (none has.0 has.1)
  size-below none _ (too_large large) = omega arith

  abbrev LongAt : Option ℕ → Type 0
  LongAt too_long = MatchOption too_long (AllChainsWithin things longest_chain) (IsFirst (BeginsLongerChain things longest_chain))

  abbrev HeavyAt : Option ℕ → Type 0
  HeavyAt too_heavy = MatchOption too_heavy (AllWeighWithin things heaviest) (IsFirst (WeighsMore things heaviest))

  too-large-at : (too_long too_heavy : Option ℕ) (i : ℕ) → option_or too_long too_heavy ≡ Some i → LongAt too_long → HeavyAt too_heavy → AreTooLarge things longest_chain heaviest × (i < length things)
  too-large-at (Some k) too_heavy i is long heavy =
      let same : k ≡ i = cc in
      (inl (k, long.0), subst (λ m. m < length things) same (chain-head things k long.0.0 long.0.1))
  too-large-at None (Some k) i is long heavy =
      let same : k ≡ i = cc in
      (inr (k, heavy.0), subst (λ m. m < length things) same (weigh-within things k heavy.0.0 heavy.0.1))
  too-large-at None None i is long heavy = absurd (cc)

  not-too-large : (too_long too_heavy : Option ℕ) → option_or too_long too_heavy ≡ None → LongAt too_long → HeavyAt too_heavy → AreTooLarge things longest_chain heaviest → ⊥
  not-too-large (Some k) too_heavy is long heavy large = cc
  not-too-large None (Some k) is long heavy large = cc
  not-too-large None None is long heavy (inl (i, (rest, chain, more))) = (let bound = long (i ∷ rest) chain in absurd (omega (arith, bound, more)))
  not-too-large None None is long heavy (inr (i, (n, weighs, more))) = (let bound = heavy i n weighs in absurd (omega (arith, bound, more)))

  module _ (findings : Findings) (too_long too_heavy : Option ℕ) (is : findings ≡ Sizes too_long too_heavy) (none : IfSizes findings (λ _ _. NoCircle))
      (long : IfSizes findings (λ found _. LongAt found)) (heavy : IfSizes findings (λ _ found. HeavyAt found)) where
    no_circle : NoCircle
    no_circle = subst (λ f. IfSizes f (λ _ _. NoCircle)) is none

    long-is : LongAt too_long
    long-is = subst (λ f. IfSizes f (λ found _. LongAt found)) is long

    heavy-is : HeavyAt too_heavy
    heavy-is = subst (λ f. IfSizes f (λ _ found. HeavyAt found)) is heavy

    pub size-least : (found : Option ℕ) (i : ℕ) → found ≡ Some i → found ≡ option_or too_long too_heavy → IsLeastWhere (BreaksAmong things heaviest circle) (Some rule.Size)
    size-least found i some or = (too_large (too-large-at too_long too_heavy i (sym or ∙ some) long-is heavy-is).0, size-below no_circle)

    pub size-within : (found : Option ℕ) (i : ℕ) → found ≡ Some i → found ≡ option_or too_long too_heavy → i < length things
    size-within found i some or = (too-large-at too_long too_heavy i (sym or ∙ some) long-is heavy-is).1

    pub nothing-breaks : (found : Option ℕ) → found ≡ None → found ≡ option_or too_long too_heavy → IsLeastWhere (BreaksAmong things heaviest circle) None
    nothing-breaks found empty or = λ r breaks. go r breaks
      where
        go : (r : Rule) → BreaksAmong things heaviest circle r → ⊥
        go _ (in_circle has) = no_circle has.0 has.1
        go _ (too_large large) = not-too-large too_long too_heavy (sym or ∙ empty) long-is heavy-is large
