-- Things whose parts are counted as far as a count goes: they have the same chains, and what weighs less than the largest
-- count weighs the same.
use Rattle.std.proofs.Common.{◌≡◌, ℕ, ◌+◌, ◌<◌, List, [], ◌∷◌, ◌++◌, length, map, Option, Some, None, refl, sym, ap, subst, ◌∙◌, arith}
use Rattle.std.proofs.lemmas.List.{length-map}
use Rattle.std.proofs.lemmas.Option.{slice_get-map}
use Rattle.std.specs.Option.{option_map, option_map_or}
use Rattle.std.specs.Prelude.{Contains, slice_get}
use Rattle.check_survey.specs.Graphs.Weigh.{nothing, one_more}
use Rattle.check_survey.specs.Graphs.{BeginsLongerChain, IsChain, IsOnCircle, Weigh, WeighsMore, own, references}
use Rattle.check_survey.specs.Things.{capped, largest, tally}
use Rattle.check_survey.specs.declared.thing.Thing.{Thing}

-- these and those refer alike, and their parts are counted alike
pub record AreAlike (these those : List Thing) : Type 0 where
  pub count : length these ≡ length those
  pub refer : (i : ℕ) → references these i ≡ references those i
  pub own : (i : ℕ) → capped (own these i) ≡ capped (own those i)

pub alike-back : (these those : List Thing) → AreAlike these those → AreAlike those these
alike-back these those alike = record { count = sym alike.count; refer = λ i. sym (alike.refer i); own = λ i. sym (alike.own i) }

tally-references : (o : Option Thing) → option_map_or (λ t. t.references) (option_map tally o) [] ≡ option_map_or (λ t. t.references) o []
tally-references None = refl
tally-references (Some t) = refl

tally-own : (o : Option Thing) → capped (option_map_or (λ t. t.own) (option_map tally o) 0) ≡ capped (option_map_or (λ t. t.own) o 0)
tally-own None = refl
tally-own (Some t) = omega arith

pub tally-alike : (things : List Thing) → AreAlike (map tally things) things
tally-alike things = record {
  count = length-map things tally;
  refer = λ i. ap (λ o. option_map_or (λ t. t.references) o []) (slice_get-map tally things i) ∙ tally-references (slice_get things i);
  own = λ i. ap (λ o. capped (option_map_or (λ t. t.own) o 0)) (slice_get-map tally things i) ∙ tally-own (slice_get things i);
}

module _ (these those : List Thing) (alike : AreAlike these those) where
  within-alike : (i : ℕ) → i < length these → i < length those
  within-alike i = subst (λ n. i < n) alike.count

  chain-alike : (xs : List ℕ) → IsChain these xs → IsChain those xs
  chain-alike [] chain = chain
  chain-alike (i ∷ []) chain = within-alike i chain
  chain-alike (i ∷ next ∷ rest) chain = (subst (λ r. Contains r next) (alike.refer i) chain.0, chain-alike (next ∷ rest) chain.1)

  pub circle-alike : (i : ℕ) → IsOnCircle these i → IsOnCircle those i
  circle-alike i circle = (circle.0, chain-alike (i ∷ circle.0 ++ i ∷ []) circle.1)

  pub longer-alike : (longest i : ℕ) → BeginsLongerChain these longest i → BeginsLongerChain those longest i
  longer-alike longest i longer = (longer.0, chain-alike (i ∷ longer.0) longer.1, longer.2)

  weigh-alike : (xs : List ℕ) (n : ℕ) → Weigh these xs n → (m : ℕ) × Weigh those xs m × (capped m ≡ capped n)
  weigh-alike xs n nothing = (0, nothing, refl)
  weigh-alike xs n (one_more {i = i} {inside = inside} {beside = beside} {others = others} within referred further) =
      let a = weigh-alike (references these i) inside referred in
      let b = weigh-alike others beside further in
      (own those i + a.0 + b.0, one_more (within-alike i within) (subst (λ r. Weigh those r a.0) (alike.refer i) a.1) b.1, (let o = alike.own i in omega (arith, o, a.2, b.2)))

  pub heavier-alike : (heaviest i : ℕ) → heaviest < largest → WeighsMore these heaviest i → WeighsMore those heaviest i
  heavier-alike heaviest i small heavier =
      let m = weigh-alike (i ∷ []) heavier.0 heavier.1 in (m.0, m.1, (let more = heavier.2 in omega (arith, m.2, more, small)))
