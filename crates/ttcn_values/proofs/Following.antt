-- Fields of fields that are followed one by one.
use Rattle.std.proofs.Common.{◌≡◌, ◌≤◌, ℕ, ◌+◌, ◌<◌, List, [], ◌∷◌, length, get_or, drop, Option, Some, None, refl, sym, ap, ◌∙◌}
use Rattle.std.proofs.lemmas.List.{drop_all}
use Rattle.ttcn_syntax.specs.declared.tree.definition.Definition.{Definition}
use Rattle.value_types.proofs.Lists.{drop-next}
use Rattle.value_types.proofs.Outcomes.{yields-from}
use Rattle.value_types.specs.Outcomes.{Failure, Fails, Outcome, Yields, outcome_and_then, value_in}
use Rattle.value_types.specs.Readings.{along, field, last_presence}
use Rattle.value_types.specs.Values.{record_in, record_of}
use Rattle.value_types.specs.declared.value.Value.{Value}
use Rattle.value_types.specs.declared.value.Value.TheVariants as value

-- what a record is
pub record-of-record : (at : ℕ) (fields : List (Option Value)) → record_of (value.Record at fields) ≡ Some (at, fields)
record-of-record at fields = ap record_in (value.outs-Record at fields)

module _ (definitions : List Definition) (names : List (List ℕ)) (i : ℕ) where
  -- nothing follows a failure
  along-failure : (why : Failure) (others : List (List ℕ)) → along definitions others (Fails why) ≡ Fails why
  along-failure why [] = refl
  along-failure why (name ∷ others) = along-failure why others

  pub along-step : (name : List ℕ) (v : Value) → i < length names → name ≡ get_or names i name
      → along definitions (drop (i + 1) names) (field definitions name v) ≡ along definitions (drop i names) (Yields v)
  along-step name v within is = ap (λ ns. along definitions ns (Yields v)) (sym (drop-next names i name within is))

  pub along-next : (name : List ℕ) (v w : Value) → i < length names → name ≡ get_or names i name → value_in (field definitions name v) ≡ Some w
      → along definitions (drop (i + 1) names) (Yields w) ≡ along definitions (drop i names) (Yields v)
  along-next name v w within is found =
      ap (along definitions (drop (i + 1) names)) (sym (yields-from (field definitions name v) w found)) ∙ along-step name v within is

  pub along-fault : (name : List ℕ) (v : Value) → i < length names → name ≡ get_or names i name → value_in (field definitions name v) ≡ None
      → value_in (along definitions (drop i names) (Yields v)) ≡ None
  along-fault name v within is none = ap value_in (sym (along-step name v within is)) ∙ go (field definitions name v) none
    where
      go : (o : Outcome Value) → value_in o ≡ None → value_in (along definitions (drop (i + 1) names) o) ≡ None
      go (Yields w) none = absurd (let e = none in cc)
      go (Fails why) none = ap value_in (along-failure why (drop (i + 1) names))

  pub along-end : (v : Value) → length names ≤ i → along definitions (drop i names) (Yields v) ≡ Yields v
  along-end v past = ap (λ ns. along definitions ns (Yields v)) (drop_all i names past)

  -- the last of them
  pub last-step : (last name : List ℕ) (v : Value) → i < length names → name ≡ get_or names i name
      → outcome_and_then (last_presence definitions name (drop (i + 1) names)) (field definitions last v) ≡ last_presence definitions last (drop i names) v
  last-step last name v within is = ap (λ ns. last_presence definitions last ns v) (sym (drop-next names i name within is))

  pub last-next : (last name : List ℕ) (v w : Value) → i < length names → name ≡ get_or names i name → value_in (field definitions last v) ≡ Some w
      → last_presence definitions name (drop (i + 1) names) w ≡ last_presence definitions last (drop i names) v
  last-next last name v w within is found =
      ap (outcome_and_then (last_presence definitions name (drop (i + 1) names))) (sym (yields-from (field definitions last v) w found)) ∙ last-step last name v within is

  pub last-fault : (last name : List ℕ) (v : Value) → i < length names → name ≡ get_or names i name → value_in (field definitions last v) ≡ None
      → value_in (last_presence definitions last (drop i names) v) ≡ None
  last-fault last name v within is none = ap value_in (sym (last-step last name v within is)) ∙ go (field definitions last v) none
    where
      go : (o : Outcome Value) → value_in o ≡ None → value_in (outcome_and_then (last_presence definitions name (drop (i + 1) names)) o) ≡ None
      go (Yields w) none = absurd (let e = none in cc)
      go (Fails why) none = refl
