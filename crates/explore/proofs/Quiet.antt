-- What holds of the states from a place on, as one more is seen.
use Rattle.std.proofs.Common.{◌≡◌, ℕ, ◌+◌, ◌-◌, ◌<◌, ◌≤◌, List, [], ◌∷◌, ◌++◌, length, get_or, take, drop, ap, sym, subst, ◌∙◌, arith}
use Rattle.std.specs.Prelude.{All, slice_get, Some}
use Rattle.std.proofs.lemmas.List.{take_all, take_more, get_or-drop, length-drop}
use Rattle.std.proofs.lemmas.List.Elements.{All-get_or, All-push}
use Rattle.std.proofs.lemmas.Option.{get_or_from_slice_get, slice_get_within}

module _ {C : Type 0} (P : C → Type 0) (states : List C) (from at : ℕ) (le : from ≤ at) where
  here : (state : C) → slice_get states at ≡ Some state → get_or (drop from states) (at - from) state ≡ state
  here state is =
      let place : from + (at - from) ≡ at = omega arith in
      get_or-drop from states (at - from) state ∙ ap (λ k. get_or states k state) place ∙ get_or_from_slice_get states at state state is

  within : (state : C) → slice_get states at ≡ Some state → at - from < length (drop from states)
  within state is = let low = slice_get_within states at state is in let l = length-drop from states in omega arith

  pub one_more : (state : C) → slice_get states at ≡ Some state → P state → All P (take (at - from) (drop from states)) → All P (take (at + 1 - from) (drop from states))
  one_more state is holds all =
      let n : (at - from) + 1 ≡ at + 1 - from = omega arith in
      let split : take (at - from) (drop from states) ++ state ∷ [] ≡ take (at + 1 - from) (drop from states) =
      ap (λ (s : C). take (at - from) (drop from states) ++ s ∷ []) (sym (here state is)) ∙ sym (take_more (drop from states) (at - from) state (within state is)) ∙ ap (λ k. take k (drop from states)) n in
      subst (All P) split (All-push P (take (at - from) (drop from states)) state all holds)

  pub of-all : (state : C) → slice_get states at ≡ Some state → All P (drop from states) → P state
  of-all state is all = subst P (here state is) (All-get_or P (drop from states) (at - from) state (within state is) all)

  pub in-all : length states ≤ at → All P (take (at - from) (drop from states)) → All P (drop from states)
  in-all end all = subst (All P) (take_all (at - from) (drop from states) (let l = length-drop from states in omega arith)) all
