-- Which candidates are known when their turn comes: those whose state was found before, or is an earlier candidate's.
use Rattle.std.proofs.Common.{◌≡◌, Bool, true, false, cond, List, [], ◌∷◌, ◌++◌, ap, sym, refl, ◌∙◌}
use Rattle.std.specs.Prelude.{◌||◌}
use Rattle.std.specs.List.{list_any}
use Rattle.summary.specs.Sums.{Join, Observation}
use Rattle.search_layer.specs.declared.visited.Candidate.{Candidate}
use Rattle.search_layer.specs.internal.Search.{Found, place, place_all}
use Rattle.search_layer.proofs.SearchSteps.{place-states}

or-false : (b : Bool) → b ≡ (b || false)
or-false true = refl
or-false false = refl

or_assoc : (a b c : Bool) → ((a || b) || c) ≡ (a || (b || c))
or_assoc true b c = refl
or_assoc false b c = refl

module _ {C L S : Type 0} (j : Join S) (r : Observation C L S) (eq : C → C → Bool) (transitive : (x y z : C) → eq x y ≡ true → eq y z ≡ true → eq x z ≡ true) where
  any-push : (x y : C) (xs : List C) → list_any (eq x) (xs ++ y ∷ []) ≡ (list_any (eq x) xs || eq x y)
  any-push x y [] = sym (or-false (eq x y))
  any-push x y (z ∷ zs) = ap (λ b. eq x z || b) (any-push x y zs) ∙ sym (or_assoc (eq x z) (list_any (eq x) zs) (eq x y))

  any-or : (x y z : C) (a b c d : Bool) → eq x y ≡ true → eq y z ≡ a → eq x z ≡ b → (a || c) ≡ true → (c ≡ true → d ≡ true) → (b || d) ≡ true
  any-or x y z a true c d e f h known more = refl
  any-or x y z true false c d e f h known more = absurd (cc (transitive x y z e f, h))
  any-or x y z false false c d e f h known more = more known

  any-equal : (x y : C) (xs : List C) → eq x y ≡ true → list_any (eq y) xs ≡ true → list_any (eq x) xs ≡ true
  any-equal x y [] e h = h
  any-equal x y (z ∷ zs) e h = any-or x y z (eq y z) (eq x z) (list_any (eq y) zs) (list_any (eq x) zs) e refl refl h (any-equal x y zs e)

  kept : (a b : Bool) → (b ≡ true → a ≡ true) → a ≡ (a || b)
  kept true b h = refl
  kept false true h = h refl
  kept false false h = refl

  inserted : (x y : C) (xs : List C) (known : Bool) → list_any (eq y) xs ≡ known → list_any (eq x) (cond known xs (xs ++ y ∷ [])) ≡ (list_any (eq x) xs || eq x y)
  inserted x y xs true h = kept (list_any (eq x) xs) (eq x y) (λ e. any-equal x y xs e h)
  inserted x y xs false h = any-push x y xs

  -- a state is known after candidates were placed, where it was before or is equal to one of theirs
  pub known-after : (found : Found C L S) (x : C) (front : List (Candidate C L))
      → list_any (eq x) (place_all j r eq found front).states ≡ (list_any (eq x) found.states || list_any (λ c. eq x c.state) front)
  known-after found x [] = or-false (list_any (eq x) found.states)
  known-after found x (c ∷ cs) =
      known-after (place j r eq found c) x cs
      ∙ ap (λ ss. list_any (eq x) ss || list_any (λ d. eq x d.state) cs) (place-states j r eq found c)
      ∙ ap (λ b. b || list_any (λ d. eq x d.state) cs) (inserted x c.state found.states (list_any (eq c.state) found.states) refl)
      ∙ or_assoc (list_any (eq x) found.states) (eq x c.state) (list_any (λ d. eq x d.state) cs)
