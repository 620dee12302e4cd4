-- What is remembered of the first components, and the step that the last of these makes.
use Rattle.std.proofs.Common.{◌≡◌, ℕ, ◌+◌, ◌<◌, arith, List, [], ◌∷◌, ◌++◌, map, take, length, Option, Some, None, refl, sym, ap, subst, true≢false, ◌∙◌}
use Rattle.std.proofs.lemmas.List.{append-nil, length-append, length-map, length_push}
use Rattle.std.specs.List.{flat_map}
use Rattle.std.specs.Prelude.{IfSome, IsSome, slice_get}
use Rattle.config_packed.specs.Pieces.{spell_key}
use Rattle.config_parts.specs.declared.component.Component.{Component}
use Rattle.config_parts.specs.declared.config.Going.{Going}
use Rattle.ttcnx_runs.specs.internal.Spared.{AreFirstKeys, IsStepAmong}
use Rattle.ttcnx_runs.specs.declared.outcome.Effect.{Effect}
use Rattle.ttcnx_runs.specs.declared.outcome.Outcome.{Outcome}

-- ---- options

-- what holds of what is there
pub some-as : {A : Type 0} (o : Option A) (P Q : A → Type 0) → ((a : A) → P a → Q a) → IfSome o P → IfSome o Q
some-as None P Q so holds = holds
some-as (Some a) P Q so holds = so a holds

pub there-with : {A : Type 0} (o : Option A) (a : A) (P : A → Type 0) → o ≡ Some a → P a → IsSome o × IfSome o P
there-with o a P is holds = subst (λ x. IsSome x × IfSome x P) (sym is) (refl, holds)

pub by-both : {A : Type 0} (o : Option A) (P Q : A → Type 0) (R : Type 0) → IsSome o → IfSome o P → IfSome o Q → ((a : A) → P a → Q a → R) → R
by-both None P Q R some one other so = absurd (true≢false (sym some))
by-both (Some a) P Q R some one other so = so a one other

-- ---- one item more

last-there : {A : Type 0} (xs : List A) (x : A) → slice_get (xs ++ x ∷ []) (length xs) ≡ Some x
last-there [] x = refl
last-there (y ∷ ys) x = last-there ys x

first-stay : {A : Type 0} (xs : List A) (x : A) → take (length xs) (xs ++ x ∷ []) ≡ xs
first-stay [] x = refl
first-stay (y ∷ ys) x = ap (λ zs. y ∷ zs) (first-stay ys x)

pub many-more : {A B : Type 0} (f : A → List B) (xs : List A) (x : A) → length (flat_map f (xs ++ x ∷ [])) ≡ length (flat_map f xs) + length (f x)
many-more f [] x = let all = ap length (append-nil (f x)) in omega (arith, all)
many-more f (y ∷ ys) x =
    let all = length-append (f y) (flat_map f (ys ++ x ∷ [])) in
    let first = length-append (f y) (flat_map f ys) in
    let rest = many-more f ys x in
    omega (arith, all, first, rest)

-- the last one makes the step, where fewer steps than all of its own are left
pub step-found : {A : Type 0} (outcomes : A → List Outcome) (known all : List A) (one : A) (nth at left : ℕ) (outcome : Outcome) (effect : Effect) → all ≡ known ++ one ∷ [] → length known ≡ at
    → nth ≡ length (flat_map outcomes known) + left → slice_get (outcomes one) left ≡ Some outcome → outcome.effect ≡ effect → IsStepAmong outcomes all nth at effect
step-found outcomes known all one nth at left outcome effect is long counted here same = record {
  one = one;
  there = ap (λ xs. slice_get xs at) is ∙ ap (slice_get (known ++ one ∷ [])) (sym long) ∙ last-there known one;
  number = left;
  outcome = outcome;
  here = here;
  is = same;
  counted = counted ∙ ap (λ xs. length (flat_map outcomes xs) + left) (sym (ap (take at) is ∙ ap (λ n. take n (known ++ one ∷ [])) (sym long) ∙ first-stay known one));
}

-- the keys of the first components
pub first-keys : {A : Type 0} (key : A → List ℕ) (known all : List A) (one : A) (at : ℕ) (going : Going) → all ≡ known ++ one ∷ [] → length known ≡ at → at < length going.components
    → ((k : ℕ) (component : Component) → k < at + 1 → slice_get going.components k ≡ Some component → slice_get (map key all) k ≡ Some (spell_key going k component)) → AreFirstKeys going (map key all)
first-keys key known all one at going is long below each =
    let many : length (map key all) ≡ at + 1 = length-map all key ∙ ap length is ∙ length_push known one ∙ ap (λ n. n + 1) long in
    record {
      count = omega (arith, many, below);
      each = λ k component less found. each k component (omega (arith, many, less)) found;
    }
