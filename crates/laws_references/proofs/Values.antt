-- What values refer to, level by level.
use Rattle.std.proofs.Common.{ℕ, ℤ, Bool, List, [], ◌∷◌, ◌++◌, map, get_or, Option, Some, None, IfSome, sym, subst}
use Rattle.std.specs.List.{All, flat_map, slice_get, zip}
use Rattle.std.specs.Option.{option_and_then}
use Rattle.std.proofs.lemmas.List.Elements.{All-cons, All-head, All-map, All-nil, All-tail}
use Rattle.laws_references.specs.References.{RefersTo, references, references_in_field, references_step}
use Rattle.laws_steps.proofs.Outcomes.{map-yields}
use Rattle.laws_steps.proofs.Found.{get-each}
use Rattle.semantics.proofs.Pairs.{All-flat, All-more}
use Rattle.value_types.specs.Outcomes.{Fails, IfYields, Outcome, Yields, each, or_error, outcome_and_then, outcome_map}
use Rattle.value_types.specs.declared.value.ComponentId.{ComponentId}
use Rattle.value_types.specs.declared.value.Value.{Value, fold_out-Value, out-Value, roll-Value}
use Rattle.value_types.specs.declared.value.Value.TheFolds.{fold-roll-Value, map-Value}
use Rattle.value_types.specs.declared.value.Value.TheOpen.{Value-F}
use Rattle.value_types.specs.declared.value.Value.TheShapes.{former-Value-Record-1-at-1}
use Rattle.value_types.specs.declared.value.Value.TheVariants as value

-- ---- lists

pub all-first : {A : Type 0} (P : A → Type 0) (xs ys : List A) → All P (xs ++ ys) → All P xs
all-first P [] ys all = All-nil P
all-first P (x ∷ xs) ys all = All-cons P x xs (All-head P x (xs ++ ys) all) (all-first P xs ys (All-tail P x (xs ++ ys) all))

pub all-last : {A : Type 0} (P : A → Type 0) (xs ys : List A) → All P (xs ++ ys) → All P ys
all-last P [] ys all = all
all-last P (x ∷ xs) ys all = all-last P xs ys (All-tail P x (xs ++ ys) all)

-- what holds of each of several lists one behind the other
pub flat-each : {A B : Type 0} (P : B → Type 0) (f : A → List B) (xs : List A) → All P (flat_map f xs) → All (λ x. All P (f x)) xs
flat-each P f [] all = All-nil (λ x. All P (f x))
flat-each P f (x ∷ xs) all =
    All-cons (λ x. All P (f x)) x xs (all-first P (f x) (flat_map f xs) all) (flat-each P f xs (all-last P (f x) (flat_map f xs) all))

pub map-each : {A B : Type 0} (P : B → Type 0) (f : A → B) (xs : List A) → All P (map f xs) → All (λ x. P (f x)) xs
map-each P f [] all = All-nil (λ x. P (f x))
map-each P f (x ∷ xs) all = All-cons (λ x. P (f x)) x xs (All-head P (f x) (map f xs) all) (map-each P f xs (All-tail P (f x) (map f xs) all))

-- what stands at a place, or is found
pub get-at : {A : Type 0} (P : A → Type 0) (xs : List A) (k : Option ℕ) → All P xs → IfSome (option_and_then (slice_get xs) k) P
get-at P xs None all = tt
get-at P xs (Some k) all = get-each P xs k all

-- the second of pairs
pub zip-last : {A B : Type 0} (P : B → Type 0) (xs : List A) (ys : List B) → All P ys → All (λ pair. P pair.1) (zip xs ys)
zip-last P [] ys all = All-nil (λ pair. P pair.1)
zip-last P (x ∷ xs) [] all = All-nil (λ pair. P pair.1)
zip-last P (x ∷ xs) (y ∷ ys) all = All-cons (λ pair. P pair.1) (x, y) (zip xs ys) (All-head P y ys all) (zip-last P xs ys (All-tail P y ys all))

-- what holds of everything
pub all-of : {A : Type 0} (P : A → Type 0) → ((x : A) → P x) → (xs : List A) → All P xs
all-of P all xs k d lt = all (get_or xs k d)

-- ---- outcomes

pub map-any : {A B : Type 0} (Q : B → Type 0) (f : A → B) (o : Outcome A) → ((a : A) → Q (f a)) → IfYields (outcome_map f o) Q
map-any Q f (Yields a) more = more a
map-any Q f (Fails why) more = tt

pub then-any : {A B : Type 0} (Q : B → Type 0) (f : A → Outcome B) (o : Outcome A) → ((a : A) → IfYields (f a) Q) → IfYields (outcome_and_then f o) Q
then-any Q f (Yields a) more = more a
then-any Q f (Fails why) more = tt

pub error-gives : {A : Type 0} (P : A → Type 0) (o : Option A) → IfSome o P → IfYields (or_error o) P
error-gives P None is = tt
error-gives P (Some a) is = is

-- each of several
pub each-gives : {A : Type 0} (P : A → Type 0) (os : List (Outcome A)) → All (λ o. IfYields o P) os → IfYields (each os) (All P)
each-gives P [] all = All-nil P
each-gives P (Fails why ∷ os) all = tt
each-gives P (Yields a ∷ os) all =
    map-yields (All P) (All P) (λ others. a ∷ others) (each os) (λ others rest. All-cons P a others (All-head (λ o. IfYields o P) (Yields a) os all) rest)
    (each-gives P os (All-tail (λ o. IfYields o P) (Yields a) os all))

-- ---- values

module _ (P : ComponentId → Type 0) where
  -- a field refers only to such components
  abbrev pub StateRefersTo : Option Value → Type 0
  StateRefersTo state = IfSome state (RefersTo P)

  -- one level of a value does
  abbrev pub LevelRefersTo : Value-F Value → Type 0
  LevelRefersTo (Value-F.Record at fields) = All StateRefersTo fields
  LevelRefersTo (Value-F.Component c) = P c
  LevelRefersTo _ = Unit {0}

  -- a field, by what it refers to
  abbrev in-field : Option Value → List ComponentId
  in-field state = references_in_field (former-Value-Record-1-at-1.map Value (List ComponentId) references state)

  state-in : (state : Option Value) → StateRefersTo state → All P (in-field state)
  state-in None is = All-nil P
  state-in (Some v) is = is

  state-out : (state : Option Value) → All P (in-field state) → StateRefersTo state
  state-out None is = tt
  state-out (Some v) is = is

  abbrev level-references : Value-F Value → List ComponentId
  level-references x = references_step (map-Value Value (List ComponentId) references x)

  level-in : (x : Value-F Value) → LevelRefersTo x → All P (level-references x)
  level-in (Value-F.Record at fields) is =
      All-flat P references_in_field (map (former-Value-Record-1-at-1.map Value (List ComponentId) references) fields)
      (All-map (λ found. All P (references_in_field found)) (former-Value-Record-1-at-1.map Value (List ComponentId) references) fields
      (All-more StateRefersTo (λ state. All P (in-field state)) state-in fields is))
  level-in (Value-F.Component c) is = All-cons P c [] is (All-nil P)
  level-in (Value-F.Integer n) is = All-nil P
  level-in (Value-F.Boolean b) is = All-nil P
  level-in (Value-F.Enumerated at n) is = All-nil P
  level-in (Value-F.Default n) is = All-nil P
  level-in Value-F.Null is = All-nil P
  level-in Value-F.Omit is = All-nil P

  level-out : (x : Value-F Value) → All P (level-references x) → LevelRefersTo x
  level-out (Value-F.Record at fields) is =
      All-more (λ state. All P (in-field state)) StateRefersTo state-out fields
      (map-each (λ found. All P (references_in_field found)) (former-Value-Record-1-at-1.map Value (List ComponentId) references) fields
      (flat-each P references_in_field (map (former-Value-Record-1-at-1.map Value (List ComponentId) references) fields) is))
  level-out (Value-F.Component c) is = All-head P c [] is
  level-out (Value-F.Integer n) is = tt
  level-out (Value-F.Boolean b) is = tt
  level-out (Value-F.Enumerated at n) is = tt
  level-out (Value-F.Default n) is = tt
  level-out Value-F.Null is = tt
  level-out Value-F.Omit is = tt

  pub refers-rolled : (x : Value-F Value) → LevelRefersTo x → RefersTo P (roll-Value x)
  refers-rolled x is = subst (All P) (sym (fold-roll-Value (List ComponentId) references_step x)) (level-in x is)

  pub refers-out : (v : Value) → RefersTo P v → LevelRefersTo (out-Value v)
  refers-out v is = level-out (out-Value v) (subst (All P) (fold_out-Value (List ComponentId) references_step v) is)

  -- ---- values of each form

  pub integer-refers : (z : ℤ) → RefersTo P (value.Integer z)
  integer-refers z = subst (RefersTo P) (value.rolls-Integer z) (refers-rolled (Value-F.Integer z) tt)

  pub boolean-refers : (b : Bool) → RefersTo P (value.Boolean b)
  boolean-refers b = subst (RefersTo P) (value.rolls-Boolean b) (refers-rolled (Value-F.Boolean b) tt)

  pub enumerated-refers : (at n : ℕ) → RefersTo P (value.Enumerated at n)
  enumerated-refers at n = subst (RefersTo P) (value.rolls-Enumerated at n) (refers-rolled (Value-F.Enumerated at n) tt)

  pub record-refers : (at : ℕ) (fields : List (Option Value)) → All StateRefersTo fields → RefersTo P (value.Record at fields)
  record-refers at fields all = subst (RefersTo P) (value.rolls-Record at fields) (refers-rolled (Value-F.Record at fields) all)

  pub component-refers : (c : ComponentId) → P c → RefersTo P (value.Component c)
  component-refers c is = subst (RefersTo P) (value.rolls-Component c) (refers-rolled (Value-F.Component c) is)

  pub default-refers : (n : ℕ) → RefersTo P (value.Default n)
  default-refers n = subst (RefersTo P) (value.rolls-Default n) (refers-rolled (Value-F.Default n) tt)

  pub null-refers : RefersTo P value.Null
  null-refers = subst (RefersTo P) value.rolls-Null (refers-rolled Value-F.Null tt)

  pub omit-refers : RefersTo P value.Omit
  omit-refers = subst (RefersTo P) value.rolls-Omit (refers-rolled Value-F.Omit tt)
