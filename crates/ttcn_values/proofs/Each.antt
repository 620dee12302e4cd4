-- What parts give one by one.
use Rattle.std.proofs.Common.{◌≡◌, ◌≤◌, ℕ, ◌+◌, ◌<◌, List, [], ◌∷◌, ◌++◌, map, length, get_or, drop, if◌then◌else◌, nat_eq, eq-eqb, map-id, arith, refl, sym, ap, ◌∙◌}
use Rattle.std.proofs.lemmas.List.{append-nil, append_assoc, drop_all}
use Rattle.std.specs.List.{zip}
use Rattle.value_types.proofs.Lists.{drop-next}
use Rattle.value_types.specs.Outcomes.{Failure, Fails, Outcome, Yields, each, outcome_map, unmet}

-- what is given already, and what is to come
abbrev pub behind : {A : Type 0} → List A → List (Outcome A) → Outcome (List A)
behind done outcomes = outcome_map (λ others. done ++ others) (each outcomes)

behind-nothing : {A : Type 0} (o : Outcome (List A)) → outcome_map (λ others. [] ++ others) o ≡ o
behind-nothing (Yields l) = refl
behind-nothing (Fails why) = refl

-- at first
pub behind-first : {A : Type 0} (outcomes : List (Outcome A)) → behind [] outcomes ≡ each outcomes
behind-first outcomes = behind-nothing (each outcomes)

one_more : {A : Type 0} (done : List A) (a : A) (o : Outcome (List A)) → outcome_map (λ others. done ++ a ∷ [] ++ others) o ≡ outcome_map (λ others. done ++ others) (outcome_map (λ others. a ∷ others) o)
one_more done a (Yields l) = ap Yields (append_assoc done (a ∷ []) l)
one_more done a (Fails why) = refl

-- one more is given
pub behind-one : {A : Type 0} (done : List A) (a : A) (outcome : Outcome A) (outcomes : List (Outcome A)) → outcome ≡ Yields a → behind (done ++ a ∷ []) outcomes ≡ behind done (outcome ∷ outcomes)
behind-one done a outcome outcomes is = one_more done a (each outcomes) ∙ ap (λ o. behind done (o ∷ outcomes)) (sym is)

-- one fails
pub behind-fault : {A : Type 0} {why : Failure} (done : List A) (outcome : Outcome A) (outcomes : List (Outcome A)) → outcome ≡ Fails why → behind done (outcome ∷ outcomes) ≡ Fails why
behind-fault done outcome outcomes is = ap (λ o. behind done (o ∷ outcomes)) is

-- nothing is to come
pub behind-none : {A : Type 0} (done : List A) → behind done [] ≡ Yields done
behind-none done = ap Yields (append-nil done)

map-both : {A B C : Type 0} (f : B → C) (g : A → B) (l : List A) → map f (map g l) ≡ map (λ x. f (g x)) l
map-both f g [] = refl
map-both f g (x ∷ l) = ap (λ ys. f (g x) ∷ ys) (map-both f g l)

pub each-first : {A B C : Type 0} (f : B → Outcome C) (g : A → B) (l : List A) → behind [] (map (λ x. f (g x)) (drop 0 l)) ≡ each (map f (map g l))
each-first f g l = behind-first (map (λ x. f (g x)) l) ∙ ap each (sym (map-both f g l))

module _ {A B : Type 0} (f : B → Outcome A) (l : List B) (done : List A) (i : ℕ) where
  -- what each thing of a list gives
  pub each-next : (x : B) (a : A) (items : List A) → items ≡ done ++ a ∷ [] → i < length l → x ≡ get_or l i x → f x ≡ Yields a
      → behind items (map f (drop (i + 1) l)) ≡ behind done (map f (drop i l))
  each-next x a items pushed within is gives =
      ap (λ items. behind items (map f (drop (i + 1) l))) pushed
      ∙ behind-one done a (f x) (map f (drop (i + 1) l)) gives ∙ ap (λ xs. behind done (map f xs)) (sym (drop-next l i x within is))

  pub each-end : length l ≤ i → behind done (map f (drop i l)) ≡ Yields done
  each-end past = ap (λ xs. behind done (map f xs)) (drop_all i l past) ∙ behind-none done

-- what each thing of a list, from a position on, gives with the one beside it
abbrev pub beside : {A B C D : Type 0} → (B × D → Outcome A) → (C → D) → List B → List C → ℕ → List (Outcome A)
beside f g l m i = map f (zip (drop i l) (map g (drop i m)))

pub beside-alone : {A B C : Type 0} (f : B × C → Outcome A) (l : List B) (m : List C) → behind [] (beside f (λ y. y) l m 0) ≡ each (map f (zip l m))
beside-alone f l m = behind-first (beside f (λ y. y) l m 0) ∙ ap (λ ys. each (map f (zip l ys))) (map-id m)

module _ {A B C D : Type 0} (f : B × D → Outcome A) (g : C → D) (l : List B) (m : List C) (done : List A) (i : ℕ) (as_long : length m ≡ length l) where
  beside-length : i < length l → i < length m
  beside-length within = omega arith

  pub beside-next : (x : B) (y : C) (a : A) (items : List A) → items ≡ done ++ a ∷ [] → i < length l → x ≡ get_or l i x → y ≡ get_or m i y
      → f (x, g y) ≡ Yields a → behind items (beside f g l m (i + 1)) ≡ behind done (beside f g l m i)
  beside-next x y a items pushed within is is_m gives =
      ap (λ items. behind items (beside f g l m (i + 1))) pushed
      ∙ behind-one done a (f (x, g y)) (beside f g l m (i + 1)) gives
      ∙ ap (λ xs. behind done (map f (zip xs (map g (y ∷ drop (i + 1) m))))) (sym (drop-next l i x within is))
      ∙ ap (λ ys. behind done (map f (zip (drop i l) (map g ys)))) (sym (drop-next m i y (beside-length within) is_m))

  pub beside-fault : {why : Failure} (x : B) (y : C) → i < length l → x ≡ get_or l i x → y ≡ get_or m i y → f (x, g y) ≡ Fails why → behind done (beside f g l m i) ≡ Fails why
  beside-fault x y within is is_m gives =
      ap (λ xs. behind done (map f (zip xs (map g (drop i m))))) (drop-next l i x within is)
      ∙ ap (λ ys. behind done (map f (zip (x ∷ drop (i + 1) l) (map g ys)))) (drop-next m i y (beside-length within) is_m)
      ∙ behind-fault done (f (x, g y)) (beside f g l m (i + 1)) gives

  pub beside-end : length l ≤ i → behind done (beside f g l m i) ≡ Yields done
  beside-end past = ap (λ xs. behind done (map f (zip xs (map g (drop i m))))) (drop_all i l past) ∙ behind-none done

-- ---- lists of one length

pub if-as-long : {A B C : Type 0} (l : List A) (m : List B) (o : Outcome C) → length l ≡ length m → (if nat_eq (length l) (length m) then o else unmet) ≡ o
if-as-long l m o as_long = ap (λ b. if b then o else unmet) (eq-eqb (length l) (length m) as_long)
