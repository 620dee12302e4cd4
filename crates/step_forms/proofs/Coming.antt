-- Elements one behind the other.
use Rattle.std.proofs.Common.{◌≡◌, ℕ, suc, ◌+◌, ◌<◌, ◌≤◌, List, [], ◌∷◌, ◌++◌, map, length, get_or, drop, refl, sym, ap, ◌∙◌, append_assoc, arith}
use Rattle.std.proofs.Math.Seq.{drop-cons}
use Rattle.std.proofs.lemmas.List.{append-nil, drop_all}
use Rattle.std.specs.List.{flat_map}

-- ---- one of each

-- behind the first ones, so many of the elements give these
abbrev pub HaveCome : {A B : Type 0} → (A → B) → List A → List B → ℕ → List B → Type 0
HaveCome f xs first n now = first ++ map f xs ≡ now ++ map f (drop n xs)

pub none-came : {A B : Type 0} (f : A → B) (xs : List A) (first : List B) → HaveCome f xs first 0 first
none-came f xs first = refl

pub one-came : {A B : Type 0} (f : A → B) (xs : List A) (first now : List B) (n : ℕ) (x : A) → n < length xs → x ≡ get_or xs n x → HaveCome f xs first n now
    → HaveCome f xs first (n + 1) (now ++ f x ∷ [])
one-came f xs first now n x within is came =
    came ∙ ap (λ ys. now ++ map f ys) (drop-cons xs n x within ∙ ap (λ y. y ∷ drop (suc n) xs) (sym is))
    ∙ sym (append_assoc now (f x ∷ []) (map f (drop (suc n) xs)))
    ∙ ap (λ m. (now ++ f x ∷ []) ++ map f (drop m xs)) (let same : suc n ≡ n + 1 = omega arith in same)

pub all-came : {A B : Type 0} (f : A → B) (xs : List A) (first now : List B) (n : ℕ) → length xs ≤ n → HaveCome f xs first n now → now ≡ first ++ map f xs
all-came f xs first now n end came = sym (came ∙ ap (λ ys. now ++ map f ys) (drop_all n xs end) ∙ append-nil now)

-- ---- several of each

-- so many of the elements give these
abbrev pub HaveAdded : {A B : Type 0} → (A → List B) → List A → ℕ → List B → Type 0
HaveAdded f xs n now = flat_map f xs ≡ now ++ flat_map f (drop n xs)

pub none-added : {A B : Type 0} (f : A → List B) (xs : List A) → HaveAdded f xs 0 []
none-added f xs = refl

pub one-added : {A B : Type 0} (f : A → List B) (xs : List A) (now next : List B) (n : ℕ) (x : A) → n < length xs → x ≡ get_or xs n x → HaveAdded f xs n now → next ≡ now ++ f x
    → HaveAdded f xs (n + 1) next
one-added f xs now next n x within is added more =
    added ∙ ap (λ ys. now ++ flat_map f ys) (drop-cons xs n x within ∙ ap (λ y. y ∷ drop (suc n) xs) (sym is))
    ∙ sym (append_assoc now (f x) (flat_map f (drop (suc n) xs)))
    ∙ ap (λ ys. ys ++ flat_map f (drop (suc n) xs)) (sym more)
    ∙ ap (λ k. next ++ flat_map f (drop k xs)) (let same : suc n ≡ n + 1 = omega arith in same)

pub all-added : {A B : Type 0} (f : A → List B) (xs : List A) (now : List B) (n : ℕ) → length xs ≤ n → HaveAdded f xs n now → now ≡ flat_map f xs
all-added f xs now n end added = sym (added ∙ ap (λ ys. now ++ flat_map f ys) (drop_all n xs end) ∙ append-nil now)
