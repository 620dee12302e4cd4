-- Facts on lists by recursion: what holds of each item, what is among the items, and order.
use Rattle.std.proofs.Common.{◌≡◌, ℕ, zero, suc, ◌<◌, Bool, true, false, List, [], ◌∷◌, ◌++◌, length, get_or, sym, refl, ap, subst, arith, inl, inr, ⊎_elim, map}
use Rattle.std.proofs.lemmas.Bool.{false≢true}
use Rattle.std.specs.Prelude.{◌⊎◌, ◌||◌, Contains, AllPairs, All}
use Rattle.std.specs.List.{list_any, flat_map}

abbrev pub Each : {A : Type 0} → (A → Type 0) → List A → Type 0
Each P [] = Unit {0}
Each P (x ∷ xs) = P x × Each P xs

abbrev pub In : {A : Type 0} → A → List A → Type 0
In x [] = ⊥
In x (y ∷ ys) = (y ≡ x) ⊎ In x ys

-- each is so related to all behind it
abbrev pub Ordered : {A : Type 0} → (A → A → Type 0) → List A → Type 0
Ordered R [] = Unit {0}
Ordered R (x ∷ xs) = Each (R x) xs × Ordered R xs

module _ {A : Type 0} where
  pub each-weaker : (P Q : A → Type 0) → ((x : A) → P x → Q x) → (xs : List A) → Each P xs → Each Q xs
  each-weaker P Q f [] h = tt
  each-weaker P Q f (x ∷ xs) h = (f x h.0, each-weaker P Q f xs h.1)

  pub each-in : (P : A → Type 0) (xs : List A) → Each P xs → (x : A) → In x xs → P x
  each-in P [] h x i = absurd i
  each-in P (y ∷ ys) h x (inl e) = subst P e h.0
  each-in P (y ∷ ys) h x (inr i) = each-in P ys h.1 x i

  pub each-from-in : (P : A → Type 0) (xs : List A) → ((x : A) → In x xs → P x) → Each P xs
  each-from-in P [] f = tt
  each-from-in P (x ∷ xs) f = (f x (inl refl), each-from-in P xs (λ y i. f y (inr i)))

  pub each-append : (P : A → Type 0) (xs ys : List A) → Each P xs → Each P ys → Each P (xs ++ ys)
  each-append P [] ys h k = k
  each-append P (x ∷ xs) ys h k = (h.0, each-append P xs ys h.1 k)

  pub in-left : (xs ys : List A) (x : A) → In x xs → In x (xs ++ ys)
  in-left [] ys x i = absurd i
  in-left (z ∷ xs) ys x (inl e) = inl e
  in-left (z ∷ xs) ys x (inr i) = inr (in-left xs ys x i)

  pub in-right : (xs ys : List A) (x : A) → In x ys → In x (xs ++ ys)
  in-right [] ys x i = i
  in-right (z ∷ xs) ys x i = inr (in-right xs ys x i)

  pub in-cases : (xs ys : List A) (x : A) → In x (xs ++ ys) → In x xs ⊎ In x ys
  in-cases [] ys x i = inr i
  in-cases (z ∷ xs) ys x (inl e) = inl (inl e)
  in-cases (z ∷ xs) ys x (inr i) = ⊎_elim (λ h. inl (inr h)) (λ h. inr h) (in-cases xs ys x i)

  pub in_last : (xs : List A) (x : A) → In x (xs ++ x ∷ [])
  in_last xs x = in-right xs (x ∷ []) x (inl refl)

  pub in-contains : (xs : List A) (x : A) → In x xs → Contains xs x
  in-contains [] x i = absurd i
  in-contains (y ∷ ys) x (inl e) = (0, omega arith, e)
  in-contains (y ∷ ys) x (inr i) = let h = in-contains ys x i in (suc h.0, omega (arith, h.1), h.2)

  pub contains_in : (xs : List A) (x : A) → Contains xs x → In x xs
  contains_in [] x c = absurd (omega (arith, c.1))
  contains_in (y ∷ ys) x c = go c.0 c.1 c.2 (contains_in ys x)
    where
      go : (k : ℕ) → k < length (y ∷ ys) → get_or (y ∷ ys) k x ≡ x → (Contains ys x → In x ys) → In x (y ∷ ys)
      go zero h e rest = inl e
      go (suc k) h e rest = inr (rest (k, omega arith, e))

  pub in-map : {B : Type 0} (f : A → B) (xs : List A) (x : A) → In x xs → In (f x) (map f xs)
  in-map f [] x i = absurd i
  in-map f (y ∷ ys) x (inl e) = inl (ap f e)
  in-map f (y ∷ ys) x (inr i) = inr (in-map f ys x i)

  pub from-map : {B : Type 0} (f : A → B) (xs : List A) (y : B) → In y (map f xs) → (x : A) × In x xs × (f x ≡ y)
  from-map f [] y i = absurd i
  from-map f (x ∷ xs) y (inl e) = (x, inl refl, e)
  from-map f (x ∷ xs) y (inr i) = let h = from-map f xs y i in (h.0, inr h.1, h.2)

  pub ordered-last : (R : A → A → Type 0) (xs : List A) (y : A) → Ordered R xs → Each (λ x. R x y) xs → Ordered R (xs ++ y ∷ [])
  ordered-last R [] y o e = (tt, tt)
  ordered-last R (x ∷ xs) y o e = (each-append (R x) xs (y ∷ []) o.0 (e.0, tt), ordered-last R xs y o.1 e.1)

  pub ordered-append : (R : A → A → Type 0) (xs ys : List A) → Ordered R xs → Ordered R ys → Each (λ x. Each (R x) ys) xs → Ordered R (xs ++ ys)
  ordered-append R [] ys o p e = p
  ordered-append R (x ∷ xs) ys o p e = (each-append (R x) xs ys o.0 e.0, ordered-append R xs ys o.1 p e.1)

  pub each-get : (P : A → Type 0) (xs : List A) (k : ℕ) (d : A) → Each P xs → k < length xs → P (get_or xs k d)
  each-get P [] k d e h = absurd (omega arith)
  each-get P (x ∷ xs) zero d e h = e.0
  each-get P (x ∷ xs) (suc k) d e h = each-get P xs k d e.1 (omega arith)

  pub pairs-from-ordered : (R : A → A → Type 0) (xs : List A) → Ordered R xs → AllPairs R xs
  pairs-from-ordered R [] o = λ i j d h k. absurd (omega arith)
  pairs-from-ordered R (x ∷ xs) o = go (pairs-from-ordered R xs o.1)
    where
      go : AllPairs R xs → (i j : ℕ) (d : A) → i < j → j < length (x ∷ xs) → R (get_or (x ∷ xs) i d) (get_or (x ∷ xs) j d)
      go rest i zero d h k = absurd (omega arith)
      go rest zero (suc j) d h k = each-get (R x) xs j d o.0 (omega arith)
      go rest (suc i) (suc j) d h k = rest i j d (omega arith) (omega arith)

  pub ordered-from-pairs : (R : A → A → Type 0) (xs : List A) → AllPairs R xs → Ordered R xs
  ordered-from-pairs R [] p = tt
  ordered-from-pairs R (x ∷ xs) p = (behind xs (λ k d h. p 0 (suc k) d (omega arith) (omega arith)), ordered-from-pairs R xs (λ i j d h k. p (suc i) (suc j) d (omega arith) (omega arith)))
    where
      behind : (ys : List A) → ((k : ℕ) (d : A) → k < length ys → R x (get_or ys k d)) → Each (R x) ys
      behind [] f = tt
      behind (y ∷ ys) f = (f 0 y (omega arith), behind ys (λ k d h. f (suc k) d (omega arith)))

  pub each-all : (P : A → Type 0) (xs : List A) → Each P xs → All P xs
  each-all P xs e = λ k d h. each-get P xs k d e h

  pub all-each : (P : A → Type 0) (xs : List A) → All P xs → Each P xs
  all-each P [] a = tt
  all-each P (x ∷ xs) a = (a 0 x (omega arith), all-each P xs (λ k d h. a (suc k) d (omega arith)))

  -- what a test finds
  pub any-found : (p : A → Bool) (xs : List A) → list_any p xs ≡ true → (x : A) × In x xs × (p x ≡ true)
  any-found p [] h = cc
  any-found p (x ∷ xs) h = go (any-found p xs) (p x) refl h
    where
      go : (list_any p xs ≡ true → (y : A) × In y xs × (p y ≡ true)) → (b : Bool) → p x ≡ b → (b || list_any p xs) ≡ true → (y : A) × In y (x ∷ xs) × (p y ≡ true)
      go rest true e k = (x, inl refl, e)
      go rest false e k = let found = rest k in (found.0, inr found.1, found.2)

  -- what no test finds
  pub any-none : (p : A → Bool) (xs : List A) → list_any p xs ≡ false → Each (λ x. p x ≡ false) xs
  any-none p [] h = tt
  any-none p (x ∷ xs) h = go (any-none p xs) (p x) refl h
    where
      go : (list_any p xs ≡ false → Each (λ y. p y ≡ false) xs) → (b : Bool) → p x ≡ b → (b || list_any p xs) ≡ false → (p x ≡ false) × Each (λ y. p y ≡ false) xs
      go rest true e k = absurd (false≢true (sym k))
      go rest false e k = (e, rest k)

pub in-flat-map : {A B : Type 0} (f : A → List B) (xs : List A) (x : A) (y : B) → In x xs → In y (f x) → In y (flat_map f xs)
in-flat-map f [] x y i k = absurd i
in-flat-map f (z ∷ xs) x y (inl e) k = in-left (f z) (flat_map f xs) y (subst (λ w. In y (f w)) (sym e) k)
in-flat-map f (z ∷ xs) x y (inr i) k = in-right (f z) (flat_map f xs) y (in-flat-map f xs x y i k)

pub from-flat-map : {A B : Type 0} (f : A → List B) (xs : List A) (y : B) → In y (flat_map f xs) → (x : A) × In x xs × In y (f x)
from-flat-map f [] y i = absurd i
from-flat-map f (x ∷ xs) y i =
    ⊎_elim (λ h. (x, inl refl, h)) (λ h. let k = from-flat-map f xs y h in (k.0, inr k.1, k.2)) (in-cases (f x) (flat_map f xs) y i)
