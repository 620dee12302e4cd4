-- What holds of each of a list, and of each and those behind it.
use Rattle.std.proofs.Common.{suc, List, [], ◌∷◌, ◌++◌, map, get_or, arith}
use Rattle.std.specs.List.{All, AllPairs, flat_map}
use Rattle.std.proofs.lemmas.List.Elements.{All-append, All-head, All-map, All-nil, All-tail}
use Rattle.std.proofs.lemmas.List.Kept.{AllPairs-cons}

pub All-more : {A : Type 0} (P Q : A → Type 0) → ((a : A) → P a → Q a) → (xs : List A) → All P xs → All Q xs
All-more P Q weaker xs all k d lt = weaker (get_or xs k d) (all k d lt)

pub All-both : {A : Type 0} (P Q R : A → Type 0) → ((a : A) → P a → Q a → R a) → (xs : List A) → All P xs → All Q xs → All R xs
All-both P Q R join xs p q k d lt = join (get_or xs k d) (p k d lt) (q k d lt)

pub pairs-more : {A : Type 0} (R S : A → A → Type 0) → ((a b : A) → R a b → S a b) → (xs : List A) → AllPairs R xs → AllPairs S xs
pairs-more R S weaker xs pairs i j d lt within = weaker (get_or xs i d) (get_or xs j d) (pairs i j d lt within)

pub pairs-head : {A : Type 0} (R : A → A → Type 0) (x : A) (xs : List A) → AllPairs R (x ∷ xs) → All (R x) xs
pairs-head R x xs pairs k d lt = pairs 0 (suc k) d (omega arith) (omega arith)

pub pairs-tail : {A : Type 0} (R : A → A → Type 0) (x : A) (xs : List A) → AllPairs R (x ∷ xs) → AllPairs R xs
pairs-tail R x xs pairs i j d lt within = pairs (suc i) (suc j) d (omega arith) (omega arith)

pub pairs-nil : {A : Type 0} (R : A → A → Type 0) → AllPairs R []
pairs-nil R i j d lt within = absurd (omega arith)

-- two lists one behind the other
pub pairs-append : {A : Type 0} (R : A → A → Type 0) (xs ys : List A) → AllPairs R xs → AllPairs R ys → All (λ x. All (R x) ys) xs → AllPairs R (xs ++ ys)
pairs-append R [] ys first second across = second
pairs-append R (x ∷ xs) ys first second across =
    AllPairs-cons R x (xs ++ ys)
    (All-append (R x) xs ys (pairs-head R x xs first) (All-head (λ a. All (R a) ys) x xs across))
    (pairs-append R xs ys (pairs-tail R x xs first) second (All-tail (λ a. All (R a) ys) x xs across))

pub All-flat : {A B : Type 0} (P : B → Type 0) (f : A → List B) (xs : List A) → All (λ x. All P (f x)) xs → All P (flat_map f xs)
All-flat P f [] all = All-nil P
All-flat P f (x ∷ xs) all = All-append P (f x) (flat_map f xs) (All-head (λ a. All P (f a)) x xs all) (All-flat P f xs (All-tail (λ a. All P (f a)) x xs all))

-- of several lists, each
flat-swap : {A B : Type 0} (R : B → B → Type 0) (f : A → List B) (firsts : List B) (others : List A) → All (λ b. All (λ x. All (R x) (f b)) firsts) others → All (λ x. All (R x) (flat_map f others)) firsts
flat-swap R f firsts others all k d lt = All-flat (R (get_or firsts k d)) f others (λ i b within. all i b within k d lt)

-- lists of several, one behind the other
pub pairs-flat : {A B : Type 0} (R : B → B → Type 0) (S : A → A → Type 0) (f : A → List B) → ((a b : A) → S a b → All (λ x. All (R x) (f b)) (f a))
    → (xs : List A) → AllPairs S xs → All (λ a. AllPairs R (f a)) xs → AllPairs R (flat_map f xs)
pairs-flat R S f across [] pairs each = pairs-nil R
pairs-flat R S f across (a ∷ others) pairs each =
    pairs-append R (f a) (flat_map f others) (All-head (λ b. AllPairs R (f b)) a others each)
    (pairs-flat R S f across others (pairs-tail S a others pairs) (All-tail (λ b. AllPairs R (f b)) a others each))
    (flat-swap R f (f a) others (All-more (S a) (λ b. All (λ x. All (R x) (f b)) (f a)) (across a) others (pairs-head S a others pairs)))

pub pairs-map : {A B : Type 0} (R : B → B → Type 0) (f : A → B) (xs : List A) → AllPairs (λ a b. R (f a) (f b)) xs → AllPairs R (map f xs)
pairs-map R f [] pairs = pairs-nil R
pairs-map R f (x ∷ xs) pairs =
    AllPairs-cons R (f x) (map f xs) (All-map (R (f x)) f xs (pairs-head (λ a b. R (f a) (f b)) x xs pairs)) (pairs-map R f xs (pairs-tail (λ a b. R (f a) (f b)) x xs pairs))
