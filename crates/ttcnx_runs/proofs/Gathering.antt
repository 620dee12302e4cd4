-- What is remembered of all components: how many of them have steps, and their keys.
use Rattle.std.proofs.Common.{◌≡◌, ℕ, zero, suc, ◌+◌, ◌<◌, arith, Bool, true, false, List, [], ◌∷◌, ◌++◌, map, take, length, get_or, true≢false, Some, refl, sym, ap, subst, ◌∙◌, ◌⊎◌, inl, inr, if◌then◌else◌}
use Rattle.std.specs.Bool.{◌==◌}
use Rattle.std.specs.Prelude.{slice_get}
use Rattle.std.proofs.Math.Nat.{eq-or-lt_of_le}
use Rattle.std.proofs.lemmas.Bool.{eqb-true}
use Rattle.std.proofs.lemmas.List.{append_assoc, map_push, take_more}
use Rattle.config_packed.specs.Pieces.{spell_key}
use Rattle.config_parts.specs.declared.component.Component.{Component}
use Rattle.config_parts.specs.declared.config.Going.{Going}
use Rattle.laws_local.specs.Alone.{how_many}
use Rattle.ttcnx_runs.specs.internal.Recalls.{has_steps}
use Rattle.ttcnx_runs.specs.declared.outcome.Outcome.{Outcome}

-- ---- how many are of a kind

one-if : Bool → ℕ → ℕ
one-if true n = suc n
one-if false n = n

counted-if : {A : Type 0} (is : A → Bool) (x : A) (xs : List A) → how_many is (x ∷ xs) ≡ one-if (is x) (how_many is xs)
unfolding one-if
counted-if is x xs = told (is x) (how_many is xs)
  where
    told : (b : Bool) (n : ℕ) → (if b then suc n else n) ≡ one-if b n
    told true n = refl
    told false n = refl

swapped : (p q : Bool) (n : ℕ) → one-if p (one-if q n) ≡ one-if q (one-if p n)
unfolding one-if
swapped true true n = refl
swapped true false n = refl
swapped false true n = refl
swapped false false n = refl

counted-last : {A : Type 0} (is : A → Bool) (xs : List A) (x : A) → how_many is (xs ++ x ∷ []) ≡ one-if (is x) (how_many is xs)
counted-last is [] x = counted-if is x []
counted-last is (y ∷ ys) x =
    counted-if is y (ys ++ x ∷ []) ∙ ap (one-if (is y)) (counted-last is ys x) ∙ swapped (is y) (is x) (how_many is ys) ∙ ap (one-if (is x)) (sym (counted-if is y ys))

counted-next : {A : Type 0} (xs : List A) (at : ℕ) (x : A) (is : A → Bool) → at < length xs → x ≡ get_or xs at x → how_many is (take (at + 1) xs) ≡ one-if (is x) (how_many is (take at xs))
counted-next xs at x is below here =
    ap (how_many is) (take_more xs at x below) ∙ counted-last is (take at xs) (get_or xs at x) ∙ ap (λ y. one-if (is y) (how_many is (take at xs))) (sym here)

pub one-more : {A : Type 0} (xs : List A) (at : ℕ) (x : A) (is : A → Bool) (before after : ℕ) → at < length xs → x ≡ get_or xs at x → before ≡ how_many is (take at xs) → is x ≡ true → after ≡ before + 1
    → after ≡ how_many is (take (at + 1) xs)
unfolding one-if
one-more xs at x is before after below here counted active more =
    let next : how_many is (take (at + 1) xs) ≡ suc (how_many is (take at xs)) = counted-next xs at x is below here ∙ ap (λ b. one-if b (how_many is (take at xs))) active in
    omega (arith, next, counted, more)

pub none-more : {A : Type 0} (xs : List A) (at : ℕ) (x : A) (is : A → Bool) (before after : ℕ) → at < length xs → x ≡ get_or xs at x → before ≡ how_many is (take at xs) → is x ≡ false → after ≡ before
    → after ≡ how_many is (take (at + 1) xs)
unfolding one-if
none-more xs at x is before after below here counted idle same =
    let next : how_many is (take (at + 1) xs) ≡ how_many is (take at xs) = counted-next xs at x is below here ∙ ap (λ b. one-if b (how_many is (take at xs))) idle in
    same ∙ counted ∙ sym next

-- whether there are some, by how many there are
pub have-steps : (outcomes : List Outcome) (count : ℕ) → count ≡ length outcomes → false ≡ (count == 0) → has_steps outcomes ≡ true
have-steps [] count long some = absurd (true≢false (sym (some ∙ ap (λ (n : ℕ). n == 0) long)))
have-steps (x ∷ xs) count long some = refl

pub have-none : (outcomes : List Outcome) (count : ℕ) → count ≡ length outcomes → true ≡ (count == 0) → has_steps outcomes ≡ false
have-none [] count long none = refl
have-none (x ∷ xs) count long none =
    let zero_long : count ≡ 0 = eqb-true count 0 (sym none) in
    absurd (omega (arith, zero_long, long))

-- ---- keys

key-before : {A : Type 0} (key : A → List ℕ) (xs ys : List A) (k : ℕ) (v : List ℕ) → slice_get (map key xs) k ≡ Some v → slice_get (map key (xs ++ ys)) k ≡ Some v
key-before key [] ys k v is = absurd (let no = is in cc)
key-before key (x ∷ xs) ys zero v is = is
key-before key (x ∷ xs) ys (suc k) v is = key-before key xs ys k v is

key-last : {A : Type 0} (key : A → List ℕ) (xs : List A) (y : A) → slice_get (map key (xs ++ y ∷ [])) (length xs) ≡ Some (key y)
key-last key [] y = refl
key-last key (x ∷ xs) y = key-last key xs y

-- with the key of one component more
pub keys-more : {A : Type 0} (items all : List A) (one : A) (key : A → List ℕ) (going : Going) (at : ℕ) → all ≡ items ++ one ∷ [] → length items ≡ at
    → ((k : ℕ) (component : Component) → k < at → slice_get going.components k ≡ Some component → slice_get (map key items) k ≡ Some (spell_key going k component))
    → ((component : Component) → slice_get going.components at ≡ Some component → key one ≡ spell_key going at component)
    → (k : ℕ) (component : Component) → k < at + 1 → slice_get going.components k ≡ Some component → slice_get (map key all) k ≡ Some (spell_key going k component)
keys-more items all one key going at is long before new k component below found =
    subst (λ l. slice_get (map key l) k ≡ Some (spell_key going k component)) (sym is) (by (eq-or-lt_of_le (omega (arith, below))))
  where
    by : ((k ≡ at) ⊎ (k < at)) → slice_get (map key (items ++ one ∷ [])) k ≡ Some (spell_key going k component)
    by (inl same) =
        ap (slice_get (map key (items ++ one ∷ []))) (same ∙ sym long) ∙ key-last key items one
        ∙ ap Some (new component (subst (λ n. slice_get going.components n ≡ Some component) same found) ∙ ap (λ n. spell_key going n component) (sym same))
    by (inr less) = key-before key items (one ∷ []) k (spell_key going k component) (before k component less found)

-- ---- what is shown of one more element

pub more-behind : {A B : Type 0} (f : A → B) (xs : List A) (i : ℕ) (x : A) (start old new : List B) (y : B) → i < length xs → x ≡ get_or xs i x
    → old ≡ start ++ map f (take i xs) → new ≡ old ++ y ∷ [] → y ≡ f x → new ≡ start ++ map f (take (i + 1) xs)
more-behind f xs i x start old new y below is before pushed same =
    pushed ∙ ap (λ zs. zs ++ y ∷ []) before ∙ append_assoc start (map f (take i xs)) (y ∷ [])
    ∙ ap (λ zs. start ++ zs)
    (ap (λ z. map f (take i xs) ++ z ∷ []) same ∙ sym (map_push f (take i xs) x) ∙ ap (map f) (ap (λ z. take i xs ++ z ∷ []) is ∙ sym (take_more xs i x below)))
