-- The place of the first element of a kind, and what is found, changed and written there.
use Rattle.std.proofs.Common.{◌≡◌, ℕ, zero, suc, Bool, true, false, List, [], ◌∷◌, Option, None, Some, length, nat_lt, ◌+◌, cond, not, refl, ap, arith, ◌∙◌, get_or, if◌then◌else◌}
use Rattle.std.proofs.lemmas.Bool.{lt-ltb, ltb-false, ltb-true}
use Rattle.std.specs.List.{find, position, position_or_len}
use Rattle.std.specs.Option.{option_map}
use Rattle.config_parts.specs.internal.Changes.{change_first, changed_at, is_of, is_terminated, live_place, place}
use Rattle.config_parts.specs.internal.Done.{is_created}
use Rattle.config_parts.specs.declared.component.Component.{Component}
use Rattle.config_parts.specs.declared.component.State.{State}
use Rattle.config_parts.specs.declared.component.State.TheVariants as state
use Rattle.value_types.specs.declared.path.Path.{Path}

-- ---- `position`

shifted : (b : Bool) (n : ℕ) → cond b (Some (1 + n)) None ≡ option_map suc (cond b (Some n) None)
shifted true n = ap Some (omega arith)
shifted false n = refl

lt-both : (b c : Bool) (n l : ℕ) → nat_lt (1 + n) (suc l) ≡ b → nat_lt n l ≡ c → b ≡ c
lt-both true true n l one other = refl
lt-both true false n l one other = absurd (omega (arith, ltb-true (1 + n) (suc l) one, ltb-false n l other))
lt-both false true n l one other = absurd (omega (arith, ltb-false (1 + n) (suc l) one, ltb-true n l other))
lt-both false false n l one other = refl

lt-more : (n l : ℕ) → nat_lt (1 + n) (suc l) ≡ nat_lt n l
lt-more n l = lt-both (nat_lt (1 + n) (suc l)) (nat_lt n l) n l refl refl

from-first : (b : Bool) (n l : ℕ) → cond (nat_lt (cond (not b) (1 + n) 0) (suc l)) (Some (cond (not b) (1 + n) 0)) None ≡ (if b then Some 0 else option_map suc (cond (nat_lt n l) (Some n) None))
from-first true n l = ap (λ b. cond b (Some 0) None) (lt-ltb 0 (suc l) (omega arith))
from-first false n l = ap (λ b. cond b (Some (1 + n)) None) (lt-more n l) ∙ shifted (nat_lt n l) n

position-first : {A : Type 0} (is : A → Bool) (x : A) (xs : List A) → position is (x ∷ xs) ≡ (if is x then Some 0 else option_map suc (position is xs))
position-first is x xs = from-first (is x) (position_or_len is xs) (length xs)

pub placed : {A : Type 0} (is : A → Bool) (xs : List A) → position is xs ≡ place is xs
placed is [] = refl
placed is (x ∷ xs) = position-first is x xs ∙ ap (λ o. if is x then Some 0 else option_map suc o) (placed is xs)

-- ---- what is found there

found-first : {A : Type 0} (is : A → Bool) (b : Bool) (x : A) (xs : List A) (o : Option ℕ) (at : ℕ) (d : A)
    → (if b then Some 0 else option_map suc o) ≡ Some at
    → ((n : ℕ) → o ≡ Some n → find is xs ≡ Some (get_or xs n d))
    → cond b (Some x) (find is xs) ≡ Some (get_or (x ∷ xs) at d)
found-first is true x xs o zero d e below = refl
found-first is true x xs o (suc n) d e below = absurd (let found = e in cc)
found-first is false x xs None at d e below = absurd (let found = e in cc)
found-first is false x xs (Some n) zero d e below = absurd (let found = e in cc)
found-first is false x xs (Some n) (suc m) d e below = below m (let found = e in cc)

pub found-at : {A : Type 0} (is : A → Bool) (xs : List A) (at : ℕ) (d : A) → place is xs ≡ Some at → find is xs ≡ Some (get_or xs at d)
found-at is [] at d e = absurd (let found = e in cc)
found-at is (x ∷ xs) at d e = found-first is (is x) x xs (place is xs) at d e (λ n found. found-at is xs n d found)

unfound-first : {A : Type 0} (is : A → Bool) (b : Bool) (x : A) (xs : List A) (o : Option ℕ)
    → (if b then Some 0 else option_map suc o) ≡ None → (o ≡ None → find is xs ≡ None) → cond b (Some x) (find is xs) ≡ None
unfound-first is true x xs o e below = absurd (let found = e in cc)
unfound-first is false x xs None e below = below refl
unfound-first is false x xs (Some n) e below = absurd (let found = e in cc)

pub unfound : {A : Type 0} (is : A → Bool) (xs : List A) → place is xs ≡ None → find is xs ≡ None
unfound is [] e = refl
unfound is (x ∷ xs) e = unfound-first is (is x) x xs (place is xs) e (unfound is xs)

-- ---- what is changed there

changed-one : {A : Type 0} (is : A → Bool) (change : A → A) (b : Bool) (x : A) (xs : List A) (o : Option ℕ) (at : ℕ)
    → (if b then Some 0 else option_map suc o) ≡ Some at
    → ((n : ℕ) → o ≡ Some n → changed_at xs n change ≡ change_first is change xs)
    → changed_at (x ∷ xs) at change ≡ (if b then change x ∷ xs else x ∷ change_first is change xs)
changed-one is change true x xs o zero e below = refl
changed-one is change true x xs o (suc n) e below = absurd (let found = e in cc)
changed-one is change false x xs None at e below = absurd (let found = e in cc)
changed-one is change false x xs (Some n) zero e below = absurd (let found = e in cc)
changed-one is change false x xs (Some n) (suc m) e below = ap (λ ys. x ∷ ys) (below m (let found = e in cc))

pub changed-first : {A : Type 0} (is : A → Bool) (change : A → A) (xs : List A) (at : ℕ) → place is xs ≡ Some at → changed_at xs at change ≡ change_first is change xs
changed-first is change [] at e = absurd (let found = e in cc)
changed-first is change (x ∷ xs) at e = changed-one is change (is x) x xs (place is xs) at e (λ n found. changed-first is change xs n found)

unchanged-one : {A : Type 0} (is : A → Bool) (change : A → A) (b : Bool) (x : A) (xs : List A) (o : Option ℕ)
    → (if b then Some 0 else option_map suc o) ≡ None → (o ≡ None → xs ≡ change_first is change xs)
    → x ∷ xs ≡ (if b then change x ∷ xs else x ∷ change_first is change xs)
unchanged-one is change true x xs o e below = absurd (let found = e in cc)
unchanged-one is change false x xs None e below = ap (λ ys. x ∷ ys) (below refl)
unchanged-one is change false x xs (Some n) e below = absurd (let found = e in cc)

pub unchanged : {A : Type 0} (is : A → Bool) (change : A → A) (xs : List A) → place is xs ≡ None → xs ≡ change_first is change xs
unchanged is change [] e = refl
unchanged is change (x ∷ xs) e = unchanged-one is change (is x) x xs (place is xs) e (unchanged is change xs)

-- ---- components that are terminated

live-one : (b t : Bool) (c : Component) (cs : List Component) (o live : Option ℕ) (at : ℕ) (d : Component)
    → (if b then Some 0 else option_map suc o) ≡ Some at
    → is_terminated (get_or (c ∷ cs) at d).state ≡ t
    → ((n : ℕ) → o ≡ Some n → is_terminated (get_or cs n d).state ≡ t → live ≡ (if t then None else Some n))
    → (if b then (if is_terminated c.state then None else Some 0) else option_map suc live) ≡ (if t then None else Some at)
live-one true t c cs o live zero d e is below = ap (λ x. if x then None else Some 0) is
live-one true t c cs o live (suc n) d e is below = absurd (let found = e in cc)
live-one false t c cs None live at d e is below = absurd (let found = e in cc)
live-one false t c cs (Some n) live zero d e is below = absurd (let found = e in cc)
live-one false true c cs (Some n) live (suc m) d e is below = ap (option_map suc) (below m (let found = e in cc) is)
live-one false false c cs (Some n) live (suc m) d e is below = ap (option_map suc) (below m (let found = e in cc) is)

pub live-at : (cs : List Component) (path : Path) (at : ℕ) (d : Component) (t : Bool) → place (is_of path) cs ≡ Some at → is_terminated (get_or cs at d).state ≡ t
    → live_place cs path ≡ (if t then None else Some at)
live-at [] path at d t e is = absurd (let found = e in cc)
live-at (c ∷ cs) path at d t e is =
    live-one (is_of path c) t c cs (place (is_of path) cs) (live_place cs path) at d e is (λ n found of. live-at cs path n d t found of)

dead-one : (b : Bool) (c : Component) (o live : Option ℕ)
    → (if b then Some 0 else option_map suc o) ≡ None → (o ≡ None → live ≡ None)
    → (if b then (if is_terminated c.state then None else Some 0) else option_map suc live) ≡ None
dead-one true c o live e below = absurd (let found = e in cc)
dead-one false c None live e below = ap (option_map suc) (below refl)
dead-one false c (Some n) live e below = absurd (let found = e in cc)

pub none-live : (cs : List Component) (path : Path) → place (is_of path) cs ≡ None → live_place cs path ≡ None
none-live [] path e = refl
none-live (c ∷ cs) path e = dead-one (is_of path c) c (place (is_of path) cs) (live_place cs path) e (none-live cs path)

pub created-lives : (s : State) → is_created s ≡ true → is_terminated s ≡ false
created-lives state.Created e = refl
created-lives state.Running e = refl
created-lives state.Terminated e = absurd (let found = e in cc)
