-- Lists of code's items, as lists of the items of the rules.
use Rattle.std.proofs.Common.{◌≡◌, refl, sym, ap, subst, ◌∙◌, ℕ, zero, suc, ◌<◌, ◌≤◌, List, [], ◌∷◌, ◌++◌, map, length, get_or, arith, inl, inr}
use Rattle.std.proofs.lemmas.Bool.{cases_lt}
use Rattle.std.proofs.lemmas.List.{length-append}
use Rattle.check_scope.specs.Names.{Entry}
use Rattle.graph_numbers.specs.Lists.{Extends, IsPut}
use Rattle.semantics.specs.Items as rules
use Rattle.graph_items.specs.Standing.{item_of, part_of, remaining_of}
use Rattle.graph_items.specs.declared.item.Item.{Item}
use Rattle.graph_items.specs.declared.item.Item.TheVariants as item
use Rattle.ttcn_graph.specs.internal.Within.{AreAllWithin, AreWithin, IsWithin}

pub map-append : {A B : Type 0} (f : A → B) (xs ys : List A) → map f (xs ++ ys) ≡ map f xs ++ map f ys
map-append f [] ys = refl
map-append f (x ∷ xs) ys = ap (λ l. f x ∷ l) (map-append f xs ys)

pub length-map : {A B : Type 0} (f : A → B) (xs : List A) → length (map f xs) ≡ length xs
length-map f [] = refl
length-map f (x ∷ xs) = ap suc (length-map f xs)

pub get-map : {A B : Type 0} (f : A → B) (xs : List A) (i : ℕ) (d : A) → get_or (map f xs) i (f d) ≡ f (get_or xs i d)
get-map f [] i d = refl
get-map f (x ∷ xs) zero d = refl
get-map f (x ∷ xs) (suc i) d = get-map f xs i d

pub get-append : {A : Type 0} (xs ys : List A) (i : ℕ) (d : A) → i < length xs → get_or (xs ++ ys) i d ≡ get_or xs i d
get-append [] ys i d h = absurd (omega (arith, h))
get-append (x ∷ xs) ys zero d h = refl
get-append (x ∷ xs) ys (suc i) d h = get-append xs ys i d (omega (arith, h))

pub get-past : {A : Type 0} (xs : List A) (i : ℕ) (d : A) → length xs ≤ i → get_or xs i d ≡ d
get-past [] i d h = refl
get-past (x ∷ xs) zero d h = absurd (omega (arith, h))
get-past (x ∷ xs) (suc i) d h = get-past xs i d (omega (arith, h))

-- what is at a position stays there where more comes behind
pub get-kept : {A : Type 0} (old new : List (List A)) → Extends old new → (i : ℕ) → i < length old → get_or new i [] ≡ get_or old i []
get-kept old new more i h = ap (λ l. get_or l i []) more.1 ∙ get-append old more.0 i [] h

pub longer : {A : Type 0} (old new : List (List A)) → Extends old new → length old ≤ length new
longer old new more = let all = ap length more.1 in let parts = length-append old more.0 in omega (arith, all, parts)

-- ---- more lists of declared names

site-kept : (old new : List (List Entry)) → Extends old new → (i : Item) → IsWithin (length old) i → item_of new i ≡ item_of old i
site-kept old new more (item.Doing site s part) h = ap (λ d. rules.Doing (record { behaviour = site.behaviour; declared = d }) s (part_of part)) (get-kept old new more site.declared h)
site-kept old new more (item.Mark site s) h = ap (λ d. rules.Mark (record { behaviour = site.behaviour; declared = d }) s) (get-kept old new more site.declared h)
site-kept old new more (item.Waiting target) h = refl

remaining-kept : (old new : List (List Entry)) → Extends old new → (items : List Item) → AreWithin (length old) items → remaining_of new items ≡ remaining_of old items
remaining-kept old new more [] h = refl
remaining-kept old new more (i ∷ items) h = λ k. site-kept old new more i h.0 k ∷ remaining-kept old new more items h.1 k

pub lists-kept : (old new : List (List Entry)) → Extends old new → (lists : List (List Item)) → AreAllWithin (length old) lists
    → map (remaining_of new) lists ≡ map (remaining_of old) lists
lists-kept old new more [] h = refl
lists-kept old new more (items ∷ lists) h = λ k. remaining-kept old new more items (h zero) k ∷ lists-kept old new more lists (λ p. h (suc p)) k

within-more : (n m : ℕ) → n ≤ m → (i : Item) → IsWithin n i → IsWithin m i
within-more n m le (item.Doing site s part) h = omega (arith, le, h)
within-more n m le (item.Mark site s) h = omega (arith, le, h)
within-more n m le (item.Waiting target) h = tt

are-within-more : (n m : ℕ) → n ≤ m → (items : List Item) → AreWithin n items → AreWithin m items
are-within-more n m le [] h = tt
are-within-more n m le (i ∷ items) h = (within-more n m le i h.0, are-within-more n m le items h.1)

pub all-within-more : (n m : ℕ) → n ≤ m → (lists : List (List Item)) → AreAllWithin n lists → AreAllWithin m lists
all-within-more n m le lists h p = are-within-more n m le (get_or lists p []) (h p)

-- ---- one more list of items

-- a list that was put has sites within, too
pub all-within-put : (n : ℕ) (old new : List (List Item)) (at rest : ℕ) (i : Item) → IsPut old new at i rest → AreAllWithin n old → IsWithin n i → AreAllWithin n new
all-within-put n old new at rest i put h w p = elim (cases_lt p (length old)) as (λ _. AreWithin n (get_or new p [])) [
  | inl before ↦ subst (AreWithin n) (sym (get-kept old new put.extended p before)) (h p)
  | inr from ↦ elim (cases_lt p (length new)) as (λ _. AreWithin n (get_or new p [])) [
    | inl below ↦ subst (AreWithin n) (sym (ap (λ q. get_or new q []) (put.alone p from below) ∙ put.stands)) (w, h rest)
    | inr past ↦ subst (AreWithin n) (sym (get-past new p [] past)) tt
  ]
]

-- in the items of the rules
pub put-remaining : (sites : List (List Entry)) (old new : List (List Item)) (at rest : ℕ) (i : Item) → IsPut old new at i rest
    → IsPut (map (remaining_of sites) old) (map (remaining_of sites) new) at (item_of sites i) rest
put-remaining sites old new at rest i put =
    let count = length-map (remaining_of sites) new in
    let was = length-map (remaining_of sites) old in
    let within = put.within in
    record {
      extended = (map (remaining_of sites) put.extended.0, ap (map (remaining_of sites)) put.extended.1 ∙ map-append (remaining_of sites) old put.extended.0);
      within = omega (arith, count, within);
      stands = get-map (remaining_of sites) new at [] ∙ ap (remaining_of sites) put.stands ∙ ap (λ l. item_of sites i ∷ l) (sym (get-map (remaining_of sites) old rest []));
      alone = λ p from below. put.alone p (omega (arith, from, was)) (omega (arith, below, count));
    }
