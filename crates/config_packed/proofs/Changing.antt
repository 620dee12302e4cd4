-- Other bytes are put in the place of those of a component.
use Rattle.std.proofs.Common.{◌≡◌, ℕ, zero, suc, ◌+◌, ◌-◌, ◌<◌, ◌≤◌, ◌==◌, nat_eq, Bool, true, false, if◌then◌else◌, List, [], ◌∷◌, ◌++◌, length, map, take, drop, get_or, slice_get, Some, refl, sym, ap, ◌∙◌, arith, add-one, append_assoc, eq-eqb}
use Rattle.std.proofs.lemmas.Bool.{ne_eqb}
use Rattle.std.proofs.lemmas.List.{append-nil, length-map, take_all}
use Rattle.std.proofs.lemmas.List.Folds.{flat_map-map}
use Rattle.std.proofs.Math.Seq.{drop-cons}
use Rattle.std.specs.List.{flat_map}
use Rattle.config_packed.specs.internal.Cuts.{changed_at_place, changed_contents, changed_from, joined, some_of}
use Rattle.config_packed.specs.Pieces.{AreJoined, IsCut, bytes_of, changed_going, joined_going, spelled_parts, with_verdict_and_own}
use Rattle.config_packed.specs.Shares.{AreOf, back_of_going, front_of_going, half}
use Rattle.config_packed.specs.Spelling.{going_code, name_of, spell_content, spell_contents, spell_head, spell_links, spell_list, spell_long, spell_name, spell_outline, spell_own, spell_queue, spell_sized, spell_verdict}
use Rattle.config_packed.specs.declared.pieces.ComponentBytes.{ComponentBytes}
use Rattle.config_packed.specs.declared.pieces.ConfigBytes.{ConfigBytes}
use Rattle.value_types.specs.declared.value.ComponentId.{ComponentId}
use Rattle.ttcn_syntax.specs.declared.tree.statement.Verdict.{Verdict}
use Rattle.config_parts.specs.internal.Changes.{changed_at, with_queues}
use Rattle.config_parts.specs.declared.component.Component.{Component}
use Rattle.config_parts.specs.declared.component.Queue.{Queue}
use Rattle.config_parts.specs.declared.component.State.{State}
use Rattle.config_parts.specs.declared.config.Config.TheVariants as config
use Rattle.config_parts.specs.declared.config.Going.{Going}
use Rattle.config_parts.specs.declared.frame.Data.{Data}

-- ---- one component after the other

abbrev Parts : Type 0
Parts = List ℕ × List ℕ

-- what is made of the element at a place
made-at : {A B : Type 0} (make : A → B) (xs : List A) (at : ℕ) (x : A) → make (get_or xs at x) ≡ get_or (map make xs) at (make x)
made-at make [] at x = refl
made-at make (y ∷ ys) zero x = refl
made-at make (y ∷ ys) (suc at) x = made-at make ys at x

short : {A : Type 0} (n : ℕ) (xs : List A) → length (take n xs) ≤ n
short zero xs = omega arith
short (suc n) [] = omega arith
short (suc n) (x ∷ xs) = let h = short n xs in omega (arith, h)

module _ (at : ℕ) (own : List ℕ) (behind : ℕ) (queues : List ℕ) where
  -- one more component of a half is put
  pub half-more : (place to : ℕ) (start now more : List ℕ) (items : List ComponentBytes) (none : ComponentBytes)
      → place < to → to ≤ length items
      → more ≡ now ++ joined (changed_at_place at own behind queues place (bytes_of (get_or items place none)))
      → start ≡ now ++ changed_contents at own behind queues place (some_of place to (map bytes_of items))
      → start ≡ more ++ changed_contents at own behind queues (place + 1) (some_of (place + 1) to (map bytes_of items))
  half-more place to start now more items none h within put e =
      let x = bytes_of (get_or items place none) in
      let xs = map bytes_of items in
      let below : place < length xs = let n = length-map items bytes_of in omega arith in
      let found : get_or xs place (bytes_of none) ≡ x = sym (made-at bytes_of items place none) in
      let split : drop place xs ≡ x ∷ drop (place + 1) xs = drop-cons xs place (bytes_of none) below ∙ (λ i. found i ∷ drop (sym (add-one place) i) xs) in
      let count : to - place ≡ suc (to - (place + 1)) = omega arith in
      let some : some_of place to xs ≡ x ∷ some_of (place + 1) to xs = λ i. take (count i) (split i) in
      let left = changed_contents at own behind queues (place + 1) (some_of (place + 1) to xs) in
      e ∙ ap (λ (ys : List Parts). now ++ changed_contents at own behind queues place ys) some
      ∙ sym (append_assoc now (joined (changed_at_place at own behind queues place x)) left)
      ∙ ap (λ (bytes : List ℕ). bytes ++ left) (sym put)

  -- all components of a half are put
  pub half-all : (place to : ℕ) (start now : List ℕ) (items : List ComponentBytes)
      → to ≤ place
      → start ≡ now ++ changed_contents at own behind queues place (some_of place to (map bytes_of items))
      → now ≡ start
  half-all place to start now items h e =
      let none : to - place ≡ 0 = omega arith in
      sym (append-nil now) ∙ ap (λ n. now ++ changed_contents at own behind queues place (take n (drop place (map bytes_of items)))) (sym none) ∙ sym e

  -- a change elsewhere changes nothing
  unchanged-elsewhere : (from to place : ℕ) (xs : List Parts) → ((from ≤ at) × (at < to) → ⊥) → ((from ≤ behind) × (behind < to) → ⊥) → from ≤ place → place + length xs ≤ to
      → changed_from at own behind queues place xs ≡ xs
  unchanged-elsewhere from to place [] not-at not-behind h k = refl
  unchanged-elsewhere from to place (x ∷ xs) not-at not-behind h k =
      λ i. (
        if ne_eqb place at (λ e. not-at (omega arith, omega arith)) i then own else x.0,
        if ne_eqb place behind (λ e. not-behind (omega arith, omega arith)) i then queues else x.1,
      ) ∷ unchanged-elsewhere from to (place + 1) xs not-at not-behind (omega arith) (omega arith) i

  pub half-kept : (from to : ℕ) (xs : List Parts) (kept : List ℕ) → ((from ≤ at) × (at < to) → ⊥) → ((from ≤ behind) × (behind < to) → ⊥) → from ≤ to
      → kept ≡ flat_map joined (some_of from to xs) → kept ≡ changed_contents at own behind queues from (some_of from to xs)
  half-kept from to xs kept not-at not-behind h is =
      is ∙ ap (flat_map joined) (sym (unchanged-elsewhere from to from (some_of from to xs) not-at not-behind (omega arith)
      (let n = short (to - from) (drop from xs) in omega (arith, n))))

  -- the changes in a half are those of all
  changed-take : (n place : ℕ) (xs : List Parts) → changed_from at own behind queues place (take n xs) ≡ take n (changed_from at own behind queues place xs)
  changed-take zero place xs = refl
  changed-take (suc n) place [] = refl
  changed-take (suc n) place (x ∷ xs) = ap (λ (ys : List Parts). changed_at_place at own behind queues place x ∷ ys) (changed-take n (place + 1) xs)

  as-many : (place : ℕ) (xs : List Parts) → length (changed_from at own behind queues place xs) ≡ length xs
  as-many place [] = refl
  as-many place (x ∷ xs) = ap suc (as-many (place + 1) xs)

  changed-drop : (n place : ℕ) (xs : List Parts) → changed_from at own behind queues (place + n) (drop n xs) ≡ drop n (changed_from at own behind queues place xs)
  changed-drop zero place xs = let e : place + 0 ≡ place = omega arith in ap (λ m. changed_from at own behind queues m xs) e
  changed-drop (suc n) place [] = refl
  changed-drop (suc n) place (x ∷ xs) =
      let e : place + suc n ≡ (place + 1) + n = omega arith in
      ap (λ m. changed_from at own behind queues m (drop n xs)) e ∙ changed-drop n (place + 1) xs

-- ---- the places of changes

-- the element at a place is changed, where these begin at one
abbrev change_from : {A : Type 0} → ℕ → (A → A) → ℕ → List A → List A
change_from at change place [] = []
change_from at change place (x ∷ xs) = (if place == at then change x else x) ∷ change_from at change (place + 1) xs

module _ {A : Type 0} (change : A → A) where
  unchanged-from : (xs : List A) (at place : ℕ) → at < place → change_from at change place xs ≡ xs
  unchanged-from [] at place h = refl
  unchanged-from (x ∷ xs) at place h =
      λ i. (if ne_eqb place at (λ e. absurd (omega arith)) i then change x else x) ∷ unchanged-from xs at (place + 1) (omega arith) i

  changed-from : (xs : List A) (at place : ℕ) → change_from (place + at) change place xs ≡ changed_at xs at change
  changed-from [] at place = refl
  changed-from (x ∷ xs) zero place =
      λ i. (if eq-eqb place (place + 0) (omega arith) i then change x else x) ∷ unchanged-from xs (place + 0) (place + 1) (omega arith) i
  changed-from (x ∷ xs) (suc at) place =
      let n : place + suc at ≡ (place + 1) + at = omega arith in
      (λ i. (if ne_eqb place (place + suc at) (λ e. absurd (omega arith)) i then change x else x) ∷ change_from (n i) change (place + 1) xs)
      ∙ ap (λ (ys : List A). x ∷ ys) (changed-from xs at (place + 1))

  changed-first : (xs : List A) (at : ℕ) → change_from at change 0 xs ≡ changed_at xs at change
  changed-first xs at = let n : at ≡ 0 + at = omega arith in ap (λ m. change_from m change 0 xs) n ∙ changed-from xs at 0

-- what a change of elements changes of what is made of each
module _ {A B : Type 0} (make : A → B) (change : A → A) where
  map-changed : (other : B → B) → ((x : A) → make (change x) ≡ other (make x)) → (xs : List A) (at : ℕ) → map make (changed_at xs at change) ≡ changed_at (map make xs) at other
  map-changed other same [] at = refl
  map-changed other same (x ∷ xs) zero = ap (λ (y : B). y ∷ map make xs) (same x)
  map-changed other same (x ∷ xs) (suc at) = ap (λ (ys : List B). make x ∷ ys) (map-changed other same xs at)

  map-unchanged : ((x : A) → make (change x) ≡ make x) → (xs : List A) (at : ℕ) → map make (changed_at xs at change) ≡ map make xs
  map-unchanged same [] at = refl
  map-unchanged same (x ∷ xs) zero = ap (λ (y : B). y ∷ map make xs) (same x)
  map-unchanged same (x ∷ xs) (suc at) = ap (λ (ys : List B). make x ∷ ys) (map-unchanged same xs at)

length-changed : {A : Type 0} (change : A → A) (xs : List A) (at : ℕ) → length (changed_at xs at change) ≡ length xs
length-changed change [] at = refl
length-changed change (x ∷ xs) zero = refl
length-changed change (x ∷ xs) (suc at) = ap suc (length-changed change xs at)

-- ---- both changes

abbrev with_own_bytes : List ℕ → Parts → Parts
with_own_bytes own parts = (own, parts.1)

abbrev with_queue_bytes : List ℕ → Parts → Parts
with_queue_bytes queues parts = (parts.0, queues)

abbrev when : Bool → (Parts → Parts) → Parts → Parts
when b change parts = if b then change parts else parts

one-after-the-other : (a b : Bool) (own queues : List ℕ) (parts : Parts)
    → (if a then own else parts.0, if b then queues else parts.1) ≡ when b (with_queue_bytes queues) (when a (with_own_bytes own) parts)
one-after-the-other true true own queues parts = refl
one-after-the-other true false own queues parts = refl
one-after-the-other false true own queues parts = refl
one-after-the-other false false own queues parts = refl

both-changed : (at : ℕ) (own : List ℕ) (behind : ℕ) (queues : List ℕ) (place : ℕ) (parts : List Parts)
    → changed_from at own behind queues place parts ≡ change_from behind (with_queue_bytes queues) place (change_from at (with_own_bytes own) place parts)
both-changed at own behind queues place [] = refl
both-changed at own behind queues place (x ∷ xs) =
    λ i. one-after-the-other (nat_eq place at) (nat_eq place behind) own queues x i ∷ both-changed at own behind queues (place + 1) xs i

contents-joined : (components : List Component) → flat_map joined (map spelled_parts components) ≡ flat_map spell_content components
unfolding spell_content
contents-joined components = flat_map-map joined spelled_parts components

-- ---- halves

take-mapped : {A B : Type 0} (make : A → B) (n : ℕ) (xs : List A) → take n (map make xs) ≡ map make (take n xs)
take-mapped make zero xs = refl
take-mapped make (suc n) [] = refl
take-mapped make (suc n) (x ∷ xs) = ap (λ (ys : List _). make x ∷ ys) (take-mapped make n xs)

drop-mapped : {A B : Type 0} (make : A → B) (n : ℕ) (xs : List A) → drop n (map make xs) ≡ map make (drop n xs)
drop-mapped make zero xs = refl
drop-mapped make (suc n) [] = refl
drop-mapped make (suc n) (x ∷ xs) = drop-mapped make n xs

dropped : {A : Type 0} (n : ℕ) (xs : List A) → length (drop n xs) ≡ length xs - n
dropped zero xs = omega arith
dropped (suc n) [] = omega arith
dropped (suc n) (x ∷ xs) = dropped n xs ∙ omega arith

-- the parts of the components of each half spell that half
module _ (cs : List Component) (items : List Parts) (are : items ≡ map spelled_parts cs) (first : ℕ) (halved : first ≡ half (length cs)) where
  front-spelled : flat_map joined (some_of 0 first items) ≡ spell_contents (take (half (length cs)) cs)
  front-spelled =
      let e : first - 0 ≡ half (length cs) = let zero-less : first - 0 ≡ first = omega arith in zero-less ∙ halved in
      (λ i. flat_map joined (take (e i) (are i))) ∙ ap (flat_map joined) (take-mapped spelled_parts (half (length cs)) cs) ∙ contents-joined (take (half (length cs)) cs)

  back-spelled : (count : ℕ) → count ≡ length cs → flat_map joined (some_of first count items) ≡ spell_contents (drop (half (length cs)) cs)
  back-spelled count counts =
      let h = half (length cs) in
      let long : length (drop first items) ≡ count - first = dropped first items ∙ (let n : length items ≡ count = ap length are ∙ length-map cs spelled_parts ∙ sym counts in ap (λ m. m - first) n) in
      ap (flat_map joined) (take_all (count - first) (drop first items) (omega (arith, long)))
      ∙ (λ i. flat_map joined (drop (halved i) (are i))) ∙ ap (flat_map joined) (drop-mapped spelled_parts h cs) ∙ contents-joined (drop h cs)

-- both halves, as they are cut
module _ (going : Going) (parts : ConfigBytes) (cut : IsCut going parts) (first : ℕ) (halved : first ≡ half (length parts.components.items)) where
  abbrev all : List Parts
  all = map bytes_of parts.components.items

  abbrev count : ℕ
  count = length parts.components.items

  pub counted : count ≡ length going.components
  counted = sym (length-map parts.components.items bytes_of) ∙ ap length cut.components ∙ length-map going.components spelled_parts

  pub front-there : (front : List ℕ) → front ≡ front_of_going going → front ≡ flat_map joined (some_of 0 first all)
  front-there front is = is ∙ sym (front-spelled going.components all cut.components first (halved ∙ ap half counted))

  pub back-there : (back : List ℕ) → back ≡ back_of_going going → back ≡ flat_map joined (some_of first count all)
  back-there back is = is ∙ sym (back-spelled going.components all cut.components first (halved ∙ ap half counted) count counted)

  -- and as they are changed
  module _ (at : ℕ) (own : List ℕ) (behind : ℕ) (queues : List ℕ) (new : Going)
      (changes : changed_from at own behind queues 0 (map spelled_parts going.components) ≡ map spelled_parts new.components) where
    abbrev changed : List Parts
    changed = changed_from at own behind queues 0 all

    are-changed : changed ≡ map spelled_parts new.components
    are-changed = ap (changed_from at own behind queues 0) cut.components ∙ changes

    count-new : count ≡ length new.components
    count-new = counted ∙ sym (length-map going.components spelled_parts) ∙ sym (as-many at own behind queues 0 (map spelled_parts going.components)) ∙ ap length changes ∙ length-map new.components spelled_parts

    pub front-changed : changed_contents at own behind queues 0 (some_of 0 first all) ≡ front_of_going new
    front-changed =
        ap (flat_map joined) (changed-take at own behind queues (first - 0) 0 all) ∙ front-spelled new.components changed are-changed first (halved ∙ ap half count-new)

    pub back-changed : changed_contents at own behind queues first (some_of first count all) ≡ back_of_going new
    back-changed =
        let n : first ≡ 0 + first = omega arith in
        ap (flat_map joined) (changed-take at own behind queues (count - first) first (drop first all)
        ∙ ap (take (count - first)) (ap (λ m. changed_from at own behind queues m (drop first all)) n ∙ changed-drop at own behind queues first 0 all))
        ∙ back-spelled new.components changed are-changed first (halved ∙ ap half count-new) count count-new

module _ (going : Going) (at : ℕ) (v : Verdict) (own : Data) (behind : ℕ) (qs : List Queue) where
  abbrev once : List Component
  once = changed_at going.components at (with_verdict_and_own v own)

  pub parts-changed : changed_from at (spell_own v own) behind (spell_list spell_queue qs) 0 (map spelled_parts going.components) ≡ map spelled_parts (changed_going going at v own behind qs).components
  parts-changed =
      let own_change = with_own_bytes (spell_own v own) in
      let queue_change = with_queue_bytes (spell_list spell_queue qs) in
      let parts = map spelled_parts going.components in
      both-changed at (spell_own v own) behind (spell_list spell_queue qs) 0 parts
      ∙ changed-first queue_change (change_from at own_change 0 parts) behind
      ∙ ap (λ (xs : List Parts). changed_at xs behind queue_change)
      (changed-first own_change parts at ∙ sym (map-changed spelled_parts (with_verdict_and_own v own) own_change (λ x. refl) going.components at))
      ∙ sym (map-changed spelled_parts (with_queues (λ old. qs)) queue_change (λ x. refl) once behind)

  outline-unchanged : spell_outline (changed_going going at v own behind qs) ≡ spell_outline going
  unfolding spell_outline
  outline-unchanged =
      ap (λ (names : List (ComponentId × State)). spell_verdict going.forgotten ++ spell_links going.links ++ spell_list spell_name names) (map-unchanged name_of (with_queues (λ old. qs)) (λ x. refl) once behind ∙ map-unchanged name_of (with_verdict_and_own v own) (λ x. refl) going.components at)

  head-unchanged : spell_head (changed_going going at v own behind qs) ≡ spell_head going
  unfolding spell_head
  head-unchanged =
      let count : length (changed_going going at v own behind qs).components ≡ length going.components =
      length-changed (with_queues (λ old. qs)) once behind ∙ length-changed (with_verdict_and_own v own) going.components at in
      λ i. going_code going.links ∷ (spell_long (count i) ++ spell_sized (outline-unchanged i))

  -- the bytes that are put are those of the changed configuration
  pub changed-spelled : (head front back : List ℕ) → head ≡ spell_head going → front ≡ front_of_going (changed_going going at v own behind qs) → back ≡ back_of_going (changed_going going at v own behind qs)
      → AreOf head front back (config.Going (changed_going going at v own behind qs))
  changed-spelled head front back is-head is-front is-back = record { head = is-head ∙ sym head-unchanged; front = is-front; back = is-back }

-- ---- a component of another configuration

module _ {A : Type 0} (f g : A → A) where
  -- a list that is changed twice at a place, where both changes are one
  twice-changed : (both : A → A) (xs : List A) (at : ℕ) → (at < length xs → (x : A) → g (f x) ≡ both x) → changed_at (changed_at xs at f) at g ≡ changed_at xs at both
  twice-changed both [] at same = refl
  twice-changed both (x ∷ xs) zero same = ap (λ (y : A). y ∷ xs) (same (omega arith) x)
  twice-changed both (x ∷ xs) (suc at) same = ap (λ (ys : List A). x ∷ ys) (twice-changed both xs at (λ h. same (omega arith)))

-- the bytes of the component at a place are those that are there
bytes-at : (items : List ComponentBytes) (at : ℕ) (item old : Parts)
    → ((found : ComponentBytes) → slice_get items at ≡ Some found → item ≡ bytes_of found) → at < length items → item ≡ get_or (map bytes_of items) at old
bytes-at [] at item old is h = absurd (omega arith)
bytes-at (x ∷ xs) zero item old is h = is x refl
bytes-at (x ∷ xs) (suc at) item old is h = bytes-at xs at item old is (omega arith)

module _ (going : Going) (at : ℕ) (other : Going) (are : AreJoined going at other) where
  parts-joined : (own queues : List ℕ) → (at < length going.components → (old : Parts) → (own, queues) ≡ get_or (map spelled_parts other.components) at old)
      → changed_from at own at queues 0 (map spelled_parts going.components) ≡ map spelled_parts (joined_going going at other).components
  parts-joined own queues same =
      let own_change = with_own_bytes own in
      let queue_change = with_queue_bytes queues in
      let parts = map spelled_parts going.components in
      let both = λ (old : Parts). get_or (map spelled_parts other.components) at old in
      both-changed at own at queues 0 parts
      ∙ changed-first queue_change (change_from at own_change 0 parts) at
      ∙ ap (λ (xs : List Parts). changed_at xs at queue_change) (changed-first own_change parts at)
      ∙ twice-changed own_change queue_change both parts at (λ h. same (let n = length-map going.components spelled_parts in omega arith))
      ∙ sym (map-changed spelled_parts (λ old. get_or other.components at old) both (made-at spelled_parts other.components at) going.components at)

  outline-joined : spell_outline (joined_going going at other) ≡ spell_outline other
  unfolding spell_outline
  outline-joined =
      ap (λ (names : List (ComponentId × State)). spell_verdict other.forgotten ++ spell_links other.links ++ spell_list spell_name names) are

  -- both have as many components
  lengths : length going.components ≡ length other.components
  lengths =
      sym (length-changed (λ old. get_or other.components at old) going.components at)
      ∙ sym (length-map (joined_going going at other).components name_of) ∙ ap length are ∙ length-map other.components name_of

  head-joined : spell_head (joined_going going at other) ≡ spell_head other
  unfolding spell_head
  head-joined =
      let count : length (joined_going going at other).components ≡ length other.components =
      length-changed (λ old. get_or other.components at old) going.components at ∙ lengths in
      λ i. going_code other.links ∷ (spell_long (count i) ++ spell_sized (outline-joined i))

  -- the parts of the component at a place are put
  pub joined-parts : (behind : ConfigBytes) (own queues : List ℕ) → IsCut other behind
      → ((found : ComponentBytes) → slice_get behind.components.items at ≡ Some found → (own, queues) ≡ bytes_of found)
      → changed_from at own at queues 0 (map spelled_parts going.components) ≡ map spelled_parts (joined_going going at other).components
  joined-parts behind own queues other-cut is =
      let count : length behind.components.items ≡ length other.components =
      sym (length-map behind.components.items bytes_of) ∙ ap length other-cut.components ∙ length-map other.components spelled_parts in
      parts-joined own queues
      (λ h old. bytes-at behind.components.items at (own, queues) old is (omega (arith, lengths, count)) ∙ ap (λ (xs : List Parts). get_or xs at old) other-cut.components)

  -- the bytes that are put are those of the joined configuration
  pub joined-spelled : (head front back : List ℕ) → head ≡ spell_head other → front ≡ front_of_going (joined_going going at other) → back ≡ back_of_going (joined_going going at other)
      → AreOf head front back (config.Going (joined_going going at other))
  joined-spelled head front back is-head is-front is-back = record { head = is-head ∙ sym head-joined; front = is-front; back = is-back }
