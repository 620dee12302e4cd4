-- Lists of items, spelled and read one item after another.
use Rattle.std.proofs.Common.{◌≡◌, ℕ, suc, ◌+◌, ◌-◌, ◌<◌, ◌≤◌, List, [], ◌∷◌, ◌++◌, length, map, take, sym, ap, ◌∙◌, arith, append_assoc}
use Rattle.std.proofs.lemmas.List.{append-nil, length-map, take_all}
use Rattle.std.proofs.lemmas.List.Folds.{flat_map-map}
use Rattle.std.specs.List.{flat_map}
use Rattle.config_packed.specs.Reading.{Reads, read_component, read_contents, read_items, read_list, read_long}
use Rattle.config_packed.specs.Spelling.{name_of, spell_list, spell_long, spell_name}
use Rattle.value_types.specs.declared.value.ComponentId.{ComponentId}
use Rattle.config_parts.specs.declared.component.Component.{Component}
use Rattle.config_parts.specs.declared.component.State.{State}

-- ---- spelling

-- the names of components are spelled
pub names-put : (components : List Component) (start counted bytes : List ℕ) (i : ℕ)
    → counted ≡ start ++ spell_long (length components) → length components ≤ i
    → bytes ≡ counted ++ flat_map (λ c. spell_name (name_of c)) (take i components)
    → bytes ≡ start ++ spell_list spell_name (map name_of components)
unfolding spell_list
names-put components start counted bytes i put all e =
    e ∙ (λ k. put k ++ flat_map (λ c. spell_name (name_of c)) (take_all i components all k))
    ∙ append_assoc start (spell_long (length components)) (flat_map (λ c. spell_name (name_of c)) components)
    ∙ (λ k. start ++ (spell_long (sym (length-map components name_of) k) ++ sym (flat_map-map spell_name name_of components) k))

-- ---- reading

-- these come before what is read
abbrev pub ahead : {A : Type 0} → List A → List A × List ℕ → List A × List ℕ
ahead xs read = (xs ++ read.0, read.1)

-- one more item is read
pub items-more : {A : Type 0} (read : Reads A) (count turn : ℕ) (before after : List ℕ) (whole : List A × List ℕ) (xs : List A) (x : A)
    → turn < count → x ≡ (read before).0 → after ≡ (read before).1
    → whole ≡ ahead xs (read_items read (count - turn) before)
    → whole ≡ ahead (xs ++ x ∷ []) (read_items read (count - (turn + 1)) after)
unfolding read_items
items-more {A} read count turn before after whole xs x h is rest e =
    let k = count - (turn + 1) in
    let n : count - turn ≡ suc k = omega arith in
    let e' : whole ≡ ahead xs (read_items read (suc k) before) = e ∙ ap (λ m. ahead xs (read_items read m before)) n in
    rw (is, rest) (e' ∙ ap (λ (l : List A). (l, (read_items read k (read before).1).1)) (sym (append_assoc xs ((read before).0 ∷ []) (read_items read k (read before).1).0)))

-- all items are read
pub items-all : {A : Type 0} (read : Reads A) (count turn : ℕ) (bytes : List ℕ) (whole : List A × List ℕ) (xs : List A)
    → turn ≡ count → whole ≡ ahead xs (read_items read (count - turn) bytes) → whole ≡ (xs, bytes)
unfolding read_items
items-all {A} read count turn bytes whole xs h e =
    let n : count - turn ≡ 0 = omega arith in
    e ∙ ap (λ m. ahead xs (read_items read m bytes)) n ∙ ap (λ (l : List A). (l, bytes)) (append-nil xs)

-- a list is read: how many items it has, and then they
pub list-read : {A : Type 0} (read : Reads A) (start before after : List ℕ) (count turn : ℕ) (xs : List A)
    → count ≡ (read_long start).0 → before ≡ (read_long start).1 → turn ≡ count
    → read_items read count before ≡ ahead xs (read_items read (count - turn) after)
    → read_list read start ≡ (xs, after)
unfolding read_list
list-read read start before after count turn xs is behind all e =
    let f : read_items read (read_long start).0 (read_long start).1 ≡ read_items read count before = λ i. read_items read (sym is i) (sym behind i) in
    f ∙ items-all read count turn after (read_items read count before) xs all e

-- ---- going past items

-- one more item is passed
pub items-passed : {A : Type 0} (read : Reads A) (count turn : ℕ) (before after whole : List ℕ)
    → turn < count → after ≡ (read before).1
    → whole ≡ (read_items read (count - turn) before).1
    → whole ≡ (read_items read (count - (turn + 1)) after).1
unfolding read_items
items-passed {A} read count turn before after whole h rest e =
    let k = count - (turn + 1) in
    let n : count - turn ≡ suc k = omega arith in
    let e' : whole ≡ (read_items read (suc k) before).1 = e ∙ ap (λ m. (read_items read m before).1) n in
    rw rest e'

-- all items are passed
pub items-behind : {A : Type 0} (read : Reads A) (count turn : ℕ) (bytes whole : List ℕ)
    → turn ≡ count → whole ≡ (read_items read (count - turn) bytes).1 → whole ≡ bytes
unfolding read_items
items-behind {A} read count turn bytes whole h e =
    let n : count - turn ≡ 0 = omega arith in
    e ∙ ap (λ m. (read_items read m bytes).1) n

-- a list is passed: how many items it has, and then they
pub list-passed : {A : Type 0} (read : Reads A) (start before after : List ℕ) (count turn : ℕ)
    → count ≡ (read_long start).0 → before ≡ (read_long start).1 → turn ≡ count
    → (read_items read count before).1 ≡ (read_items read (count - turn) after).1
    → after ≡ (read_list read start).1
unfolding read_list
list-passed read start before after count turn is behind all e =
    let f : read_items read (read_long start).0 (read_long start).1 ≡ read_items read count before = λ i. read_items read (sym is i) (sym behind i) in
    sym (ap (λ p. p.1) f ∙ items-behind read count turn after (read_items read count before).1 all e)

-- ---- components by their names

-- one more component is read
pub contents-more : (names left : List (ComponentId × State)) (name : ComponentId × State) (before after : List ℕ) (whole : List Component × List ℕ) (xs : List Component) (x : Component)
    → names ≡ name ∷ left → x ≡ (read_component name before).0 → after ≡ (read_component name before).1
    → whole ≡ ahead xs (read_contents names before)
    → whole ≡ ahead (xs ++ x ∷ []) (read_contents left after)
unfolding read_contents
contents-more names left name before after whole xs x split is rest e =
    let e' : whole ≡ ahead xs (read_contents (name ∷ left) before) = e ∙ ap (λ (l : List (ComponentId × State)). ahead xs (read_contents l before)) split in
    rw (is, rest) (e' ∙ ap (λ (l : List Component). (l, (read_contents left (read_component name before).1).1)) (sym (append_assoc xs ((read_component name before).0 ∷ []) (read_contents left (read_component name before).1).0)))

-- all components are read
pub contents-all : (left : List (ComponentId × State)) (bytes : List ℕ) (whole : List Component × List ℕ) (xs : List Component)
    → length left ≡ 0 → whole ≡ ahead xs (read_contents left bytes) → whole ≡ (xs, bytes)
unfolding read_contents
contents-all [] bytes whole xs none e = e ∙ ap (λ (l : List Component). (l, bytes)) (append-nil xs)
contents-all (name ∷ left) bytes whole xs none e = absurd (omega arith)
