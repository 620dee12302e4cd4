-- The text of an object with a member behind the others, where it has others.
use Rattle.std.proofs.Common.{◌≡◌, ℕ, ◌-◌, List, [], ◌∷◌, ◌++◌, Bool, true, false, length, take, refl, ap, ◌∙◌, append_assoc, length-append, arith}
use Rattle.std.proofs.Math.Seq.{take-append_seam}
use Rattle.json.specs.Print.{quoted}
use Rattle.serde_json.specs.Data.{Data, Members, member, no_members}
use Rattle.serde_json.specs.Written.{comma_if, compact_text, members_text}

-- the members, and one more
abbrev pub and_then : Members → List ℕ → Data → Members
and_then no_members key added = member key added no_members
and_then (member k d members) key added = member k d (and_then members key added)

-- their text without the bracket that closes it
abbrev pub open_text : Bool → Members → List ℕ
open_text later no_members = []
open_text later (member k d members) = comma_if later ++ (quoted k ++ 58 ∷ (compact_text d ++ open_text true members))

-- the text of one more member behind others, with the bracket
abbrev pub last_text : List ℕ → Data → List ℕ
last_text key added = 44 ∷ (quoted key ++ 58 ∷ (compact_text added ++ 125 ∷ []))

inner : (comma key text before after all : List ℕ) → all ≡ before ++ after → comma ++ (key ++ 58 ∷ (text ++ all)) ≡ (comma ++ (key ++ 58 ∷ (text ++ before))) ++ after
inner comma key text before after all is = rw is (simp append_assoc)

pub closes : (later : Bool) (members : Members) → members_text later members ≡ open_text later members ++ 125 ∷ []
closes later no_members = refl
closes later (member k d members) = inner (comma_if later) (quoted k) (compact_text d) (open_text true members) (125 ∷ []) (members_text true members) (closes true members)

further : (members : Members) (key : List ℕ) (added : Data) → members_text true (and_then members key added) ≡ open_text true members ++ last_text key added
further no_members key added = refl
further (member k d members) key added = inner (comma_if true) (quoted k) (compact_text d) (open_text true members) (last_text key added) (members_text true (and_then members key added)) (further members key added)

pub one-more : (k : List ℕ) (d : Data) (members : Members) (key : List ℕ) (added : Data)
    → members_text false (and_then (member k d members) key added) ≡ open_text false (member k d members) ++ last_text key added
one-more k d members key added = inner (comma_if false) (quoted k) (compact_text d) (open_text true members) (last_text key added) (members_text true (and_then members key added)) (further members key added)

-- ---- as bytes

-- what is written: an object without its last bytes, a key, a value, and the bytes again
pub joined : (opened key within whole all : List ℕ) → whole ≡ (123 ∷ (opened ++ 125 ∷ [])) ++ 10 ∷ []
    → all ≡ ((take (length whole - 2) whole ++ key) ++ within) ++ 125 ∷ 10 ∷ []
    → all ≡ (123 ∷ (opened ++ (key ++ (within ++ 125 ∷ [])))) ++ 10 ∷ []
joined opened key within whole all is written =
    written
    ∙ ap (λ xs. ((xs ++ key) ++ within) ++ 125 ∷ 10 ∷ []) (front opened whole is)
    ∙ ends opened key within
  where
    parts : (xs : List ℕ) → (123 ∷ (xs ++ 125 ∷ [])) ++ 10 ∷ [] ≡ (123 ∷ xs) ++ 125 ∷ 10 ∷ []
    parts xs = ap (λ ys. 123 ∷ ys) (append_assoc xs (125 ∷ []) (10 ∷ []))

    front : (xs ys : List ℕ) → ys ≡ (123 ∷ (xs ++ 125 ∷ [])) ++ 10 ∷ [] → take (length ys - 2) ys ≡ 123 ∷ xs
    front xs ys e =
        let whole : ys ≡ (123 ∷ xs) ++ 125 ∷ 10 ∷ [] = e ∙ parts xs in
        let long : length ys - 2 ≡ length (123 ∷ xs) = omega (arith, ap length whole, length-append (123 ∷ xs) (125 ∷ 10 ∷ [])) in
        ap (λ n. take n ys) long ∙ ap (take (length (123 ∷ xs))) whole ∙ take-append_seam (123 ∷ xs) (125 ∷ 10 ∷ [])

    ends : (xs ys zs : List ℕ) → (((123 ∷ xs) ++ ys) ++ zs) ++ 125 ∷ 10 ∷ [] ≡ (123 ∷ (xs ++ (ys ++ (zs ++ 125 ∷ [])))) ++ 10 ∷ []
    ends xs ys zs = simp append_assoc
