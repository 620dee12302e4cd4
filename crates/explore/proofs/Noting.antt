-- What is noted, as one more is seen.
use Rattle.std.proofs.Common.{◌≡◌, ℕ, suc, ◌+◌, ◌<◌, ◌≤◌, Bool, false, List, [], ◌∷◌, ◌++◌, length, map, Option, None, Some, true, if◌then◌else◌, refl, ap, sym, ◌∙◌, arith}
use Rattle.std.specs.List.{AllZip, list_any}
use Rattle.std.specs.Prelude.{Err, IfOk, Ok, Result}
use Rattle.explore.proofs.Lists.{Each, each-append}
use Rattle.search_layer.specs.declared.visited.Step.{Step}
use Rattle.explore.specs.declared.sightings.Noted.{Noted}
use Rattle.explore.specs.internal.Noting.{note, note_labels, note_shown, note_states, note_steps}
use Rattle.summary.specs.Graph.{Graph}

module _ {C L E : Type 0} (g : Graph C L) (eq : E → E → Bool) (event : C → L → Option E) where
  pub steps-push : (place : ℕ) (cs : List C) (c : C) (noted : List (Noted E (Step L)))
      → note_steps g eq event place (cs ++ c ∷ []) noted ≡ note_labels g eq event (place + length cs) c (g.enabled c) (note_steps g eq event place cs noted)
  steps-push place [] c noted = let none : place ≡ place + 0 = omega arith in ap (λ k. note_labels g eq event k c (g.enabled c) noted) none
  steps-push place (d ∷ cs) c noted =
      let one : (place + 1) + length cs ≡ place + suc (length cs) = omega arith in
      let here = note_labels g eq event place d (g.enabled d) noted in
      steps-push (place + 1) cs c here ∙ ap (λ k. note_labels g eq event k c (g.enabled c) (note_steps g eq event (place + 1) cs here)) one

-- one step more
pub shown-push : {L E : Type 0} (eq : E → E → Bool) (place : ℕ) (ps : List (L × Option E)) (l : L) (e : Option E) (noted : List (Noted E (Step L)))
    → note_shown eq place (ps ++ (l, e) ∷ []) noted ≡ note eq e (record { before = place; label = l }) (note_shown eq place ps noted)
shown-push eq place [] l e noted = refl
shown-push eq place (p ∷ ps) l e noted = shown-push eq place ps l e (note eq p.1 (record { before = place; label = p.0 }) noted)

-- the steps of all labels, each with what it shows
pub shown-labels : {C L E : Type 0} (g : Graph C L) (eq : E → E → Bool) (event : C → L → Option E) (place : ℕ) (c : C) (ls : List L) (noted : List (Noted E (Step L)))
    → note_shown eq place (map (λ l. (l, event c l)) ls) noted ≡ note_labels g eq event place c ls noted
shown-labels g eq event place c [] noted = refl
shown-labels g eq event place c (l ∷ ls) noted = shown-labels g eq event place c ls (note eq (event c l) (record { before = place; label = l }) noted)

module _ {C E : Type 0} (eq : E → E → Bool) (stand : C → Option E) where
  pub states-push : (place : ℕ) (cs : List C) (c : C) (noted : List (Noted E ℕ))
      → note_states eq stand place (cs ++ c ∷ []) noted ≡ note eq (stand c) (place + length cs) (note_states eq stand place cs noted)
  states-push place [] c noted = let none : place ≡ place + 0 = omega arith in ap (λ k. note eq (stand c) k noted) none
  states-push place (d ∷ cs) c noted =
      let one : (place + 1) + length cs ≡ place + suc (length cs) = omega arith in
      let here = note eq (stand d) place noted in
      states-push (place + 1) cs c here ∙ ap (λ k. note eq (stand c) k (note_states eq stand (place + 1) cs here)) one

module _ {E X : Type 0} (eq : E → E → Bool) where
  -- what was noted before isn't noted again
  pub note-known : (o : Option E) (e : E) (at : X) (noted : List (Noted E X)) → o ≡ Some e → list_any (λ (n : Noted E X). eq n.event e) noted ≡ true → noted ≡ note eq o at noted
  note-known o e at noted is known =
      ap (λ b. if b then noted else noted ++ (record { event = e; at = at }) ∷ []) (sym known) ∙ ap (λ x. note eq x at noted) (sym is)

-- ---- runs to what is noted

-- one pair more
pub zip-push : {A B : Type 0} (R : A → B → Type 0) (xs : List A) (ys : List B) (x : A) (y : B) → AllZip R xs ys → R x y → AllZip R (xs ++ x ∷ []) (ys ++ y ∷ [])
zip-push R [] [] x y z r = (r, tt)
zip-push R [] (v ∷ ys) x y z r = absurd z
zip-push R (u ∷ xs) [] x y z r = absurd z
zip-push R (u ∷ xs) (v ∷ ys) x y z r = (z.0, zip-push R xs ys x y z.1 r)

-- where notes stand
module _ {E X : Type 0} (eq : E → E → Bool) (P : X → Type 0) where
  pub note-within : (o : Option E) (at : X) (noted : List (Noted E X)) → P at → Each (λ m. P m.at) noted → Each (λ m. P m.at) (note eq o at noted)
  note-within None at noted here before = before
  note-within (Some e) at noted here before = by (list_any (λ n. eq n.event e) noted)
    where
      by : (b : Bool) → Each (λ m. P m.at) (if b then noted else noted ++ (record { event = e; at = at }) ∷ [])
      by true = before
      by false = each-append (λ m. P m.at) noted ((record { event = e; at = at }) ∷ []) before (here, tt)

module _ {C L E : Type 0} (g : Graph C L) (eq : E → E → Bool) (event : C → L → Option E) (most : ℕ) where
  labels-within : (place : ℕ) (c : C) (ls : List L) (noted : List (Noted E (Step L))) → place < most → Each (λ m. m.at.before < most) noted
      → Each (λ m. m.at.before < most) (note_labels g eq event place c ls noted)
  labels-within place c [] noted here before = before
  labels-within place c (l ∷ ls) noted here before =
      labels-within place c ls (note eq (event c l) (record { before = place; label = l }) noted) here
      (note-within eq (λ (s : Step L). s.before < most) (event c l) (record { before = place; label = l }) noted here before)

  pub steps-within : (place : ℕ) (cs : List C) (noted : List (Noted E (Step L))) → place + length cs ≤ most → Each (λ m. m.at.before < most) noted
      → Each (λ m. m.at.before < most) (note_steps g eq event place cs noted)
  steps-within place [] noted low before = before
  steps-within place (c ∷ cs) noted low before =
      steps-within (place + 1) cs (note_labels g eq event place c (g.enabled c) noted) (omega arith) (labels-within place c (g.enabled c) noted (omega arith) before)

module _ {C E : Type 0} (eq : E → E → Bool) (stand : C → Option E) (most : ℕ) where
  pub states-within : (place : ℕ) (cs : List C) (noted : List (Noted E ℕ)) → place + length cs ≤ most → Each (λ m. m.at < most) noted
      → Each (λ m. m.at < most) (note_states eq stand place cs noted)
  states-within place [] noted low before = before
  states-within place (c ∷ cs) noted low before =
      states-within (place + 1) cs (note eq (stand c) place noted) (omega arith) (note-within eq (λ (k : ℕ). k < most) (stand c) place noted (omega arith) before)

-- what is answered, another way
pub if-ok : {A E : Type 0} (r : Result A E) (P Q : A → Type 0) → IfOk r P → ((a : A) → P a → Q a) → IfOk r Q
if-ok (Ok a) P Q holds so = so a holds
if-ok (Err e) P Q holds so = tt
