-- Where nothing is broken.
use Rattle.std.proofs.Common.{◌≡◌, Bool, true, false, List, [], ◌∷◌, ◌++◌, refl}
use Rattle.check_scope.specs.Typings.{unless}
use Rattle.check_scope.specs.declared.rule.Rule.{Rule}

pub nothing-first : {A : Type 0} (xs ys : List A) → xs ++ ys ≡ [] → xs ≡ []
nothing-first [] ys is = refl
nothing-first (x ∷ xs) ys is = absurd (let e = is in cc)

pub nothing-rest : {A : Type 0} (xs ys : List A) → xs ++ ys ≡ [] → ys ≡ []
nothing-rest [] ys is = is
nothing-rest (x ∷ xs) ys is = absurd (let e = is in cc)

pub kept : (b : Bool) (r : Rule) → unless b r ≡ [] → b ≡ true
kept true r is = refl
kept false r is = absurd (let e = is in cc)
