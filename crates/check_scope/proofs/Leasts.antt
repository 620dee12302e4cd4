-- The least of rules, part by part.
use Rattle.std.proofs.Common.{◌≡◌, ℕ, nat_lt, if◌then◌else◌, List, [], ◌∷◌, ◌++◌, Option, Some, None, refl, sym, ap, ◌∙◌, arith}
use Rattle.std.proofs.lemmas.Bool.Decides.{nat_tests}
use Rattle.check_scope.specs.internal.Checking.{both, least, lesser_of}
use Rattle.check_scope.specs.Numbers.{lesser, number_of}
use Rattle.check_scope.specs.declared.broken.Broken.{Broken}
use Rattle.check_scope.specs.declared.rule.Rule.{Rule}

-- the choice by numbers
abbrev chosen : {A : Type 0} → (A → ℕ) → A → A → A
chosen number a b = if nat_lt (number b) (number a) then b else a

chosen-assoc : {A : Type 0} (number : A → ℕ) (a b c : A) → chosen number (chosen number a b) c ≡ chosen number a (chosen number b c)
chosen-assoc number a b c = grind (arith, nat_tests)

lesser-assoc : (a b c : Rule) → lesser (lesser a b) c ≡ lesser a (lesser b c)
lesser-assoc a b c = chosen-assoc number_of a b c

lesser_of-assoc : (a b c : Option Rule) → lesser_of (lesser_of a b) c ≡ lesser_of a (lesser_of b c)
lesser_of-assoc None b c = refl
lesser_of-assoc (Some a) None c = refl
lesser_of-assoc (Some a) (Some b) None = refl
lesser_of-assoc (Some a) (Some b) (Some c) = ap Some (lesser-assoc a b c)

pub both-assoc : (a b c : Broken) → both (both a b) c ≡ both a (both b c)
both-assoc a b c = ap (λ o. record { least = o }) (lesser_of-assoc a.least b.least c.least)

lesser_of-None : (a : Option Rule) → lesser_of a None ≡ a
lesser_of-None None = refl
lesser_of-None (Some a) = refl

-- nothing more
pub both-nothing : (a : Broken) → both a (least []) ≡ a
both-nothing a = ap (λ o. record { least = o }) (lesser_of-None a.least)

pub least_append : (xs ys : List Rule) → least (xs ++ ys) ≡ both (least xs) (least ys)
least_append [] ys = refl
least_append (r ∷ xs) ys = ap (both (record { least = Some r })) (least_append xs ys) ∙ sym (both-assoc (record { least = Some r }) (least xs) (least ys))
