-- What names stand for and what fits what, by examples (ES 201 873-1, 5.2, 6 and 7.1).
use Rattle.std.proofs.Common.{◌≡◌, refl, ℕ, true, false, List, [], ◌∷◌, Some, None}
use Rattle.check_scope.specs.Names.{Names, behind, listed, type_meant}
use Rattle.check_scope.specs.Numbers.{lesser}
use Rattle.check_scope.specs.Scopes.{check_new_entries}
use Rattle.check_scope.specs.Typings.{comparable, fits, goes_to, is_of}
use Rattle.check_scope.specs.declared.names.Meaning.TheVariants as meaning
use Rattle.check_scope.specs.declared.rule.Rule.TheVariants as rule
use Rattle.check_scope.specs.declared.types.DataType.TheVariants as type
use Rattle.check_scope.specs.declared.types.Typing.TheVariants as typing

-- the names `x` and `y`
abbrev x : List ℕ
x = 120 ∷ []

abbrev y : List ℕ
y = 121 ∷ []

-- a module with the record `x` and the component type `y`
abbrev module_of_two : Names
module_of_two = listed ((x, meaning.Record 0) ∷ (y, meaning.Component 1) ∷ [])

-- an inner declaration hides the outer one of its name, and no other
inner-name : behind module_of_two ((x, meaning.Timer) ∷ []) x ≡ Some meaning.Timer
inner-name = refl

outer-name : behind module_of_two ((x, meaning.Timer) ∷ []) y ≡ Some (meaning.Component 1)
outer-name = refl

-- of two declarations of a name the last one counts, and the name is declared twice
last-declaration : listed ((x, meaning.Record 0) ∷ (x, meaning.Record 1) ∷ []) x ≡ Some (meaning.Record 1)
last-declaration = refl

name-declared-twice : check_new_entries (λ name. None) ((x, meaning.Record 0) ∷ (x, meaning.Record 1) ∷ []) ≡ rule.DuplicateName ∷ []
name-declared-twice = refl

-- a timer is no type
timer-is-no-type : type_meant (Some meaning.Timer) ≡ None
timer-is-no-type = refl

-- `null` goes to components and defaults, and to no integer
null-to-component : goes_to (type.Component 3) typing.Null ≡ true
null-to-component = refl

null-to-integer : goes_to type.Integer typing.Null ≡ false
null-to-integer = refl

-- records of two types don't fit each other
other-record : goes_to (type.Record 0) (typing.Known (type.Record 1)) ≡ false
other-record = refl

-- where the type that is wanted isn't known, nothing is judged
unknown-target : fits None (typing.Known type.Boolean) ≡ true
unknown-target = refl

-- references to components of two types compare, defaults don't
components-compare : comparable (typing.Known (type.Component 0)) (typing.Known (type.Component 1)) ≡ true
components-compare = refl

defaults-do-not-compare : comparable (typing.Known type.Default) (typing.Known type.Default) ≡ false
defaults-do-not-compare = refl

-- an operand of an unknown type isn't judged, but what stands beside it is
unknown-operand : is_of type.Integer typing.Unknown ≡ true
unknown-operand = refl

unknown-compares : comparable (typing.Known type.Boolean) typing.Unknown ≡ true
unknown-compares = refl

ports-do-not-compare : comparable typing.NoValue typing.Unknown ≡ false
ports-do-not-compare = refl

-- of two broken rules the one of the lesser number is answered
lesser-rule : lesser rule.ValueType rule.DuplicateName ≡ rule.DuplicateName
lesser-rule = refl
