-- Types that are known, and what is of them.
use Rattle.std.proofs.Common.{◌≡◌, Bool, true, Option, Some, None, is_some, [], refl, sym, ap}
use Rattle.ttcn_syntax.specs.declared.tree.value.TypeName.{TypeName}
use Rattle.ttcn_syntax.specs.declared.tree.value.TypeName.TheVariants as type_name
use Rattle.check_rules.specs.Targets.{check_type}
use Rattle.check_scope.specs.Names.{Names, resolved, type_meant}
use Rattle.check_scope.specs.Typings.{goes_to, same_type, typed}
use Rattle.check_scope.specs.declared.rule.Rule.TheVariants as rule
use Rattle.check_scope.specs.declared.types.DataType.{DataType}
use Rattle.check_scope.specs.declared.types.DataType.TheVariants as type
use Rattle.laws_checker.proofs.Fitting.{same-number}
use Rattle.laws_checker.proofs.Nothing.{kept}

pub some-of : {A : Type 0} (o : Option A) → is_some o ≡ true → (a : A) × (o ≡ Some a)
some-of (Some a) there = (a, refl)
some-of None there = absurd (let e = there in cc)

pub type_known : (names : Names) (with_default : Bool) (t : TypeName) → check_type names with_default t ≡ [] → is_some (resolved names t) ≡ true
type_known names with_default type_name.Integer nothing = refl
type_known names with_default type_name.Boolean nothing = refl
type_known names with_default type_name.Default nothing = refl
type_known names with_default (type_name.Named name) nothing = kept (is_some (type_meant (names name))) rule.UnknownName nothing

pub same-types : (t u : DataType) → same_type t u ≡ true → t ≡ u
same-types type.Integer type.Integer is = refl
same-types type.Boolean type.Boolean is = refl
same-types type.Default type.Default is = refl
same-types (type.Record at) (type.Record other) is = ap type.Record (same-number at other is)
same-types (type.Enumerated at) (type.Enumerated other) is = ap type.Enumerated (same-number at other is)
same-types (type.Component at) (type.Component other) is = ap type.Component (same-number at other is)
same-types _ _ is = absurd (let e = is in cc)

-- what goes to a type and is of a known one is of this type
pub goes-typed : (t : DataType) (of : Option DataType) → is_some of ≡ true → goes_to t (typed of) ≡ true → of ≡ Some t
goes-typed t (Some u) known goes = ap Some (sym (same-types t u goes))
goes-typed t None known goes = absurd (let e = known in cc)
