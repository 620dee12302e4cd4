-- Equal values are one value.
use Rattle.std.proofs.Common.{◌≡◌, Bool, true, false, ◌&&◌, nat_eq, int_eq, List, [], ◌∷◌, map, Option, Some, None, refl, sym, ap, subst, ◌∙◌}
use Rattle.std.proofs.Math.Bool.{beq}
use Rattle.std.proofs.lemmas.Bool.{and_parts, eqb-true}
use Rattle.std.specs.Bool.{Decides}
use Rattle.std.specs.Cmp.Lexicographic.{pointwise, same_text}
use Rattle.std.specs.Cmp.{booleans_Decides, signed_Decides}
use Rattle.std.specs.Option.{option_eq}
use Rattle.value_types.specs.Values.{equal}
use Rattle.value_types.specs.contracts.value.ValueEq.TheImpl.Laws as equivalence
use Rattle.value_types.specs.contracts.value.ValuePartialEq.TheImpl.Laws.{is, unfolded}
use Rattle.value_types.specs.declared.value.ComponentId.{ComponentId}
use Rattle.value_types.specs.declared.value.Value.{Value, out-Value, out-roll-Value, roll-Value, roll-out-Value}
use Rattle.value_types.specs.declared.value.Value.TheFolds.{ind-Value, map-Value}
use Rattle.value_types.specs.declared.value.Value.TheOpen.{Value-F}
use Rattle.value_types.specs.declared.value.Value.TheShapes.{former-Value-Record-1-at-1}

-- ---- one level of two values

abbrev same-component : ComponentId → ComponentId → Bool
same-component c d = pointwise nat_eq c.path.numbers d.path.numbers && nat_eq c.component_type d.component_type

abbrev same : Value-F Value → Value-F Value → Bool
same (Value-F.Integer n) (Value-F.Integer m) = int_eq n m
same (Value-F.Boolean b) (Value-F.Boolean c) = beq b c
same (Value-F.Enumerated at name) (Value-F.Enumerated bt other) = nat_eq at bt && nat_eq name other
same (Value-F.Record at fields) (Value-F.Record bt others) = nat_eq at bt && pointwise (option_eq equal) fields others
same (Value-F.Component c) (Value-F.Component d) = same-component c d
same (Value-F.Default n) (Value-F.Default m) = nat_eq n m
same Value-F.Null Value-F.Null = true
same Value-F.Omit Value-F.Omit = true
same _ _ = false

opened : (x y : Value-F Value) → unfolded (roll-Value x) (roll-Value y) ≡ same x y
opened (Value-F.Integer n) (Value-F.Integer m) = simp out-roll-Value
opened (Value-F.Boolean b) (Value-F.Boolean c) = simp out-roll-Value
opened (Value-F.Enumerated at name) (Value-F.Enumerated bt other) = simp out-roll-Value
opened (Value-F.Record at fields) (Value-F.Record bt others) = simp out-roll-Value
opened (Value-F.Component c) (Value-F.Component d) = simp out-roll-Value
opened (Value-F.Default n) (Value-F.Default m) = simp out-roll-Value
opened Value-F.Null Value-F.Null = simp out-roll-Value
opened Value-F.Omit Value-F.Omit = simp out-roll-Value
opened _ _ = simp out-roll-Value

-- ---- values that are known to equal themselves alone

abbrev IsOne : Value → Type 0
IsOne a = (b : Value) → equal a b ≡ true → a ≡ b

abbrev Held : Type 0
Held = (a : Value) × IsOne a

abbrev bare_field : Option Held → Option Value
bare_field = former-Value-Record-1-at-1.map Held Value (λ h. h.0)

field-one : (field : Option Held) (other : Option Value) → option_eq equal (bare_field field) other ≡ true → bare_field field ≡ other
field-one None None is = refl
field-one (Some held) (Some other) is = ap Some (held.1 other is)
field-one None (Some other) is = absurd (let e = is in cc)
field-one (Some held) None is = absurd (let e = is in cc)

fields-one : (fields : List (Option Held)) (others : List (Option Value)) → pointwise (option_eq equal) (map bare_field fields) others ≡ true → map bare_field fields ≡ others
fields-one [] [] is = refl
fields-one (field ∷ fields) (other ∷ others) is =
    let p = and_parts (option_eq equal (bare_field field) other) (pointwise (option_eq equal) (map bare_field fields) others) is in
    let first = field-one field other p.0 in
    let rest = fields-one fields others p.1 in
    cc
fields-one [] (other ∷ others) is = absurd (let e = is in cc)
fields-one (field ∷ fields) [] is = absurd (let e = is in cc)

component-one : (c d : ComponentId) → same-component c d ≡ true → c ≡ d
component-one c d is =
    let p = and_parts (pointwise nat_eq c.path.numbers d.path.numbers) (nat_eq c.component_type d.component_type) is in
    let numbers = same_text c.path.numbers d.path.numbers (sym p.0) in
    let type = eqb-true c.component_type d.component_type p.1 in
    λ i. record { path = record { numbers = numbers i }; component_type = type i }

level-one : (x : Value-F Held) (z : Value-F Value) → same (map-Value Held Value (λ h. h.0) x) z ≡ true → map-Value Held Value (λ h. h.0) x ≡ z
level-one (Value-F.Integer n) (Value-F.Integer m) is = ap Value-F.Integer ((signed_Decides n m).0 is)
level-one (Value-F.Boolean b) (Value-F.Boolean c) is = ap Value-F.Boolean ((booleans_Decides b c).0 is)
level-one (Value-F.Enumerated at name) (Value-F.Enumerated bt other) is =
    let p = and_parts (nat_eq at bt) (nat_eq name other) is in
    let type = eqb-true at bt p.0 in
    let names = eqb-true name other p.1 in
    cc
level-one (Value-F.Record at fields) (Value-F.Record bt others) is =
    let p = and_parts (nat_eq at bt) (pointwise (option_eq equal) (map bare_field fields) others) is in
    let type = eqb-true at bt p.0 in
    let each = fields-one fields others p.1 in
    cc
level-one (Value-F.Component c) (Value-F.Component d) is = ap Value-F.Component (component-one c d is)
level-one (Value-F.Default n) (Value-F.Default m) is = ap Value-F.Default (eqb-true n m is)
level-one Value-F.Null Value-F.Null is = refl
level-one Value-F.Omit Value-F.Omit is = refl
level-one _ _ is = absurd (let e = is in cc)

value-one : (a : Value) → IsOne a
value-one = ind-Value IsOne (λ x y is-bare b is-equal.
    let z = out-Value b in
    let e : same x z ≡ true = sym (opened x z) ∙ ap (unfolded (roll-Value x)) (roll-out-Value b) ∙ sym (is (roll-Value x) b) ∙ is-equal in
    ap roll-Value (subst (λ w. w ≡ z) is-bare (level-one y z (subst (λ w. same w z ≡ true) (sym is-bare) e))) ∙ roll-out-Value b)

pub equal_values : (a b : Value) → Decides (equal a b) (a ≡ b)
equal_values a b = (value-one a b, λ is. subst (λ c. equal a c ≡ true) is (equivalence.laws-law.refl a))
