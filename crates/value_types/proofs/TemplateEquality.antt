-- Equal templates are one template.
use Rattle.std.proofs.Common.{◌≡◌, ℤ, Bool, true, false, ◌&&◌, nat_eq, int_eq, List, [], ◌∷◌, map, Option, Some, None, refl, sym, ap, subst, ◌∙◌}
use Rattle.std.proofs.Math.Bool.{beq}
use Rattle.std.proofs.lemmas.Bool.{and_parts, eqb-true}
use Rattle.std.specs.Bool.{Decides}
use Rattle.std.specs.Cmp.Lexicographic.{pointwise}
use Rattle.std.specs.Cmp.{booleans_Decides, signed_Decides}
use Rattle.std.specs.Option.{option_eq}
use Rattle.value_types.specs.Matching.{equal_pattern, equal_template}
use Rattle.value_types.specs.Values.{equal}
use Rattle.value_types.specs.contracts.template.PatternEq.TheImpl.Laws as of_patterns
use Rattle.value_types.specs.contracts.template.PatternPartialEq.TheImpl.Laws as pattern
use Rattle.value_types.specs.contracts.template.TemplateEq.TheImpl.Laws as of_templates
use Rattle.value_types.specs.contracts.template.TemplatePartialEq.TheImpl.Laws as template
use Rattle.value_types.specs.declared.template.Pattern.{Pattern, out-Pattern, out-roll-Pattern, roll-Pattern, roll-out-Pattern}
use Rattle.value_types.specs.declared.template.Pattern.TheFolds.{ind-Pattern, ind-Template, map-Pattern, map-Template}
use Rattle.value_types.specs.declared.template.Pattern.TheOpen.{Pattern-F, Template-F}
use Rattle.value_types.specs.declared.template.Template.{Template, out-Template, roll-Template, roll-out-Template}
use Rattle.value_types.proofs.Equality.{equal_values}

-- ---- one level of two patterns, and of two templates

abbrev same : Pattern-F Pattern Template → Pattern-F Pattern Template → Bool
same (Pattern-F.Value v) (Pattern-F.Value w) = equal v w
same Pattern-F.Any Pattern-F.Any = true
same Pattern-F.AnyOrOmit Pattern-F.AnyOrOmit = true
same Pattern-F.Omit Pattern-F.Omit = true
same (Pattern-F.Complement parts) (Pattern-F.Complement others) = pointwise equal_template parts others
same (Pattern-F.List parts) (Pattern-F.List others) = pointwise equal_template parts others
same (Pattern-F.Range low high) (Pattern-F.Range least greatest) = option_eq int_eq low least && option_eq int_eq high greatest
same (Pattern-F.Record at parts) (Pattern-F.Record bt others) = nat_eq at bt && pointwise equal_template parts others
same _ _ = false

opened : (x y : Pattern-F Pattern Template) → pattern.unfolded (roll-Pattern x) (roll-Pattern y) ≡ same x y
opened (Pattern-F.Value v) (Pattern-F.Value w) = simp out-roll-Pattern
opened Pattern-F.Any Pattern-F.Any = simp out-roll-Pattern
opened Pattern-F.AnyOrOmit Pattern-F.AnyOrOmit = simp out-roll-Pattern
opened Pattern-F.Omit Pattern-F.Omit = simp out-roll-Pattern
opened (Pattern-F.Complement parts) (Pattern-F.Complement others) = simp out-roll-Pattern
opened (Pattern-F.List parts) (Pattern-F.List others) = simp out-roll-Pattern
opened (Pattern-F.Range low high) (Pattern-F.Range least greatest) = simp out-roll-Pattern
opened (Pattern-F.Record at parts) (Pattern-F.Record bt others) = simp out-roll-Pattern
opened _ _ = simp out-roll-Pattern

abbrev same_template : Template-F Pattern Template → Template-F Pattern Template → Bool
same_template t u = equal_pattern t.pattern u.pattern && beq t.ifpresent u.ifpresent

-- ---- patterns and templates that are known to equal themselves alone

abbrev IsOnePattern : Pattern → Type 0
IsOnePattern a = (b : Pattern) → equal_pattern a b ≡ true → a ≡ b

abbrev IsOne : Template → Type 0
IsOne a = (b : Template) → equal_template a b ≡ true → a ≡ b

abbrev HeldPattern : Type 0
HeldPattern = (a : Pattern) × IsOnePattern a

abbrev Held : Type 0
Held = (a : Template) × IsOne a

abbrev bare : Pattern-F HeldPattern Held → Pattern-F Pattern Template
bare = map-Pattern HeldPattern Held Pattern Template (λ p. p.0) (λ t. t.0)

abbrev bare_template : Template-F HeldPattern Held → Template-F Pattern Template
bare_template = map-Template HeldPattern Held Pattern Template (λ p. p.0) (λ t. t.0)

parts-one : (parts : List Held) (others : List Template) → pointwise equal_template (map (λ t. t.0) parts) others ≡ true → map (λ t. t.0) parts ≡ others
parts-one [] [] is = refl
parts-one (part ∷ parts) (other ∷ others) is =
    let p = and_parts (equal_template part.0 other) (pointwise equal_template (map (λ t. t.0) parts) others) is in
    let first = part.1 other p.0 in
    let rest = parts-one parts others p.1 in
    cc
parts-one [] (other ∷ others) is = absurd (let e = is in cc)
parts-one (part ∷ parts) [] is = absurd (let e = is in cc)

end-one : (end other : Option ℤ) → option_eq int_eq end other ≡ true → end ≡ other
end-one None None is = refl
end-one (Some n) (Some m) is = ap Some ((signed_Decides n m).0 is)
end-one None (Some m) is = absurd (let e = is in cc)
end-one (Some n) None is = absurd (let e = is in cc)

level-one : (x : Pattern-F HeldPattern Held) (z : Pattern-F Pattern Template) → same (bare x) z ≡ true → bare x ≡ z
level-one (Pattern-F.Value v) (Pattern-F.Value w) is = ap Pattern-F.Value ((equal_values v w).0 is)
level-one Pattern-F.Any Pattern-F.Any is = refl
level-one Pattern-F.AnyOrOmit Pattern-F.AnyOrOmit is = refl
level-one Pattern-F.Omit Pattern-F.Omit is = refl
level-one (Pattern-F.Complement parts) (Pattern-F.Complement others) is = ap Pattern-F.Complement (parts-one parts others is)
level-one (Pattern-F.List parts) (Pattern-F.List others) is = ap Pattern-F.List (parts-one parts others is)
level-one (Pattern-F.Range low high) (Pattern-F.Range least greatest) is =
    let p = and_parts (option_eq int_eq low least) (option_eq int_eq high greatest) is in
    let low_is = end-one low least p.0 in
    let high_is = end-one high greatest p.1 in
    cc
level-one (Pattern-F.Record at parts) (Pattern-F.Record bt others) is =
    let p = and_parts (nat_eq at bt) (pointwise equal_template (map (λ t. t.0) parts) others) is in
    let type = eqb-true at bt p.0 in
    let each = parts-one parts others p.1 in
    cc
level-one _ _ is = absurd (let e = is in cc)

level-one-template : (x : Template-F HeldPattern Held) (z : Template-F Pattern Template) → same_template (bare_template x) z ≡ true → bare_template x ≡ z
level-one-template x z is =
    let p = and_parts (equal_pattern x.pattern.0 z.pattern) (beq x.ifpresent z.ifpresent) is in
    let pattern_is = x.pattern.1 z.pattern p.0 in
    let ifpresent_is = (booleans_Decides x.ifpresent z.ifpresent).0 p.1 in
    λ i. record { pattern = pattern_is i; ifpresent = ifpresent_is i }

pattern-step : (x : Pattern-F Pattern Template) (y : Pattern-F HeldPattern Held) → bare y ≡ x → IsOnePattern (roll-Pattern x)
pattern-step x y is-bare b is-equal =
    let z = out-Pattern b in
    let e : same x z ≡ true = sym (opened x z) ∙ ap (pattern.unfolded (roll-Pattern x)) (roll-out-Pattern b) ∙ sym (pattern.is (roll-Pattern x) b) ∙ is-equal in
    ap roll-Pattern (subst (λ w. w ≡ z) is-bare (level-one y z (subst (λ w. same w z ≡ true) (sym is-bare) e))) ∙ roll-out-Pattern b

template-step : (x : Template-F Pattern Template) (y : Template-F HeldPattern Held) → bare_template y ≡ x → IsOne (roll-Template x)
template-step x y is-bare b is-equal =
    let z = out-Template b in
    let e : same_template x z ≡ true = ap (template.unfolded (roll-Template x)) (roll-out-Template b) ∙ sym (template.is (roll-Template x) b) ∙ is-equal in
    ap roll-Template (subst (λ w. w ≡ z) is-bare (level-one-template y z (subst (λ w. same_template w z ≡ true) (sym is-bare) e))) ∙ roll-out-Template b

pub equal-patterns : (a b : Pattern) → Decides (equal_pattern a b) (a ≡ b)
equal-patterns a b = (ind-Pattern IsOnePattern IsOne pattern-step template-step a b, λ is. subst (λ c. equal_pattern a c ≡ true) is (of_patterns.laws-law.refl a))

pub equal-templates : (a b : Template) → Decides (equal_template a b) (a ≡ b)
equal-templates a b = (ind-Template IsOnePattern IsOne pattern-step template-step a b, λ is. subst (λ c. equal_template a c ≡ true) is (of_templates.laws-law.refl a))

-- templates, and patterns, that are equal are one
pub ruleset are_one = (equal-templates, equal-patterns)
