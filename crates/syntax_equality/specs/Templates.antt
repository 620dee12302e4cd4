-- Templates that `==` finds equal are one.
use Rattle.std.proofs.Common.{◌≡◌, Bool, true, ◌&&◌, sym, ap, subst, ◌∙◌}
use Rattle.std.proofs.lemmas.Bool.{and_parts}
use Rattle.std.specs.Cmp.Lexicographic.{pointwise}
use Rattle.syntax_equality.specs.Equality.{IsOne, Known, OneAt, boolean_one, known_list_one, last, more, name_one, none, option_one, tests_of, variant_one}
use Rattle.syntax_equality.specs.Expressions.{expression_one}
use Rattle.syntax_equality.specs.Values.{call_one, type_one}
use Rattle.ttcn_syntax.specs.contracts.tree.expression.ExprPartialEq.TheImpl as expressions
use Rattle.ttcn_syntax.specs.contracts.tree.template.Bound.{enum as bound_enum}
use Rattle.ttcn_syntax.specs.contracts.tree.template.BoundPartialEq.TheImpl as bounds
use Rattle.ttcn_syntax.specs.contracts.tree.template.FieldTemplatePartialEq.TheImpl as fields
use Rattle.ttcn_syntax.specs.contracts.tree.template.FieldTemplatePartialEq.TheImpl.Laws as of_fields
use Rattle.ttcn_syntax.specs.contracts.tree.template.MessageTemplatePartialEq.TheImpl as messages
use Rattle.ttcn_syntax.specs.contracts.tree.template.TemplateBody.{enum as body_enum}
use Rattle.ttcn_syntax.specs.contracts.tree.template.TemplateBodyPartialEq.TheImpl as bodies
use Rattle.ttcn_syntax.specs.contracts.tree.template.TemplateBodyPartialEq.TheImpl.Laws as of_bodies
use Rattle.ttcn_syntax.specs.contracts.tree.template.TemplatePartialEq.TheImpl as templates
use Rattle.ttcn_syntax.specs.contracts.tree.template.TemplatePartialEq.TheImpl.Laws as of_templates
use Rattle.ttcn_syntax.specs.contracts.tree.value.CallPartialEq.TheImpl as calls
use Rattle.ttcn_syntax.specs.declared.tree.template.Bound.{Bound}
use Rattle.ttcn_syntax.specs.declared.tree.template.Bound.TheVariants as bound
use Rattle.ttcn_syntax.specs.declared.tree.template.FieldTemplate.{FieldTemplate, out-FieldTemplate, roll-FieldTemplate, roll-out-FieldTemplate}
use Rattle.ttcn_syntax.specs.declared.tree.template.MessageTemplate.{MessageTemplate}
use Rattle.ttcn_syntax.specs.declared.tree.template.Template.{Template, out-Template, roll-Template, roll-out-Template}
use Rattle.ttcn_syntax.specs.declared.tree.template.TemplateBody.{TemplateBody, out-roll-TemplateBody, roll-TemplateBody}
use Rattle.ttcn_syntax.specs.declared.tree.template.TemplateBody.TheBlock.{split-TemplateBody, the_carrier, the_members, the_sigs}
use Rattle.ttcn_syntax.specs.declared.tree.template.TemplateBody.TheFolds.{ind-FieldTemplate, ind-Template, ind-TemplateBody, map-FieldTemplate, map-Template, map-TemplateBody}
use Rattle.ttcn_syntax.specs.declared.tree.template.TemplateBody.TheOpen.{FieldTemplate-F, Template-F, TemplateBody-F}
use denote.Enum.Compared.{Each}
use denote.Enum.Declared.{Choice}
use denote.Hole.Carrier.{Values}

-- ---- ends of ranges

bound_at : (a : Bound) → OneAt bound_enum.parts (tests_of bound_enum (bounds.ghosts).eq) (bound_enum.as_values a)
bound_at (bound.Expr e) = last (expression_one e)
bound_at bound.Infinity = none

pub bound_one : (a : Bound) → IsOne Bound (bounds.ghosts).eq a
bound_one a = variant_one bound_enum (tests_of bound_enum (bounds.ghosts).eq) a (bound_at a)

-- ---- templates, their bodies and fields: one level, over those that are known to equal themselves alone

-- `==` of bodies of templates
abbrev same : TemplateBody → TemplateBody → Bool
same = (bodies.ghosts).eq

-- `==` of templates of fields, each with the field's name
abbrev same_field : FieldTemplate → FieldTemplate → Bool
same_field = (fields.ghosts).eq

-- `==` of templates, each a body with or without `ifpresent`
abbrev same_template : Template → Template → Bool
same_template = (templates.ghosts).eq

-- the tests of each variant of a body
abbrev each : Each Bool body_enum.parts
each = (
  λ a b. true,
  (
    λ a b. true,
    (
      λ a b. true,
      (
        λ a b. pointwise same_template a.0 b.0,
        (
          λ a b. pointwise same_template a.0 b.0,
          (
            λ a b. (bounds.ghosts).eq a.0 b.0 && (bounds.ghosts).eq a.1.0 b.1.0,
            (
              λ a b. (calls.ghosts).eq a.0 b.0,
              (
                λ a b. (expressions.ghosts).eq a.0 b.0,
                (
                  λ a b. pointwise same_template a.0 b.0,
                  (
                    λ a b. pointwise same_field a.0 b.0,
                    tt,
                  ),
                ),
              ),
            ),
          ),
        ),
      ),
    ),
  ),
)

-- one level of a body as its variant, with the values of the variant's fields
abbrev values_of : TemplateBody-F TemplateBody FieldTemplate Template → Choice body_enum.parts
values_of = split-TemplateBody (Values the_members the_sigs the_carrier)

-- one level of a body, without what is known of its parts
abbrev bare : TemplateBody-F (Known same) (Known same_field) (Known same_template) → TemplateBody-F TemplateBody FieldTemplate Template
bare = map-TemplateBody (Known same) (Known same_field) (Known same_template) TemplateBody FieldTemplate Template (λ k. k.0) (λ k. k.0) (λ k. k.0)

-- one level of a field's template, without what is known of its parts
abbrev bare_field : FieldTemplate-F (Known same) (Known same_field) (Known same_template) → FieldTemplate-F TemplateBody FieldTemplate Template
bare_field = map-FieldTemplate (Known same) (Known same_field) (Known same_template) TemplateBody FieldTemplate Template (λ k. k.0) (λ k. k.0) (λ k. k.0)

-- one level of a template, without what is known of its parts
abbrev bare_template : Template-F (Known same) (Known same_field) (Known same_template) → Template-F TemplateBody FieldTemplate Template
bare_template = map-Template (Known same) (Known same_field) (Known same_template) TemplateBody FieldTemplate Template (λ k. k.0) (λ k. k.0) (λ k. k.0)

level : (y : TemplateBody-F (Known same) (Known same_field) (Known same_template)) → OneAt body_enum.parts each (values_of (bare y))
level TemplateBody-F.Any = none
level TemplateBody-F.AnyOrOmit = none
level TemplateBody-F.Omit = none
level (TemplateBody-F.Complement parts) = last (known_list_one same_template parts)
level (TemplateBody-F.List parts) = last (known_list_one same_template parts)
level (TemplateBody-F.Range low high) = more (bound_one low) (last (bound_one high))
level (TemplateBody-F.Call call) = last (call_one call)
level (TemplateBody-F.Expr e) = last (expression_one e)
level (TemplateBody-F.Listed parts) = last (known_list_one same_template parts)
level (TemplateBody-F.Assigned parts) = last (known_list_one same_field parts)

body_step : (x : TemplateBody-F TemplateBody FieldTemplate Template) (y : TemplateBody-F (Known same) (Known same_field) (Known same_template)) → bare y ≡ x → IsOne TemplateBody same (roll-TemplateBody x)
body_step x y is-bare b h =
    let at = subst (λ v. OneAt body_enum.parts each (values_of v)) (is-bare ∙ sym (out-roll-TemplateBody x)) (level y) in
    variant_one body_enum each (roll-TemplateBody x) at b (sym (of_bodies.is (roll-TemplateBody x) b) ∙ h)

field_step : (x : FieldTemplate-F TemplateBody FieldTemplate Template) (y : FieldTemplate-F (Known same) (Known same_field) (Known same_template)) → bare_field y ≡ x → IsOne FieldTemplate same_field (roll-FieldTemplate x)
field_step x y is-bare = subst (λ v. IsOne FieldTemplate same_field (roll-FieldTemplate v)) is-bare (λ b h.
    let p = and_parts _ _ (sym (of_fields.is (roll-FieldTemplate (bare_field y)) b) ∙ h) in
    let name_is = name_one y.name (out-FieldTemplate b).name p.0 in
    let template_is = y.template.1 (out-FieldTemplate b).template p.1 in
    ap roll-FieldTemplate (λ i. record { name = name_is i; template = template_is i }) ∙ roll-out-FieldTemplate b)

template_step : (x : Template-F TemplateBody FieldTemplate Template) (y : Template-F (Known same) (Known same_field) (Known same_template)) → bare_template y ≡ x → IsOne Template same_template (roll-Template x)
template_step x y is-bare = subst (λ v. IsOne Template same_template (roll-Template v)) is-bare (λ b h.
    let p = and_parts _ _ (sym (of_templates.is (roll-Template (bare_template y)) b) ∙ h) in
    let body_is = y.body.1 (out-Template b).body p.0 in
    let ifpresent_is = boolean_one y.ifpresent (out-Template b).ifpresent p.1 in
    ap roll-Template (λ i. record { body = body_is i; ifpresent = ifpresent_is i }) ∙ roll-out-Template b)

pub body_one : (a : TemplateBody) → IsOne TemplateBody same a
body_one = ind-TemplateBody (IsOne TemplateBody same) (IsOne FieldTemplate same_field) (IsOne Template same_template) body_step field_step template_step

pub field_one : (a : FieldTemplate) → IsOne FieldTemplate same_field a
field_one = ind-FieldTemplate (IsOne TemplateBody same) (IsOne FieldTemplate same_field) (IsOne Template same_template) body_step field_step template_step

pub template_one : (a : Template) → IsOne Template same_template a
template_one = ind-Template (IsOne TemplateBody same) (IsOne FieldTemplate same_field) (IsOne Template same_template) body_step field_step template_step

-- ---- templates of messages

pub message_one : (a : MessageTemplate) → IsOne MessageTemplate (messages.ghosts).eq a
message_one a b h = let p = and_parts _ _ h in λ i. record { type_name = option_one _ type_one a.type_name b.type_name p.0 i; template = template_one a.template b.template p.1 i }
