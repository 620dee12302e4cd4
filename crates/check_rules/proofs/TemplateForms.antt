-- The rules that templates break, form by form.
use Rattle.std.proofs.Common.{◌≡◌, ℕ, ◌+◌, ◌<◌, ◌≤◌, not, ◌||◌, List, [], ◌∷◌, ◌++◌, map, length, get_or, drop, refl, sym, ap, ◌∙◌}
use Rattle.std.proofs.Math.ListN.{length-map}
use Rattle.std.proofs.lemmas.List.{drop_all}
use Rattle.ttcn_syntax.specs.declared.tree.expression.Expr.{Expr}
use Rattle.ttcn_syntax.specs.declared.tree.template.Bound.{Bound}
use Rattle.ttcn_syntax.specs.declared.tree.template.FieldTemplate.{FieldTemplate, fold_out-FieldTemplate, out-FieldTemplate}
use Rattle.ttcn_syntax.specs.declared.tree.template.Template.{Template, fold_out-Template, out-Template}
use Rattle.ttcn_syntax.specs.declared.tree.template.TemplateBody.TheFolds.{fold-roll-TemplateBody}
use Rattle.ttcn_syntax.specs.declared.tree.template.TemplateBody.TheOpen.{TemplateBody-F}
use Rattle.ttcn_syntax.specs.declared.tree.template.TemplateBody.TheVariants as form
use Rattle.ttcn_syntax.specs.declared.tree.value.Call.{Call}
use Rattle.check_scope.proofs.Leasts.{both-assoc, both-nothing, least_append}
use Rattle.check_scope.proofs.Lookups.{drop-next}
use Rattle.check_scope.specs.internal.Checking.{both, least}
use Rattle.check_scope.specs.Names.{Scope}
use Rattle.check_rules.specs.Templates.{check_name, check_range, check_named_template, body, body_step, each, field_template, field_template_step, has_all, template, template_meant, template_named, template_step}
use Rattle.check_scope.specs.Typings.{unless}
use Rattle.check_rules.specs.Values.{AtTarget, by_name, in_order, is_full, takes_braces, wanted_fields}
use Rattle.check_scope.specs.declared.broken.Broken.{Broken}
use Rattle.check_scope.specs.declared.rule.Rule.TheVariants as rule
use Rattle.check_scope.specs.declared.types.Target.{Target}

-- the equation of a form
abbrev Part : Type 0
Part = List ℕ × AtTarget

module _ (scope : Scope) (target : Target) where
  pub body-of-any : body form.Any scope target ≡ []
  body-of-any = ap (λ (f : AtTarget). f scope target) (ap body (sym form.rolls-Any) ∙ fold-roll-TemplateBody AtTarget Part AtTarget body_step field_template_step template_step TemplateBody-F.Any)

  pub body-of-any-or-omit : body form.AnyOrOmit scope target ≡ unless target.optional rule.Fields
  body-of-any-or-omit = ap (λ (f : AtTarget). f scope target) (ap body (sym form.rolls-AnyOrOmit) ∙ fold-roll-TemplateBody AtTarget Part AtTarget body_step field_template_step template_step TemplateBody-F.AnyOrOmit)

  pub body-of-omit : body form.Omit scope target ≡ unless target.optional rule.Fields
  body-of-omit = ap (λ (f : AtTarget). f scope target) (ap body (sym form.rolls-Omit) ∙ fold-roll-TemplateBody AtTarget Part AtTarget body_step field_template_step template_step TemplateBody-F.Omit)

  pub body-of-complement : (parts : List Template) → body (form.Complement parts) scope target ≡ each (map template parts) scope target
  body-of-complement parts = ap (λ (f : AtTarget). f scope target) (ap body (sym (form.rolls-Complement parts)) ∙ fold-roll-TemplateBody AtTarget Part AtTarget body_step field_template_step template_step (TemplateBody-F.Complement parts))

  pub body-of-list : (parts : List Template) → body (form.List parts) scope target ≡ each (map template parts) scope target
  body-of-list parts = ap (λ (f : AtTarget). f scope target) (ap body (sym (form.rolls-List parts)) ∙ fold-roll-TemplateBody AtTarget Part AtTarget body_step field_template_step template_step (TemplateBody-F.List parts))

  pub body-of-range : (low high : Bound) → body (form.Range low high) scope target ≡ check_range scope target low high
  body-of-range low high = ap (λ (f : AtTarget). f scope target) (ap body (sym (form.rolls-Range low high)) ∙ fold-roll-TemplateBody AtTarget Part AtTarget body_step field_template_step template_step (TemplateBody-F.Range low high))

  pub body-of-call : (call : Call) → body (form.Call call) scope target ≡ check_named_template scope target call.arguments (template_meant (scope.names call.name))
  body-of-call call = ap (λ (f : AtTarget). f scope target) (ap body (sym (form.rolls-Call call)) ∙ fold-roll-TemplateBody AtTarget Part AtTarget body_step field_template_step template_step (TemplateBody-F.Call call))

  pub body-of-expr : (e : Expr) → body (form.Expr e) scope target ≡ check_name scope target e (template_named scope e)
  body-of-expr e = ap (λ (f : AtTarget). f scope target) (ap body (sym (form.rolls-Expr e)) ∙ fold-roll-TemplateBody AtTarget Part AtTarget body_step field_template_step template_step (TemplateBody-F.Expr e))

  pub body-of-listed : (parts : List Template) → body (form.Listed parts) scope target
      ≡ unless (takes_braces target.data_type) rule.ValueType ++ unless (is_full (wanted_fields scope.definitions target.data_type) (length (map template parts))) rule.Fields
      ++ in_order (wanted_fields scope.definitions target.data_type) (map template parts) scope
  body-of-listed parts = ap (λ (f : AtTarget). f scope target) (ap body (sym (form.rolls-Listed parts)) ∙ fold-roll-TemplateBody AtTarget Part AtTarget body_step field_template_step template_step (TemplateBody-F.Listed parts))

  pub listed-least : (parts : List Template) → least (body (form.Listed parts) scope target)
      ≡ both (both (least (unless (takes_braces target.data_type) rule.ValueType)) (least (unless (is_full (wanted_fields scope.definitions target.data_type) (length parts)) rule.Fields)))
      (least (in_order (wanted_fields scope.definitions target.data_type) (map template parts) scope))
  listed-least parts = rw (body-of-listed parts) (simp (least_append, length-map))

  pub body-of-assigned : (parts : List FieldTemplate) → body (form.Assigned parts) scope target
      ≡ unless (takes_braces target.data_type) rule.ValueType ++ unless (has_all (wanted_fields scope.definitions target.data_type) (map (λ part. part.0) (map field_template parts))) rule.Fields
      ++ by_name (wanted_fields scope.definitions target.data_type) [] (map field_template parts) scope
  body-of-assigned parts = ap (λ (f : AtTarget). f scope target) (ap body (sym (form.rolls-Assigned parts)) ∙ fold-roll-TemplateBody AtTarget Part AtTarget body_step field_template_step template_step (TemplateBody-F.Assigned parts))

pub field-template-out : (part : FieldTemplate) → field_template part ≡ ((out-FieldTemplate part).name, template (out-FieldTemplate part).template)
field-template-out part = fold_out-FieldTemplate AtTarget Part AtTarget body_step field_template_step template_step part

names-out : (parts : List FieldTemplate) → map (λ part. part.0) (map field_template parts) ≡ map (λ part. (out-FieldTemplate part).name) parts
names-out [] = refl
names-out (part ∷ parts) = ap (λ (p : Part). p.0 ∷ map (λ q. q.0) (map field_template parts)) (field-template-out part) ∙ ap (λ names. (out-FieldTemplate part).name ∷ names) (names-out parts)

pub assigned-least : (scope : Scope) (target : Target) (parts : List FieldTemplate) → least (body (form.Assigned parts) scope target)
    ≡ both (both (least (unless (takes_braces target.data_type) rule.ValueType)) (least (unless (has_all (wanted_fields scope.definitions target.data_type) (map (λ part. (out-FieldTemplate part).name) parts)) rule.Fields)))
    (least (by_name (wanted_fields scope.definitions target.data_type) [] (map field_template parts) scope))
assigned-least scope target parts = rw (body-of-assigned scope target parts, names-out parts) (simp least_append)

template-out : (t : Template) (scope : Scope) (target : Target) → template t scope target ≡ body (out-Template t).body scope target ++ unless (not (out-Template t).ifpresent || target.optional) rule.Fields
template-out t scope target = ap (λ (f : AtTarget). f scope target) (fold_out-Template AtTarget Part AtTarget body_step field_template_step template_step t)

pub template-least : (scope : Scope) (target : Target) (t : Template) → least (template t scope target)
    ≡ both (least (body (out-Template t).body scope target)) (least (unless (not (out-Template t).ifpresent || target.optional) rule.Fields))
template-least scope target t = rw (template-out t scope target) (simp least_append)

-- what a template breaks, form by form
pub ruleset template_forms = (body-of-any, body-of-any-or-omit, body-of-omit, body-of-complement, body-of-list, body-of-range, body-of-call, body-of-expr, listed-least, assigned-least, template-least)

-- ---- parts that stand for the same target

-- what was found so far, with what the parts that are left break
abbrev pub rest_of_each : Scope → Target → List Template → Broken → Broken
rest_of_each scope target parts found = both found (least (each (map template parts) scope target))

pub each-next : (scope : Scope) (target : Target) (parts : List Template) (i : ℕ) (t : Template) (found part next : Broken) → i < length parts → t ≡ get_or parts i t
    → part ≡ least (template t scope target) → next ≡ both found part → rest_of_each scope target (drop i parts) found ≡ rest_of_each scope target (drop (i + 1) parts) next
each-next scope target parts i t found part next inside is part-is next_is =
    ap (λ ts. rest_of_each scope target ts found) (drop-next parts i t inside is)
    ∙ ap (both found) (least_append (template t scope target) (each (map template (drop (i + 1) parts)) scope target))
    ∙ sym (both-assoc found (least (template t scope target)) (least (each (map template (drop (i + 1) parts)) scope target)))
    ∙ ap (rest_of_each scope target (drop (i + 1) parts)) (sym (next_is ∙ ap (both found) part-is))

pub each-end : (scope : Scope) (target : Target) (parts : List Template) (i : ℕ) (found : Broken) → length parts ≤ i → rest_of_each scope target (drop i parts) found ≡ found
each-end scope target parts i found past = ap (λ ts. rest_of_each scope target ts found) (drop_all i parts past) ∙ both-nothing found
