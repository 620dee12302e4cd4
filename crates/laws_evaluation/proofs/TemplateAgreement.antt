-- Two readings that differ in what constants and templates give, and in nothing else, give the same of a template
-- wherever nothing that is referred to differs.
use Rattle.std.proofs.Common.{◌≡◌, ℕ, Bool, true, false, nat_eq, List, [], ◌∷◌, ◌++◌, map, length, bytes_eq, Option, Some, None, if◌then◌else◌, refl, sym, ap, subst, ◌∙◌}
use Rattle.std.specs.List.{find, zip}
use Rattle.laws_evaluation.proofs.Agreement.{AgreeAt, Keeps, braced-agrees, expression-same, value-same}
use Rattle.laws_evaluation.proofs.Lists.{Each, cons-same, each-first, each-rest, then-same}
use Rattle.check_survey.specs.declared.thing.Thing.{Thing}
use Rattle.ttcn_syntax.specs.declared.tree.definition.Field.{Field}
use Rattle.ttcn_syntax.specs.declared.tree.definition.Parameter.{Parameter}
use Rattle.ttcn_syntax.specs.declared.tree.expression.Expr.{Expr, out-Expr}
use Rattle.ttcn_syntax.specs.declared.tree.template.Bound.{Bound}
use Rattle.ttcn_syntax.specs.declared.tree.template.Bound.TheVariants as bound
use Rattle.ttcn_syntax.specs.declared.tree.template.FieldTemplate.{FieldTemplate, roll-FieldTemplate}
use Rattle.ttcn_syntax.specs.declared.tree.template.Template as tree
use Rattle.ttcn_syntax.specs.declared.tree.template.TemplateBody.{TemplateBody, fold-TemplateBody, roll-TemplateBody}
use Rattle.ttcn_syntax.specs.declared.tree.template.TemplateBody.TheFolds.{fold-roll-FieldTemplate, fold-roll-Template, fold-roll-TemplateBody, ind-Template, map-FieldTemplate, map-Template, map-TemplateBody}
use Rattle.ttcn_syntax.specs.declared.tree.template.TemplateBody.TheOpen.{FieldTemplate-F, Template-F, TemplateBody-F}
use Rattle.ttcn_syntax.specs.declared.tree.value.Value as written
use Rattle.check_rules.specs.Calls.{parameters_of}
use Rattle.check_scope.specs.Names.{Scope, fields_at, kind_at, module_names, resolved}
use Rattle.check_rules.specs.Parts.{all_of, body_parts_step, field_template_parts, field_template_parts_step, of_bound, of_name, of_template, template_parts, template_parts_step, value_parts}
use Rattle.check_rules.specs.Templates.{bare_name, template_by_name, template_meant}
use Rattle.check_scope.specs.declared.types.DataType.{DataType}
use Rattle.value_types.specs.Chains.{Outcomes, with_outcomes}
use Rattle.value_types.specs.Literals.{type_of_field, wanted_record}
use Rattle.value_types.specs.Outcomes.{Fails, Outcome, Yields, each, or_unmet, outcome_and_then, outcome_map, unmet}
use Rattle.value_types.specs.Readings.{Reading}
use Rattle.value_types.specs.Templates.{Wanted, argument, arguments, as_pattern, value_of_bound, template_of_expression, template_of_range, body_step, body_wanted, by_name, element, element_named, field_template, field_template_step, in_order, parts_of, plain, record_at, template_called, template_of_name, template_step, template_wanted, with_ifpresent}
use Rattle.value_types.specs.Values.{integer}
use Rattle.value_types.specs.declared.template.Pattern.TheVariants as pattern
use Rattle.value_types.specs.declared.template.Template.{Template}

-- the parts of a template's body
abbrev body_parts : Scope → TemplateBody → Thing
body_parts scope = fold-TemplateBody Thing Thing Thing (body_parts_step scope) field_template_parts_step template_parts_step

module _ (base : Reading) (one other : Outcomes) (scope : Scope) (keeps : Keeps base.definitions scope) where
  abbrev here : Reading
  here = with_outcomes one base

  abbrev there : Reading
  there = with_outcomes other base

  -- all that a thing refers to gives the same
  abbrev Agrees : Thing → Type 0
  Agrees thing = Each (AgreeAt base.definitions one other) thing.references

  first : (x y : List ℕ) → Each (AgreeAt base.definitions one other) (x ++ y) → Each (AgreeAt base.definitions one other) x
  first x y all = each-first (AgreeAt base.definitions one other) x y all

  rest : (x y : List ℕ) → Each (AgreeAt base.definitions one other) (x ++ y) → Each (AgreeAt base.definitions one other) y
  rest x y all = each-rest (AgreeAt base.definitions one other) x y all

  -- ---- named templates

  each-argument-same : (ps : List Parameter) (vs : List written.Value) → Agrees (all_of (map (value_parts scope) vs)) → map (argument here) (zip ps vs) ≡ map (argument there) (zip ps vs)
  each-argument-same [] vs all = refl
  each-argument-same (p ∷ ps) [] all = refl
  each-argument-same (p ∷ ps) (v ∷ vs) all =
      let others : Thing = all_of (map (value_parts scope) vs) in
      cons-same (argument here (p, v)) (argument there (p, v)) (map (argument here) (zip ps vs)) (map (argument there) (zip ps vs))
      (value-same base one other scope keeps v (first (value_parts scope v).references others.references all) (resolved (module_names base.definitions) p.type_name))
      (each-argument-same ps vs (rest (value_parts scope v).references others.references all))

  arguments-same : (ps : List Parameter) (vs : List written.Value) → Agrees (all_of (map (value_parts scope) vs)) → arguments here ps vs ≡ arguments there ps vs
  arguments-same ps vs all = ap (λ l. if nat_eq (length vs) (length ps) then each l else unmet) (each-argument-same ps vs all)

  called-same : (at : Option ℕ) (vs : List written.Value) → Agrees (of_template base.definitions at) → Agrees (all_of (map (value_parts scope) vs))
      → template_called here at vs ≡ template_called there at vs
  called-same None vs named all = refl
  called-same (Some at) vs named all =
      then-same (one.1 at) (other.1 at) (named.0.1 at refl) (arguments here (parameters_of (kind_at base.definitions at)) vs)
      ∙ ap (outcome_and_then (other.1 at)) (arguments-same (parameters_of (kind_at base.definitions at)) vs all)

  -- ---- expressions and the names of templates

  at-name-same : (e : Expr) (at : Option ℕ) → Agrees (of_name scope e at) → template_of_expression here e at ≡ template_of_expression there e at
  at-name-same e None all = ap (outcome_and_then as_pattern) (expression-same base one other scope keeps e all)
  at-name-same e (Some at) all = called-same (Some at) [] (subst (λ ds. Agrees (of_template ds (Some at))) keeps.same all) tt

  by-name-same : (e : Expr) (name : Option (List ℕ)) → Agrees (of_name scope e (template_by_name scope name)) → template_of_expression here e (template_of_name here name) ≡ template_of_expression there e (template_of_name there name)
  by-name-same e None all = at-name-same e None all
  by-name-same e (Some name) all =
      at-name-same e (template_meant (module_names base.definitions name)) (subst (λ at. Agrees (of_name scope e at)) (keeps.templates name) all)

  -- ---- ranges

  bound-same : (b : Bound) → Agrees (of_bound scope b) → value_of_bound here b ≡ value_of_bound there b
  bound-same (bound.Expr e) all = ap (outcome_and_then (λ v. outcome_map Some (or_unmet (integer v)))) (expression-same base one other scope keeps e all)
  bound-same bound.Infinity all = refl

  range-same : (low high : Bound) → Agrees (of_bound scope low) → Agrees (of_bound scope high) → template_of_range here low high ≡ template_of_range there low high
  range-same low high low_agrees high_agrees =
      ap (λ h. outcome_and_then (λ l. outcome_map (λ u. plain (pattern.Range l u)) h) (value_of_bound here low)) (bound-same high high_agrees)
      ∙ ap (outcome_and_then (λ l. outcome_map (λ u. plain (pattern.Range l u)) (value_of_bound there high))) (bound-same low low_agrees)

  -- ---- parts

  abbrev SameWanted : Thing → Wanted → Type 0
  SameWanted thing given = Agrees thing → (wanted : Option DataType) → given here wanted ≡ given there wanted

  abbrev HeldBody : Type 0
  HeldBody = (b : TemplateBody) × SameWanted (body_parts scope b) (body_wanted b)

  abbrev HeldField : Type 0
  HeldField = (f : FieldTemplate) × SameWanted (field_template_parts scope f) (field_template f).1

  abbrev Held : Type 0
  Held = (t : tree.Template) × SameWanted (template_parts scope t) (template_wanted t)

  each-part-same : (wanted : Option DataType) (parts : List Held) → Agrees (all_of (map (template_parts scope) (map (λ t. t.0) parts)))
      → map (λ (part : Wanted). part here wanted) (map template_wanted (map (λ t. t.0) parts)) ≡ map (λ (part : Wanted). part there wanted) (map template_wanted (map (λ t. t.0) parts))
  each-part-same wanted [] all = refl
  each-part-same wanted (p ∷ parts) all =
      let others : Thing = all_of (map (template_parts scope) (map (λ t. t.0) parts)) in
      let given : List Wanted = map template_wanted (map (λ t. t.0) parts) in
      cons-same (template_wanted p.0 here wanted) (template_wanted p.0 there wanted) (map (λ (part : Wanted). part here wanted) given) (map (λ (part : Wanted). part there wanted) given)
      (p.1 (first (template_parts scope p.0).references others.references all) wanted)
      (each-part-same wanted parts (rest (template_parts scope p.0).references others.references all))

  parts-same : (wanted : Option DataType) (parts : List Held) → Agrees (all_of (map (template_parts scope) (map (λ t. t.0) parts)))
      → parts_of here wanted (map template_wanted (map (λ t. t.0) parts)) ≡ parts_of there wanted (map template_wanted (map (λ t. t.0) parts))
  parts-same wanted parts all = ap each (each-part-same wanted parts all)

  record-same : (at : Outcome ℕ) (f g : ℕ → Outcome (List Template)) → ((at : ℕ) → f at ≡ g at) → record_at at f ≡ record_at at g
  record-same (Fails why) f g same = refl
  record-same (Yields at) f g same = ap (outcome_map (λ ps. plain (pattern.Record at ps))) (same at)

  elements-same : (fields : List Field) (es : List Held) → Agrees (all_of (map (template_parts scope) (map (λ t. t.0) es)))
      → map (element here) (zip fields (map template_wanted (map (λ t. t.0) es))) ≡ map (element there) (zip fields (map template_wanted (map (λ t. t.0) es)))
  elements-same [] es all = refl
  elements-same (f ∷ fields) [] all = refl
  elements-same (f ∷ fields) (e ∷ es) all =
      let others : Thing = all_of (map (template_parts scope) (map (λ t. t.0) es)) in
      let given : List (Field × Wanted) = zip fields (map template_wanted (map (λ t. t.0) es)) in
      cons-same (element here (f, template_wanted e.0)) (element there (f, template_wanted e.0)) (map (element here) given) (map (element there) given)
      (e.1 (first (template_parts scope e.0).references others.references all) (type_of_field here f))
      (elements-same fields es (rest (template_parts scope e.0).references others.references all))

  in-order-same : (fields : List Field) (es : List Held) → Agrees (all_of (map (template_parts scope) (map (λ t. t.0) es)))
      → in_order here fields (map template_wanted (map (λ t. t.0) es)) ≡ in_order there fields (map template_wanted (map (λ t. t.0) es))
  in-order-same fields es all =
      ap (λ l. if nat_eq (length (map template_wanted (map (λ (t : Held). t.0) es))) (length fields) then each l else unmet) (elements-same fields es all)

  -- what named elements give for a field
  abbrev for_field : Reading → List (List ℕ × Wanted) → Field → Outcome Template
  for_field reading elements field = element_named reading field (find (λ e. bytes_eq e.0 field.name) elements)

  named-element-same : (field : Field) (es : List HeldField) → Agrees (all_of (map (field_template_parts scope) (map (λ f. f.0) es)))
      → for_field here (map field_template (map (λ f. f.0) es)) field ≡ for_field there (map field_template (map (λ f. f.0) es)) field
  named-element-same field [] all = refl
  named-element-same field (e ∷ es) all =
      let others : Thing = all_of (map (field_template_parts scope) (map (λ f. f.0) es)) in
      chosen (bytes_eq (field_template e.0).0 field.name) (e.1 (first (field_template_parts scope e.0).references others.references all) (type_of_field here field))
      (named-element-same field es (rest (field_template_parts scope e.0).references others.references all))
    where
      chosen : (b : Bool) → (field_template e.0).1 here (type_of_field here field) ≡ (field_template e.0).1 there (type_of_field here field)
          → for_field here (map field_template (map (λ f. f.0) es)) field ≡ for_field there (map field_template (map (λ f. f.0) es)) field
          → element_named here field (if b then Some (field_template e.0) else find (λ x. bytes_eq x.0 field.name) (map field_template (map (λ f. f.0) es)))
          ≡ element_named there field (if b then Some (field_template e.0) else find (λ x. bytes_eq x.0 field.name) (map field_template (map (λ f. f.0) es)))
      chosen true its others = its
      chosen false its others = others

  named-elements-same : (fields : List Field) (es : List HeldField) → Agrees (all_of (map (field_template_parts scope) (map (λ f. f.0) es)))
      → map (for_field here (map field_template (map (λ f. f.0) es))) fields ≡ map (for_field there (map field_template (map (λ f. f.0) es))) fields
  named-elements-same [] es all = refl
  named-elements-same (f ∷ fields) es all =
      let elements : List (List ℕ × Wanted) = map field_template (map (λ f. f.0) es) in
      cons-same (for_field here elements f) (for_field there elements f) (map (for_field here elements) fields) (map (for_field there elements) fields)
      (named-element-same f es all) (named-elements-same fields es all)

  -- ---- templates

  abbrev LevelBody : TemplateBody-F TemplateBody FieldTemplate tree.Template → Type 0
  LevelBody x = SameWanted (body_parts_step scope (map-TemplateBody TemplateBody FieldTemplate tree.Template Thing Thing Thing (body_parts scope) (field_template_parts scope) (template_parts scope) x))
      (body_step (map-TemplateBody TemplateBody FieldTemplate tree.Template Wanted (List ℕ × Wanted) Wanted body_wanted field_template template_wanted x))

  body-held : (y : TemplateBody-F HeldBody HeldField Held) → LevelBody (map-TemplateBody HeldBody HeldField Held TemplateBody FieldTemplate tree.Template (λ b. b.0) (λ f. f.0) (λ t. t.0) y)
  body-held TemplateBody-F.Any = λ all wanted. refl
  body-held TemplateBody-F.AnyOrOmit = λ all wanted. refl
  body-held TemplateBody-F.Omit = λ all wanted. refl
  body-held (TemplateBody-F.Complement parts) = λ all wanted. ap (outcome_map (λ ps. plain (pattern.Complement ps))) (parts-same wanted parts all)
  body-held (TemplateBody-F.List parts) = λ all wanted. ap (outcome_map (λ ps. plain (pattern.List ps))) (parts-same wanted parts all)
  body-held (TemplateBody-F.Range low high) = λ all wanted.
      range-same low high (first (of_bound scope low).references (of_bound scope high).references all) (rest (of_bound scope low).references (of_bound scope high).references all)
  body-held (TemplateBody-F.Call call) = λ all wanted.
      let named : Thing = of_template scope.definitions (template_meant (scope.names call.name)) in
      let given : Thing = all_of (map (value_parts scope) call.arguments) in
      called-same (template_meant (module_names base.definitions call.name)) call.arguments
      (subst (λ ds. Agrees (of_template ds (template_meant (module_names base.definitions call.name)))) keeps.same
      (subst (λ at. Agrees (of_template scope.definitions at)) (keeps.templates call.name) (first named.references given.references all)))
      (rest named.references given.references all)
  body-held (TemplateBody-F.Expr e) = λ all wanted. by-name-same e (bare_name (out-Expr e)) all
  body-held (TemplateBody-F.Listed es) = λ all wanted.
      let elements : List Wanted = map template_wanted (map (λ t. t.0) es) in
      record-same (wanted_record wanted) (λ at. in_order here (fields_at base.definitions at) elements) (λ at. in_order there (fields_at base.definitions at) elements)
      (λ at. in-order-same (fields_at base.definitions at) es (braced-agrees base one other scope keeps (map (template_parts scope) (map (λ t. t.0) es)) all))
  body-held (TemplateBody-F.Assigned es) = λ all wanted.
      let elements : List (List ℕ × Wanted) = map field_template (map (λ f. f.0) es) in
      record-same (wanted_record wanted) (λ at. by_name here (fields_at base.definitions at) elements) (λ at. by_name there (fields_at base.definitions at) elements)
      (λ at. ap each (named-elements-same (fields_at base.definitions at) es (braced-agrees base one other scope keeps (map (field_template_parts scope) (map (λ f. f.0) es)) all)))

  abbrev LevelField : FieldTemplate-F TemplateBody FieldTemplate tree.Template → Type 0
  LevelField x = SameWanted (field_template_parts_step (map-FieldTemplate TemplateBody FieldTemplate tree.Template Thing Thing Thing (body_parts scope) (field_template_parts scope) (template_parts scope) x))
      (field_template_step (map-FieldTemplate TemplateBody FieldTemplate tree.Template Wanted (List ℕ × Wanted) Wanted body_wanted field_template template_wanted x)).1

  field-held : (y : FieldTemplate-F HeldBody HeldField Held) → LevelField (map-FieldTemplate HeldBody HeldField Held TemplateBody FieldTemplate tree.Template (λ b. b.0) (λ f. f.0) (λ t. t.0) y)
  field-held y = y.template.1

  abbrev LevelTemplate : Template-F TemplateBody FieldTemplate tree.Template → Type 0
  LevelTemplate x = SameWanted (template_parts_step (map-Template TemplateBody FieldTemplate tree.Template Thing Thing Thing (body_parts scope) (field_template_parts scope) (template_parts scope) x))
      (template_step (map-Template TemplateBody FieldTemplate tree.Template Wanted (List ℕ × Wanted) Wanted body_wanted field_template template_wanted x))

  template-held : (y : Template-F HeldBody HeldField Held) → LevelTemplate (map-Template HeldBody HeldField Held TemplateBody FieldTemplate tree.Template (λ b. b.0) (λ f. f.0) (λ t. t.0) y)
  template-held y all wanted = ap (outcome_map (with_ifpresent y.ifpresent)) (y.body.1 all wanted)

  pub template-same : (t : tree.Template) → SameWanted (template_parts scope t) (template_wanted t)
  template-same = ind-Template (λ b. SameWanted (body_parts scope b) (body_wanted b)) (λ f. SameWanted (field_template_parts scope f) (field_template f).1) (λ t. SameWanted (template_parts scope t) (template_wanted t)) (λ x y is.
      subst (λ t. SameWanted t (body_wanted (roll-TemplateBody x))) (sym (fold-roll-TemplateBody Thing Thing Thing (body_parts_step scope) field_template_parts_step template_parts_step x))
      (subst (λ g. SameWanted (body_parts_step scope (map-TemplateBody TemplateBody FieldTemplate tree.Template Thing Thing Thing (body_parts scope) (field_template_parts scope) (template_parts scope) x)) g)
      (sym (fold-roll-TemplateBody Wanted (List ℕ × Wanted) Wanted body_step field_template_step template_step x))
      (subst LevelBody is (body-held y)))) (λ x y is.
      subst (λ t. SameWanted t (field_template (roll-FieldTemplate x)).1) (sym (fold-roll-FieldTemplate Thing Thing Thing (body_parts_step scope) field_template_parts_step template_parts_step x))
      (subst (λ (g : List ℕ × Wanted). SameWanted (field_template_parts_step (map-FieldTemplate TemplateBody FieldTemplate tree.Template Thing Thing Thing (body_parts scope) (field_template_parts scope) (template_parts scope) x)) g.1)
      (sym (fold-roll-FieldTemplate Wanted (List ℕ × Wanted) Wanted body_step field_template_step template_step x))
      (subst LevelField is (field-held y)))) (λ x y is.
      subst (λ t. SameWanted t (template_wanted (tree.roll-Template x))) (sym (fold-roll-Template Thing Thing Thing (body_parts_step scope) field_template_parts_step template_parts_step x))
      (subst (λ g. SameWanted (template_parts_step (map-Template TemplateBody FieldTemplate tree.Template Thing Thing Thing (body_parts scope) (field_template_parts scope) (template_parts scope) x)) g)
      (sym (fold-roll-Template Wanted (List ℕ × Wanted) Wanted body_step field_template_step template_step x))
      (subst LevelTemplate is (template-held y))))
