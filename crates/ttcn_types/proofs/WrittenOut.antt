-- What constants and templates refer to is among them.
use Rattle.std.proofs.Common.{◌≡◌, ℕ, ◌+◌, ◌<◌, List, [], ◌∷◌, map, length, get_or, Option, Some, None, refl, sym, ap, subst, ◌∙◌, length-append}
use Rattle.std.proofs.lemmas.List.{length-map}
use Rattle.std.proofs.lemmas.List.Elements.{All-append, All-cons, All-map, All-nil}
use Rattle.std.specs.List.{All}
use Rattle.check_survey.specs.Graphs.{AreComplete}
use Rattle.check_survey.specs.declared.thing.Thing.{Thing}
use Rattle.ttcn_syntax.specs.declared.tree.definition.Definition.{Definition}
use Rattle.ttcn_syntax.specs.declared.tree.definition.DefinitionKind.{DefinitionKind}
use Rattle.ttcn_syntax.specs.declared.tree.definition.DefinitionKind.TheVariants as kind
use Rattle.ttcn_syntax.specs.declared.tree.expression.ComponentRef.{ComponentRef}
use Rattle.ttcn_syntax.specs.declared.tree.expression.ComponentRef.TheVariants as component
use Rattle.ttcn_syntax.specs.declared.tree.expression.Expr.{Expr, out-Expr}
use Rattle.ttcn_syntax.specs.declared.tree.expression.Expr.TheFolds.{fold-roll-Expr, fold-roll-Link, ind-Expr, map-Expr, map-Link}
use Rattle.ttcn_syntax.specs.declared.tree.expression.Expr.TheOpen.{Expr-F, Link-F}
use Rattle.ttcn_syntax.specs.declared.tree.expression.Link.{Link}
use Rattle.ttcn_syntax.specs.declared.tree.statement.Constant.{Constant}
use Rattle.ttcn_syntax.specs.declared.tree.template.Bound.{Bound}
use Rattle.ttcn_syntax.specs.declared.tree.template.Bound.TheVariants as bound
use Rattle.ttcn_syntax.specs.declared.tree.template.FieldTemplate.{FieldTemplate}
use Rattle.ttcn_syntax.specs.declared.tree.template.Template.{Template}
use Rattle.ttcn_syntax.specs.declared.tree.template.TemplateBody.{TemplateBody, fold-TemplateBody}
use Rattle.ttcn_syntax.specs.declared.tree.template.TemplateBody.TheFolds.{fold-roll-FieldTemplate, fold-roll-Template, fold-roll-TemplateBody, ind-Template, map-FieldTemplate, map-Template, map-TemplateBody}
use Rattle.ttcn_syntax.specs.declared.tree.template.TemplateBody.TheOpen.{FieldTemplate-F, Template-F, TemplateBody-F}
use Rattle.ttcn_syntax.specs.declared.tree.value.Call.{Call}
use Rattle.ttcn_syntax.specs.declared.tree.value.FieldValue.{FieldValue}
use Rattle.ttcn_syntax.specs.declared.tree.value.Value.{Value}
use Rattle.ttcn_syntax.specs.declared.tree.value.Value.TheFolds.{fold-roll-FieldValue, fold-roll-Value, ind-Value, map-FieldValue, map-Value}
use Rattle.ttcn_syntax.specs.declared.tree.value.Value.TheOpen.{FieldValue-F, Value-F}
use Rattle.ttcn_types.proofs.Complete.{Below, all-below, braced-below, nothing-below, one-below}
use Rattle.check_rules.proofs.Meanings.{IfMeans}
use Rattle.ttcn_types.proofs.Numbered.{AreNumbered, HasNumber, module-numbered, parameters-numbered}
use Rattle.check_scope.specs.Scopes.{module_scope}
use Rattle.check_rules.specs.Definitions.{with_parameters}
use Rattle.check_scope.specs.Names.{Scope}
use Rattle.check_rules.specs.Parts.{all_of, body_parts_step, call_parts, constant_parts, expression_parts, expression_parts_step, field_template_parts, field_template_parts_step, field_value_parts, field_value_parts_step, how_many, how_many_in, link_parts, link_parts_step, number_at, of_bound, of_component, of_meaning, of_name, of_template, parts, template_parts, template_parts_step, value_parts, value_parts_step, things_at, things_from, constants_and_templates}
use Rattle.check_rules.specs.Templates.{bare_name, template_by_name, template_meant}
use Rattle.check_scope.specs.declared.names.Meaning.{Meaning}
use Rattle.check_scope.specs.declared.names.Meaning.TheVariants as meaning

-- the parts of a template's body
abbrev body_parts : Scope → TemplateBody → Thing
body_parts scope = fold-TemplateBody Thing Thing Thing (body_parts_step scope) field_template_parts_step template_parts_step

-- parts that are known to refer below
held-below : {A : Type 0} (n : ℕ) (part : A → Thing) (held : List ((x : A) × Below n (part x))) → Below n (all_of (map part (map (λ h. h.0) held)))
held-below n part [] = nothing-below n
held-below n part (h ∷ held) = All-append (λ i. i < n) (part h.0).references (all_of (map part (map (λ e. e.0) held))).references h.1 (held-below n part held)

module _ (definitions : List Definition) (scope : Scope) (known : AreNumbered definitions scope) where
  abbrev n : ℕ
  n = how_many_in definitions

  meant-below : (m : Option Meaning) → IfMeans (HasNumber definitions) m → Below n (of_meaning definitions m)
  meant-below (Some (meaning.ModuleConstant at item)) inside = one-below n (number_at definitions at + item) inside
  meant-below _ inside = nothing-below n

  name-below : (name : List ℕ) → Below n (of_meaning scope.definitions (scope.names name))
  name-below name = subst (λ ds. Below n (of_meaning ds (scope.names name))) (sym known.same) (meant-below (scope.names name) (known.names name))

  component-below : (c : ComponentRef) → Below n (of_component scope c)
  component-below (component.Named reference) = name-below reference.name
  component-below _ = nothing-below n

  abbrev ExprBelow : Expr → Type 0
  ExprBelow e = Below n (expression_parts scope e)

  abbrev LinkBelow : Link → Type 0
  LinkBelow l = Below n (link_parts scope l)

  abbrev HeldExpr : Type 0
  HeldExpr = (e : Expr) × ExprBelow e

  abbrev HeldLink : Type 0
  HeldLink = (l : Link) × LinkBelow l

  -- an expression, whose parts are known to refer below
  expr-held : (y : Expr-F HeldExpr HeldLink)
      → Below n (expression_parts_step scope (map-Expr Expr Link Thing Thing (expression_parts scope) (link_parts scope) (map-Expr HeldExpr HeldLink Expr Link (λ e. e.0) (λ l. l.0) y)))
  expr-held (Expr-F.Reference reference) = component-below reference
  expr-held (Expr-F.Running reference) = component-below reference
  expr-held (Expr-F.Ispresent reference) = name-below reference.name
  expr-held (Expr-F.Not operand) = operand.1
  expr-held (Expr-F.Signed sign operand) = operand.1
  expr-held (Expr-F.Chain first links) =
      All-append (λ i. i < n) (expression_parts scope first.0).references (all_of (map (link_parts scope) (map (λ l. l.0) links))).references first.1 (held-below n (link_parts scope) links)
  expr-held _ = nothing-below n

  link-held : (y : Link-F HeldExpr HeldLink)
      → Below n (link_parts_step (map-Link Expr Link Thing Thing (expression_parts scope) (link_parts scope) (map-Link HeldExpr HeldLink Expr Link (λ e. e.0) (λ l. l.0) y)))
  link-held y = y.operand.1

  expression-below : (e : Expr) → ExprBelow e
  expression-below = ind-Expr ExprBelow LinkBelow (λ x y is.
      subst (Below n) (sym (fold-roll-Expr Thing Thing (expression_parts_step scope) link_parts_step x))
      (subst (λ z. Below n (expression_parts_step scope (map-Expr Expr Link Thing Thing (expression_parts scope) (link_parts scope) z))) is (expr-held y))) (λ x y is.
      subst (Below n) (sym (fold-roll-Link Thing Thing (expression_parts_step scope) link_parts_step x))
      (subst (λ z. Below n (link_parts_step (map-Link Expr Link Thing Thing (expression_parts scope) (link_parts scope) z))) is (link-held y)))

  -- ---- values

  abbrev ValueBelow : Value → Type 0
  ValueBelow v = Below n (value_parts scope v)

  abbrev FieldBelow : FieldValue → Type 0
  FieldBelow field = Below n (field_value_parts scope field)

  abbrev HeldValue : Type 0
  HeldValue = (v : Value) × ValueBelow v

  abbrev HeldField : Type 0
  HeldField = (field : FieldValue) × FieldBelow field

  value-held : (y : Value-F HeldValue HeldField)
      → Below n (value_parts_step scope (map-Value Value FieldValue Thing Thing (value_parts scope) (field_value_parts scope)
      (map-Value HeldValue HeldField Value FieldValue (λ v. v.0) (λ f. f.0) y)))
  value-held (Value-F.Expr e) = expression-below e
  value-held Value-F.Omit = nothing-below n
  value-held (Value-F.Listed elements) = braced-below n (map (value_parts scope) (map (λ v. v.0) elements)) (held-below n (value_parts scope) elements)
  value-held (Value-F.Assigned elements) = braced-below n (map (field_value_parts scope) (map (λ f. f.0) elements)) (held-below n (field_value_parts scope) elements)

  field-held : (y : FieldValue-F HeldValue HeldField)
      → Below n (field_value_parts_step (map-FieldValue Value FieldValue Thing Thing (value_parts scope) (field_value_parts scope)
      (map-FieldValue HeldValue HeldField Value FieldValue (λ v. v.0) (λ f. f.0) y)))
  field-held y = y.value.1

  value-below : (v : Value) → ValueBelow v
  value-below = ind-Value ValueBelow FieldBelow (λ x y is.
      subst (Below n) (sym (fold-roll-Value Thing Thing (value_parts_step scope) field_value_parts_step x))
      (subst (λ z. Below n (value_parts_step scope (map-Value Value FieldValue Thing Thing (value_parts scope) (field_value_parts scope) z))) is (value-held y))) (λ x y is.
      subst (Below n) (sym (fold-roll-FieldValue Thing Thing (value_parts_step scope) field_value_parts_step x))
      (subst (λ z. Below n (field_value_parts_step (map-FieldValue Value FieldValue Thing Thing (value_parts scope) (field_value_parts scope) z))) is (field-held y)))

  -- ---- templates

  template-number : (m : Option Meaning) → IfMeans (HasNumber definitions) m → Below n (of_template definitions (template_meant m))
  template-number (Some (meaning.Template at)) inside = one-below n (number_at definitions at) inside
  template-number _ inside = nothing-below n

  template-name : (name : List ℕ) → Below n (of_template scope.definitions (template_meant (scope.names name)))
  template-name name = subst (λ ds. Below n (of_template ds (template_meant (scope.names name)))) (sym known.same) (template-number (scope.names name) (known.names name))

  call-below : (call : Call) → Below n (call_parts scope call)
  call-below call = All-append (λ i. i < n) (of_template scope.definitions (template_meant (scope.names call.name))).references (all_of (map (value_parts scope) call.arguments)).references
      (template-name call.name) (all-below n (value_parts scope) value-below call.arguments)

  bound-below : (b : Bound) → Below n (of_bound scope b)
  bound-below (bound.Expr e) = expression-below e
  bound-below bound.Infinity = nothing-below n

  -- an expression that names a template, or none
  by_name-below : (e : Expr) (name : Option (List ℕ)) → Below n (of_name scope e (template_by_name scope name))
  by_name-below e None = expression-below e
  by_name-below e (Some name) = go (template_meant (scope.names name)) (template-name name)
    where
      go : (at : Option ℕ) → Below n (of_template scope.definitions at) → Below n (of_name scope e at)
      go None below = expression-below e
      go (Some at) below = below

  abbrev BodyBelow : TemplateBody → Type 0
  BodyBelow body = Below n (body_parts scope body)

  abbrev PartBelow : FieldTemplate → Type 0
  PartBelow part = Below n (field_template_parts scope part)

  abbrev TemplateBelow : Template → Type 0
  TemplateBelow t = Below n (template_parts scope t)

  abbrev HeldBody : Type 0
  HeldBody = (body : TemplateBody) × BodyBelow body

  abbrev HeldPart : Type 0
  HeldPart = (part : FieldTemplate) × PartBelow part

  abbrev HeldTemplate : Type 0
  HeldTemplate = (t : Template) × TemplateBelow t

  body-held : (y : TemplateBody-F HeldBody HeldPart HeldTemplate)
      → Below n (body_parts_step scope (map-TemplateBody TemplateBody FieldTemplate Template Thing Thing Thing (body_parts scope) (field_template_parts scope) (template_parts scope)
      (map-TemplateBody HeldBody HeldPart HeldTemplate TemplateBody FieldTemplate Template (λ b. b.0) (λ p. p.0) (λ t. t.0) y)))
  body-held (TemplateBody-F.Complement elements) = held-below n (template_parts scope) elements
  body-held (TemplateBody-F.List elements) = held-below n (template_parts scope) elements
  body-held (TemplateBody-F.Range low high) = All-append (λ i. i < n) (of_bound scope low).references (of_bound scope high).references (bound-below low) (bound-below high)
  body-held (TemplateBody-F.Call call) = call-below call
  body-held (TemplateBody-F.Expr e) = by_name-below e (bare_name (out-Expr e))
  body-held (TemplateBody-F.Listed elements) = braced-below n (map (template_parts scope) (map (λ t. t.0) elements)) (held-below n (template_parts scope) elements)
  body-held (TemplateBody-F.Assigned elements) = braced-below n (map (field_template_parts scope) (map (λ p. p.0) elements)) (held-below n (field_template_parts scope) elements)
  body-held _ = nothing-below n

  part-held : (y : FieldTemplate-F HeldBody HeldPart HeldTemplate)
      → Below n (field_template_parts_step (map-FieldTemplate TemplateBody FieldTemplate Template Thing Thing Thing (body_parts scope) (field_template_parts scope) (template_parts scope)
      (map-FieldTemplate HeldBody HeldPart HeldTemplate TemplateBody FieldTemplate Template (λ b. b.0) (λ p. p.0) (λ t. t.0) y)))
  part-held y = y.template.1

  template-held : (y : Template-F HeldBody HeldPart HeldTemplate)
      → Below n (template_parts_step (map-Template TemplateBody FieldTemplate Template Thing Thing Thing (body_parts scope) (field_template_parts scope) (template_parts scope)
      (map-Template HeldBody HeldPart HeldTemplate TemplateBody FieldTemplate Template (λ b. b.0) (λ p. p.0) (λ t. t.0) y)))
  template-held y = y.body.1

  template-below : (t : Template) → TemplateBelow t
  template-below = ind-Template BodyBelow PartBelow TemplateBelow (λ x y is.
      subst (Below n) (sym (fold-roll-TemplateBody Thing Thing Thing (body_parts_step scope) field_template_parts_step template_parts_step x))
      (subst (λ z. Below n (body_parts_step scope (map-TemplateBody TemplateBody FieldTemplate Template Thing Thing Thing (body_parts scope) (field_template_parts scope) (template_parts scope) z)))
      is (body-held y))) (λ x y is.
      subst (Below n) (sym (fold-roll-FieldTemplate Thing Thing Thing (body_parts_step scope) field_template_parts_step template_parts_step x))
      (subst (λ z. Below n (field_template_parts_step (map-FieldTemplate TemplateBody FieldTemplate Template Thing Thing Thing (body_parts scope) (field_template_parts scope) (template_parts scope) z)))
      is (part-held y))) (λ x y is.
      subst (Below n) (sym (fold-roll-Template Thing Thing Thing (body_parts_step scope) field_template_parts_step template_parts_step x))
      (subst (λ z. Below n (template_parts_step (map-Template TemplateBody FieldTemplate Template Thing Thing Thing (body_parts scope) (field_template_parts scope) (template_parts scope) z)))
      is (template-held y)))

-- ---- all of them

module _ (definitions : List Definition) where
  abbrev EachBelow : List Thing → Type 0
  EachBelow = All (Below (how_many_in definitions))

  constants-below : (scope : Scope) → AreNumbered definitions scope → (constants : List Constant) → EachBelow (map (constant_parts scope) constants)
  constants-below scope known constants =
      All-map (Below (how_many_in definitions)) (constant_parts scope) constants (λ k d within. value-below definitions scope known (get_or constants k d).value)

  one-thing : (thing : Thing) → Below (how_many_in definitions) thing → EachBelow (thing ∷ [])
  one-thing thing below = All-cons (Below (how_many_in definitions)) thing [] below (All-nil (Below (how_many_in definitions)))

  written-below : (k : DefinitionKind) → EachBelow (things_at definitions k)
  written-below (kind.Constants cs) = constants-below (module_scope definitions) (module-numbered definitions) cs.constants
  written-below (kind.Template t) =
      one-thing (template_parts (with_parameters (module_scope definitions) t.parameters) t.template) (template-below definitions (with_parameters (module_scope definitions) t.parameters)
      (parameters-numbered definitions (module_scope definitions) t.parameters (module-numbered definitions)) t.template)
  written-below _ = one-thing (parts 0 []) (nothing-below (how_many_in definitions))

  from-below : (rest : List Definition) → EachBelow (things_from definitions rest)
  from-below [] = All-nil (Below (how_many_in definitions))
  from-below (definition ∷ rest) =
      All-append (Below (how_many_in definitions)) (things_at definitions definition.kind) (things_from definitions rest) (written-below definition.kind) (from-below rest)

  length-things_at : (k : DefinitionKind) → length (things_at definitions k) ≡ how_many k
  length-things_at (kind.Constants cs) = length-map cs.constants (constant_parts (module_scope definitions))
  length-things_at (kind.Template t) = refl
  length-things_at _ = refl

  length-things_from : (rest : List Definition) → length (things_from definitions rest) ≡ how_many_in rest
  length-things_from [] = refl
  length-things_from (definition ∷ rest) =
      length-append (things_at definitions definition.kind) (things_from definitions rest)
      ∙ ap (λ m. m + length (things_from definitions rest)) (length-things_at definition.kind)
      ∙ ap (λ m. how_many definition.kind + m) (length-things_from rest)

pub length-written : (definitions : List Definition) → length (constants_and_templates definitions) ≡ how_many_in definitions
length-written definitions = length-things_from definitions definitions

pub written_complete : (definitions : List Definition) → AreComplete (constants_and_templates definitions)
written_complete definitions = subst (λ m. All (Below m) (constants_and_templates definitions)) (sym (length-things_from definitions definitions)) (from-below definitions definitions)
