-- Templates that break no rule break none where further names are visible.
use Rattle.std.proofs.Common.{◌≡◌, ℕ, true, false, not, ◌||◌, List, [], ◌∷◌, ◌++◌, map, length, Option, Some, None, is_some, IfSome, refl, sym, ap, subst, ◌∙◌}
use Rattle.ttcn_syntax.specs.declared.operator.Operator.{Operator}
use Rattle.ttcn_syntax.specs.declared.tree.expression.ComponentRef.TheVariants as component
use Rattle.ttcn_syntax.specs.declared.tree.expression.Expr.{Expr, fold_out-Expr, out-Expr}
use Rattle.ttcn_syntax.specs.declared.tree.expression.Expr.TheFolds.{map-Expr}
use Rattle.ttcn_syntax.specs.declared.tree.expression.Expr.TheOpen.{Expr-F}
use Rattle.ttcn_syntax.specs.declared.tree.expression.Link.{Link}
use Rattle.ttcn_syntax.specs.declared.tree.template.Bound.{Bound}
use Rattle.ttcn_syntax.specs.declared.tree.template.Bound.TheVariants as bound
use Rattle.ttcn_syntax.specs.declared.tree.template.FieldTemplate.{FieldTemplate}
use Rattle.ttcn_syntax.specs.declared.tree.template.Template.{Template, fold_out-Template, out-Template}
use Rattle.ttcn_syntax.specs.declared.tree.template.TemplateBody.{TemplateBody, fold_out-TemplateBody, out-TemplateBody}
use Rattle.ttcn_syntax.specs.declared.tree.template.TemplateBody.TheFolds.{fold-roll-FieldTemplate, fold-roll-Template, fold-roll-TemplateBody, ind-Template, map-FieldTemplate, map-Template, map-TemplateBody}
use Rattle.ttcn_syntax.specs.declared.tree.template.TemplateBody.TheOpen.{FieldTemplate-F, Template-F, TemplateBody-F}
use Rattle.ttcn_syntax.specs.declared.tree.value.Value.{Value}
use Rattle.check_rules.specs.Calls.{check_arguments, parameters_of}
use Rattle.check_rules.specs.Expressions.{Judge, Judgement, expression, expression_step, link, link_step}
use Rattle.check_rules.specs.Templates.{bare_name, body, body_step, check_bound, check_name, check_named_template, each, field_template, field_template_step, has_all, template, template_by_name, template_meant, template_named, template_step, type_of_template, typing_at_name, typing_by_position, typing_of_body, typing_of_template, whole_name}
use Rattle.check_rules.specs.Values.{AtTarget, by_name, check_expression, in_order, is_full, takes_braces, wanted_fields}
use Rattle.check_scope.specs.Names.{Names, Scope, kind_at}
use Rattle.check_scope.specs.Typings.{fits, typed, unless}
use Rattle.check_scope.specs.declared.names.Meaning.{Meaning}
use Rattle.check_scope.specs.declared.rule.Rule.{Rule}
use Rattle.check_scope.specs.declared.rule.Rule.TheVariants as rule
use Rattle.check_scope.specs.declared.types.DataType.{DataType}
use Rattle.check_scope.specs.declared.types.DataType.TheVariants as type
use Rattle.check_scope.specs.declared.types.Target.{Target}
use Rattle.check_scope.specs.declared.types.Typing.TheVariants as typing
use Rattle.laws_checker.proofs.Descent.{name_resolves}
use Rattle.laws_checker.proofs.Nothing.{nothing-first}
use Rattle.laws_checker.proofs.Whole.{naming}
use Rattle.laws_statements.proofs.WithinExpressions.{KeepsAt, arguments-fine, by-name-fine, expression-same, in-order-fine, part-by-part, same, wanted-expression-fine}

whole-name : (fields : List (List ℕ)) (n name : List ℕ) → whole_name fields n ≡ Some name → n ≡ name
whole-name [] n name is = cc
whole-name (f ∷ fields) n name is = absurd (let e = is in cc)

abbrev Parts : Type 0
Parts = List ℕ × AtTarget

module _ (h : Scope) (names : Names) (within : (name : List ℕ) → IfSome (h.names name) (λ m. names name ≡ Some m)) where
  abbrev g : Scope
  g = naming h names

  abbrev Keeps : AtTarget → Type 0
  Keeps f = KeepsAt h names within f

  -- ---- names of templates

  level-visible : (x : Expr-F Expr Link) (name : List ℕ) → bare_name x ≡ Some name
      → (expression_step (map-Expr Expr Link Judge (Operator × Judge) expression link x) h false).broken ≡ [] → is_some (h.names name) ≡ true
  level-visible (Expr-F.Reference (component.Named r)) name is nothing =
      subst (λ n. is_some (h.names n) ≡ true) (whole-name r.fields r.name name is) (name_resolves h r nothing)
  level-visible _ name is nothing = absurd (let e = is in cc)

  name-visible : (of : Option DataType) (e : Expr) (name : List ℕ) → bare_name (out-Expr e) ≡ Some name → check_expression h of e ≡ [] → is_some (h.names name) ≡ true
  name-visible of e name is nothing =
      let j : Judgement = expression e h false in
      level-visible (out-Expr e) name is
      (ap (λ (f : Judge). (f h false).broken) (sym (fold_out-Expr Judge (Operator × Judge) expression_step link_step e))
      ∙ nothing-first j.broken (unless (fits of j.typing) rule.ValueType) nothing)

  meant-visible : (target : Target) (e : Expr) (name : List ℕ) (m : Option Meaning) → h.names name ≡ m → bare_name (out-Expr e) ≡ Some name
      → check_name h target e (template_meant m) ≡ [] → is_some m ≡ true
  meant-visible target e name (Some m) means is nothing = refl
  meant-visible target e name None means is nothing = subst (λ o. is_some o ≡ true) means (name-visible target.data_type e name is nothing)

  by-name-same : (target : Target) (e : Expr) (n : Option (List ℕ)) → bare_name (out-Expr e) ≡ n → check_name h target e (template_by_name h n) ≡ []
      → template_by_name g n ≡ template_by_name h n
  by-name-same target e None is nothing = refl
  by-name-same target e (Some name) is nothing = ap template_meant (same h names within name (meant-visible target e name (h.names name) refl is nothing))

  template-named-same : (target : Target) (e : Expr) → check_name h target e (template_named h e) ≡ [] → template_named g e ≡ template_named h e
  template-named-same target e nothing = by-name-same target e (bare_name (out-Expr e)) refl nothing

  named-template-fine : (target : Target) (given : List Value) (at : Option ℕ) → check_named_template h target given at ≡ [] → check_named_template g target given at ≡ []
  named-template-fine target given None nothing = absurd (let e = nothing in cc)
  named-template-fine target given (Some at) nothing =
      let ps = parameters_of (kind_at h.definitions at) in
      let fit : List Rule = unless (fits target.data_type (typed (type_of_template h at))) rule.ValueType in
      part-by-part (check_arguments h ps given) fit (check_arguments g ps given) fit (arguments-fine h names within ps given) (λ none. none) nothing

  check-name-fine : (target : Target) (e : Expr) (at : Option ℕ) → check_name h target e at ≡ [] → check_name g target e at ≡ []
  check-name-fine target e None nothing = wanted-expression-fine h names within target.data_type e nothing
  check-name-fine target e (Some at) nothing = named-template-fine target [] (Some at) nothing

  call-visible : (target : Target) (given : List Value) (m : Option Meaning) → check_named_template h target given (template_meant m) ≡ [] → is_some m ≡ true
  call-visible target given (Some m) nothing = refl
  call-visible target given None nothing = absurd (let e = nothing in cc)

  -- ---- parts

  bound-fine : (b : Bound) → check_bound h b ≡ [] → check_bound g b ≡ []
  bound-fine (bound.Expr e) nothing = wanted-expression-fine h names within (Some type.Integer) e nothing
  bound-fine bound.Infinity nothing = refl

  each-fine : {A : Type 0} (f : A → AtTarget) (target : Target) (es : List ((a : A) × Keeps (f a)))
      → each (map f (map (λ e. e.0) es)) h target ≡ [] → each (map f (map (λ e. e.0) es)) g target ≡ []
  each-fine f target [] nothing = refl
  each-fine f target (e ∷ es) nothing =
      let rest = λ (s : Scope). each (map f (map (λ e. e.0) es)) s target in
      part-by-part (f e.0 h target) (rest h) (f e.0 g target) (rest g) (e.1 target) (each-fine f target es) nothing

  -- ---- templates

  abbrev HeldBody : Type 0
  HeldBody = (b : TemplateBody) × Keeps (body b)

  abbrev HeldField : Type 0
  HeldField = (f : FieldTemplate) × Keeps (field_template f).1

  abbrev Held : Type 0
  Held = (t : Template) × Keeps (template t)

  abbrev LevelBody : TemplateBody-F TemplateBody FieldTemplate Template → Type 0
  LevelBody x = Keeps (body_step (map-TemplateBody TemplateBody FieldTemplate Template AtTarget Parts AtTarget body field_template template x))

  body-held : (y : TemplateBody-F HeldBody HeldField Held) → LevelBody (map-TemplateBody HeldBody HeldField Held TemplateBody FieldTemplate Template (λ b. b.0) (λ f. f.0) (λ t. t.0) y)
  body-held TemplateBody-F.Any = λ target nothing. nothing
  body-held TemplateBody-F.AnyOrOmit = λ target nothing. nothing
  body-held TemplateBody-F.Omit = λ target nothing. nothing
  body-held (TemplateBody-F.Complement parts) = λ target nothing. each-fine template target parts nothing
  body-held (TemplateBody-F.List parts) = λ target nothing. each-fine template target parts nothing
  body-held (TemplateBody-F.Range low high) = λ target nothing.
      let fit : List Rule = unless (fits target.data_type (typing.Known type.Integer)) rule.ValueType in
      part-by-part (fit ++ check_bound h low) (check_bound h high) (fit ++ check_bound g low) (check_bound g high)
      (λ none. part-by-part fit (check_bound h low) fit (check_bound g low) (λ none. none) (bound-fine low) none) (bound-fine high) nothing
  body-held (TemplateBody-F.Call call) = λ target nothing.
      ap (λ m. check_named_template g target call.arguments (template_meant m)) (same h names within call.name (call-visible target call.arguments (h.names call.name) nothing))
      ∙ named-template-fine target call.arguments (template_meant (h.names call.name)) nothing
  body-held (TemplateBody-F.Expr e) = λ target nothing.
      ap (check_name g target e) (template-named-same target e nothing) ∙ check-name-fine target e (template_named h e) nothing
  body-held (TemplateBody-F.Listed parts) = λ target nothing.
      let elements : List AtTarget = map template (map (λ (t : Held). t.0) parts) in
      let fields = wanted_fields h.definitions target.data_type in
      let front : List Rule = unless (takes_braces target.data_type) rule.ValueType ++ unless (is_full fields (length elements)) rule.Fields in
      part-by-part front (in_order fields elements h) front (in_order fields elements g) (λ none. none) (in-order-fine h names within template fields parts) nothing
  body-held (TemplateBody-F.Assigned parts) = λ target nothing.
      let elements : List Parts = map field_template (map (λ (f : HeldField). f.0) parts) in
      let fields = wanted_fields h.definitions target.data_type in
      let front : List Rule = unless (takes_braces target.data_type) rule.ValueType ++ unless (has_all fields (map (λ (part : Parts). part.0) elements)) rule.Fields in
      part-by-part front (by_name fields [] elements h) front (by_name fields [] elements g) (λ none. none) (by-name-fine h names within field_template fields [] parts) nothing

  abbrev LevelField : FieldTemplate-F TemplateBody FieldTemplate Template → Type 0
  LevelField x = Keeps (field_template_step (map-FieldTemplate TemplateBody FieldTemplate Template AtTarget Parts AtTarget body field_template template x)).1

  field-held : (y : FieldTemplate-F HeldBody HeldField Held) → LevelField (map-FieldTemplate HeldBody HeldField Held TemplateBody FieldTemplate Template (λ b. b.0) (λ f. f.0) (λ t. t.0) y)
  field-held y = y.template.1

  abbrev LevelTemplate : Template-F TemplateBody FieldTemplate Template → Type 0
  LevelTemplate x = Keeps (template_step (map-Template TemplateBody FieldTemplate Template AtTarget Parts AtTarget body field_template template x))

  template-held : (y : Template-F HeldBody HeldField Held) → LevelTemplate (map-Template HeldBody HeldField Held TemplateBody FieldTemplate Template (λ b. b.0) (λ f. f.0) (λ t. t.0) y)
  template-held y target nothing =
      let may : List Rule = unless (not y.ifpresent || target.optional) rule.Fields in
      part-by-part (body y.body.0 h target) may (body y.body.0 g target) may (y.body.1 target) (λ none. none) nothing

  pub template-fine : (t : Template) → Keeps (template t)
  template-fine = ind-Template (λ b. Keeps (body b)) (λ f. Keeps (field_template f).1) (λ t. Keeps (template t)) (λ x y is.
      subst Keeps (sym (fold-roll-TemplateBody AtTarget Parts AtTarget body_step field_template_step template_step x)) (subst LevelBody is (body-held y))) (λ x y is.
      subst (λ (f : Parts). Keeps f.1) (sym (fold-roll-FieldTemplate AtTarget Parts AtTarget body_step field_template_step template_step x)) (subst LevelField is (field-held y))) (λ x y is.
      subst Keeps (sym (fold-roll-Template AtTarget Parts AtTarget body_step field_template_step template_step x)) (subst LevelTemplate is (template-held y)))

  -- ---- the type of a template by itself

  at-name-same : (target : Target) (e : Expr) (at : Option ℕ) → check_name h target e at ≡ [] → typing_at_name g e at ≡ typing_at_name h e at
  at-name-same target e None nothing =
      let j : Judgement = expression e h false in
      ap (λ (j : Judgement). j.typing) (expression-same h names within e false (nothing-first j.broken (unless (fits target.data_type j.typing) rule.ValueType) nothing))
  at-name-same target e (Some at) nothing = refl

  by-position-same : (at : Option ℕ) → typing_by_position g at ≡ typing_by_position h at
  by-position-same None = refl
  by-position-same (Some at) = refl

  body-typing-same : (x : TemplateBody-F TemplateBody FieldTemplate Template) (target : Target)
      → body_step (map-TemplateBody TemplateBody FieldTemplate Template AtTarget Parts AtTarget body field_template template x) h target ≡ [] → typing_of_body g x ≡ typing_of_body h x
  body-typing-same (TemplateBody-F.Expr e) target nothing =
      ap Some (ap (typing_at_name g e) (template-named-same target e nothing) ∙ at-name-same target e (template_named h e) nothing)
  body-typing-same (TemplateBody-F.Call call) target nothing =
      ap Some (ap (λ m. typing_by_position g (template_meant m)) (same h names within call.name (call-visible target call.arguments (h.names call.name) nothing))
      ∙ by-position-same (template_meant (h.names call.name)))
  body-typing-same TemplateBody-F.Any target nothing = refl
  body-typing-same TemplateBody-F.AnyOrOmit target nothing = refl
  body-typing-same TemplateBody-F.Omit target nothing = refl
  body-typing-same (TemplateBody-F.Complement parts) target nothing = refl
  body-typing-same (TemplateBody-F.List parts) target nothing = refl
  body-typing-same (TemplateBody-F.Range low high) target nothing = refl
  body-typing-same (TemplateBody-F.Listed parts) target nothing = refl
  body-typing-same (TemplateBody-F.Assigned parts) target nothing = refl

  pub typing-same : (t : Template) (target : Target) → template t h target ≡ [] → typing_of_template g t ≡ typing_of_template h t
  typing-same t target nothing =
      let x = out-Template t in
      let may : List Rule = unless (not x.ifpresent || target.optional) rule.Fields in
      let inside : body x.body h target ≡ [] =
      nothing-first (body x.body h target) may
      (ap (λ (f : AtTarget). f h target) (sym (fold_out-Template AtTarget Parts AtTarget body_step field_template_step template_step t)) ∙ nothing) in
      body-typing-same (out-TemplateBody x.body) target
      (ap (λ (f : AtTarget). f h target) (sym (fold_out-TemplateBody AtTarget Parts AtTarget body_step field_template_step template_step x.body)) ∙ inside)
