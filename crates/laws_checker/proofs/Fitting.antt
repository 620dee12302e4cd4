-- Arguments, elements and calls that break no rule.
use Rattle.std.proofs.Common.{◌≡◌, ℕ, Bool, true, false, ◌&&◌, not, List, [], ◌∷◌, ◌++◌, map, length, bytes_eq, nat_eq, Option, Some, None, is_some, refl, sym, subst, ◌∙◌, arith}
use Rattle.std.proofs.lemmas.Bool.Decides.{nat_tests}
use Rattle.std.specs.List.{list_any}
use Rattle.ttcn_syntax.specs.declared.tree.definition.DefinitionKind.{DefinitionKind}
use Rattle.ttcn_syntax.specs.declared.tree.definition.Field.{Field}
use Rattle.ttcn_syntax.specs.declared.tree.definition.Parameter.{Parameter}
use Rattle.ttcn_syntax.specs.declared.tree.template.FieldTemplate.{FieldTemplate}
use Rattle.ttcn_syntax.specs.declared.tree.template.Template.{Template}
use Rattle.ttcn_syntax.specs.declared.tree.template.TemplateBody.TheVariants as template_form
use Rattle.ttcn_syntax.specs.declared.tree.value.Call.{Call}
use Rattle.ttcn_syntax.specs.declared.tree.value.FieldValue.{FieldValue}
use Rattle.ttcn_syntax.specs.declared.tree.value.Value.{Value}
use Rattle.ttcn_syntax.specs.declared.tree.value.Value.TheVariants as form
use Rattle.laws_checker.proofs.Nothing.{kept, nothing-first, nothing-rest}
use Rattle.check_rules.proofs.TemplateForms.{body-of-assigned, body-of-listed}
use Rattle.check_rules.proofs.ValueForms.{value-of-assigned, value-of-listed}
use Rattle.check_rules.specs.Calls.{arguments, check_arguments, check_behaviour, check_call, behaviour_meant, component_named, parameters_of, runs_here, runs_on_of}
use Rattle.laws_checker.specs.Laws.{AreArguments, AreElements, AreNamedElements, GoesToField, Resolves}
use Rattle.check_scope.specs.Names.{Scope, field_named, fields_at, kind_at}
use Rattle.check_rules.specs.Templates.{body, field_template, has_all, template}
use Rattle.check_scope.specs.Typings.{unless}
use Rattle.check_rules.specs.Values.{AtTarget, by_name, field_value, in_order, is_full, named_target, takes_braces, target_named, value, wanted_fields}
use Rattle.check_scope.specs.declared.rule.Rule.{Rule}
use Rattle.check_scope.specs.declared.rule.Rule.TheVariants as rule
use Rattle.check_scope.specs.declared.types.DataType.{DataType}
use Rattle.check_scope.specs.declared.types.DataType.TheVariants as type
use Rattle.check_scope.specs.declared.types.Target.{Target}

pub same-number : (n m : ℕ) → nat_eq n m ≡ true → n ≡ m
same-number n m is = grind (arith, nat_tests, is)

both-true : (a b : Bool) → a && b ≡ true → (a ≡ true) × (b ≡ true)
both-true true true is = (refl, refl)
both-true true false is = absurd (let e = is in cc)
both-true false b is = absurd (let e = is in cc)

not-true : (b : Bool) → not b ≡ true → b ≡ false
not-true false is = refl
not-true true is = absurd (let e = is in cc)

record-is : (n m : ℕ) → Some (type.Record n) ≡ Some (type.Record m) → n ≡ m
record-is n m is = cc

-- ---- arguments and calls

module _ (scope : Scope) where
  are-arguments : (ps : List Parameter) (vs : List Value) → length vs ≡ length ps → arguments scope ps vs ≡ [] → AreArguments scope ps vs
  are-arguments [] [] same nothing = tt
  are-arguments [] (v ∷ vs) same nothing = absurd (omega (arith, same))
  are-arguments (p ∷ ps) [] same nothing = absurd (omega (arith, same))
  are-arguments (p ∷ ps) (v ∷ vs) same nothing =
      (nothing-first _ (arguments scope ps vs) nothing, are-arguments ps vs (omega (arith, same)) (nothing-rest _ (arguments scope ps vs) nothing))

  pub arguments-fit : (ps : List Parameter) (vs : List Value) → check_arguments scope ps vs ≡ [] → AreArguments scope ps vs
  arguments-fit ps vs nothing =
      let number : List Rule = unless (nat_eq (length vs) (length ps)) rule.Arguments in
      are-arguments ps vs
      (same-number (length vs) (length ps) (kept (nat_eq (length vs) (length ps)) rule.Arguments (nothing-first number (arguments scope ps vs) nothing)))
      (nothing-rest number (arguments scope ps vs) nothing)

  resolves-to : (callable : Option DefinitionKind → Bool) (call : Call) (meant : Option ℕ) → behaviour_meant (scope.names call.name) ≡ meant
      → check_behaviour scope callable call meant ≡ [] → Resolves scope callable call
  resolves-to callable call None is nothing = absurd (let e = nothing in cc)
  resolves-to callable call (Some at) is nothing =
      let k : Option DefinitionKind = kind_at scope.definitions at in
      let given : List Rule = check_arguments scope (parameters_of k) call.arguments in
      let on : List Rule = unless (runs_here (component_named scope.definitions (runs_on_of k)) scope.itself) rule.RunsOn in
      let called : List Rule = unless (callable k) rule.CallKind in
      let front : given ++ on ≡ [] = nothing-first (given ++ on) called nothing in
      record {
        at = at;
        meant = is;
        arguments = arguments-fit (parameters_of k) call.arguments (nothing-first given on front);
        runs = kept (runs_here (component_named scope.definitions (runs_on_of k)) scope.itself) rule.RunsOn (nothing-rest given on front);
        kind = kept (callable k) rule.CallKind (nothing-rest (given ++ on) called nothing);
      }

  -- a call that breaks no rule resolves
  pub call_resolves : (callable : Option DefinitionKind → Bool) (call : Call) → check_call scope callable call ≡ [] → Resolves scope callable call
  call_resolves callable call nothing = resolves-to callable call (behaviour_meant (scope.names call.name)) refl nothing

  -- ---- elements

  pub are-elements : (fields : List Field) (elements : List AtTarget) → length elements ≡ length fields → in_order (Some fields) elements scope ≡ []
      → AreElements scope fields elements
  are-elements [] [] same nothing = tt
  are-elements [] (e ∷ es) same nothing = absurd (omega (arith, same))
  are-elements (f ∷ fs) [] same nothing = absurd (omega (arith, same))
  are-elements (f ∷ fs) (e ∷ es) same nothing =
      (nothing-first _ (in_order (Some fs) es scope) nothing, are-elements fs es (omega (arith, same)) (nothing-rest _ (in_order (Some fs) es scope) nothing))

  goes-to : (fields : List Field) (before : List (List ℕ)) (element : List ℕ × AtTarget) (found : Option Field) → field_named element.0 fields ≡ found
      → is_some found ≡ true → list_any (bytes_eq element.0) before ≡ false → element.1 scope (target_named scope.definitions (Some fields) element.0) ≡ []
      → GoesToField scope fields before element
  goes-to fields before element None is some new nothing = absurd (let e = some in cc)
  goes-to fields before element (Some field) is some new nothing = record {
    field = field;
    has_name = is;
    is_new = new;
    fits = subst (λ f. element.1 scope (named_target scope.definitions f) ≡ []) is nothing;
  }

  pub are-named : (fields : List Field) (before : List (List ℕ)) (elements : List (List ℕ × AtTarget)) → by_name (Some fields) before elements scope ≡ []
      → AreNamedElements scope fields before elements
  are-named fields before [] nothing = tt
  are-named fields before (e ∷ es) nothing =
      let name : Bool = is_some (field_named e.0 fields) && not (list_any (bytes_eq e.0) before) in
      let named : List Rule = unless name rule.Fields in
      let goes : List Rule = e.1 scope (target_named scope.definitions (Some fields) e.0) in
      let others : List Rule = by_name (Some fields) (before ++ e.0 ∷ []) es scope in
      let front : named ++ goes ≡ [] = nothing-first (named ++ goes) others nothing in
      let holds = both-true (is_some (field_named e.0 fields)) (not (list_any (bytes_eq e.0) before)) (kept name rule.Fields (nothing-first named goes front)) in (
        goes-to fields before e (field_named e.0 fields) refl holds.0 (not-true (list_any (bytes_eq e.0) before) holds.1) (nothing-rest named goes front),
        are-named fields (before ++ e.0 ∷ []) es (nothing-rest (named ++ goes) others nothing),
      )

  -- ---- literals and record templates

  listed-fits : (at : ℕ) (of : Option DataType) (elements : List AtTarget) → of ≡ Some (type.Record at)
      → unless (takes_braces of) rule.ValueType ++ unless (is_full (wanted_fields scope.definitions of) (length elements)) rule.Fields ++ in_order (wanted_fields scope.definitions of) elements scope ≡ []
      → AreElements scope (fields_at scope.definitions at) elements
  listed-fits at (Some (type.Record other)) elements is nothing =
      let fields : List Field = fields_at scope.definitions other in
      let full : List Rule = unless (nat_eq (length elements) (length fields)) rule.Fields in
      let parts : List Rule = in_order (Some fields) elements scope in
      subst (λ k. AreElements scope (fields_at scope.definitions k) elements) (record-is other at is)
      (are-elements fields elements (same-number (length elements) (length fields) (kept (nat_eq (length elements) (length fields)) rule.Fields (nothing-first full parts nothing)))
      (nothing-rest full parts nothing))
  listed-fits at None elements is nothing = absurd (let e = is in cc)
  listed-fits at (Some type.Integer) elements is nothing = absurd (let e = is in cc)
  listed-fits at (Some type.Boolean) elements is nothing = absurd (let e = is in cc)
  listed-fits at (Some type.Default) elements is nothing = absurd (let e = is in cc)
  listed-fits at (Some (type.Enumerated other)) elements is nothing = absurd (let e = is in cc)
  listed-fits at (Some (type.Component other)) elements is nothing = absurd (let e = is in cc)

  -- a literal by the order of the fields
  pub literal_fits : (at : ℕ) (target : Target) (elements : List Value) → target.data_type ≡ Some (type.Record at) → value (form.Listed elements) scope target ≡ []
      → AreElements scope (fields_at scope.definitions at) (map value elements)
  literal_fits at target elements is nothing = listed-fits at target.data_type (map value elements) is (sym (value-of-listed scope target elements) ∙ nothing)

  pub template_literal_fits : (at : ℕ) (target : Target) (parts : List Template) → target.data_type ≡ Some (type.Record at) → body (template_form.Listed parts) scope target ≡ []
      → AreElements scope (fields_at scope.definitions at) (map template parts)
  template_literal_fits at target parts is nothing = listed-fits at target.data_type (map template parts) is (sym (body-of-listed scope target parts) ∙ nothing)

  -- a literal by the names of the fields
  pub named_literal_fits : (at : ℕ) (target : Target) (elements : List FieldValue) → target.data_type ≡ Some (type.Record at) → value (form.Assigned elements) scope target ≡ []
      → AreNamedElements scope (fields_at scope.definitions at) [] (map field_value elements)
  named_literal_fits at target elements is nothing =
      let fields = wanted_fields scope.definitions target.data_type in
      let braces : List Rule = unless (takes_braces target.data_type) rule.ValueType in
      let parts : List Rule = by_name fields [] (map field_value elements) scope in
      are-named (fields_at scope.definitions at) [] (map field_value elements)
      (subst (λ of. by_name (wanted_fields scope.definitions of) [] (map field_value elements) scope ≡ []) is
      (nothing-rest braces parts (sym (value-of-assigned scope target elements) ∙ nothing)))

  -- a record template by the names of the fields: it has each of them
  pub template_has_fields : (at : ℕ) (target : Target) (parts : List FieldTemplate) → target.data_type ≡ Some (type.Record at) → body (template_form.Assigned parts) scope target ≡ []
      → has_all (Some (fields_at scope.definitions at)) (map (λ part. part.0) (map field_template parts)) ≡ true
  template_has_fields at target parts is nothing =
      let fields = wanted_fields scope.definitions target.data_type in
      let names : List (List ℕ) = map (λ part. part.0) (map field_template parts) in
      let braces : List Rule = unless (takes_braces target.data_type) rule.ValueType in
      let all : List Rule = unless (has_all fields names) rule.Fields in
      let elements : List Rule = by_name fields [] (map field_template parts) scope in
      subst (λ of. has_all (wanted_fields scope.definitions of) names ≡ true) is
      (kept (has_all fields names) rule.Fields (nothing-rest braces all (nothing-first (braces ++ all) elements (sym (body-of-assigned scope target parts) ∙ nothing))))

  pub named_template_fits : (at : ℕ) (target : Target) (parts : List FieldTemplate) → target.data_type ≡ Some (type.Record at) → body (template_form.Assigned parts) scope target ≡ []
      → AreNamedElements scope (fields_at scope.definitions at) [] (map field_template parts)
  named_template_fits at target parts is nothing =
      let fields = wanted_fields scope.definitions target.data_type in
      let names : List (List ℕ) = map (λ part. part.0) (map field_template parts) in
      let front : List Rule = unless (takes_braces target.data_type) rule.ValueType ++ unless (has_all fields names) rule.Fields in
      let elements : List Rule = by_name fields [] (map field_template parts) scope in
      are-named (fields_at scope.definitions at) [] (map field_template parts)
      (subst (λ of. by_name (wanted_fields scope.definitions of) [] (map field_template parts) scope ≡ []) is
      (nothing-rest front elements (sym (body-of-assigned scope target parts) ∙ nothing)))
