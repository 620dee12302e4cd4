-- The type of a message that breaks no rule is known.
use Rattle.std.proofs.Common.{◌≡◌, ◌≢◌, ℕ, Bool, true, false, not, ◌||◌, List, [], ◌++◌, Option, Some, None, is_some, IfSome, refl, sym, ap, subst, ◌∙◌}
use Rattle.ttcn_syntax.specs.declared.tree.expression.Expr.{Expr, out-Expr}
use Rattle.ttcn_syntax.specs.declared.tree.template.FieldTemplate.{FieldTemplate}
use Rattle.ttcn_syntax.specs.declared.tree.template.MessageTemplate.{MessageTemplate}
use Rattle.ttcn_syntax.specs.declared.tree.template.Template.{Template, fold_out-Template, out-Template}
use Rattle.ttcn_syntax.specs.declared.tree.template.TemplateBody.{TemplateBody, fold_out-TemplateBody, out-TemplateBody}
use Rattle.ttcn_syntax.specs.declared.tree.template.TemplateBody.TheFolds.{map-TemplateBody}
use Rattle.ttcn_syntax.specs.declared.tree.template.TemplateBody.TheOpen.{TemplateBody-F}
use Rattle.ttcn_syntax.specs.declared.tree.value.TypeName.{TypeName}
use Rattle.ttcn_syntax.specs.declared.tree.value.TypeName.TheVariants as type_name
use Rattle.ttcn_syntax.specs.declared.tree.value.Value.{Value}
use Rattle.check_rules.specs.Expressions.{Judgement, expression}
use Rattle.check_rules.specs.Targets.{check_type}
use Rattle.check_rules.specs.Templates.{check_name, check_named_template, bare_name, body, body_step, field_template, field_template_step, template, template_by_name, template_meant, template_named, template_step, type_of_template, typing_at_name, typing_by_position, typing_of_body, typing_of_template}
use Rattle.check_rules.specs.Values.{AtTarget}
use Rattle.check_scope.specs.Names.{Scope, kind_at, module_names, resolved, type_meant}
use Rattle.check_scope.specs.PortTypes.{only_type, types_of_port}
use Rattle.check_scope.specs.Typings.{fits, target_of, type_known, typed, unless}
use Rattle.check_scope.specs.declared.names.Meaning.{Meaning}
use Rattle.check_scope.specs.declared.names.Meaning.TheVariants as meaning
use Rattle.check_scope.specs.declared.rule.Rule.TheVariants as rule
use Rattle.check_scope.specs.declared.types.DataType.{DataType}
use Rattle.check_scope.specs.declared.types.Target.{Target}
use Rattle.check_scope.specs.declared.types.Typing.{Typing}
use Rattle.check_scope.specs.declared.types.Typing.TheVariants as typing
use Rattle.check_rules.specs.Messages.{check_message, passage_at, check_type_name, by_template, by_type_name, of_only, type_anywhere, type_by_itself, type_by_port, type_of_message}
use Rattle.laws_checker.proofs.Nothing.{kept, nothing-first, nothing-rest}
use Rattle.laws_checker.proofs.Typed.{expression_typed}
use Rattle.laws_checker.specs.Laws.{IsKnown, IsWhole}
use Rattle.laws_statements.proofs.NoComponents.{IsToldApart, expression-apart, typed-apart}
use Rattle.laws_statements.specs.Messages.{HasType}

typed-known : (of : Option DataType) → is_some of ≡ true → typed of ≢ typing.Unknown
typed-known (Some t) known is = let e = is in cc
typed-known None known is = let e = known in cc

-- ---- templates

module _ (scope : Scope) (whole : IsWhole scope) where
  -- what a name that means a template stands for has a type
  named-typed : (name : List ℕ) (m : Option Meaning) → scope.names name ≡ m → (at : ℕ) → template_meant m ≡ Some at → typed (type_of_template scope at) ≢ typing.Unknown
  named-typed name (Some (meaning.Template other)) is at means =
      let known : IfSome (Some (meaning.Template other)) (IsKnown scope.definitions) = subst (λ m. IfSome m (IsKnown scope.definitions)) is (whole.names name) in
      subst (λ n. typed (type_of_template scope n) ≢ typing.Unknown) (some-is means) (typed-known (type_of_template scope other) known)
    where
      some-is : {n m : ℕ} → Some n ≡ Some m → n ≡ m
      some-is h = cc
  named-typed name None is at means = absurd (let e = means in cc)
  named-typed name (Some (meaning.Variable of)) is at means = absurd (let e = means in cc)
  named-typed name (Some (meaning.Constant of)) is at means = absurd (let e = means in cc)
  named-typed name (Some (meaning.ModuleConstant a b)) is at means = absurd (let e = means in cc)
  named-typed name (Some (meaning.Enumerator a)) is at means = absurd (let e = means in cc)
  named-typed name (Some (meaning.Port a)) is at means = absurd (let e = means in cc)
  named-typed name (Some meaning.Timer) is at means = absurd (let e = means in cc)
  named-typed name (Some (meaning.Function a)) is at means = absurd (let e = means in cc)
  named-typed name (Some (meaning.Altstep a)) is at means = absurd (let e = means in cc)
  named-typed name (Some (meaning.Testcase a)) is at means = absurd (let e = means in cc)
  named-typed name (Some (meaning.Record a)) is at means = absurd (let e = means in cc)
  named-typed name (Some (meaning.Enumerated a)) is at means = absurd (let e = means in cc)
  named-typed name (Some (meaning.Component a)) is at means = absurd (let e = means in cc)
  named-typed name (Some (meaning.PortType a)) is at means = absurd (let e = means in cc)

  name-typed : (target : Target) (e : Expr) (name : Option (List ℕ)) (found : Option ℕ) → template_by_name scope name ≡ found → check_name scope target e found ≡ []
      → typing_at_name scope e found ≢ typing.Unknown
  name-typed target e name None is nothing =
      expression_typed e scope false whole (nothing-first (expression e scope false).broken (unless (fits target.data_type (expression e scope false).typing) rule.ValueType) nothing)
  name-typed target e None (Some at) is nothing = absurd (let e = is in cc)
  name-typed target e (Some name) (Some at) is nothing = named-typed name (scope.names name) refl at is

  call-typed : (target : Target) (name : List ℕ) (given : List Value) (found : Option ℕ) → template_meant (scope.names name) ≡ found → check_named_template scope target given found ≡ []
      → typing_by_position scope found ≢ typing.Unknown
  call-typed target name given None is nothing = absurd (let e = nothing in cc)
  call-typed target name given (Some at) is nothing = named-typed name (scope.names name) refl at is

  -- the type that a template says by itself is known
  abbrev Says : Target → TemplateBody-F TemplateBody FieldTemplate Template → Type 0
  Says target x = body_step (map-TemplateBody TemplateBody FieldTemplate Template AtTarget (List ℕ × AtTarget) AtTarget body field_template template x) scope target ≡ []
      → IfSome (typing_of_body scope x) (λ t. t ≢ typing.Unknown)

  body-typed : (target : Target) (x : TemplateBody-F TemplateBody FieldTemplate Template) → Says target x
  body-typed target (TemplateBody-F.Expr e) nothing = name-typed target e (bare_name (out-Expr e)) (template_named scope e) refl nothing
  body-typed target (TemplateBody-F.Call call) nothing = call-typed target call.name call.arguments (template_meant (scope.names call.name)) refl nothing
  body-typed target TemplateBody-F.Any nothing = tt
  body-typed target TemplateBody-F.AnyOrOmit nothing = tt
  body-typed target TemplateBody-F.Omit nothing = tt
  body-typed target (TemplateBody-F.Complement parts) nothing = tt
  body-typed target (TemplateBody-F.List parts) nothing = tt
  body-typed target (TemplateBody-F.Range low high) nothing = tt
  body-typed target (TemplateBody-F.Listed parts) nothing = tt
  body-typed target (TemplateBody-F.Assigned parts) nothing = tt

  template-typed : (target : Target) (t : Template) → template t scope target ≡ [] → IfSome (typing_of_template scope t) (λ found. found ≢ typing.Unknown)
  template-typed target t nothing =
      let it = out-Template t in
      let said : body it.body scope target ++ unless (not it.ifpresent || target.optional) rule.Fields ≡ [] =
      ap (λ (f : AtTarget). f scope target) (sym (fold_out-Template AtTarget (List ℕ × AtTarget) AtTarget body_step field_template_step template_step t)) ∙ nothing in
      let inside = nothing-first (body it.body scope target) (unless (not it.ifpresent || target.optional) rule.Fields) said in
      body-typed target (out-TemplateBody it.body)
      (ap (λ (f : AtTarget). f scope target) (sym (fold_out-TemplateBody AtTarget (List ℕ × AtTarget) AtTarget body_step field_template_step template_step it.body)) ∙ inside)

  -- ---- messages

  abbrev HasKnown : Judgement → Type 0
  HasKnown judged = (t : DataType) × (judged.typing ≡ typing.Known t)

  by-itself : (types : List (Option DataType)) (t : Typing) → t ≢ typing.Unknown → (type_by_itself (Some types) t).broken ≡ [] → HasKnown (type_by_itself (Some types) t)
  by-itself types (typing.Known t) known nothing = (t, refl)
  by-itself types typing.Null known nothing = absurd (let e = nothing in cc)
  by-itself types typing.AnyComponent known nothing = absurd (let e = nothing in cc)
  by-itself types typing.NoValue known nothing = absurd (let e = nothing in cc)
  by-itself types typing.Unknown known nothing = absurd (known refl)

  of-only : (found : Option DataType) → (of_only found).broken ≡ [] → HasKnown (of_only found)
  of-only (Some t) nothing = (t, refl)
  of-only None nothing = absurd (let e = nothing in cc)

  by-template : (types : List (Option DataType)) (found : Option Typing) → IfSome found (λ t. t ≢ typing.Unknown)
      → (by_template (Some types) (type_by_port (Some types)) found).broken ≡ [] → HasKnown (by_template (Some types) (type_by_port (Some types)) found)
  by-template types None known nothing = of-only (only_type types) nothing
  by-template types (Some t) known nothing = by-itself types t known nothing

  type-resolved : (name : TypeName) → check_type scope.names false name ≡ [] → is_some (resolved scope.names name) ≡ true
  type-resolved type_name.Integer nothing = refl
  type-resolved type_name.Boolean nothing = refl
  type-resolved type_name.Default nothing = absurd (let e = nothing in cc)
  type-resolved (type_name.Named name) nothing = kept (is_some (type_meant (scope.names name))) rule.UnknownName nothing

  by-name : (types : List (Option DataType)) (t : Template) (target : Target) (name : Option TypeName) → check_type_name scope name ≡ []
      → template t scope target ≡ [] → (by_type_name scope (Some types) (type_by_port (Some types)) t name).broken ≡ []
      → HasKnown (by_type_name scope (Some types) (type_by_port (Some types)) t name)
  by-name types t target None named fine nothing = by-template types (typing_of_template scope t) (template-typed target t fine) nothing
  by-name types t target (Some name) named fine nothing =
      by-itself types (typed (resolved scope.names name)) (typed-known (resolved scope.names name) (type-resolved name named)) nothing

  message-typed : (types : List (Option DataType)) (message : MessageTemplate) → check_message scope (Some types) (type_by_port (Some types)) message ≡ []
      → HasType scope (Some types, type_by_port (Some types)) message
  message-typed types message nothing =
      let judged : Judgement = type_of_message scope (Some types) (type_by_port (Some types)) message in
      let target : Target = target_of (type_known judged.typing) in
      let front = nothing-first (check_type_name scope message.type_name ++ judged.broken) (template message.template scope target) nothing in
      let known = by-name types message.template target message.type_name
      (nothing-first (check_type_name scope message.type_name) judged.broken front)
      (nothing-rest (check_type_name scope message.type_name ++ judged.broken) (template message.template scope target) nothing)
      (nothing-rest (check_type_name scope message.type_name) judged.broken front) in
      record { data_type = known.0; is = known.1 }

  -- at a port of a known type
  pub passing_typed : (incoming : Bool) (port : ℕ) (message : MessageTemplate)
      → check_message scope (passage_at scope.definitions incoming (Some port)).0 (passage_at scope.definitions incoming (Some port)).1 message ≡ []
      → HasType scope (passage_at scope.definitions incoming (Some port)) message
  passing_typed incoming port message nothing = message-typed (types_of_port (module_names scope.definitions) incoming (kind_at scope.definitions port)) message nothing

  -- ---- at `any port`

  anywhere-by-itself : (t : Typing) → t ≢ typing.Unknown → IsToldApart t → (type_by_itself None t).broken ≡ [] → HasKnown (type_by_itself None t)
  anywhere-by-itself (typing.Known t) known apart nothing = (t, refl)
  anywhere-by-itself typing.Null known apart nothing = absurd (let e = nothing in cc)
  anywhere-by-itself typing.AnyComponent known apart nothing = absurd (apart refl)
  anywhere-by-itself typing.NoValue known apart nothing = absurd (let e = nothing in cc)
  anywhere-by-itself typing.Unknown known apart nothing = absurd (known refl)

  name-apart : (target : Target) (e : Expr) (found : Option ℕ) → check_name scope target e found ≡ [] → IsToldApart (typing_at_name scope e found)
  name-apart target e None nothing =
      expression-apart e scope (nothing-first (expression e scope false).broken (unless (fits target.data_type (expression e scope false).typing) rule.ValueType) nothing)
  name-apart target e (Some at) nothing = typed-apart (type_of_template scope at)

  position-apart : (found : Option ℕ) → IsToldApart (typing_by_position scope found)
  position-apart None = λ is. cc
  position-apart (Some at) = typed-apart (type_of_template scope at)

  abbrev SaysApart : Target → TemplateBody-F TemplateBody FieldTemplate Template → Type 0
  SaysApart target x = body_step (map-TemplateBody TemplateBody FieldTemplate Template AtTarget (List ℕ × AtTarget) AtTarget body field_template template x) scope target ≡ []
      → IfSome (typing_of_body scope x) IsToldApart

  body-apart : (target : Target) (x : TemplateBody-F TemplateBody FieldTemplate Template) → SaysApart target x
  body-apart target (TemplateBody-F.Expr e) nothing = name-apart target e (template_named scope e) nothing
  body-apart target (TemplateBody-F.Call call) nothing = position-apart (template_meant (scope.names call.name))
  body-apart target TemplateBody-F.Any nothing = tt
  body-apart target TemplateBody-F.AnyOrOmit nothing = tt
  body-apart target TemplateBody-F.Omit nothing = tt
  body-apart target (TemplateBody-F.Complement parts) nothing = tt
  body-apart target (TemplateBody-F.List parts) nothing = tt
  body-apart target (TemplateBody-F.Range low high) nothing = tt
  body-apart target (TemplateBody-F.Listed parts) nothing = tt
  body-apart target (TemplateBody-F.Assigned parts) nothing = tt

  template-apart : (target : Target) (t : Template) → template t scope target ≡ [] → IfSome (typing_of_template scope t) IsToldApart
  template-apart target t nothing =
      let it = out-Template t in
      let said : body it.body scope target ++ unless (not it.ifpresent || target.optional) rule.Fields ≡ [] =
      ap (λ (f : AtTarget). f scope target) (sym (fold_out-Template AtTarget (List ℕ × AtTarget) AtTarget body_step field_template_step template_step t)) ∙ nothing in
      let inside = nothing-first (body it.body scope target) (unless (not it.ifpresent || target.optional) rule.Fields) said in
      body-apart target (out-TemplateBody it.body)
      (ap (λ (f : AtTarget). f scope target) (sym (fold_out-TemplateBody AtTarget (List ℕ × AtTarget) AtTarget body_step field_template_step template_step it.body)) ∙ inside)

  anywhere-by-template : (found : Option Typing) → IfSome found (λ t. t ≢ typing.Unknown) → IfSome found IsToldApart
      → (by_template None type_anywhere found).broken ≡ [] → HasKnown (by_template None type_anywhere found)
  anywhere-by-template None known apart nothing = absurd (let e = nothing in cc)
  anywhere-by-template (Some t) known apart nothing = anywhere-by-itself t known apart nothing

  anywhere-by-name : (t : Template) (target : Target) (name : Option TypeName) → check_type_name scope name ≡ [] → template t scope target ≡ []
      → (by_type_name scope None type_anywhere t name).broken ≡ [] → HasKnown (by_type_name scope None type_anywhere t name)
  anywhere-by-name t target None named fine nothing = anywhere-by-template (typing_of_template scope t) (template-typed target t fine) (template-apart target t fine) nothing
  anywhere-by-name t target (Some name) named fine nothing =
      anywhere-by-itself (typed (resolved scope.names name)) (typed-known (resolved scope.names name) (type-resolved name named)) (typed-apart (resolved scope.names name)) nothing

  pub anywhere_typed : (message : MessageTemplate) → check_message scope None type_anywhere message ≡ [] → HasType scope (None, type_anywhere) message
  anywhere_typed message nothing =
      let judged : Judgement = type_of_message scope None type_anywhere message in
      let target : Target = target_of (type_known judged.typing) in
      let front = nothing-first (check_type_name scope message.type_name ++ judged.broken) (template message.template scope target) nothing in
      let known = anywhere-by-name message.template target message.type_name
      (nothing-first (check_type_name scope message.type_name) judged.broken front)
      (nothing-rest (check_type_name scope message.type_name ++ judged.broken) (template message.template scope target) nothing)
      (nothing-rest (check_type_name scope message.type_name) judged.broken front) in
      record { data_type = known.0; is = known.1 }
