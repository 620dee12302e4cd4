-- The template that what stands where a template of a type is wanted gives stands for values of this type.
use Rattle.std.proofs.Common.{◌≡◌, ℕ, suc, ℤ, Bool, true, false, not, ◌&&◌, ◌||◌, nat_eq, List, [], ◌∷◌, ◌++◌, map, length, bytes_eq, Option, Some, None, is_some, IfSome, if◌then◌else◌, refl, sym, ap, subst, ◌∙◌}
use Rattle.std.proofs.lemmas.Bool.{and_parts, eq-eqb}
use Rattle.std.proofs.lemmas.List.Elements.{All-head, All-tail}
use Rattle.std.specs.Cmp.Lexicographic.{bytes_decides}
use Rattle.std.specs.List.{All, find, list_all, list_any, zip}
use Rattle.ttcn_syntax.specs.declared.tree.definition.Definition.{Definition}
use Rattle.ttcn_syntax.specs.declared.tree.definition.Field.{Field}
use Rattle.ttcn_syntax.specs.declared.tree.definition.Parameter.{Parameter}
use Rattle.ttcn_syntax.specs.declared.tree.expression.Expr.{Expr, out-Expr}
use Rattle.ttcn_syntax.specs.declared.tree.template.Bound.{Bound}
use Rattle.ttcn_syntax.specs.declared.tree.template.Bound.TheVariants as bound
use Rattle.ttcn_syntax.specs.declared.tree.template.FieldTemplate.{FieldTemplate, fold_out-FieldTemplate, roll-FieldTemplate}
use Rattle.ttcn_syntax.specs.declared.tree.template.Template as tree
use Rattle.ttcn_syntax.specs.declared.tree.template.TemplateBody.{TemplateBody, roll-TemplateBody}
use Rattle.ttcn_syntax.specs.declared.tree.template.TemplateBody.TheFolds.{fold-roll-FieldTemplate, fold-roll-Template, fold-roll-TemplateBody, ind-Template, map-FieldTemplate, map-Template, map-TemplateBody}
use Rattle.ttcn_syntax.specs.declared.tree.template.TemplateBody.TheOpen.{FieldTemplate-F, Template-F, TemplateBody-F}
use Rattle.ttcn_syntax.specs.declared.tree.value.Value as written
use Rattle.laws_checker.proofs.Fitting.{are-elements, are-named, arguments-fit, same-number}
use Rattle.laws_checker.proofs.Nothing.{kept, nothing-first, nothing-rest}
use Rattle.check_rules.specs.Calls.{check_arguments, parameters_of, template_type}
use Rattle.laws_checker.specs.Laws.{AreArguments, AreElements, AreNamedElements, HasFieldType, IsKnown, IsWhole}
use Rattle.check_scope.specs.Names.{Scope, field_named, fields_at, kind_at, module_names, resolved}
use Rattle.check_rules.specs.Templates as spec
use Rattle.check_rules.specs.Templates.{check_name, check_named_template, bare_name, template_by_name, template_meant, type_of_template}
use Rattle.check_scope.specs.Typings.{fits, goes_to, target_of, typed, unless}
use Rattle.check_rules.specs.Values as checked
use Rattle.check_rules.specs.Values.{AtTarget, check_expression, field_target}
use Rattle.check_scope.specs.declared.names.Meaning.{Meaning}
use Rattle.check_scope.specs.declared.names.Meaning.TheVariants as meaning
use Rattle.check_scope.specs.declared.rule.Rule.{Rule}
use Rattle.check_scope.specs.declared.rule.Rule.TheVariants as rule
use Rattle.check_scope.specs.declared.types.DataType.{DataType}
use Rattle.check_scope.specs.declared.types.DataType.TheVariants as type
use Rattle.check_scope.specs.declared.types.Target.{Target}
use Rattle.check_scope.specs.declared.types.Typing.TheVariants as typing
use Rattle.laws_evaluation.proofs.Demands.{Meets, TemplatesIf, all-if, meets-both, meets-chosen, meets-each, meets-mapped, meets-more, meets-then, met-of, wanted-meets, yields-of}
use Rattle.laws_evaluation.proofs.MetExpressions.{Any, integer-there}
use Rattle.laws_evaluation.proofs.TypedLiterals.{same-type}
use Rattle.laws_evaluation.proofs.TypedRecords.{true-both, value-typed}
use Rattle.laws_evaluation.proofs.TypedValues.{if-any, nat_eq-refl}
use Rattle.value_types.specs.Evaluation.{value_of}
use Rattle.value_types.specs.Literals.{value_wanted}
use Rattle.value_types.specs.Outcomes.{IfYields, IsMet, Yields, dynamic_error, each, or_unmet, outcome_and_then, outcome_map}
use Rattle.value_types.specs.Readings.{Reading}
use Rattle.value_types.specs.Templates as given
use Rattle.value_types.specs.Templates.{Wanted, argument, arguments, as_pattern, value_of_bound, template_of_range, body_step, body_wanted, by_name, element, element_named, field_template, field_template_step, in_order, parts_of, plain, template_called, template_of_name, template_step, template_wanted, with_ifpresent}
use Rattle.laws_evaluation.specs.Types as types
use Rattle.laws_evaluation.specs.Types.{AreGiven, FieldsDiffer, FitsIn, Goes, HasAll, HasParameterType, IsOfTyping, ParametersKnown, go_to_each, pattern_step, template_goes, value_goes, wants}
use Rattle.value_types.specs.Values.{integer, is_complete}
use Rattle.value_types.specs.declared.template.Pattern.{Pattern, fold-Pattern, roll-Pattern}
use Rattle.value_types.specs.declared.template.Pattern.TheFolds as fold
use Rattle.value_types.specs.declared.template.Pattern.TheOpen as level
use Rattle.value_types.specs.declared.template.Pattern.TheVariants as pattern
use Rattle.value_types.specs.declared.template.Template.{Template, roll-Template}
use Rattle.value_types.specs.declared.value.Value.{Value}

-- ---- templates of types

abbrev pub pattern_goes : Pattern → Goes
pattern_goes = fold-Pattern Goes Goes pattern_step types.template_step

pub goes-of-pattern : (x : level.Pattern-F Pattern Template) (definitions : List Definition) (target : Target)
    → pattern_goes (roll-Pattern x) definitions target ≡ pattern_step (fold.map-Pattern Pattern Template Goes Goes pattern_goes template_goes x) definitions target
goes-of-pattern x definitions target = ap (λ (g : Goes). g definitions target) (fold.fold-roll-Pattern Goes Goes pattern_step types.template_step x)

pub goes-of-template : (t : Template) (definitions : List Definition) (target : Target)
    → template_goes t definitions target ≡ (pattern_goes t.pattern definitions target && (not t.ifpresent || target.optional))
goes-of-template t definitions target = ap (λ (g : Goes). g definitions target) (fold.fold_out-Template Goes Goes pattern_step types.template_step t)

-- ---- optional targets

-- what goes to a target that isn't optional goes there where it is
abbrev WeakerPattern : Pattern → Type 0
WeakerPattern p = (definitions : List Definition) (t : Option DataType) (o : Bool) → pattern_goes p definitions (target_of t) ≡ true → pattern_goes p definitions (record { data_type = t; optional = o }) ≡ true

abbrev Weaker : Template → Type 0
Weaker p = (definitions : List Definition) (t : Option DataType) (o : Bool) → template_goes p definitions (target_of t) ≡ true → template_goes p definitions (record { data_type = t; optional = o }) ≡ true

abbrev HeldPattern : Type 0
HeldPattern = (p : Pattern) × WeakerPattern p

abbrev HeldTemplate : Type 0
HeldTemplate = (t : Template) × Weaker t

all-weaker : (parts : List HeldTemplate) (definitions : List Definition) (t : Option DataType) (o : Bool)
    → list_all (λ (part : Goes). part definitions (target_of t)) (map template_goes (map (λ p. p.0) parts)) ≡ true
    → list_all (λ (part : Goes). part definitions (record { data_type = t; optional = o })) (map template_goes (map (λ p. p.0) parts)) ≡ true
all-weaker [] definitions t o is = refl
all-weaker (part ∷ parts) definitions t o is =
    let p = and_parts (template_goes part.0 definitions (target_of t)) (list_all (λ (part : Goes). part definitions (target_of t)) (map template_goes (map (λ p. p.0) parts))) is in
    true-both (template_goes part.0 definitions (record { data_type = t; optional = o }))
    (list_all (λ (part : Goes). part definitions (record { data_type = t; optional = o })) (map template_goes (map (λ p. p.0) parts)))
    (part.1 definitions t o p.0) (all-weaker parts definitions t o p.1)

abbrev WeakerLevel : level.Pattern-F Pattern Template → Type 0
WeakerLevel x = (definitions : List Definition) (t : Option DataType) (o : Bool) → pattern_step (fold.map-Pattern Pattern Template Goes Goes pattern_goes template_goes x) definitions (target_of t) ≡ true
    → pattern_step (fold.map-Pattern Pattern Template Goes Goes pattern_goes template_goes x) definitions (record { data_type = t; optional = o }) ≡ true

pattern-weaker : (y : level.Pattern-F HeldPattern HeldTemplate) → WeakerLevel (fold.map-Pattern HeldPattern HeldTemplate Pattern Template (λ p. p.0) (λ t. t.0) y)
pattern-weaker (level.Pattern-F.Value v) = λ definitions t o goes. goes
pattern-weaker level.Pattern-F.Any = λ definitions t o goes. refl
pattern-weaker level.Pattern-F.AnyOrOmit = λ definitions t o goes. absurd (let e = goes in cc)
pattern-weaker level.Pattern-F.Omit = λ definitions t o goes. absurd (let e = goes in cc)
pattern-weaker (level.Pattern-F.Complement parts) = λ definitions t o goes. all-weaker parts definitions t o goes
pattern-weaker (level.Pattern-F.List parts) = λ definitions t o goes. all-weaker parts definitions t o goes
pattern-weaker (level.Pattern-F.Range low high) = λ definitions t o goes. goes
pattern-weaker (level.Pattern-F.Record at parts) = λ definitions t o goes. goes

optional-weaker : (b o : Bool) → (b || false) ≡ true → (b || o) ≡ true
optional-weaker true o is = refl
optional-weaker false o is = absurd (let e = is in cc)

template-weaker : (t : Template) → WeakerPattern t.pattern → Weaker t
template-weaker p weaker definitions t o goes =
    let parts = and_parts (pattern_goes p.pattern definitions (target_of t)) (not p.ifpresent || false) (sym (goes-of-template p definitions (target_of t)) ∙ goes) in
    goes-of-template p definitions (record { data_type = t; optional = o })
    ∙ true-both (pattern_goes p.pattern definitions (record { data_type = t; optional = o })) (not p.ifpresent || o) (weaker definitions t o parts.0) (optional-weaker (not p.ifpresent) o parts.1)

pub weaker-template : (t : Template) → Weaker t
weaker-template = fold.ind-Template WeakerPattern Weaker (λ x y is definitions t o goes.
    goes-of-pattern x definitions (record { data_type = t; optional = o })
    ∙ subst WeakerLevel is (pattern-weaker y) definitions t o (sym (goes-of-pattern x definitions (target_of t)) ∙ goes)) (λ x y is.
    template-weaker (roll-Template x) (subst (λ (z : level.Template-F Pattern Template). WeakerPattern z.pattern) is y.pattern.1))

-- ---- patterns

plain-goes : (p : Pattern) (definitions : List Definition) (target : Target) → pattern_goes p definitions target ≡ true → template_goes (plain p) definitions target ≡ true
plain-goes p definitions target goes = goes-of-template (plain p) definitions target ∙ true-both (pattern_goes p definitions target) true goes refl

any-goes : (definitions : List Definition) (target : Target) → template_goes (plain pattern.Any) definitions target ≡ true
any-goes definitions target =
    plain-goes pattern.Any definitions target
    (ap (λ p. pattern_goes p definitions target) (sym pattern.rolls-Any) ∙ goes-of-pattern level.Pattern-F.Any definitions target)

any-or-omit-goes : (definitions : List Definition) (target : Target) → target.optional ≡ true → template_goes (plain pattern.AnyOrOmit) definitions target ≡ true
any-or-omit-goes definitions target may =
    plain-goes pattern.AnyOrOmit definitions target
    (ap (λ p. pattern_goes p definitions target) (sym pattern.rolls-AnyOrOmit) ∙ goes-of-pattern level.Pattern-F.AnyOrOmit definitions target ∙ may)

omit-goes : (definitions : List Definition) (target : Target) → target.optional ≡ true → template_goes (plain pattern.Omit) definitions target ≡ true
omit-goes definitions target may =
    plain-goes pattern.Omit definitions target
    (ap (λ p. pattern_goes p definitions target) (sym pattern.rolls-Omit) ∙ goes-of-pattern level.Pattern-F.Omit definitions target ∙ may)

abbrev AllGo : List Definition → Target → List Template → Type 0
AllGo definitions target parts = list_all (λ (part : Goes). part definitions target) (map template_goes parts) ≡ true

complement-goes : (definitions : List Definition) (target : Target) (parts : List Template) → AllGo definitions target parts → template_goes (plain (pattern.Complement parts)) definitions target ≡ true
complement-goes definitions target parts go =
    plain-goes (pattern.Complement parts) definitions target
    (ap (λ p. pattern_goes p definitions target) (sym (pattern.rolls-Complement parts)) ∙ goes-of-pattern (level.Pattern-F.Complement parts) definitions target ∙ go)

list-goes : (definitions : List Definition) (target : Target) (parts : List Template) → AllGo definitions target parts → template_goes (plain (pattern.List parts)) definitions target ≡ true
list-goes definitions target parts go =
    plain-goes (pattern.List parts) definitions target
    (ap (λ p. pattern_goes p definitions target) (sym (pattern.rolls-List parts)) ∙ goes-of-pattern (level.Pattern-F.List parts) definitions target ∙ go)

range-goes : (definitions : List Definition) (target : Target) (low high : Option ℤ) → wants type.Integer target.data_type ≡ true → template_goes (plain (pattern.Range low high)) definitions target ≡ true
range-goes definitions target low high is =
    plain-goes (pattern.Range low high) definitions target
    (ap (λ p. pattern_goes p definitions target) (sym (pattern.rolls-Range low high)) ∙ goes-of-pattern (level.Pattern-F.Range low high) definitions target ∙ is)

value-goes : (definitions : List Definition) (t : DataType) (o : Bool) (v : Value) → value_goes v definitions (target_of (Some t)) ≡ true → is_complete v ≡ true
    → template_goes (plain (pattern.Value v)) definitions (record { data_type = Some t; optional = o }) ≡ true
value-goes definitions t o v goes complete =
    plain-goes (pattern.Value v) definitions (record { data_type = Some t; optional = o })
    (ap (λ p. pattern_goes p definitions (record { data_type = Some t; optional = o })) (sym (pattern.rolls-Value v)) ∙ goes-of-pattern (level.Pattern-F.Value v) definitions (record { data_type = Some t; optional = o })
    ∙ true-both (value_goes v definitions (target_of (Some t))) (is_complete v) goes complete)

record-goes : (definitions : List Definition) (at : ℕ) (o : Bool) (parts : List Template) → go_to_each definitions (fields_at definitions at) (map template_goes parts) ≡ true
    → template_goes (plain (pattern.Record at parts)) definitions (record { data_type = Some (type.Record at); optional = o }) ≡ true
record-goes definitions at o parts go =
    plain-goes (pattern.Record at parts) definitions (record { data_type = Some (type.Record at); optional = o })
    (ap (λ p. pattern_goes p definitions (record { data_type = Some (type.Record at); optional = o })) (sym (pattern.rolls-Record at parts))
    ∙ goes-of-pattern (level.Pattern-F.Record at parts) definitions (record { data_type = Some (type.Record at); optional = o })
    ∙ true-both (nat_eq at at) (go_to_each definitions (fields_at definitions at) (map template_goes parts)) (nat_eq-refl at) go)

-- ---- `ifpresent`

also-may : (f a o : Bool) → (not f || o) ≡ true → (not a || o) ≡ true → (not (f || a) || o) ≡ true
also-may true a o one other = one
also-may false a o one other = other

ifpresent-goes : (also : Bool) (t : Template) (definitions : List Definition) (target : Target) → template_goes t definitions target ≡ true → (not also || target.optional) ≡ true
    → template_goes (with_ifpresent also t) definitions target ≡ true
ifpresent-goes also t definitions target goes may =
    let p = and_parts (pattern_goes t.pattern definitions target) (not t.ifpresent || target.optional) (sym (goes-of-template t definitions target) ∙ goes) in
    goes-of-template (with_ifpresent also t) definitions target
    ∙ true-both (pattern_goes t.pattern definitions target) (not (t.ifpresent || also) || target.optional) p.0 (also-may t.ifpresent also target.optional p.1 may)

-- ---- what goes where it breaks no rule

bytes-other : (xs ys : List ℕ) → bytes_eq ys xs ≡ false → bytes_eq xs ys ≡ false
bytes-other xs ys other = go (bytes_eq xs ys) refl
  where
    go : (b : Bool) → bytes_eq xs ys ≡ b → b ≡ false
    go false is = refl
    go true is = absurd (let same : bytes_eq ys xs ≡ true = (bytes_decides ys xs).1 (sym ((bytes_decides xs ys).0 is)) in let e = sym same ∙ other in cc)

or-right : (a b : Bool) → a ≡ false → (a || b) ≡ true → b ≡ true
or-right false b is holds = holds
or-right true b is holds = absurd (let e = is in cc)

abbrev pub GoesT : AtTarget → Wanted → Type 0
GoesT judged given = (scope : Scope) (reading : Reading) → IsWhole scope → FieldsDiffer scope.definitions → FitsIn scope reading → (strict : Bool) → TemplatesIf strict scope reading → (t : DataType) (o : Bool)
    → judged scope (record { data_type = Some t; optional = o }) ≡ [] → Meets strict (given reading (Some t)) (λ p. template_goes p scope.definitions (record { data_type = Some t; optional = o }) ≡ true)

abbrev HeldBody : Type 0
HeldBody = (b : TemplateBody) × GoesT (spec.body b) (body_wanted b)

abbrev HeldField : Type 0
HeldField = (f : FieldTemplate) × GoesT (spec.field_template f).1 (field_template f).1

abbrev Held : Type 0
Held = (t : tree.Template) × GoesT (spec.template t) (template_wanted t)

pub same-name : (f : FieldTemplate) → (spec.field_template f).0 ≡ (field_template f).0
same-name f =
    ap (λ (p : List ℕ × AtTarget). p.0) (fold_out-FieldTemplate AtTarget (List ℕ × AtTarget) AtTarget spec.body_step spec.field_template_step spec.template_step f)
    ∙ sym (ap (λ (p : List ℕ × Wanted). p.0) (fold_out-FieldTemplate Wanted (List ℕ × Wanted) Wanted body_step field_template_step template_step f))

module _ (scope : Scope) (reading : Reading) (whole : IsWhole scope) (differ : FieldsDiffer scope.definitions) (fit : FitsIn scope reading) (strict : Bool) (has : TemplatesIf strict scope reading) where
  abbrev GoTo : Target → Template → Type 0
  GoTo target p = template_goes p scope.definitions target ≡ true

  abbrev to : DataType → Bool → Target
  to t o = record { data_type = Some t; optional = o }

  -- ---- expressions and named templates

  pattern-chosen : (t : DataType) (o : Bool) (v : Value) (complete : Bool) → is_complete v ≡ complete → value_goes v scope.definitions (target_of (Some t)) ≡ true
      → Meets strict (if complete then Yields (plain (pattern.Value v)) else dynamic_error) (GoTo (to t o))
  pattern-chosen t o v true is goes = value-goes scope.definitions t o v goes is
  pattern-chosen t o v false is goes = tt

  expression-goes : (t : DataType) (o : Bool) (e : Expr) → check_expression scope (Some t) e ≡ [] → Meets strict (outcome_and_then as_pattern (value_of e reading)) (GoTo (to t o))
  expression-goes t o e nothing =
      meets-then strict (λ v. value_goes v scope.definitions (target_of (Some t)) ≡ true) (GoTo (to t o)) as_pattern (value_of e reading) (wanted-meets scope reading whole fit strict (all-if strict scope reading has) t false e nothing)
      (λ v goes. pattern-chosen t o v (is_complete v) refl goes)

  argument-of : (v : written.Value) (of : Option DataType) → (strict ≡ true → is_some of ≡ true) → checked.value v scope (target_of of) ≡ [] → Meets strict (value_wanted v reading of) (IsOfTyping scope.definitions (typed of))
  argument-of v None known nothing = meets-both strict (λ w. Unit {0}) (value_wanted v reading None) (if-any (λ w. Unit {0}) (value_wanted v reading None) (λ w. tt)) (λ is. absurd (let e = known is in cc))
  argument-of v (Some t) known nothing = value-typed v scope reading whole differ fit strict (all-if strict scope reading has) t false nothing

  argument-goes : (p : Parameter) (v : written.Value) → (strict ≡ true → HasParameterType scope.definitions p) → checked.value v scope (target_of (resolved (module_names scope.definitions) p.type_name)) ≡ []
      → Meets strict (argument reading (p, v)) (IsOfTyping scope.definitions (typed (resolved (module_names scope.definitions) p.type_name)))
  argument-goes p v known nothing =
      subst (λ ds. Meets strict (value_wanted v reading (resolved (module_names ds) p.type_name)) (IsOfTyping scope.definitions (typed (resolved (module_names scope.definitions) p.type_name)))) (sym fit.definitions)
      (argument-of v (resolved (module_names scope.definitions) p.type_name) known nothing)

  arguments-given : (ps : List Parameter) (vs : List written.Value) → (strict ≡ true → All (HasParameterType scope.definitions) ps) → AreArguments scope ps vs
      → Meets strict (each (map (argument reading) (zip ps vs))) (AreGiven scope.definitions ps)
  arguments-given [] [] known are = tt
  arguments-given [] (v ∷ vs) known are = absurd are
  arguments-given (p ∷ ps) [] known are = absurd are
  arguments-given (p ∷ ps) (v ∷ vs) known are =
      meets-each strict (IsOfTyping scope.definitions (typed (resolved (module_names scope.definitions) p.type_name))) (AreGiven scope.definitions ps) (AreGiven scope.definitions (p ∷ ps))
      (argument reading (p, v)) (map (argument reading) (zip ps vs)) (argument-goes p v (λ is. All-head (HasParameterType scope.definitions) p ps (known is)) are.0)
      (arguments-given ps vs (λ is. All-tail (HasParameterType scope.definitions) p ps (known is)) are.1) (λ w ws first rest. (first, rest))

  as-given : (ps : List Parameter) (vs : List written.Value) → AreArguments scope ps vs → length vs ≡ length ps
  as-given [] [] are = refl
  as-given [] (v ∷ vs) are = absurd are
  as-given (p ∷ ps) [] are = absurd are
  as-given (p ∷ ps) (v ∷ vs) are = ap suc (as-given ps vs are.1)

  arguments-meet : (ps : List Parameter) (vs : List written.Value) → (strict ≡ true → All (HasParameterType scope.definitions) ps) → AreArguments scope ps vs → Meets strict (arguments reading ps vs) (AreGiven scope.definitions ps)
  arguments-meet ps vs known are =
      meets-chosen strict (AreGiven scope.definitions ps) (nat_eq (length vs) (length ps)) (each (map (argument reading) (zip ps vs))) (eq-eqb (length vs) (length ps) (as-given ps vs are)) (arguments-given ps vs known are)

  of-type : (t : DataType) (o : Bool) (of : Option DataType) (p : Template) → is_some of ≡ true → fits (Some t) (typed of) ≡ true
      → IfSome of (λ u. template_goes p scope.definitions (target_of (Some u)) ≡ true) → GoTo (to t o) p
  of-type t o None p known fitting goes = absurd (let e = known in cc)
  of-type t o (Some u) p known fitting goes =
      weaker-template p scope.definitions (Some t) o (subst (λ k. template_goes p scope.definitions (target_of (Some k)) ≡ true) (sym (same-type t u fitting)) goes)

  abbrev HasType : ℕ → Type 0
  HasType at = is_some (template_type scope.definitions (kind_at scope.definitions at)) ≡ true

  meant-known : (m : Option Meaning) → IfSome m (IsKnown scope.definitions) → IfSome (template_meant m) HasType
  meant-known (Some (meaning.Template at)) known = known
  meant-known None known = tt
  meant-known _ known = tt

  -- what is demanded of the templates of the module
  parameters-known : (demanded : Bool) → TemplatesIf demanded scope reading → (at : ℕ) → HasType at → demanded ≡ true → All (HasParameterType scope.definitions) (parameters_of (kind_at scope.definitions at))
  parameters-known true given at known is = given.1 at known
  parameters-known false given at known is = absurd (let e = is in cc)

  template-met : (demanded : Bool) → TemplatesIf demanded scope reading → (at : ℕ) (values : List Value) → HasType at → AreGiven scope.definitions (parameters_of (kind_at scope.definitions at)) values → demanded ≡ true
      → IsMet (reading.templates at values)
  template-met true given at values known are is = given.0.templates at values known are
  template-met false given at values known are is = absurd (let e = is in cc)

  called-at : (t : DataType) (o : Bool) (at : ℕ) (vs : List written.Value) → HasType at → check_named_template scope (to t o) vs (Some at) ≡ [] → Meets strict (template_called reading (Some at) vs) (GoTo (to t o))
  called-at t o at vs known nothing =
      let ps : List Parameter = parameters_of (kind_at scope.definitions at) in
      let before : List Rule = check_arguments scope ps vs in
      let wanted : List Rule = unless (fits (Some t) (typed (type_of_template scope at))) rule.ValueType in
      let goes : Template → Type 0 = λ p. IfSome (type_of_template scope at) (λ u. template_goes p scope.definitions (target_of (Some u)) ≡ true) in
      meets-then strict (AreGiven scope.definitions ps) (GoTo (to t o)) (reading.templates at) (arguments reading (parameters_of (kind_at reading.definitions at)) vs)
      (subst (λ ds. Meets strict (arguments reading (parameters_of (kind_at ds at)) vs) (AreGiven scope.definitions ps)) (sym fit.definitions)
      (arguments-meet ps vs (parameters-known strict has at known) (arguments-fit scope ps vs (nothing-first before wanted nothing))))
      (λ values are. meets-more strict goes (GoTo (to t o)) (reading.templates at values)
      (meets-both strict goes (reading.templates at values) (fit.templates at values are) (template-met strict has at values known are))
      (λ p goes. of-type t o (type_of_template scope at) p known (kept (fits (Some t) (typed (type_of_template scope at))) rule.ValueType (nothing-rest before wanted nothing)) goes))

  called-goes : (t : DataType) (o : Bool) (meant : Option ℕ) (vs : List written.Value) → IfSome meant HasType → check_named_template scope (to t o) vs meant ≡ [] → Meets strict (template_called reading meant vs) (GoTo (to t o))
  called-goes t o None vs known nothing = absurd (let e = nothing in cc)
  called-goes t o (Some at) vs known nothing = called-at t o at vs known nothing

  name-goes : (t : DataType) (o : Bool) (e : Expr) (meant : Option ℕ) → IfSome meant HasType → check_name scope (to t o) e meant ≡ [] → Meets strict (given.template_of_expression reading e meant) (GoTo (to t o))
  name-goes t o e None known nothing = expression-goes t o e nothing
  name-goes t o e (Some at) known nothing = called-at t o at [] known nothing

  -- a name stands for the same template by both
  same-meant : (name : List ℕ) → template_meant (scope.names name) ≡ template_of_name reading (Some name)
  same-meant name = sym (ap (λ ds. template_meant (module_names ds name)) fit.definitions ∙ fit.template_names name)

  same-named : (o : Option (List ℕ)) → template_by_name scope o ≡ template_of_name reading o
  same-named None = refl
  same-named (Some name) = same-meant name

  named-known : (o : Option (List ℕ)) → IfSome (template_by_name scope o) HasType
  named-known None = tt
  named-known (Some name) = meant-known (scope.names name) (whole.names name)

  -- ---- parts

  parts-go : (t : DataType) (o : Bool) (ps : List Held) → spec.each (map spec.template (map (λ p. p.0) ps)) scope (to t o) ≡ []
      → Meets strict (parts_of reading (Some t) (map template_wanted (map (λ p. p.0) ps))) (AllGo scope.definitions (to t o))
  parts-go t o [] nothing = refl
  parts-go t o (p ∷ ps) nothing =
      let first : List Rule = spec.template p.0 scope (to t o) in
      let others : List Rule = spec.each (map spec.template (map (λ p. p.0) ps)) scope (to t o) in
      meets-each strict (GoTo (to t o)) (AllGo scope.definitions (to t o)) (AllGo scope.definitions (to t o)) (template_wanted p.0 reading (Some t))
      (map (λ part. part reading (Some t)) (map template_wanted (map (λ p. p.0) ps)))
      (p.1 scope reading whole differ fit strict has t o (nothing-first first others nothing)) (parts-go t o ps (nothing-rest first others nothing))
      (λ q qs goes rest. true-both (template_goes q scope.definitions (to t o)) (list_all (λ (part : Goes). part scope.definitions (to t o)) (map template_goes qs)) goes rest)

  -- ---- fields

  abbrev GoToField : Field → Template → Type 0
  GoToField f = GoTo (field_target scope.definitions f)

  abbrev GoToAll : List Field → List Template → Type 0
  GoToAll fs ps = go_to_each scope.definitions fs (map template_goes ps) ≡ true

  goes-known : (judged : AtTarget) (giving : Wanted) → GoesT judged giving → (of : Option DataType) (o : Bool) → is_some of ≡ true → judged scope (record { data_type = of; optional = o }) ≡ []
      → Meets strict (giving reading of) (GoTo (record { data_type = of; optional = o }))
  goes-known judged giving goes None o known nothing = absurd (let e = known in cc)
  goes-known judged giving goes (Some t) o known nothing = goes scope reading whole differ fit strict has t o nothing

  element-goes : (judged : AtTarget) (giving : Wanted) → GoesT judged giving → (f : Field) → HasFieldType scope.definitions f → judged scope (field_target scope.definitions f) ≡ []
      → Meets strict (element reading (f, giving)) (GoToField f)
  element-goes judged giving goes f known nothing =
      subst (λ ds. Meets strict (giving reading (resolved (module_names ds) f.type_name)) (GoToField f)) (sym fit.definitions)
      (goes-known judged giving goes (resolved (module_names scope.definitions) f.type_name) f.optional known nothing)

  both-go : (f : Field) (fs : List Field) (p : Template) (ps : List Template) → GoToField f p → GoToAll fs ps → GoToAll (f ∷ fs) (p ∷ ps)
  both-go f fs p ps first rest = true-both (template_goes p scope.definitions (field_target scope.definitions f)) (go_to_each scope.definitions fs (map template_goes ps)) first rest

  each-in-order : (fs : List Field) (es : List Held) → All (HasFieldType scope.definitions) fs → AreElements scope fs (map spec.template (map (λ e. e.0) es))
      → Meets strict (each (map (element reading) (zip fs (map template_wanted (map (λ e. e.0) es))))) (GoToAll fs)
  each-in-order [] [] known are = refl
  each-in-order [] (e ∷ es) known are = absurd are
  each-in-order (f ∷ fs) [] known are = absurd are
  each-in-order (f ∷ fs) (e ∷ es) known are =
      meets-each strict (GoToField f) (GoToAll fs) (GoToAll (f ∷ fs)) (element reading (f, template_wanted e.0)) (map (element reading) (zip fs (map template_wanted (map (λ e. e.0) es))))
      (element-goes (spec.template e.0) (template_wanted e.0) e.1 f (All-head (HasFieldType scope.definitions) f fs known) are.0)
      (each-in-order fs es (All-tail (HasFieldType scope.definitions) f fs known) are.1) (both-go f fs)

  as-many : (fs : List Field) (es : List Held) → AreElements scope fs (map spec.template (map (λ e. e.0) es)) → length (map template_wanted (map (λ e. e.0) es)) ≡ length fs
  as-many [] [] are = refl
  as-many [] (e ∷ es) are = absurd are
  as-many (f ∷ fs) [] are = absurd are
  as-many (f ∷ fs) (e ∷ es) are = ap suc (as-many fs es are.1)

  abbrev OfName : List Field → Field → Type 0
  OfName fields f = field_named f.name fields ≡ Some f

  some-field : (f other : Field) → Some f ≡ Some other → f ≡ other
  some-field f other is = cc

  chosen-goes : (b : Bool) (f : Field) (e : List ℕ × Wanted) (found : Option (List ℕ × Wanted)) → (b ≡ true → Meets strict (element reading (f, e.1)) (GoToField f))
      → (b ≡ false → Meets strict (element_named reading f found) (GoToField f)) → Meets strict (element_named reading f (if b then Some e else found)) (GoToField f)
  chosen-goes true f e found here rest = here refl
  chosen-goes false f e found here rest = rest refl

  -- a name is among those of elements
  abbrev IsAmong : List HeldField → Field → Type 0
  IsAmong es f = list_any (bytes_eq f.name) (map (λ part. part.0) (map spec.field_template (map (λ e. e.0) es))) ≡ true

  among-rest : (e : HeldField) (es : List HeldField) (f : Field) → IsAmong (e ∷ es) f → bytes_eq (field_template e.0).0 f.name ≡ false → IsAmong es f
  among-rest e es f there other =
      or-right (bytes_eq f.name (spec.field_template e.0).0) (list_any (bytes_eq f.name) (map (λ part. part.0) (map spec.field_template (map (λ e. e.0) es))))
      (ap (bytes_eq f.name) (same-name e.0) ∙ bytes-other f.name (field_template e.0).0 other) there

  named-goes : (fields : List Field) (before : List (List ℕ)) (es : List HeldField) (f : Field) → HasFieldType scope.definitions f → OfName fields f → IsAmong es f
      → AreNamedElements scope fields before (map spec.field_template (map (λ e. e.0) es))
      → Meets strict (element_named reading f (find (λ e. bytes_eq e.0 f.name) (map field_template (map (λ e. e.0) es)))) (GoToField f)
  named-goes fields before [] f known own there are = absurd (let e = there in cc)
  named-goes fields before (e ∷ es) f known own there are =
      chosen-goes (bytes_eq (field_template e.0).0 f.name) f (field_template e.0) (find (λ e. bytes_eq e.0 f.name) (map field_template (map (λ e. e.0) es)))
      (λ same. let goes = are.0 in
      let name : (spec.field_template e.0).0 ≡ f.name = same-name e.0 ∙ (bytes_decides (field_template e.0).0 f.name).0 same in
      let is : goes.field ≡ f = some-field goes.field f (sym goes.has_name ∙ ap (λ n. field_named n fields) name ∙ own) in
      element-goes (spec.field_template e.0).1 (field_template e.0).1 e.1 f known (subst (λ g. (spec.field_template e.0).1 scope (field_target scope.definitions g) ≡ []) is goes.fits))
      (λ other. named-goes fields (before ++ (spec.field_template e.0).0 ∷ []) es f known own (among-rest e es f there other) are.1)

  abbrev AllAmong : List HeldField → List Field → Type 0
  AllAmong es fs = list_all (λ field. list_any (bytes_eq field.name) (map (λ part. part.0) (map spec.field_template (map (λ e. e.0) es)))) fs ≡ true

  each-by-name : (fields : List Field) (fs : List Field) (es : List HeldField) → All (HasFieldType scope.definitions) fs → All (OfName fields) fs → AllAmong es fs
      → AreNamedElements scope fields [] (map spec.field_template (map (λ e. e.0) es))
      → Meets strict (each (map (λ f. element_named reading f (find (λ e. bytes_eq e.0 f.name) (map field_template (map (λ e. e.0) es)))) fs)) (GoToAll fs)
  each-by-name fields [] es known own there are = refl
  each-by-name fields (f ∷ fs) es known own there are =
      let names : List (List ℕ) = map (λ part. part.0) (map spec.field_template (map (λ e. e.0) es)) in
      let p = and_parts (list_any (bytes_eq f.name) names) (list_all (λ field. list_any (bytes_eq field.name) names) fs) there in
      meets-each strict (GoToField f) (GoToAll fs) (GoToAll (f ∷ fs)) (element_named reading f (find (λ e. bytes_eq e.0 f.name) (map field_template (map (λ e. e.0) es))))
      (map (λ f. element_named reading f (find (λ e. bytes_eq e.0 f.name) (map field_template (map (λ e. e.0) es)))) fs)
      (named-goes fields [] es f (All-head (HasFieldType scope.definitions) f fs known) (All-head (OfName fields) f fs own) p.0 are)
      (each-by-name fields fs es (All-tail (HasFieldType scope.definitions) f fs known) (All-tail (OfName fields) f fs own) p.1 are) (both-go f fs)

  listed-goes : (at : ℕ) (o : Bool) (es : List Held) → AreElements scope (fields_at scope.definitions at) (map spec.template (map (λ e. e.0) es))
      → Meets strict (outcome_map (λ ps. plain (pattern.Record at ps)) (in_order reading (fields_at reading.definitions at) (map template_wanted (map (λ e. e.0) es)))) (GoTo (to (type.Record at) o))
  listed-goes at o es are =
      let elements : List Wanted = map template_wanted (map (λ e. e.0) es) in
      let fields : List Field = fields_at scope.definitions at in
      meets-mapped strict (GoToAll fields) (GoTo (to (type.Record at) o)) (λ ps. plain (pattern.Record at ps)) (in_order reading (fields_at reading.definitions at) elements)
      (subst (λ ds. Meets strict (in_order reading (fields_at ds at) elements) (GoToAll fields)) (sym fit.definitions)
      (meets-chosen strict (GoToAll fields) (nat_eq (length elements) (length fields)) (each (map (element reading) (zip fields elements))) (eq-eqb (length elements) (length fields) (as-many fields es are)) (each-in-order fields es (whole.fields at) are)))
      (record-goes scope.definitions at o)

  assigned-goes : (at : ℕ) (o : Bool) (es : List HeldField) → AllAmong es (fields_at scope.definitions at) → AreNamedElements scope (fields_at scope.definitions at) [] (map spec.field_template (map (λ e. e.0) es))
      → Meets strict (outcome_map (λ ps. plain (pattern.Record at ps)) (by_name reading (fields_at reading.definitions at) (map field_template (map (λ e. e.0) es)))) (GoTo (to (type.Record at) o))
  assigned-goes at o es there are =
      let elements : List (List ℕ × Wanted) = map field_template (map (λ e. e.0) es) in
      let fields : List Field = fields_at scope.definitions at in
      meets-mapped strict (GoToAll fields) (GoTo (to (type.Record at) o)) (λ ps. plain (pattern.Record at ps)) (by_name reading (fields_at reading.definitions at) elements)
      (subst (λ ds. Meets strict (by_name reading (fields_at ds at) elements) (GoToAll fields)) (sym fit.definitions) (each-by-name fields fields es (whole.fields at) (differ at) there are))
      (record-goes scope.definitions at o)

  -- ---- ranges

  number-given : (o : Option ℤ) → is_some o ≡ true → Meets strict (outcome_map Some (or_unmet o)) Any
  number-given (Some n) there = tt
  number-given None there = absurd (let e = there in cc)

  bound-given : (b : Bound) → spec.check_bound scope b ≡ [] → Meets strict (value_of_bound reading b) Any
  bound-given (bound.Expr e) nothing =
      meets-then strict (λ v. value_goes v scope.definitions (target_of (Some type.Integer)) ≡ true) Any (λ v. outcome_map Some (or_unmet (integer v))) (value_of e reading)
      (wanted-meets scope reading whole fit strict (all-if strict scope reading has) type.Integer false e nothing) (λ v goes. number-given (integer v) (integer-there scope.definitions v goes))
  bound-given bound.Infinity nothing = tt

  range-given : (t : DataType) (o : Bool) (low high : Bound) → wants type.Integer (Some t) ≡ true → spec.check_bound scope low ≡ [] → spec.check_bound scope high ≡ [] → Meets strict (template_of_range reading low high) (GoTo (to t o))
  range-given t o low high is low_fine high_fine =
      meets-then strict Any (GoTo (to t o)) (λ l. outcome_map (λ h. plain (pattern.Range l h)) (value_of_bound reading high)) (value_of_bound reading low) (bound-given low low_fine)
      (λ l any. meets-mapped strict Any (GoTo (to t o)) (λ h. plain (pattern.Range l h)) (value_of_bound reading high) (bound-given high high_fine) (λ h any. range-goes scope.definitions (to t o) l h is))

-- ---- templates

abbrev LevelBody : TemplateBody-F TemplateBody FieldTemplate tree.Template → Type 0
LevelBody x = GoesT (spec.body_step (map-TemplateBody TemplateBody FieldTemplate tree.Template AtTarget (List ℕ × AtTarget) AtTarget spec.body spec.field_template spec.template x))
    (body_step (map-TemplateBody TemplateBody FieldTemplate tree.Template Wanted (List ℕ × Wanted) Wanted body_wanted field_template template_wanted x))

listed-held : (es : List Held) (scope : Scope) (reading : Reading) → IsWhole scope → FieldsDiffer scope.definitions → FitsIn scope reading → (strict : Bool) → TemplatesIf strict scope reading → (t : DataType) (o : Bool)
    → spec.body_step (TemplateBody-F.Listed (map spec.template (map (λ e. e.0) es))) scope (record { data_type = Some t; optional = o }) ≡ []
    → Meets strict (body_step (TemplateBody-F.Listed (map template_wanted (map (λ e. e.0) es))) reading (Some t)) (λ p. template_goes p scope.definitions (record { data_type = Some t; optional = o }) ≡ true)
listed-held es scope reading whole differ fit strict has (type.Record at) o nothing =
    let elements : List AtTarget = map spec.template (map (λ e. e.0) es) in
    let fields : List Field = fields_at scope.definitions at in
    let full : List Rule = unless (nat_eq (length elements) (length fields)) rule.Fields in
    let parts : List Rule = checked.in_order (Some fields) elements scope in
    listed-goes scope reading whole differ fit strict has at o es
    (are-elements scope fields elements (same-number (length elements) (length fields) (kept (nat_eq (length elements) (length fields)) rule.Fields (nothing-first full parts nothing)))
    (nothing-rest full parts nothing))
listed-held es scope reading whole differ fit strict has type.Integer o nothing = absurd (let e = nothing in cc)
listed-held es scope reading whole differ fit strict has type.Boolean o nothing = absurd (let e = nothing in cc)
listed-held es scope reading whole differ fit strict has type.Default o nothing = absurd (let e = nothing in cc)
listed-held es scope reading whole differ fit strict has (type.Enumerated at) o nothing = absurd (let e = nothing in cc)
listed-held es scope reading whole differ fit strict has (type.Component at) o nothing = absurd (let e = nothing in cc)

assigned-held : (es : List HeldField) (scope : Scope) (reading : Reading) → IsWhole scope → FieldsDiffer scope.definitions → FitsIn scope reading → (strict : Bool) → TemplatesIf strict scope reading → (t : DataType) (o : Bool)
    → spec.body_step (TemplateBody-F.Assigned (map spec.field_template (map (λ e. e.0) es))) scope (record { data_type = Some t; optional = o }) ≡ []
    → Meets strict (body_step (TemplateBody-F.Assigned (map field_template (map (λ e. e.0) es))) reading (Some t)) (λ p. template_goes p scope.definitions (record { data_type = Some t; optional = o }) ≡ true)
assigned-held es scope reading whole differ fit strict has (type.Record at) o nothing =
    let elements : List (List ℕ × AtTarget) = map spec.field_template (map (λ e. e.0) es) in
    let fields : List Field = fields_at scope.definitions at in
    let all : List Rule = unless (spec.has_all (Some fields) (map (λ part. part.0) elements)) rule.Fields in
    assigned-goes scope reading whole differ fit strict has at o es
    (kept (spec.has_all (Some fields) (map (λ part. part.0) elements)) rule.Fields (nothing-first all (checked.by_name (Some fields) [] elements scope) nothing))
    (are-named scope fields [] elements (nothing-rest all (checked.by_name (Some fields) [] elements scope) nothing))
assigned-held es scope reading whole differ fit strict has type.Integer o nothing = absurd (let e = nothing in cc)
assigned-held es scope reading whole differ fit strict has type.Boolean o nothing = absurd (let e = nothing in cc)
assigned-held es scope reading whole differ fit strict has type.Default o nothing = absurd (let e = nothing in cc)
assigned-held es scope reading whole differ fit strict has (type.Enumerated at) o nothing = absurd (let e = nothing in cc)
assigned-held es scope reading whole differ fit strict has (type.Component at) o nothing = absurd (let e = nothing in cc)

body-held : (y : TemplateBody-F HeldBody HeldField Held) → LevelBody (map-TemplateBody HeldBody HeldField Held TemplateBody FieldTemplate tree.Template (λ b. b.0) (λ f. f.0) (λ t. t.0) y)
body-held TemplateBody-F.Any = λ scope reading whole differ fit strict has t o nothing. any-goes scope.definitions (record { data_type = Some t; optional = o })
body-held TemplateBody-F.AnyOrOmit = λ scope reading whole differ fit strict has t o nothing. any-or-omit-goes scope.definitions (record { data_type = Some t; optional = o }) (kept o rule.Fields nothing)
body-held TemplateBody-F.Omit = λ scope reading whole differ fit strict has t o nothing. omit-goes scope.definitions (record { data_type = Some t; optional = o }) (kept o rule.Fields nothing)
body-held (TemplateBody-F.Complement parts) = λ scope reading whole differ fit strict has t o nothing.
    meets-mapped strict (AllGo scope.definitions (record { data_type = Some t; optional = o })) (λ p. template_goes p scope.definitions (record { data_type = Some t; optional = o }) ≡ true) (λ ps. plain (pattern.Complement ps))
    (parts_of reading (Some t) (map template_wanted (map (λ p. p.0) parts))) (parts-go scope reading whole differ fit strict has t o parts nothing)
    (complement-goes scope.definitions (record { data_type = Some t; optional = o }))
body-held (TemplateBody-F.List parts) = λ scope reading whole differ fit strict has t o nothing.
    meets-mapped strict (AllGo scope.definitions (record { data_type = Some t; optional = o })) (λ p. template_goes p scope.definitions (record { data_type = Some t; optional = o }) ≡ true) (λ ps. plain (pattern.List ps))
    (parts_of reading (Some t) (map template_wanted (map (λ p. p.0) parts))) (parts-go scope reading whole differ fit strict has t o parts nothing)
    (list-goes scope.definitions (record { data_type = Some t; optional = o }))
body-held (TemplateBody-F.Range low high) = λ scope reading whole differ fit strict has t o nothing.
    let wanted : List Rule = unless (goes_to t (typing.Known type.Integer)) rule.ValueType in
    range-given scope reading whole differ fit strict has t o low high
    (kept (goes_to t (typing.Known type.Integer)) rule.ValueType (nothing-first wanted (spec.check_bound scope low) (nothing-first (wanted ++ spec.check_bound scope low) (spec.check_bound scope high) nothing)))
    (nothing-rest wanted (spec.check_bound scope low) (nothing-first (wanted ++ spec.check_bound scope low) (spec.check_bound scope high) nothing))
    (nothing-rest (wanted ++ spec.check_bound scope low) (spec.check_bound scope high) nothing)
body-held (TemplateBody-F.Call call) = λ scope reading whole differ fit strict has t o nothing.
    subst (λ m. Meets strict (template_called reading m call.arguments) (λ p. template_goes p scope.definitions (record { data_type = Some t; optional = o }) ≡ true)) (same-meant scope reading whole differ fit strict has call.name)
    (called-goes scope reading whole differ fit strict has t o (template_meant (scope.names call.name)) call.arguments (meant-known scope reading whole differ fit strict has (scope.names call.name) (whole.names call.name)) nothing)
body-held (TemplateBody-F.Expr e) = λ scope reading whole differ fit strict has t o nothing.
    subst (λ m. Meets strict (given.template_of_expression reading e m) (λ p. template_goes p scope.definitions (record { data_type = Some t; optional = o }) ≡ true)) (same-named scope reading whole differ fit strict has (bare_name (out-Expr e)))
    (name-goes scope reading whole differ fit strict has t o e (template_by_name scope (bare_name (out-Expr e))) (named-known scope reading whole differ fit strict has (bare_name (out-Expr e))) nothing)
body-held (TemplateBody-F.Listed parts) = listed-held parts
body-held (TemplateBody-F.Assigned parts) = assigned-held parts

abbrev LevelField : FieldTemplate-F TemplateBody FieldTemplate tree.Template → Type 0
LevelField x = GoesT (spec.field_template_step (map-FieldTemplate TemplateBody FieldTemplate tree.Template AtTarget (List ℕ × AtTarget) AtTarget spec.body spec.field_template spec.template x)).1
    (field_template_step (map-FieldTemplate TemplateBody FieldTemplate tree.Template Wanted (List ℕ × Wanted) Wanted body_wanted field_template template_wanted x)).1

field-held : (y : FieldTemplate-F HeldBody HeldField Held) → LevelField (map-FieldTemplate HeldBody HeldField Held TemplateBody FieldTemplate tree.Template (λ b. b.0) (λ f. f.0) (λ t. t.0) y)
field-held y = y.template.1

abbrev LevelTemplate : Template-F TemplateBody FieldTemplate tree.Template → Type 0
LevelTemplate x = GoesT (spec.template_step (map-Template TemplateBody FieldTemplate tree.Template AtTarget (List ℕ × AtTarget) AtTarget spec.body spec.field_template spec.template x))
    (template_step (map-Template TemplateBody FieldTemplate tree.Template Wanted (List ℕ × Wanted) Wanted body_wanted field_template template_wanted x))

template-held : (y : Template-F HeldBody HeldField Held) → LevelTemplate (map-Template HeldBody HeldField Held TemplateBody FieldTemplate tree.Template (λ b. b.0) (λ f. f.0) (λ t. t.0) y)
template-held y scope reading whole differ fit strict has t o nothing =
    let body : List Rule = spec.body y.body.0 scope (record { data_type = Some t; optional = o }) in
    let may : List Rule = unless (not y.ifpresent || o) rule.Fields in
    meets-mapped strict (λ p. template_goes p scope.definitions (record { data_type = Some t; optional = o }) ≡ true) (λ p. template_goes p scope.definitions (record { data_type = Some t; optional = o }) ≡ true)
    (with_ifpresent y.ifpresent) (body_wanted y.body.0 reading (Some t)) (y.body.1 scope reading whole differ fit strict has t o (nothing-first body may nothing))
    (λ p goes. ifpresent-goes y.ifpresent p scope.definitions (record { data_type = Some t; optional = o }) goes (kept (not y.ifpresent || o) rule.Fields (nothing-rest body may nothing)))

-- what breaks no rule where a template of a type is wanted gives one that goes there
pub template-typed : (t : tree.Template) → GoesT (spec.template t) (template_wanted t)
template-typed = ind-Template (λ b. GoesT (spec.body b) (body_wanted b)) (λ f. GoesT (spec.field_template f).1 (field_template f).1) (λ t. GoesT (spec.template t) (template_wanted t)) (λ x y is.
    subst (λ j. GoesT j (body_wanted (roll-TemplateBody x))) (sym (fold-roll-TemplateBody AtTarget (List ℕ × AtTarget) AtTarget spec.body_step spec.field_template_step spec.template_step x))
    (subst (λ g. GoesT (spec.body_step (map-TemplateBody TemplateBody FieldTemplate tree.Template AtTarget (List ℕ × AtTarget) AtTarget spec.body spec.field_template spec.template x)) g)
    (sym (fold-roll-TemplateBody Wanted (List ℕ × Wanted) Wanted body_step field_template_step template_step x))
    (subst LevelBody is (body-held y)))) (λ x y is.
    subst (λ (j : List ℕ × AtTarget). GoesT j.1 (field_template (roll-FieldTemplate x)).1) (sym (fold-roll-FieldTemplate AtTarget (List ℕ × AtTarget) AtTarget spec.body_step spec.field_template_step spec.template_step x))
    (subst (λ (g : List ℕ × Wanted). GoesT (spec.field_template_step (map-FieldTemplate TemplateBody FieldTemplate tree.Template AtTarget (List ℕ × AtTarget) AtTarget spec.body spec.field_template spec.template x)).1 g.1)
    (sym (fold-roll-FieldTemplate Wanted (List ℕ × Wanted) Wanted body_step field_template_step template_step x))
    (subst LevelField is (field-held y)))) (λ x y is.
    subst (λ j. GoesT j (template_wanted (tree.roll-Template x))) (sym (fold-roll-Template AtTarget (List ℕ × AtTarget) AtTarget spec.body_step spec.field_template_step spec.template_step x))
    (subst (λ g. GoesT (spec.template_step (map-Template TemplateBody FieldTemplate tree.Template AtTarget (List ℕ × AtTarget) AtTarget spec.body spec.field_template spec.template x)) g)
    (sym (fold-roll-Template Wanted (List ℕ × Wanted) Wanted body_step field_template_step template_step x))
    (subst LevelTemplate is (template-held y))))

pub templates_typed : (t : tree.Template) (scope : Scope) (reading : Reading) → IsWhole scope → FieldsDiffer scope.definitions → FitsIn scope reading → (of : DataType) (o : Bool)
    → spec.template t scope (record { data_type = Some of; optional = o }) ≡ []
    → IfYields (template_wanted t reading (Some of)) (λ p. template_goes p scope.definitions (record { data_type = Some of; optional = o }) ≡ true)
templates_typed t scope reading whole differ fit of o nothing =
    yields-of (λ p. template_goes p scope.definitions (record { data_type = Some of; optional = o }) ≡ true) (template_wanted t reading (Some of)) (template-typed t scope reading whole differ fit false tt of o nothing)

-- it is one or a dynamic error, where the reading has all
pub templates_met : (t : tree.Template) (scope : Scope) (reading : Reading) → IsWhole scope → FieldsDiffer scope.definitions → ParametersKnown scope.definitions → FitsIn scope reading → HasAll scope reading
    → (of : DataType) (o : Bool) → spec.template t scope (record { data_type = Some of; optional = o }) ≡ [] → IsMet (template_wanted t reading (Some of))
templates_met t scope reading whole differ known fit all of o nothing =
    met-of (λ p. template_goes p scope.definitions (record { data_type = Some of; optional = o }) ≡ true) (template_wanted t reading (Some of)) (template-typed t scope reading whole differ fit true (all, known) of o nothing)

-- arguments that break no rule give values of the parameters' types
pub arguments_typed : (scope : Scope) (reading : Reading) → IsWhole scope → FieldsDiffer scope.definitions → FitsIn scope reading → (ps : List Parameter) (vs : List written.Value) → AreArguments scope ps vs
    → IfYields (arguments reading ps vs) (AreGiven scope.definitions ps)
arguments_typed scope reading whole differ fit ps vs are =
    yields-of (AreGiven scope.definitions ps) (arguments reading ps vs) (arguments-meet scope reading whole differ fit false tt ps vs (λ is. absurd (let e = is in cc)) are)

-- or a dynamic error, where the types of the parameters are known
pub arguments_met : (scope : Scope) (reading : Reading) → IsWhole scope → FieldsDiffer scope.definitions → ParametersKnown scope.definitions → FitsIn scope reading → HasAll scope reading
    → (ps : List Parameter) (vs : List written.Value) → All (HasParameterType scope.definitions) ps → AreArguments scope ps vs → IsMet (arguments reading ps vs)
arguments_met scope reading whole differ known fit all ps vs typed are =
    met-of (AreGiven scope.definitions ps) (arguments reading ps vs) (arguments-meet scope reading whole differ fit true (all, known) ps vs (λ is. typed) are)
