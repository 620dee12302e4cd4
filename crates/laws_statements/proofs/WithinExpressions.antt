-- Expressions, values and templates that break no rule break none where further names are visible.
use Rattle.std.proofs.Common.{◌≡◌, ℕ, Bool, true, false, not, ◌&&◌, List, [], ◌∷◌, ◌++◌, map, length, bytes_eq, nat_eq, Option, Some, None, is_some, IfSome, if◌then◌else◌, refl, sym, ap, subst, ◌∙◌}
use Rattle.std.specs.List.{list_any}
use Rattle.ttcn_syntax.specs.declared.operator.Operator.{Operator}
use Rattle.ttcn_syntax.specs.declared.tree.definition.Definition.{Definition}
use Rattle.ttcn_syntax.specs.declared.tree.definition.Field.{Field}
use Rattle.ttcn_syntax.specs.declared.tree.definition.Parameter.{Parameter}
use Rattle.ttcn_syntax.specs.declared.tree.expression.ComponentRef.{ComponentRef}
use Rattle.ttcn_syntax.specs.declared.tree.expression.ComponentRef.TheVariants as component
use Rattle.ttcn_syntax.specs.declared.tree.expression.Expr.{Expr}
use Rattle.ttcn_syntax.specs.declared.tree.expression.Expr.TheFolds.{fold-roll-Expr, fold-roll-Link, ind-Expr, map-Expr, map-Link}
use Rattle.ttcn_syntax.specs.declared.tree.expression.Expr.TheOpen.{Expr-F, Link-F}
use Rattle.ttcn_syntax.specs.declared.tree.expression.Link.{Link}
use Rattle.ttcn_syntax.specs.declared.tree.expression.Reference.{Reference}
use Rattle.ttcn_syntax.specs.declared.tree.value.FieldValue.{FieldValue}
use Rattle.ttcn_syntax.specs.declared.tree.value.Value.{Value}
use Rattle.ttcn_syntax.specs.declared.tree.value.Value.TheFolds.{fold-roll-FieldValue, fold-roll-Value, ind-Value, map-FieldValue, map-Value}
use Rattle.ttcn_syntax.specs.declared.tree.value.Value.TheOpen.{FieldValue-F, Value-F}
use Rattle.check_rules.specs.Calls.{arguments, check_arguments, next_parameters, parameter_target}
use Rattle.check_rules.specs.Expressions.{Judge, Judgement, after, along, between, check_component, check_meaning, check_reference, check_running, check_wanted_component, demand, expression, expression_step, fine, is_timer, join_link, join_links, link, link_step, names_field, of_type, operand, runs}
use Rattle.check_rules.specs.Values.{AtTarget, by_name, check_expression, field_value, field_value_step, first_target, in_order, is_field, is_full, next_fields, takes_braces, target_named, value, value_step, wanted_fields}
use Rattle.check_scope.specs.Names.{Names, Scope}
use Rattle.check_scope.specs.Typings.{compares, fits, refers_to_component, unless}
use Rattle.check_scope.specs.declared.names.Meaning.{Meaning}
use Rattle.check_scope.specs.declared.rule.Rule.{Rule}
use Rattle.check_scope.specs.declared.rule.Rule.TheVariants as rule
use Rattle.check_scope.specs.declared.types.DataType.{DataType}
use Rattle.check_scope.specs.declared.types.DataType.TheVariants as type
use Rattle.check_scope.specs.declared.types.Target.{Target}
use Rattle.check_scope.specs.declared.types.Typing.TheVariants as typing
use Rattle.laws_checker.proofs.Descent.{name_resolves}
use Rattle.laws_checker.proofs.Nothing.{nothing-first, nothing-rest}
use Rattle.laws_checker.proofs.Whole.{naming}

-- ---- lists of rules

pub none-append : (xs ys : List Rule) → xs ≡ [] → ys ≡ [] → xs ++ ys ≡ []
none-append [] ys none others = others
none-append (x ∷ xs) ys none others = absurd (let e = none in cc)

-- what is fine part by part
pub part-by-part : (xs ys others more : List Rule) → (xs ≡ [] → others ≡ []) → (ys ≡ [] → more ≡ []) → xs ++ ys ≡ [] → others ++ more ≡ []
part-by-part xs ys others more first rest nothing = none-append others more (first (nothing-first xs ys nothing)) (rest (nothing-rest xs ys nothing))

-- ---- judgements by what a name means

abbrev pub reference_meant : List Definition → List (List ℕ) → Option Meaning → Judgement
reference_meant definitions fields m =
    after (check_meaning definitions m).broken (along definitions (check_meaning definitions m).typing fields)

abbrev running_meant : List Definition → List (List ℕ) → Option Meaning → Judgement
running_meant definitions fields m =
    if is_timer fields m then fine (typing.Known type.Boolean)
    else (after (reference_meant definitions fields m).broken (runs (reference_meant definitions fields m).typing))

running-visible : (definitions : List Definition) (fields : List (List ℕ)) (m : Option Meaning) → (running_meant definitions fields m).broken ≡ [] → is_some m ≡ true
running-visible definitions fields (Some m) nothing = refl
running-visible definitions [] None nothing = absurd (let e = nothing in cc)
running-visible definitions (f ∷ fields) None nothing = absurd (let e = nothing in cc)

abbrev joined : Operator → Judgement → Judgement → Judgement
joined op left right = after left.broken (after right.broken (between op left.typing right.typing))

module _ (h : Scope) (names : Names) (within : (name : List ℕ) → IfSome (h.names name) (λ m. names name ≡ Some m)) where
  abbrev g : Scope
  g = naming h names

  seen : (name : List ℕ) (o : Option Meaning) → IfSome o (λ m. names name ≡ Some m) → is_some o ≡ true → names name ≡ o
  seen name (Some m) is there = is
  seen name None is there = absurd (let e = there in cc)

  -- a name that is visible stands for the same
  pub same : (name : List ℕ) → is_some (h.names name) ≡ true → names name ≡ h.names name
  same name there = seen name (h.names name) (within name) there

  -- ---- references

  pub reference-same : (r : Reference) → (check_reference h r).broken ≡ [] → check_reference g r ≡ check_reference h r
  reference-same r nothing = ap (reference_meant h.definitions r.fields) (same r.name (name_resolves h r nothing))

  pub component-same : (c : ComponentRef) (free : Bool) → (check_component h c free).broken ≡ [] → check_component g c free ≡ check_component h c free
  component-same component.Itself free nothing = refl
  component-same component.Mtc free nothing = refl
  component-same (component.Named r) free nothing = reference-same r nothing

  pub wanted-same : (c : ComponentRef) → (check_wanted_component h c).broken ≡ [] → check_wanted_component g c ≡ check_wanted_component h c
  wanted-same c nothing =
      let found : Judgement = check_component h c true in
      ap (λ (j : Judgement). after j.broken (record { typing = j.typing; broken = unless (refers_to_component j.typing) rule.UnknownName }))
      (component-same c true (nothing-first found.broken (unless (refers_to_component found.typing) rule.UnknownName) nothing))

  running-same : (c : ComponentRef) → (check_running h c).broken ≡ [] → check_running g c ≡ check_running h c
  running-same component.Itself nothing = refl
  running-same component.Mtc nothing = refl
  running-same (component.Named r) nothing =
      ap (running_meant h.definitions r.fields) (same r.name (running-visible h.definitions r.fields (h.names r.name) nothing))

  -- ---- expressions

  abbrev KeepsJudge : Judge → Type 0
  KeepsJudge j = (free : Bool) → (j h free).broken ≡ [] → j g free ≡ j h free

  abbrev HeldExpr : Type 0
  HeldExpr = (e : Expr) × KeepsJudge (expression e)

  abbrev HeldLink : Type 0
  HeldLink = (l : Link) × KeepsJudge (link l).1

  join_link-keeps : (op : Operator) (left right : Judge) → KeepsJudge left → KeepsJudge right → KeepsJudge (join_link op left right)
  join_link-keeps op left right left_keeps right_keeps free nothing =
      let l : Judgement = left h (compares op) in
      let r : Judgement = right h (compares op) in
      let b : Judgement = between op l.typing r.typing in
      ap (λ (x : Judgement). joined op x (right g (compares op))) (left_keeps (compares op) (nothing-first l.broken (r.broken ++ b.broken) nothing))
      ∙ ap (λ (y : Judgement). joined op l y) (right_keeps (compares op) (nothing-first r.broken b.broken (nothing-rest l.broken (r.broken ++ b.broken) nothing)))

  join_links-keeps : (first : Judge) (links : List HeldLink) → KeepsJudge first → KeepsJudge (join_links first (map link (map (λ l. l.0) links)))
  join_links-keeps first [] keeps = keeps
  join_links-keeps first (l ∷ links) keeps = join_links-keeps (join_link (link l.0).0 first (link l.0).1) links (join_link-keeps (link l.0).0 first (link l.0).1 keeps l.1)

  operand-same : (t : DataType) (e : HeldExpr) → (operand t (expression e.0 h false)).broken ≡ [] → operand t (expression e.0 g false) ≡ operand t (expression e.0 h false)
  operand-same t e nothing =
      let j : Judgement = expression e.0 h false in
      ap (operand t) (e.1 false (nothing-first j.broken (of_type t j.typing).broken nothing))

  abbrev LevelExpr : Expr-F Expr Link → Type 0
  LevelExpr x = KeepsJudge (expression_step (map-Expr Expr Link Judge (Operator × Judge) expression link x))

  expr-held : (y : Expr-F HeldExpr HeldLink) → LevelExpr (map-Expr HeldExpr HeldLink Expr Link (λ e. e.0) (λ l. l.0) y)
  expr-held (Expr-F.Int n) = λ free nothing. refl
  expr-held (Expr-F.Bool b) = λ free nothing. refl
  expr-held Expr-F.Null = λ free nothing. refl
  expr-held (Expr-F.Reference c) = λ free nothing. component-same c free nothing
  expr-held (Expr-F.Running c) = λ free nothing. running-same c nothing
  expr-held (Expr-F.Ispresent r) = λ free nothing.
      ap (λ (j : Judgement). after j.broken (demand (names_field r.fields) rule.Fields type.Boolean))
      (reference-same r (nothing-first (check_reference h r).broken (unless (names_field r.fields) rule.Fields) nothing))
  expr-held (Expr-F.Not e) = λ free nothing. operand-same type.Boolean e nothing
  expr-held (Expr-F.Signed sign e) = λ free nothing. operand-same type.Integer e nothing
  expr-held (Expr-F.Chain first links) = join_links-keeps (expression first.0) links first.1

  abbrev LevelLink : Link-F Expr Link → Type 0
  LevelLink x = KeepsJudge (link_step (map-Link Expr Link Judge (Operator × Judge) expression link x)).1

  link-held : (y : Link-F HeldExpr HeldLink) → LevelLink (map-Link HeldExpr HeldLink Expr Link (λ e. e.0) (λ l. l.0) y)
  link-held y = y.operand.1

  pub expression-same : (e : Expr) → KeepsJudge (expression e)
  expression-same = ind-Expr (λ e. KeepsJudge (expression e)) (λ l. KeepsJudge (link l).1) (λ x y is.
      subst KeepsJudge (sym (fold-roll-Expr Judge (Operator × Judge) expression_step link_step x)) (subst LevelExpr is (expr-held y))) (λ x y is.
      subst (λ (l : Operator × Judge). KeepsJudge l.1) (sym (fold-roll-Link Judge (Operator × Judge) expression_step link_step x)) (subst LevelLink is (link-held y)))

  -- ---- values

  pub wanted-expression-fine : (of : Option DataType) (e : Expr) → check_expression h of e ≡ [] → check_expression g of e ≡ []
  wanted-expression-fine of e nothing =
      let j : Judgement = expression e h false in
      ap (λ (j : Judgement). j.broken ++ unless (fits of j.typing) rule.ValueType)
      (expression-same e false (nothing-first j.broken (unless (fits of j.typing) rule.ValueType) nothing)) ∙ nothing

  abbrev pub KeepsAt : AtTarget → Type 0
  KeepsAt f = (target : Target) → f h target ≡ [] → f g target ≡ []

  pub in-order-fine : {A : Type 0} (f : A → AtTarget) (fields : Option (List Field)) (es : List ((a : A) × KeepsAt (f a)))
      → in_order fields (map f (map (λ e. e.0) es)) h ≡ [] → in_order fields (map f (map (λ e. e.0) es)) g ≡ []
  in-order-fine f fields [] nothing = refl
  in-order-fine f fields (e ∷ es) nothing =
      let target = first_target h.definitions fields in
      let rest = λ (s : Scope). in_order (next_fields fields) (map f (map (λ e. e.0) es)) s in
      part-by-part (f e.0 h target) (rest h) (f e.0 g target) (rest g) (e.1 target) (in-order-fine f (next_fields fields) es) nothing

  pub by-name-fine : {A : Type 0} (f : A → List ℕ × AtTarget) (fields : Option (List Field)) (before : List (List ℕ)) (es : List ((a : A) × KeepsAt (f a).1))
      → by_name fields before (map f (map (λ e. e.0) es)) h ≡ [] → by_name fields before (map f (map (λ e. e.0) es)) g ≡ []
  by-name-fine f fields before [] nothing = refl
  by-name-fine f fields before (e ∷ es) nothing =
      let name : List ℕ = (f e.0).0 in
      let named : List Rule = unless (is_field fields name && not (list_any (bytes_eq name) before)) rule.Fields in
      let target = target_named h.definitions fields name in
      let rest = λ (s : Scope). by_name fields (before ++ name ∷ []) (map f (map (λ e. e.0) es)) s in
      part-by-part (named ++ (f e.0).1 h target) (rest h) (named ++ (f e.0).1 g target) (rest g)
      (λ nothing. part-by-part named ((f e.0).1 h target) named ((f e.0).1 g target) (λ none. none) (e.1 target) nothing)
      (by-name-fine f fields (before ++ name ∷ []) es) nothing

  abbrev HeldValue : Type 0
  HeldValue = (v : Value) × KeepsAt (value v)

  abbrev HeldField : Type 0
  HeldField = (f : FieldValue) × KeepsAt (field_value f).1

  abbrev LevelValue : Value-F Value FieldValue → Type 0
  LevelValue x = KeepsAt (value_step (map-Value Value FieldValue AtTarget (List ℕ × AtTarget) value field_value x))

  value-held : (y : Value-F HeldValue HeldField) → LevelValue (map-Value HeldValue HeldField Value FieldValue (λ v. v.0) (λ f. f.0) y)
  value-held (Value-F.Expr e) = λ target nothing. wanted-expression-fine target.data_type e nothing
  value-held Value-F.Omit = λ target nothing. nothing
  value-held (Value-F.Listed es) = λ target nothing.
      let elements : List AtTarget = map value (map (λ (v : HeldValue). v.0) es) in
      let fields = wanted_fields h.definitions target.data_type in
      let front : List Rule = unless (takes_braces target.data_type) rule.ValueType ++ unless (is_full fields (length elements)) rule.Fields in
      part-by-part front (in_order fields elements h) front (in_order fields elements g) (λ none. none) (in-order-fine value fields es) nothing
  value-held (Value-F.Assigned es) = λ target nothing.
      let elements : List (List ℕ × AtTarget) = map field_value (map (λ (f : HeldField). f.0) es) in
      let fields = wanted_fields h.definitions target.data_type in
      let front : List Rule = unless (takes_braces target.data_type) rule.ValueType in
      part-by-part front (by_name fields [] elements h) front (by_name fields [] elements g) (λ none. none) (by-name-fine field_value fields [] es) nothing

  abbrev LevelField : FieldValue-F Value FieldValue → Type 0
  LevelField x = KeepsAt (field_value_step (map-FieldValue Value FieldValue AtTarget (List ℕ × AtTarget) value field_value x)).1

  field-held : (y : FieldValue-F HeldValue HeldField) → LevelField (map-FieldValue HeldValue HeldField Value FieldValue (λ v. v.0) (λ f. f.0) y)
  field-held y = y.value.1

  pub value-fine : (v : Value) → KeepsAt (value v)
  value-fine = ind-Value (λ v. KeepsAt (value v)) (λ f. KeepsAt (field_value f).1) (λ x y is.
      subst KeepsAt (sym (fold-roll-Value AtTarget (List ℕ × AtTarget) value_step field_value_step x)) (subst LevelValue is (value-held y))) (λ x y is.
      subst (λ (f : List ℕ × AtTarget). KeepsAt f.1) (sym (fold-roll-FieldValue AtTarget (List ℕ × AtTarget) value_step field_value_step x)) (subst LevelField is (field-held y)))

  -- ---- arguments

  pub each-argument-fine : (ps : List Parameter) (vs : List Value) → arguments h ps vs ≡ [] → arguments g ps vs ≡ []
  each-argument-fine ps [] nothing = refl
  each-argument-fine ps (v ∷ vs) nothing =
      part-by-part (value v h (parameter_target h ps)) (arguments h (next_parameters ps) vs) (value v g (parameter_target g ps)) (arguments g (next_parameters ps) vs)
      (value-at ps v) (each-argument-fine (next_parameters ps) vs) nothing
    where
      value-at : (ps : List Parameter) (v : Value) → value v h (parameter_target h ps) ≡ [] → value v g (parameter_target g ps) ≡ []
      value-at [] v none = value-fine v (parameter_target h []) none
      value-at (p ∷ ps) v none = value-fine v (parameter_target h (p ∷ ps)) none

  pub arguments-fine : (ps : List Parameter) (vs : List Value) → check_arguments h ps vs ≡ [] → check_arguments g ps vs ≡ []
  arguments-fine ps vs nothing =
      let number : List Rule = unless (nat_eq (length vs) (length ps)) rule.Arguments in
      part-by-part number (arguments h ps vs) number (arguments g ps vs) (λ none. none) (each-argument-fine ps vs) nothing
