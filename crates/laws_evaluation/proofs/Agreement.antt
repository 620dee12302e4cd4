-- Two readings that differ in what constants and templates give, and in nothing else, give the same wherever nothing
-- that is referred to differs.
use Rattle.std.proofs.Common.{◌≡◌, ℕ, ◌+◌, Bool, true, false, nat_eq, List, [], ◌∷◌, ◌++◌, map, length, bytes_eq, Option, Some, None, if◌then◌else◌, refl, sym, ap, subst, ◌∙◌}
use Rattle.std.specs.List.{find, zip}
use Rattle.laws_evaluation.proofs.Lists.{Each, cons-same, each-first, each-rest, then-same}
use Rattle.check_survey.specs.declared.thing.Thing.{Thing}
use Rattle.ttcn_syntax.specs.declared.operator.Operator.{Operator}
use Rattle.ttcn_syntax.specs.declared.tree.definition.Definition.{Definition}
use Rattle.ttcn_syntax.specs.declared.tree.definition.Field.{Field}
use Rattle.ttcn_syntax.specs.declared.tree.expression.ComponentRef.{ComponentRef}
use Rattle.ttcn_syntax.specs.declared.tree.expression.ComponentRef.TheVariants as component
use Rattle.ttcn_syntax.specs.declared.tree.expression.Expr.{Expr, roll-Expr}
use Rattle.ttcn_syntax.specs.declared.tree.expression.Expr.TheFolds.{fold-roll-Expr, fold-roll-Link, ind-Expr, map-Expr, map-Link}
use Rattle.ttcn_syntax.specs.declared.tree.expression.Expr.TheOpen.{Expr-F, Link-F}
use Rattle.ttcn_syntax.specs.declared.tree.expression.Link.{Link, roll-Link}
use Rattle.ttcn_syntax.specs.declared.tree.value.FieldValue.{FieldValue, roll-FieldValue}
use Rattle.ttcn_syntax.specs.declared.tree.value.Value as written
use Rattle.ttcn_syntax.specs.declared.tree.value.Value.TheFolds.{fold-roll-FieldValue, fold-roll-Value, ind-Value, map-FieldValue, map-Value}
use Rattle.ttcn_syntax.specs.declared.tree.value.Value.TheOpen.{FieldValue-F, Value-F}
use Rattle.check_scope.specs.Names.{Scope, fields_at, module_names}
use Rattle.check_rules.specs.Parts.{all_of, braced, expression_parts, expression_parts_step, field_value_parts, field_value_parts_step, link_parts, link_parts_step, number_at, of_component, of_meaning, value_parts, value_parts_step}
use Rattle.check_rules.specs.Templates.{template_meant}
use Rattle.check_scope.specs.declared.names.Meaning.{Meaning}
use Rattle.check_scope.specs.declared.names.Meaning.TheVariants as meaning
use Rattle.check_scope.specs.declared.types.DataType.{DataType}
use Rattle.value_types.specs.Chains.{Outcomes, with_outcomes}
use Rattle.value_types.specs.Evaluation.{Evaluation, after, expression_step, joined, link, link_step, value_of}
use Rattle.value_types.specs.Literals.{Wanted, by_name, element, element_named, field_value, field_value_step, given_by_name, in_order, record_at, type_of_field, value_step, value_wanted, wanted_record}
use Rattle.value_types.specs.Operations.{applied, decides, negated, under_sign}
use Rattle.value_types.specs.Outcomes.{Fails, Outcome, Yields, each, outcome_and_then, outcome_map, unmet}
use Rattle.value_types.specs.Readings.{Reading, along, by_meaning, component_at, component_runs, named, presence, runs, runs_at, timer_of}
use Rattle.value_types.specs.declared.value.Value.{Value}
use Rattle.value_types.specs.declared.value.Value.TheVariants as value

-- what stands at a number gives the same
abbrev pub AgreeAt : List Definition → Outcomes → Outcomes → ℕ → Type 0
AgreeAt definitions one other k =
    ((at item : ℕ) → number_at definitions at + item ≡ k → one.0 at item ≡ other.0 at item)
    × ((at : ℕ) → number_at definitions at ≡ k → (values : List Value) → one.1 at values ≡ other.1 at values)

-- in a scope of a module names of the module stand for what they stand for in it
pub record Keeps (definitions : List Definition) (scope : Scope) : Type 0 where
  pub same : scope.definitions ≡ definitions
  pub names : (name : List ℕ) (m : Meaning) → module_names definitions name ≡ Some m → scope.names name ≡ Some m
  pub templates : (name : List ℕ) → template_meant (scope.names name) ≡ template_meant (module_names definitions name)

module _ (base : Reading) (one other : Outcomes) (scope : Scope) (keeps : Keeps base.definitions scope) where
  abbrev here : Reading
  here = with_outcomes one base

  abbrev there : Reading
  there = with_outcomes other base

  -- all that a thing refers to gives the same
  abbrev Agrees : Thing → Type 0
  Agrees thing = Each (AgreeAt base.definitions one other) thing.references

  agrees-first : (x y : List ℕ) → Each (AgreeAt base.definitions one other) (x ++ y) → Each (AgreeAt base.definitions one other) x
  agrees-first x y all = each-first (AgreeAt base.definitions one other) x y all

  agrees-rest : (x y : List ℕ) → Each (AgreeAt base.definitions one other) (x ++ y) → Each (AgreeAt base.definitions one other) y
  agrees-rest x y all = each-rest (AgreeAt base.definitions one other) x y all

  -- ---- names

  name-same : (name : List ℕ) → Agrees (of_meaning scope.definitions (scope.names name)) → named here name ≡ named there name
  name-same name all = meant (module_names base.definitions name) refl
    where
      meant : (m : Option Meaning) → module_names base.definitions name ≡ m → by_meaning here name m ≡ by_meaning there name m
      meant (Some (meaning.ModuleConstant at item)) is =
          let known : Agrees (of_meaning scope.definitions (Some (meaning.ModuleConstant at item))) =
          subst (λ m. Agrees (of_meaning scope.definitions m)) (keeps.names name (meaning.ModuleConstant at item) is) all in
          known.0.0 at item (ap (λ ds. number_at ds at + item) (sym keeps.same))
      meant _ is = refl

  component-same : (c : ComponentRef) → Agrees (of_component scope c) → component_at here c ≡ component_at there c
  component-same component.Itself all = refl
  component-same component.Mtc all = refl
  component-same (component.Named reference) all = ap (along base.definitions reference.fields) (name-same reference.name all)

  runs-same : (c : ComponentRef) → Agrees (of_component scope c) → runs here c ≡ runs there c
  runs-same component.Itself all = refl
  runs-same component.Mtc all = refl
  runs-same (component.Named reference) all = timed (timer_of base.timers reference.fields reference.name)
    where
      timed : (running : Option Bool) → runs_at here (component.Named reference) running ≡ runs_at there (component.Named reference) running
      timed (Some b) = refl
      timed None = ap (outcome_and_then (component_runs here)) (component-same (component.Named reference) all)

  -- ---- expressions

  abbrev SameOf : Thing → Evaluation → Type 0
  SameOf thing evaluation = Agrees thing → evaluation here ≡ evaluation there

  abbrev HeldExpr : Type 0
  HeldExpr = (e : Expr) × SameOf (expression_parts scope e) (value_of e)

  abbrev HeldLink : Type 0
  HeldLink = (l : Link) × SameOf (link_parts scope l) (link l).1

  joined-same : (l : HeldLink) (found next : Outcome Value) → found ≡ next → Agrees (link_parts scope l.0)
      → outcome_and_then (joined here (link l.0)) found ≡ outcome_and_then (joined there (link l.0)) next
  joined-same l found next same all =
      then-same (joined here (link l.0)) (joined there (link l.0))
      (λ left. ap (λ right. if decides (link l.0).0 left then Yields left else outcome_and_then (applied (link l.0).0 left) right) (l.1 all)) found
      ∙ ap (outcome_and_then (joined there (link l.0))) same

  after-same : (links : List HeldLink) (found next : Outcome Value) → found ≡ next → Agrees (all_of (map (link_parts scope) (map (λ l. l.0) links)))
      → after here found (map link (map (λ l. l.0) links)) ≡ after there next (map link (map (λ l. l.0) links))
  after-same [] found next same all = same
  after-same (l ∷ links) found next same all =
      let rest : Thing = all_of (map (link_parts scope) (map (λ l. l.0) links)) in
      after-same links (outcome_and_then (joined here (link l.0)) found) (outcome_and_then (joined there (link l.0)) next)
      (joined-same l found next same (agrees-first (link_parts scope l.0).references rest.references all)) (agrees-rest (link_parts scope l.0).references rest.references all)

  abbrev LevelExpr : Expr-F Expr Link → Type 0
  LevelExpr x = SameOf (expression_parts_step scope (map-Expr Expr Link Thing Thing (expression_parts scope) (link_parts scope) x))
      (expression_step (map-Expr Expr Link Evaluation (Operator × Evaluation) value_of link x))

  expr-held : (y : Expr-F HeldExpr HeldLink) → LevelExpr (map-Expr HeldExpr HeldLink Expr Link (λ e. e.0) (λ l. l.0) y)
  expr-held (Expr-F.Int n) = λ all. refl
  expr-held (Expr-F.Bool b) = λ all. refl
  expr-held Expr-F.Null = λ all. refl
  expr-held (Expr-F.Reference reference) = λ all. component-same reference all
  expr-held (Expr-F.Running reference) = λ all. runs-same reference all
  expr-held (Expr-F.Ispresent reference) = λ all. ap (outcome_and_then (presence base.definitions reference.fields)) (name-same reference.name all)
  expr-held (Expr-F.Not operand) = λ all. ap (outcome_and_then negated) (operand.1 all)
  expr-held (Expr-F.Signed sign operand) = λ all. ap (outcome_and_then (under_sign sign)) (operand.1 all)
  expr-held (Expr-F.Chain first links) = λ all.
      let rest : Thing = all_of (map (link_parts scope) (map (λ l. l.0) links)) in
      after-same links (value_of first.0 here) (value_of first.0 there) (first.1 (agrees-first (expression_parts scope first.0).references rest.references all))
      (agrees-rest (expression_parts scope first.0).references rest.references all)

  abbrev LevelLink : Link-F Expr Link → Type 0
  LevelLink x = SameOf (link_parts_step (map-Link Expr Link Thing Thing (expression_parts scope) (link_parts scope) x))
      (link_step (map-Link Expr Link Evaluation (Operator × Evaluation) value_of link x)).1

  link-held : (y : Link-F HeldExpr HeldLink) → LevelLink (map-Link HeldExpr HeldLink Expr Link (λ e. e.0) (λ l. l.0) y)
  link-held y = y.operand.1

  pub expression-same : (e : Expr) → SameOf (expression_parts scope e) (value_of e)
  expression-same = ind-Expr (λ e. SameOf (expression_parts scope e) (value_of e)) (λ l. SameOf (link_parts scope l) (link l).1) (λ x y is.
      subst (λ t. SameOf t (value_of (roll-Expr x))) (sym (fold-roll-Expr Thing Thing (expression_parts_step scope) link_parts_step x))
      (subst (λ g. SameOf (expression_parts_step scope (map-Expr Expr Link Thing Thing (expression_parts scope) (link_parts scope) x)) g)
      (sym (fold-roll-Expr Evaluation (Operator × Evaluation) expression_step link_step x))
      (subst LevelExpr is (expr-held y)))) (λ x y is.
      subst (λ t. SameOf t (link (roll-Link x)).1) (sym (fold-roll-Link Thing Thing (expression_parts_step scope) link_parts_step x))
      (subst (λ (g : Operator × Evaluation). SameOf (link_parts_step (map-Link Expr Link Thing Thing (expression_parts scope) (link_parts scope) x)) g.1)
      (sym (fold-roll-Link Evaluation (Operator × Evaluation) expression_step link_step x))
      (subst LevelLink is (link-held y))))

  -- ---- values

  abbrev SameWanted : Thing → Wanted → Type 0
  SameWanted thing given = Agrees thing → (wanted : Option DataType) → given here wanted ≡ given there wanted

  abbrev HeldValue : Type 0
  HeldValue = (v : written.Value) × SameWanted (value_parts scope v) (value_wanted v)

  abbrev HeldField : Type 0
  HeldField = (f : FieldValue) × SameWanted (field_value_parts scope f) (field_value f).1

  pub braced-agrees : (things : List Thing) → Agrees (braced things) → Agrees (all_of things)
  braced-agrees [] all = tt
  braced-agrees (thing ∷ things) all = all

  record-same : (at : Outcome ℕ) (f g : ℕ → Outcome (List (Option Value))) → ((at : ℕ) → f at ≡ g at) → record_at at f ≡ record_at at g
  record-same (Fails why) f g same = refl
  record-same (Yields at) f g same = ap (outcome_map (value.Record at)) (same at)

  elements-same : (fields : List Field) (es : List HeldValue) → Agrees (all_of (map (value_parts scope) (map (λ v. v.0) es)))
      → map (element here) (zip fields (map value_wanted (map (λ v. v.0) es))) ≡ map (element there) (zip fields (map value_wanted (map (λ v. v.0) es)))
  elements-same [] es all = refl
  elements-same (f ∷ fields) [] all = refl
  elements-same (f ∷ fields) (e ∷ es) all =
      let rest : Thing = all_of (map (value_parts scope) (map (λ v. v.0) es)) in
      let others : List (Field × Wanted) = zip fields (map value_wanted (map (λ v. v.0) es)) in
      cons-same (element here (f, value_wanted e.0)) (element there (f, value_wanted e.0)) (map (element here) others) (map (element there) others)
      (ap (outcome_map Some) (e.1 (agrees-first (value_parts scope e.0).references rest.references all) (type_of_field here f)))
      (elements-same fields es (agrees-rest (value_parts scope e.0).references rest.references all))

  in-order-same : (fields : List Field) (es : List HeldValue) → Agrees (all_of (map (value_parts scope) (map (λ v. v.0) es)))
      → in_order here fields (map value_wanted (map (λ v. v.0) es)) ≡ in_order there fields (map value_wanted (map (λ v. v.0) es))
  in-order-same fields es all =
      ap (λ l. if nat_eq (length (map value_wanted (map (λ (v : HeldValue). v.0) es))) (length fields) then each l else unmet) (elements-same fields es all)

  named-element-same : (field : Field) (es : List HeldField) → Agrees (all_of (map (field_value_parts scope) (map (λ f. f.0) es)))
      → given_by_name here (map field_value (map (λ f. f.0) es)) field ≡ given_by_name there (map field_value (map (λ f. f.0) es)) field
  named-element-same field [] all = refl
  named-element-same field (e ∷ es) all =
      let rest : Thing = all_of (map (field_value_parts scope) (map (λ f. f.0) es)) in
      chosen (bytes_eq (field_value e.0).0 field.name) (e.1 (agrees-first (field_value_parts scope e.0).references rest.references all) (type_of_field here field))
      (named-element-same field es (agrees-rest (field_value_parts scope e.0).references rest.references all))
    where
      chosen : (b : Bool) → (field_value e.0).1 here (type_of_field here field) ≡ (field_value e.0).1 there (type_of_field here field)
          → given_by_name here (map field_value (map (λ f. f.0) es)) field ≡ given_by_name there (map field_value (map (λ f. f.0) es)) field
          → element_named here field (if b then Some (field_value e.0) else find (λ x. bytes_eq x.0 field.name) (map field_value (map (λ f. f.0) es)))
          ≡ element_named there field (if b then Some (field_value e.0) else find (λ x. bytes_eq x.0 field.name) (map field_value (map (λ f. f.0) es)))
      chosen true its rest = ap (outcome_map Some) its
      chosen false its rest = rest

  named-elements-same : (fields : List Field) (es : List HeldField) → Agrees (all_of (map (field_value_parts scope) (map (λ f. f.0) es)))
      → map (given_by_name here (map field_value (map (λ f. f.0) es))) fields ≡ map (given_by_name there (map field_value (map (λ f. f.0) es))) fields
  named-elements-same [] es all = refl
  named-elements-same (f ∷ fields) es all =
      let elements : List (List ℕ × Wanted) = map field_value (map (λ f. f.0) es) in
      cons-same (given_by_name here elements f) (given_by_name there elements f) (map (given_by_name here elements) fields) (map (given_by_name there elements) fields)
      (named-element-same f es all) (named-elements-same fields es all)

  abbrev LevelValue : Value-F written.Value FieldValue → Type 0
  LevelValue x = SameWanted (value_parts_step scope (map-Value written.Value FieldValue Thing Thing (value_parts scope) (field_value_parts scope) x))
      (value_step (map-Value written.Value FieldValue Wanted (List ℕ × Wanted) value_wanted field_value x))

  value-held : (y : Value-F HeldValue HeldField) → LevelValue (map-Value HeldValue HeldField written.Value FieldValue (λ v. v.0) (λ f. f.0) y)
  value-held (Value-F.Expr e) = λ all wanted. expression-same e all
  value-held Value-F.Omit = λ all wanted. refl
  value-held (Value-F.Listed es) = λ all wanted.
      let elements : List Wanted = map value_wanted (map (λ v. v.0) es) in
      record-same (wanted_record wanted) (λ at. in_order here (fields_at base.definitions at) elements) (λ at. in_order there (fields_at base.definitions at) elements)
      (λ at. in-order-same (fields_at base.definitions at) es (braced-agrees (map (value_parts scope) (map (λ v. v.0) es)) all))
  value-held (Value-F.Assigned es) = λ all wanted.
      let elements : List (List ℕ × Wanted) = map field_value (map (λ f. f.0) es) in
      record-same (wanted_record wanted) (λ at. by_name here (fields_at base.definitions at) elements) (λ at. by_name there (fields_at base.definitions at) elements)
      (λ at. ap each (named-elements-same (fields_at base.definitions at) es (braced-agrees (map (field_value_parts scope) (map (λ f. f.0) es)) all)))

  abbrev LevelField : FieldValue-F written.Value FieldValue → Type 0
  LevelField x = SameWanted (field_value_parts_step (map-FieldValue written.Value FieldValue Thing Thing (value_parts scope) (field_value_parts scope) x))
      (field_value_step (map-FieldValue written.Value FieldValue Wanted (List ℕ × Wanted) value_wanted field_value x)).1

  field-held : (y : FieldValue-F HeldValue HeldField) → LevelField (map-FieldValue HeldValue HeldField written.Value FieldValue (λ v. v.0) (λ f. f.0) y)
  field-held y = y.value.1

  pub value-same : (v : written.Value) → SameWanted (value_parts scope v) (value_wanted v)
  value-same = ind-Value (λ v. SameWanted (value_parts scope v) (value_wanted v)) (λ f. SameWanted (field_value_parts scope f) (field_value f).1) (λ x y is.
      subst (λ t. SameWanted t (value_wanted (written.roll-Value x))) (sym (fold-roll-Value Thing Thing (value_parts_step scope) field_value_parts_step x))
      (subst (λ g. SameWanted (value_parts_step scope (map-Value written.Value FieldValue Thing Thing (value_parts scope) (field_value_parts scope) x)) g)
      (sym (fold-roll-Value Wanted (List ℕ × Wanted) value_step field_value_step x))
      (subst LevelValue is (value-held y)))) (λ x y is.
      subst (λ t. SameWanted t (field_value (roll-FieldValue x)).1) (sym (fold-roll-FieldValue Thing Thing (value_parts_step scope) field_value_parts_step x))
      (subst (λ (g : List ℕ × Wanted). SameWanted (field_value_parts_step (map-FieldValue written.Value FieldValue Thing Thing (value_parts scope) (field_value_parts scope) x)) g.1)
      (sym (fold-roll-FieldValue Wanted (List ℕ × Wanted) value_step field_value_step x))
      (subst LevelField is (field-held y))))
