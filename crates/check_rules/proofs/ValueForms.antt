-- The rules that values break, form by form.
use Rattle.std.proofs.Common.{◌≡◌, ℕ, List, [], ◌++◌, map, length, sym, ap, ◌∙◌}
use Rattle.std.proofs.Math.ListN.{length-map}
use Rattle.ttcn_syntax.specs.declared.tree.expression.Expr.{Expr}
use Rattle.ttcn_syntax.specs.declared.tree.value.FieldValue.{FieldValue, fold_out-FieldValue, out-FieldValue}
use Rattle.ttcn_syntax.specs.declared.tree.value.Value.{Value}
use Rattle.ttcn_syntax.specs.declared.tree.value.Value.TheFolds.{fold-roll-Value}
use Rattle.ttcn_syntax.specs.declared.tree.value.Value.TheOpen.{Value-F}
use Rattle.ttcn_syntax.specs.declared.tree.value.Value.TheVariants as form
use Rattle.check_scope.proofs.Leasts.{least_append}
use Rattle.check_scope.specs.internal.Checking.{both, least}
use Rattle.check_scope.specs.Names.{Scope}
use Rattle.check_scope.specs.Typings.{unless}
use Rattle.check_rules.specs.Values.{AtTarget, check_expression, by_name, field_value, field_value_step, in_order, is_full, takes_braces, value, value_step, wanted_fields}
use Rattle.check_scope.specs.declared.rule.Rule.TheVariants as rule
use Rattle.check_scope.specs.declared.types.Target.{Target}

module _ (scope : Scope) (target : Target) where
  pub value-of-expr : (e : Expr) → value (form.Expr e) scope target ≡ check_expression scope target.data_type e
  value-of-expr e = ap (λ (f : AtTarget). f scope target) (ap value (sym (form.rolls-Expr e)) ∙ fold-roll-Value AtTarget (List ℕ × AtTarget) value_step field_value_step (Value-F.Expr e))

  pub value-of-omit : value form.Omit scope target ≡ unless target.optional rule.Fields
  value-of-omit = ap (λ (f : AtTarget). f scope target) (ap value (sym form.rolls-Omit) ∙ fold-roll-Value AtTarget (List ℕ × AtTarget) value_step field_value_step Value-F.Omit)

  pub value-of-listed : (elements : List Value) → value (form.Listed elements) scope target
      ≡ unless (takes_braces target.data_type) rule.ValueType ++ unless (is_full (wanted_fields scope.definitions target.data_type) (length (map value elements))) rule.Fields
      ++ in_order (wanted_fields scope.definitions target.data_type) (map value elements) scope
  value-of-listed elements = ap (λ (f : AtTarget). f scope target) (ap value (sym (form.rolls-Listed elements)) ∙ fold-roll-Value AtTarget (List ℕ × AtTarget) value_step field_value_step (Value-F.Listed elements))

  pub value-of-assigned : (elements : List FieldValue) → value (form.Assigned elements) scope target
      ≡ unless (takes_braces target.data_type) rule.ValueType ++ by_name (wanted_fields scope.definitions target.data_type) [] (map field_value elements) scope
  value-of-assigned elements = ap (λ (f : AtTarget). f scope target) (ap value (sym (form.rolls-Assigned elements)) ∙ fold-roll-Value AtTarget (List ℕ × AtTarget) value_step field_value_step (Value-F.Assigned elements))

  pub listed-least : (elements : List Value) → least (value (form.Listed elements) scope target)
      ≡ both (both (least (unless (takes_braces target.data_type) rule.ValueType)) (least (unless (is_full (wanted_fields scope.definitions target.data_type) (length elements)) rule.Fields)))
      (least (in_order (wanted_fields scope.definitions target.data_type) (map value elements) scope))
  listed-least elements = rw (value-of-listed elements) (simp (least_append, length-map))

  pub assigned-least : (elements : List FieldValue) → least (value (form.Assigned elements) scope target)
      ≡ both (least (unless (takes_braces target.data_type) rule.ValueType)) (least (by_name (wanted_fields scope.definitions target.data_type) [] (map field_value elements) scope))
  assigned-least elements = rw (value-of-assigned elements) (simp least_append)

pub field-value-out : (element : FieldValue) → field_value element ≡ ((out-FieldValue element).name, value (out-FieldValue element).value)
field-value-out element = fold_out-FieldValue AtTarget (List ℕ × AtTarget) value_step field_value_step element

-- what a value breaks, form by form
pub ruleset value_forms = (value-of-expr, value-of-omit, listed-least, assigned-least)
