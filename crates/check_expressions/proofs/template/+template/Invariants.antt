use Rattle.std.proofs.Common.{◌≡◌, [], map, drop}
use Rattle.std.specs.Option.{option_map}
use Rattle.check_scope.specs.internal.Checking.{least, view}
use Rattle.check_rules.specs.Templates as spec
use Rattle.check_rules.specs.Values.{by_name, in_order, wanted_fields}
use Rattle.check_expressions.proofs.Elements.{Named, rest_in_order}
use Rattle.check_rules.proofs.TemplateForms.{rest_of_each}
use Rattle.check_expressions.proofs.template.+template.Given as goal

-- the names so far were met, and what was found so far and what is left are what all break
abbrev pub invariant-by_name-loop-element : goal.invariant-by_name-loop-element
invariant-by_name-loop-element l =
    Named (view l.scope) (wanted_fields l.scope.definitions.now l.wanted) l.names (map spec.field_template (drop l.element-index l.elements)) l.broken
    (least (by_name (wanted_fields l.fn.scope.definitions.now l.fn.wanted) [] (map spec.field_template l.fn.elements) (view l.fn.scope)))

-- what was found so far and what is left are what all break
abbrev pub invariant-in_order-loop-element : goal.invariant-in_order-loop-element
invariant-in_order-loop-element l =
    rest_in_order (view l.scope) (option_map (λ fields. fields.now) l.left) (map spec.template (drop l.element-index l.elements)) l.broken
    ≡ least (in_order (option_map (λ fields. fields.now) l.fn.fields) (map spec.template l.fn.elements) (view l.fn.scope))

-- what was found so far and what is left are what all break
abbrev pub invariant-each-loop-part : goal.invariant-each-loop-part
invariant-each-loop-part l = rest_of_each (view l.scope) l.target (drop l.part-index l.parts) l.broken ≡ least (spec.each (map spec.template l.fn.parts) (view l.fn.scope) l.fn.target)
