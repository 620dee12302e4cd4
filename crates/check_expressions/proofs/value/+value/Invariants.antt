use Rattle.std.proofs.Common.{◌≡◌, [], map, drop}
use Rattle.std.specs.Option.{option_map}
use Rattle.check_scope.specs.internal.Checking.{least, view}
use Rattle.check_rules.specs.Values as checked
use Rattle.check_expressions.proofs.Elements.{Named, rest_in_order}
use Rattle.check_expressions.proofs.value.+value.Given as goal

-- the names so far were met, and what was found so far and what is left are what all break
abbrev pub invariant-by_name-loop-element : goal.invariant-by_name-loop-element
invariant-by_name-loop-element l =
    Named (view l.scope) (checked.wanted_fields l.scope.definitions.now l.wanted) l.names (map checked.field_value (drop l.element-index l.elements)) l.broken
    (least (checked.by_name (checked.wanted_fields l.fn.scope.definitions.now l.fn.wanted) [] (map checked.field_value l.fn.elements) (view l.fn.scope)))

-- what was found so far and what is left are what all break
abbrev pub invariant-in_order-loop-element : goal.invariant-in_order-loop-element
invariant-in_order-loop-element l =
    rest_in_order (view l.scope) (option_map (λ fields. fields.now) l.left) (map checked.value (drop l.element-index l.elements)) l.broken
    ≡ least (checked.in_order (option_map (λ fields. fields.now) l.fn.fields) (map checked.value l.fn.elements) (view l.fn.scope))
