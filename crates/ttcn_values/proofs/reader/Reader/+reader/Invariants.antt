use Rattle.std.proofs.Common.{◌≡◌, ◌+◌, drop, length, map}
use Rattle.std.specs.List.{zip}
use Rattle.value_types.specs.Evaluation.{after, link}
use Rattle.ttcn_values.specs.internal.Readers.{AreResults, read_by}
use Rattle.value_types.specs.Literals as spec
use Rattle.value_types.specs.Outcomes.{Yields, each}
use Rattle.ttcn_values.proofs.ConstantBounds.{constants_weight, expr_weight, field_value_weight, levels, link_weight, sum, value_weight}
use Rattle.ttcn_values.proofs.Each.{behind}
use Rattle.ttcn_values.proofs.reader.Reader.+reader.Given as goal

-- what the constants may still be, and then what is left of the tree
abbrev pub decreases-by_name : goal.decreases-by_name
decreases-by_name l = levels l.self.now.depth (constants_weight l.self.now.frame.now.definitions.now) + (sum (map field_value_weight l.elements.now) + 1)

abbrev pub decreases-chain : goal.decreases-chain
decreases-chain l = levels l.self.now.depth (constants_weight l.self.now.frame.now.definitions.now) + (sum (map link_weight l.links.now) + 1)

abbrev pub decreases-component : goal.decreases-component
decreases-component l = levels l.self.now.depth (constants_weight l.self.now.frame.now.definitions.now) + 3

abbrev pub decreases-constant : goal.decreases-constant
decreases-constant l = levels l.self.now.depth (constants_weight l.self.now.frame.now.definitions.now)

abbrev pub decreases-results : goal.decreases-results
decreases-results l = levels l.self.now.depth (constants_weight l.self.now.frame.now.definitions.now) + 1

abbrev pub decreases-evaluate : goal.decreases-evaluate
decreases-evaluate l = levels l.self.now.depth (constants_weight l.self.now.frame.now.definitions.now) + expr_weight l.expr.now

abbrev pub decreases-in_order : goal.decreases-in_order
decreases-in_order l = levels l.self.now.depth (constants_weight l.self.now.frame.now.definitions.now) + (sum (map value_weight l.elements.now) + 1)

abbrev pub decreases-read : goal.decreases-read
decreases-read l = levels l.self.now.depth (constants_weight l.self.now.frame.now.definitions.now) + 2

abbrev pub decreases-link : goal.decreases-link
decreases-link l = levels l.self.now.depth (constants_weight l.self.now.frame.now.definitions.now) + link_weight l.next.now

abbrev pub decreases-element_named : goal.decreases-element_named
decreases-element_named l = levels l.self.now.depth (constants_weight l.self.now.frame.now.definitions.now) + sum (map field_value_weight l.elements.now)

abbrev pub decreases-value : goal.decreases-value
decreases-value l = levels l.self.now.depth (constants_weight l.self.now.frame.now.definitions.now) + value_weight l.value.now

-- the constants so far give what is kept of them
abbrev pub invariant-results-loop-at : goal.invariant-results-loop-at
invariant-results-loop-at l = AreResults (read_by l.self) l.constants.items

-- what was given so far and what is left give the whole
abbrev pub invariant-by_name-loop-field : goal.invariant-by_name-loop-field
invariant-by_name-loop-field l =
    behind l.values.items (map (spec.given_by_name (read_by l.self) (map spec.field_value l.elements)) (drop l.field-index l.fields))
    ≡ spec.by_name (read_by l.self) l.fields (map spec.field_value l.elements)

abbrev pub invariant-in_order-loop-at : goal.invariant-in_order-loop-at
invariant-in_order-loop-at l =
    (length l.elements ≡ length l.fields) ×
    (behind l.values.items (map (spec.element (read_by l.self)) (zip (drop l.at l.fields) (map spec.value_wanted (drop l.at l.elements))))
    ≡ each (map (spec.element (read_by l.self)) (zip l.fields (map spec.value_wanted l.elements))))

abbrev pub invariant-chain-loop-next : goal.invariant-chain-loop-next
invariant-chain-loop-next l = after (read_by l.self) (Yields l.value) (map link (drop l.next-index l.links)) ≡ after (read_by l.self) (Yields l.fn.first) (map link l.links)
