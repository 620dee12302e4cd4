use Rattle.std.proofs.Common.{◌≡◌, ◌+◌, ◌*◌, bytes_eq, map, take}
use Rattle.std.specs.List.{find, zip}
use Rattle.ttcn_values.specs.internal.Building.{after_steps, one_after, with_more}
use Rattle.ttcn_values.specs.internal.Readers.{read_by}
use Rattle.value_types.specs.Outcomes.{each}
use Rattle.value_types.specs.Templates as spec
use Rattle.ttcn_values.proofs.reader.Reader.+templates.Given as goal

-- what is left of the tree, and how far its parts were handed on
abbrev pub decreases-plan : goal.decreases-plan
decreases-plan l = 4 * goal.size-plan l + 1

abbrev pub decreases-plan_body : goal.decreases-plan_body
decreases-plan_body l = 4 * goal.size-plan_body l + 1

abbrev pub decreases-plan_complement : goal.decreases-plan_complement
decreases-plan_complement l = 4 * goal.size-plan_complement l + 3

abbrev pub decreases-plan_list : goal.decreases-plan_list
decreases-plan_list l = 4 * goal.size-plan_list l + 3

abbrev pub decreases-plan_parts : goal.decreases-plan_parts
decreases-plan_parts l = 4 * goal.size-plan_parts l + 2

abbrev pub decreases-plan_in_order : goal.decreases-plan_in_order
decreases-plan_in_order l = 4 * goal.size-plan_in_order l + 3

abbrev pub decreases-plan_elements : goal.decreases-plan_elements
decreases-plan_elements l = 4 * goal.size-plan_elements l + 2

abbrev pub decreases-plan_by_name : goal.decreases-plan_by_name
decreases-plan_by_name l = 4 * goal.size-plan_by_name l + 3

abbrev pub decreases-plan_named : goal.decreases-plan_named
decreases-plan_named l = 4 * goal.size-plan_named l + 2

-- the steps so far give what the parts so far give
abbrev pub invariant-plan_parts-loop-part : goal.invariant-plan_parts-loop-part
invariant-plan_parts-loop-part l =
    after_steps (read_by l.self) l.steps.items
    ≡ one_after (after_steps (read_by l.self) l.initial.steps.items) (with_more (each (take l.part-index (map (λ part. part (read_by l.self) l.wanted) (map spec.template_wanted l.parts)))))

abbrev pub invariant-plan_elements-loop-at : goal.invariant-plan_elements-loop-at
invariant-plan_elements-loop-at l =
    after_steps (read_by l.self) l.steps.items
    ≡ one_after (after_steps (read_by l.self) l.initial.steps.items) (with_more (each (take l.at (map (spec.element (read_by l.self)) (zip l.fields (map spec.template_wanted l.elements))))))

abbrev pub invariant-plan_named-loop-field : goal.invariant-plan_named-loop-field
invariant-plan_named-loop-field l =
    after_steps (read_by l.self) l.steps.items
    ≡ one_after (after_steps (read_by l.self) l.initial.steps.items)
    (with_more (each (take l.field-index (map (λ field. spec.element_named (read_by l.self) field (find (λ e. bytes_eq e.0 field.name) (map spec.field_template l.elements))) l.fields))))
