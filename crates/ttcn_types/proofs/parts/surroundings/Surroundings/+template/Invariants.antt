use Rattle.std.proofs.Common.{◌≡◌, map}
use Rattle.ttcn_types.specs.internal.Surrounding.{scope_of}
use Rattle.check_survey.specs.Things.{add}
use Rattle.check_rules.specs.Parts.{all_of, field_template_parts, template_parts}
use Rattle.ttcn_types.proofs.Beside.{collecting}
use Rattle.ttcn_types.proofs.parts.surroundings.Surroundings.+template.Given as goal

-- what was collected so far, with the templates that are left, is what there was with all of them
abbrev pub invariant-add_templates-loop-template : goal.invariant-add_templates-loop-template
invariant-add_templates-loop-template l =
    collecting (template_parts (scope_of l.self)) l.templates l.template-index l.into ≡ add l.fn.into (all_of (map (template_parts (scope_of l.fn.self)) l.fn.templates))

-- the same of fields
abbrev pub invariant-add_field_templates-loop-field : goal.invariant-add_field_templates-loop-field
invariant-add_field_templates-loop-field l =
    collecting (field_template_parts (scope_of l.self)) l.fields l.field-index l.into ≡ add l.fn.into (all_of (map (field_template_parts (scope_of l.fn.self)) l.fn.fields))
