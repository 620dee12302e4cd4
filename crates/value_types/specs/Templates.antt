-- The template that a template of the text gives where one of a type is wanted: its expressions are evaluated, and the templates that it names stand in it (ES 201 873-1, 15).
use Rattle.std.specs.Prelude.{ℕ, ℤ, Bool, false, ◌||◌, List, [], map, Option, Some, None, bytes_eq, length, nat_eq, if◌then◌else◌}
use Rattle.std.specs.List.{find, zip}
use Rattle.ttcn_syntax.specs.declared.tree.definition.Field.{Field}
use Rattle.ttcn_syntax.specs.declared.tree.definition.Parameter.{Parameter}
use Rattle.ttcn_syntax.specs.declared.tree.expression.Expr.{Expr, out-Expr}
use Rattle.ttcn_syntax.specs.declared.tree.template.Bound.{Bound}
use Rattle.ttcn_syntax.specs.declared.tree.template.Bound.TheVariants as bound
use Rattle.ttcn_syntax.specs.declared.tree.template.FieldTemplate.{FieldTemplate, fold-FieldTemplate}
use Rattle.ttcn_syntax.specs.declared.tree.template.Template.{fold-Template}
use Rattle.ttcn_syntax.specs.declared.tree.template.Template as tree
use Rattle.ttcn_syntax.specs.declared.tree.template.TemplateBody.{TemplateBody, fold-TemplateBody}
use Rattle.ttcn_syntax.specs.declared.tree.template.TemplateBody.TheOpen.{FieldTemplate-F, Template-F, TemplateBody-F}
use Rattle.ttcn_syntax.specs.declared.tree.value.Value as written
use Rattle.check_rules.specs.Calls.{parameters_of}
use Rattle.check_scope.specs.Names.{fields_at, kind_at, module_names, resolved}
use Rattle.check_rules.specs.Templates.{bare_name, template_meant}
use Rattle.check_scope.specs.declared.types.DataType.{DataType}
use Rattle.value_types.specs.Evaluation.{value_of}
use Rattle.value_types.specs.Literals.{type_of_field, value_wanted, wanted_record}
use Rattle.value_types.specs.Outcomes.{Fails, Outcome, Yields, dynamic_error, each, or_unmet, outcome_and_then, outcome_map, unmet}
use Rattle.value_types.specs.Readings.{Reading}
use Rattle.value_types.specs.Values.{integer, is_complete}
use Rattle.value_types.specs.declared.template.Pattern.{Pattern}
use Rattle.value_types.specs.declared.template.Pattern.TheVariants as pattern
use Rattle.value_types.specs.declared.template.Template.{Template}
use Rattle.value_types.specs.declared.value.Value.{Value}

-- what something gives in a reading, where a template of a type is wanted
abbrev pub Wanted : Type 0
Wanted = Reading → Option DataType → Outcome Template

-- a pattern without `ifpresent`
abbrev pub plain : Pattern → Template
plain p = record { pattern = p; ifpresent = false }

-- ---- expressions

-- what a value matches: a dynamic error where it lacks something
abbrev pub as_pattern : Value → Outcome Template
as_pattern v = if is_complete v then Yields (plain (pattern.Value v)) else dynamic_error

-- ---- named templates

-- what an argument gives for its parameter: it may lack something
abbrev pub argument : Reading → Parameter × written.Value → Outcome Value
argument reading pair = value_wanted pair.1 reading (resolved (module_names reading.definitions) pair.0.type_name)

-- what arguments give for the parameters, in their order: there are as many
abbrev pub arguments : Reading → List Parameter → List written.Value → Outcome (List Value)
arguments reading parameters given =
    if nat_eq (length given) (length parameters) then each (map (argument reading) (zip parameters given)) else unmet

-- what the template at a position gives with these arguments, if one is meant
abbrev pub template_called : Reading → Option ℕ → List written.Value → Outcome Template
template_called reading None given = unmet
template_called reading (Some at) given =
    outcome_and_then (reading.templates at) (arguments reading (parameters_of (kind_at reading.definitions at)) given)

-- the template that a name stands for
abbrev pub template_of_name : Reading → Option (List ℕ) → Option ℕ
template_of_name reading None = None
template_of_name reading (Some name) = template_meant (module_names reading.definitions name)

-- the template that an expression names without arguments
abbrev pub template_named : Reading → Expr → Option ℕ
template_named reading e = template_of_name reading (bare_name (out-Expr e))

-- an expression, or the name of a template
abbrev pub template_of_expression : Reading → Expr → Option ℕ → Outcome Template
template_of_expression reading e None = outcome_and_then as_pattern (value_of e reading)
template_of_expression reading e (Some at) = template_called reading (Some at) []

-- ---- ranges

-- an end of a range: an infinite one is none, whatever its sign
abbrev pub value_of_bound : Reading → Bound → Outcome (Option ℤ)
value_of_bound reading (bound.Expr e) = outcome_and_then (λ v. outcome_map Some (or_unmet (integer v))) (value_of e reading)
value_of_bound reading bound.Infinity = Yields None

-- what a range gives: its two ends, the lower one evaluated first
abbrev pub template_of_range : Reading → Bound → Bound → Outcome Template
template_of_range reading low high =
    outcome_and_then (λ l. outcome_map (λ h. plain (pattern.Range l h)) (value_of_bound reading high)) (value_of_bound reading low)

-- ---- parts

-- the templates of parts that stand for the same
abbrev pub parts_of : Reading → Option DataType → List Wanted → Outcome (List Template)
parts_of reading wanted parts = each (map (λ part. part reading wanted) parts)

-- what an element gives for a field
abbrev pub element : Reading → Field × Wanted → Outcome Template
element reading pair = pair.1 reading (type_of_field reading pair.0)

-- each field has its element, in their order
abbrev pub in_order : Reading → List Field → List Wanted → Outcome (List Template)
in_order reading fields elements =
    if nat_eq (length elements) (length fields) then each (map (element reading) (zip fields elements)) else unmet

-- what the element of a field's name gives for it: no checked module has a field without one
abbrev pub element_named : Reading → Field → Option (List ℕ × Wanted) → Outcome Template
element_named reading field None = unmet
element_named reading field (Some found) = element reading (field, found.1)

-- each field has its element, by their names
abbrev pub by_name : Reading → List Field → List (List ℕ × Wanted) → Outcome (List Template)
by_name reading fields elements =
    each (map (λ field. element_named reading field (find (λ e. bytes_eq e.0 field.name) elements)) fields)

-- a record template of the type at a position with what its fields' templates give, where both are there
abbrev pub record_at : Outcome ℕ → (ℕ → Outcome (List Template)) → Outcome Template
record_at (Fails why) parts = Fails why
record_at (Yields at) parts = outcome_map (λ ps. plain (pattern.Record at ps)) (parts at)

-- ---- templates

-- what one level of a template body gives where a type is wanted, given what its parts give
abbrev pub body_step : TemplateBody-F Wanted (List ℕ × Wanted) Wanted → Wanted
body_step TemplateBody-F.Any reading wanted = Yields (plain pattern.Any)
body_step TemplateBody-F.AnyOrOmit reading wanted = Yields (plain pattern.AnyOrOmit)
body_step TemplateBody-F.Omit reading wanted = Yields (plain pattern.Omit)
body_step (TemplateBody-F.Complement parts) reading wanted = outcome_map (λ ps. plain (pattern.Complement ps)) (parts_of reading wanted parts)
body_step (TemplateBody-F.List parts) reading wanted = outcome_map (λ ps. plain (pattern.List ps)) (parts_of reading wanted parts)
body_step (TemplateBody-F.Range low high) reading wanted = template_of_range reading low high
body_step (TemplateBody-F.Call call) reading wanted = template_called reading (template_of_name reading (Some call.name)) call.arguments
body_step (TemplateBody-F.Expr e) reading wanted = template_of_expression reading e (template_named reading e)
body_step (TemplateBody-F.Listed parts) reading wanted =
    record_at (wanted_record wanted) (λ at. in_order reading (fields_at reading.definitions at) parts)
body_step (TemplateBody-F.Assigned parts) reading wanted =
    record_at (wanted_record wanted) (λ at. by_name reading (fields_at reading.definitions at) parts)

-- a template with `ifpresent` where that stands behind it, or behind the template that it names
abbrev pub with_ifpresent : Bool → Template → Template
with_ifpresent also found = record { pattern = found.pattern; ifpresent = found.ifpresent || also }

-- what a template gives, given what its body gives, with `ifpresent` where that stands behind it
abbrev pub template_step : Template-F Wanted (List ℕ × Wanted) Wanted → Wanted
template_step t reading wanted = outcome_map (with_ifpresent t.ifpresent) (t.body reading wanted)

-- an element of a template by field names: the name, with what its template gives, which is given
abbrev pub field_template_step : FieldTemplate-F Wanted (List ℕ × Wanted) Wanted → List ℕ × Wanted
field_template_step part = (part.name, part.template)

-- what is given by what stands where a template of a type is wanted
abbrev pub template_wanted : tree.Template → Wanted
template_wanted = fold-Template Wanted (List ℕ × Wanted) Wanted body_step field_template_step template_step

-- what is given by a template, without its `ifpresent`, that stands where a template of a type is wanted
abbrev pub body_wanted : TemplateBody → Wanted
body_wanted = fold-TemplateBody Wanted (List ℕ × Wanted) Wanted body_step field_template_step template_step

-- the name of an element, with what its template gives
abbrev pub field_template : FieldTemplate → List ℕ × Wanted
field_template = fold-FieldTemplate Wanted (List ℕ × Wanted) Wanted body_step field_template_step template_step
