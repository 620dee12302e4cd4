-- What templates give, form by form.
use Rattle.std.proofs.Common.{◌≡◌, ℕ, List, length, map, bytes_eq, Option, Some, None, sym, ap, ◌∙◌}
use Rattle.std.proofs.Math.ListN.{length-map}
use Rattle.std.specs.List.{find, zip}
use Rattle.std.specs.Option.{option_map}
use Rattle.ttcn_syntax.specs.declared.tree.definition.Field.{Field}
use Rattle.ttcn_syntax.specs.declared.tree.template.FieldTemplate.{FieldTemplate, fold_out-FieldTemplate, out-FieldTemplate}
use Rattle.ttcn_syntax.specs.declared.tree.template.Template.{Template, fold_out-Template, out-Template}
use Rattle.ttcn_syntax.specs.declared.tree.template.TemplateBody.{TemplateBody}
use Rattle.ttcn_syntax.specs.declared.tree.template.TemplateBody.TheFolds.{fold-roll-TemplateBody}
use Rattle.ttcn_syntax.specs.declared.tree.template.TemplateBody.TheOpen.{TemplateBody-F}
use Rattle.ttcn_syntax.specs.declared.tree.template.TemplateBody.TheVariants as form
use Rattle.check_scope.specs.Names.{module_names, resolved}
use Rattle.check_scope.specs.declared.types.DataType.{DataType}
use Rattle.ttcn_values.proofs.Each.{if-as-long}
use Rattle.value_types.proofs.Lists.{find-among}
use Rattle.ttcn_values.specs.internal.Readers.{read_by}
use Rattle.value_types.specs.Outcomes.{Outcome, Yields, each, outcome_map, unmet}
use Rattle.value_types.specs.Readings.{Reading}
use Rattle.value_types.specs.Templates.{Wanted, body_step, body_wanted, element, element_named, field_template, field_template_step, in_order, parts_of, plain, template_step, template_wanted, with_ifpresent}
use Rattle.ttcn_values.specs.declared.reader.Reader.{Reader}
use Rattle.value_types.specs.declared.template.Pattern.TheVariants as pattern
use Rattle.value_types.specs.declared.template.Template.{Template as Found}

abbrev Part : Type 0
Part = List ℕ × Wanted

-- ---- parts

module _ (reading : Reading) (wanted : Option DataType) (body : TemplateBody) where
  pub body-of-complement : (parts slice : List Template) (o : Outcome (List Found)) → body ≡ form.Complement parts → slice ≡ parts
      → parts_of reading wanted (map template_wanted slice) ≡ o → body_wanted body reading wanted ≡ outcome_map (λ ps. plain (pattern.Complement ps)) o
  body-of-complement parts slice o is is_slice gives =
      ap (λ (w : Wanted). w reading wanted) (ap body_wanted (is ∙ sym (form.rolls-Complement parts)) ∙ fold-roll-TemplateBody Wanted Part Wanted body_step field_template_step template_step (TemplateBody-F.Complement parts))
      ∙ ap (λ ps. outcome_map (λ ps. plain (pattern.Complement ps)) (parts_of reading wanted (map template_wanted ps))) (sym is_slice)
      ∙ ap (outcome_map (λ ps. plain (pattern.Complement ps))) gives

  pub body-of-list : (parts slice : List Template) (o : Outcome (List Found)) → body ≡ form.List parts → slice ≡ parts
      → parts_of reading wanted (map template_wanted slice) ≡ o → body_wanted body reading wanted ≡ outcome_map (λ ps. plain (pattern.List ps)) o
  body-of-list parts slice o is is_slice gives =
      ap (λ (w : Wanted). w reading wanted) (ap body_wanted (is ∙ sym (form.rolls-List parts)) ∙ fold-roll-TemplateBody Wanted Part Wanted body_step field_template_step template_step (TemplateBody-F.List parts))
      ∙ ap (λ ps. outcome_map (λ ps. plain (pattern.List ps)) (parts_of reading wanted (map template_wanted ps))) (sym is_slice)
      ∙ ap (outcome_map (λ ps. plain (pattern.List ps))) gives

-- ---- patterns that hold no templates

module _ (reading : Reading) (wanted : Option DataType) (body : TemplateBody) where
  pub body-of-any : body ≡ form.Any → body_wanted body reading wanted ≡ Yields (plain pattern.Any)
  body-of-any is = ap (λ (w : Wanted). w reading wanted) (ap body_wanted (is ∙ sym form.rolls-Any) ∙ fold-roll-TemplateBody Wanted Part Wanted body_step field_template_step template_step TemplateBody-F.Any)

  pub body-of-any-or-omit : body ≡ form.AnyOrOmit → body_wanted body reading wanted ≡ Yields (plain pattern.AnyOrOmit)
  body-of-any-or-omit is = ap (λ (w : Wanted). w reading wanted) (ap body_wanted (is ∙ sym form.rolls-AnyOrOmit) ∙ fold-roll-TemplateBody Wanted Part Wanted body_step field_template_step template_step TemplateBody-F.AnyOrOmit)

  pub body-of-omit : body ≡ form.Omit → body_wanted body reading wanted ≡ Yields (plain pattern.Omit)
  body-of-omit is = ap (λ (w : Wanted). w reading wanted) (ap body_wanted (is ∙ sym form.rolls-Omit) ∙ fold-roll-TemplateBody Wanted Part Wanted body_step field_template_step template_step TemplateBody-F.Omit)

-- ---- `ifpresent`

pub wanted-out : (t : Template) (reading : Reading) (wanted : Option DataType) → template_wanted t reading wanted ≡ outcome_map (with_ifpresent (out-Template t).ifpresent) (body_wanted (out-Template t).body reading wanted)
wanted-out t reading wanted = ap (λ (w : Wanted). w reading wanted) (fold_out-Template Wanted Part Wanted body_step field_template_step template_step t)

-- ---- elements by the order of the fields

-- as many elements as fields
pub in-order-as-long : (reading : Reading) (fields : List Field) (elements : List Template) → length elements ≡ length fields
    → in_order reading fields (map template_wanted elements) ≡ each (map (element reading) (zip fields (map template_wanted elements)))
in-order-as-long reading fields elements as_long =
    if-as-long (map template_wanted elements) fields (each (map (element reading) (zip fields (map template_wanted elements)))) (simp length-map as_long)

-- ---- elements by their names

field-template-out : (part : FieldTemplate) → field_template part ≡ ((out-FieldTemplate part).name, template_wanted (out-FieldTemplate part).template)
field-template-out part = fold_out-FieldTemplate Wanted Part Wanted body_step field_template_step template_step part

module _ (reader : Reader) (field : Field) (elements : List FieldTemplate) where
  among : find (λ e. bytes_eq e.0 field.name) (map field_template elements) ≡ option_map field_template (find (λ e. bytes_eq (out-FieldTemplate e).name field.name) elements)
  among = find-among field_template (λ e. bytes_eq e.0 field.name) (λ e. bytes_eq (out-FieldTemplate e).name field.name)
      (λ e. ap (λ (p : Part). bytes_eq p.0 field.name) (field-template-out e)) elements

  -- an element stands for the field
  pub element-found : (part : FieldTemplate) (wanted : Option DataType) → find (λ e. bytes_eq (out-FieldTemplate e).name field.name) elements ≡ Some part
      → wanted ≡ resolved (module_names reader.frame.now.definitions.now) field.type_name
      → element_named (read_by reader) field (find (λ e. bytes_eq e.0 field.name) (map field_template elements)) ≡ template_wanted (out-FieldTemplate part).template (read_by reader) wanted
  element-found part wanted found is =
      ap (element_named (read_by reader) field) (among ∙ ap (option_map field_template) found ∙ ap Some (field-template-out part))
      ∙ ap (template_wanted (out-FieldTemplate part).template (read_by reader)) (sym is)

  pub element-missing : find (λ e. bytes_eq (out-FieldTemplate e).name field.name) elements ≡ None
      → element_named (read_by reader) field (find (λ e. bytes_eq e.0 field.name) (map field_template elements)) ≡ unmet
  element-missing none = ap (element_named (read_by reader) field) (among ∙ ap (option_map field_template) none)
