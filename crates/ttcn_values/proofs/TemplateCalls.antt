-- What the templates of a module give that are named, with their arguments.
use Rattle.std.proofs.Common.{◌≡◌, ℕ, ◌+◌, List, Option, Some, add-one, sym, ap, ◌∙◌}
use Rattle.ttcn_syntax.specs.declared.tree.definition.DefinitionKind.{DefinitionKind}
use Rattle.ttcn_syntax.specs.declared.tree.definition.DefinitionKind.TheVariants as kind
use Rattle.ttcn_syntax.specs.declared.tree.definition.Parameter.{Parameter}
use Rattle.ttcn_syntax.specs.declared.tree.definition.TemplateDefinition.{TemplateDefinition}
use Rattle.ttcn_syntax.specs.declared.tree.template.Template as body
use Rattle.ttcn_syntax.specs.declared.tree.value.Value as written
use Rattle.check_rules.specs.Calls.{parameters_of}
use Rattle.check_scope.specs.Names.{kind_at, module_names, resolved, template_at, template_of}
use Rattle.check_scope.specs.declared.types.DataType.{DataType}
use Rattle.value_types.specs.Chains.{given_to, template_value, with_names, within_chains}
use Rattle.value_types.specs.Frames.{facts}
use Rattle.ttcn_values.specs.internal.Readers.{read_by, seen_by}
use Rattle.value_types.specs.Outcomes.{Outcome, outcome_and_then}
use Rattle.value_types.specs.Templates.{arguments, template_called, template_wanted}
use Rattle.ttcn_values.specs.declared.reader.Reader.{Reader}
use Rattle.value_types.specs.declared.template.Template.{Template}
use Rattle.value_types.specs.declared.value.Value.{Value}

parameters-in : (k : Option DefinitionKind) (t : TemplateDefinition) → template_of k ≡ Some t → parameters_of k ≡ t.parameters
parameters-in (Some (kind.Template s)) t is = let same : s ≡ t = cc is in ap (λ (d : TemplateDefinition). d.parameters) same
parameters-in _ t is = absurd (let none = is in cc)

module _ (reader : Reader) (at : ℕ) (given : List written.Value) where
  module _ (t : TemplateDefinition) (is : template_at reader.frame.now.definitions.now at ≡ Some t) where
    pub with_arguments : (o : Outcome (List Value)) → arguments (read_by reader) t.parameters given ≡ o
        → template_called (read_by reader) (Some at) given ≡ outcome_and_then ((read_by reader).templates at) o
    with_arguments o gives =
        ap (λ ps. outcome_and_then ((read_by reader).templates at) (arguments (read_by reader) ps given)) (parameters-in (kind_at reader.frame.now.definitions.now at) t is)
        ∙ ap (outcome_and_then ((read_by reader).templates at)) gives

-- ---- the templates that a reading gives

module _ (reader : Reader) (at : ℕ) (values : List Value) (t : TemplateDefinition) (is : template_at reader.frame.now.definitions.now at ≡ Some t) where
  abbrev given_with : body.Template → ℕ → List Parameter → List Value → Option DataType → Outcome Template
  given_with b less ps vs of = template_wanted b (within_chains less (with_names (given_to ps vs) (facts reader.frame.now))) of

  -- what it gives with these arguments
  pub template-gives : (b : body.Template) (parameters : List Parameter) (less : ℕ) (wanted : Option DataType) → b ≡ t.template → parameters ≡ t.parameters
      → reader.depth ≡ less + 1 → wanted ≡ resolved (module_names reader.frame.now.definitions.now) t.type_name
      → (read_by reader).templates at values ≡ given_with b less parameters values wanted
  template-gives b parameters less wanted is_body are_parameters next names =
      ap (λ d. (within_chains d (seen_by reader.visible (facts reader.frame.now))).templates at values) (next ∙ add-one less)
      ∙ ap (λ o. template_value (λ names. within_chains less (with_names names (facts reader.frame.now))) o values) is
      ∙ ap (λ c. given_with c less t.parameters values (resolved (module_names reader.frame.now.definitions.now) t.type_name)) (sym is_body)
      ∙ ap (λ ps. given_with b less ps values (resolved (module_names reader.frame.now.definitions.now) t.type_name)) (sym are_parameters)
      ∙ ap (given_with b less parameters values) (sym names)
