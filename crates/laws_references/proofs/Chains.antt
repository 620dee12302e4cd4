-- The constants and templates of a module refer only to what is read beside them.
use Rattle.std.proofs.Common.{ℕ, zero, suc, List, bytes_eq, Option, Some, None}
use Rattle.std.specs.List.{All, position, slice_get}
use Rattle.std.specs.Option.{option_and_then}
use Rattle.ttcn_syntax.specs.declared.tree.definition.Parameter.{Parameter}
use Rattle.ttcn_syntax.specs.declared.tree.definition.TemplateDefinition.{TemplateDefinition}
use Rattle.ttcn_syntax.specs.declared.tree.statement.Constant.{Constant}
use Rattle.check_scope.specs.Names.{constant_at, constants_type, kind_at, module_names, resolved, template_at}
use Rattle.check_scope.specs.declared.types.DataType.{DataType}
use Rattle.laws_references.proofs.Expressions.{Gives}
use Rattle.laws_references.proofs.Literals.{value-gives}
use Rattle.laws_references.proofs.Templates.{GivesTemplate, template-gives}
use Rattle.laws_references.proofs.Values.{get-at}
use Rattle.laws_references.specs.References.{FactsReferTo, ReadingRefersTo, RefersTo}
use Rattle.laws_steps.proofs.Outcomes.{unmet-yields}
use Rattle.value_types.specs.Chains.{constant_value, given_to, template_value, with_names, within_chains}
use Rattle.value_types.specs.Outcomes.{Outcome, unmet}
use Rattle.value_types.specs.Readings.{Reading}
use Rattle.value_types.specs.declared.value.ComponentId.{ComponentId}
use Rattle.value_types.specs.declared.value.Value.{Value}

module _ (P : ComponentId → Type 0) where
  constant-gives : (reading : Reading) (constant : Option Constant) (wanted : Option DataType) → ReadingRefersTo P reading → Gives P (constant_value reading constant wanted)
  constant-gives reading None wanted is = tt
  constant-gives reading (Some constant) wanted is = value-gives P constant.value reading is wanted

  given-gives : (parameters : List Parameter) (values : List Value) (name : List ℕ) → All (RefersTo P) values → Gives P (given_to parameters values name)
  given-gives parameters values name all =
      unmet-yields (RefersTo P) (option_and_then (slice_get values) (position (λ p. bytes_eq p.name name) parameters)) (get-at (RefersTo P) values (position (λ p. bytes_eq p.name name) parameters) all)

  template-value-gives : (reading : (List ℕ → Outcome Value) → Reading) (t : Option TemplateDefinition) (values : List Value)
      → ((names : List ℕ → Outcome Value) → ((name : List ℕ) → Gives P (names name)) → ReadingRefersTo P (reading names)) → All (RefersTo P) values → GivesTemplate P (template_value reading t values)
  template-value-gives reading None values is all = tt
  template-value-gives reading (Some t) values is all =
      template-gives P t.template (reading (given_to t.parameters values)) (is (given_to t.parameters values) (λ name. given-gives t.parameters values name all))
      (resolved (module_names (reading (given_to t.parameters values)).definitions) t.type_name)

  -- with other names
  facts-named : (reading : Reading) (names : List ℕ → Outcome Value) → FactsReferTo P reading → ((name : List ℕ) → Gives P (names name)) → FactsReferTo P (with_names names reading)
  facts-named reading names is give = record { names = give; itself = is.itself; mtc = is.mtc }

  facts-within : (n : ℕ) (reading : Reading) → FactsReferTo P reading → FactsReferTo P (within_chains n reading)
  facts-within n reading is = record { names = is.names; itself = is.itself; mtc = is.mtc }

  -- however deep they refer to each other
  pub chains-refer : (n : ℕ) (reading : Reading) → FactsReferTo P reading → ReadingRefersTo P (within_chains n reading)
  chains-refer zero reading is = record {
    facts = facts-within zero reading is;
    constants = λ at item. tt;
    templates = λ at values all. tt;
  }
  chains-refer (suc n) reading is = record {
    facts = facts-within (suc n) reading is;
    constants = λ at item. constant-gives (within_chains n (with_names (λ name. unmet) reading)) (constant_at reading.definitions at item)
        (constants_type (module_names reading.definitions) (kind_at reading.definitions at))
        (chains-refer n (with_names (λ name. unmet) reading) (facts-named reading (λ name. unmet) is (λ name. tt)));
    templates = λ at values all. template-value-gives (λ names. within_chains n (with_names names reading)) (template_at reading.definitions at) values
        (λ names give. chains-refer n (with_names names reading) (facts-named reading names is give)) all;
  }
