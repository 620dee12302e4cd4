-- In a module that breaks no rule more links in chains of constants and templates change nothing.
use Rattle.std.proofs.Common.{◌≡◌, ◌≤◌, ℕ, zero, suc, ◌+◌, Bool, true, false, List, [], ◌∷◌, ◌++◌, bytes_eq, Option, Some, None, is_none, if◌then◌else◌, refl, sym, ap, subst, ◌∙◌, arith, inl}
use Rattle.std.proofs.lemmas.Option.{slice_get_within}
use Rattle.std.specs.Cmp.Lexicographic.{bytes_decides}
use Rattle.std.specs.List.{Contains, slice_get}
use Rattle.std.specs.Option.{option_map_or, option_or}
use Rattle.laws_evaluation.proofs.Agreement.{AgreeAt, Keeps, value-same}
use Rattle.laws_evaluation.proofs.Lists.{each-of}
use Rattle.laws_evaluation.proofs.Places.{constant-placed, template-placed}
use Rattle.laws_evaluation.proofs.TemplateAgreement.{template-same}
use Rattle.laws_evaluation.specs.Standing.{ConstantsStandForTheirValues, GiveTheSame, TemplatesStandForTheirBodies}
use Rattle.check_survey.specs.Graphs.{BeginsLongerChain}
use Rattle.check_survey.specs.declared.thing.Thing.{Thing}
use Rattle.ttcn_syntax.specs.declared.tree.definition.Definition.{Definition}
use Rattle.ttcn_syntax.specs.declared.tree.definition.DefinitionKind.{DefinitionKind}
use Rattle.ttcn_syntax.specs.declared.tree.definition.DefinitionKind.TheVariants as kind
use Rattle.ttcn_syntax.specs.declared.tree.definition.Parameter.{Parameter}
use Rattle.ttcn_syntax.specs.declared.tree.definition.TemplateDefinition.{TemplateDefinition}
use Rattle.ttcn_syntax.specs.declared.tree.statement.Constant.{Constant}
use Rattle.laws_checker.proofs.Nothing.{kept, nothing-first, nothing-rest}
use Rattle.laws_checker.proofs.Whole.{definition_is_fine}
use Rattle.check_rules.specs.Definitions.{check_parameter, check_parameters, parameter_entry, with_parameters}
use Rattle.check_scope.specs.Scopes.{module_scope}
use Rattle.check_scope.specs.Names.{Scope, constant_at, constants_type, declaring, kind_at, module_names, resolved, template_at, template_of}
use Rattle.check_rules.specs.Parts.{constant_parts, number_at, template_parts, constants_and_templates}
use Rattle.check_rules.specs.Rules.{AreWellTyped}
use Rattle.check_rules.specs.Rules.Breaks.{size}
use Rattle.check_rules.specs.Targets.{check_new_name, check_type}
use Rattle.check_rules.specs.Templates.{template, template_meant}
use Rattle.check_scope.specs.Typings.{target_of}
use Rattle.check_scope.specs.declared.names.Meaning.{Meaning}
use Rattle.check_scope.specs.declared.names.Meaning.TheVariants as meaning
use Rattle.check_scope.specs.declared.rule.Rule.{Rule}
use Rattle.check_scope.specs.declared.rule.Rule.TheVariants as rule
use Rattle.check_scope.specs.declared.types.DataType.{DataType}
use Rattle.value_types.specs.Chains.{Outcomes, constant_value, given_to, outcomes_within, template_value, with_names, with_outcomes, within_chains}
use Rattle.value_types.specs.Frames.{facts, reading as reading_of}
use Rattle.value_types.specs.Outcomes.{Outcome, unmet}
use Rattle.value_types.specs.Readings.{Reading}
use Rattle.value_types.specs.declared.frame.Frame.{Frame}
use Rattle.value_types.specs.declared.template.Template.{Template}
use Rattle.value_types.specs.declared.value.Value.{Value}

-- ---- parameters hide no name of the module

pub none-is : {A : Type 0} (o : Option A) → is_none o ≡ true → o ≡ None
none-is None is = refl
none-is (Some a) is = absurd (let e = is in cc)

module _ (definitions : List Definition) where
  module-keeps : Keeps definitions (module_scope definitions)
  module-keeps = record { same = refl; names = λ name m is. is; templates = λ name. refl }

  module _ (scope : Scope) (p : Parameter) (keeps : Keeps definitions scope) (new : scope.names p.name ≡ None) where
    -- what a name stands for behind the parameter
    abbrev behind-it : Bool → Option Meaning → Option Meaning
    behind-it b before = option_or (option_or None (if b then Some (meaning.Variable (resolved scope.names p.type_name)) else None)) before

    name-kept : (b : Bool) (name : List ℕ) (m : Meaning) → bytes_eq p.name name ≡ b → module_names definitions name ≡ Some m → behind-it b (scope.names name) ≡ Some m
    name-kept true name m same is =
        absurd (let e : None ≡ Some m = sym new ∙ ap scope.names ((bytes_decides p.name name).0 same) ∙ keeps.names name m is in cc)
    name-kept false name m same is = keeps.names name m is

    template-kept : (b : Bool) (name : List ℕ) → bytes_eq p.name name ≡ b → template_meant (behind-it b (scope.names name)) ≡ template_meant (module_names definitions name)
    template-kept true name same =
        sym (ap template_meant new) ∙ keeps.templates p.name ∙ ap (λ n. template_meant (module_names definitions n)) ((bytes_decides p.name name).0 same)
    template-kept false name same = keeps.templates name

    parameter-keeps : Keeps definitions (declaring scope (parameter_entry scope p ∷ []))
    parameter-keeps = record {
      same = keeps.same;
      names = λ name m is. name-kept (bytes_eq p.name name) name m refl is;
      templates = λ name. template-kept (bytes_eq p.name name) name refl;
    }

  parameters-keep : (scope : Scope) (ps : List Parameter) → check_parameters scope ps ≡ [] → Keeps definitions scope → Keeps definitions (with_parameters scope ps)
  parameters-keep scope [] nothing keeps = keeps
  parameters-keep scope (p ∷ ps) nothing keeps =
      let here : List Rule = check_parameter scope p in
      let next : Scope = declaring scope (parameter_entry scope p ∷ []) in
      let others : List Rule = check_parameters next ps in
      let new : scope.names p.name ≡ None =
      none-is (scope.names p.name) (kept (is_none (scope.names p.name)) rule.DuplicateName (nothing-first (check_new_name scope.names p.name) (check_type scope.names true p.type_name) (nothing-first here others nothing))) in
      parameters-keep next ps (nothing-rest here others nothing) (parameter-keeps scope p keeps new)

  pub kind-of-template : (k : Option DefinitionKind) (t : TemplateDefinition) → template_of k ≡ Some t → k ≡ Some (kind.Template t)
  kind-of-template (Some (kind.Template u)) t is = cc
  kind-of-template (Some (kind.Record r)) t is = absurd (let e = is in cc)
  kind-of-template (Some (kind.Enumerated e)) t is = absurd (let f = is in cc)
  kind-of-template (Some (kind.Port p)) t is = absurd (let e = is in cc)
  kind-of-template (Some (kind.Component c)) t is = absurd (let e = is in cc)
  kind-of-template (Some (kind.Constants cs)) t is = absurd (let e = is in cc)
  kind-of-template (Some (kind.Function f)) t is = absurd (let e = is in cc)
  kind-of-template (Some (kind.Altstep a)) t is = absurd (let e = is in cc)
  kind-of-template (Some (kind.Testcase u)) t is = absurd (let e = is in cc)
  kind-of-template None t is = absurd (let e = is in cc)

  template-keeps : AreWellTyped definitions → (at : ℕ) (t : TemplateDefinition) → template_at definitions at ≡ Some t → Keeps definitions (with_parameters (module_scope definitions) t.parameters)
  template-keeps well at t is =
      let scope : Scope = module_scope definitions in
      let type_fine : List Rule = check_type scope.names false t.type_name in
      let parameters : List Rule = check_parameters scope t.parameters in
      let body : List Rule = template t.template (with_parameters scope t.parameters) (target_of (resolved scope.names t.type_name)) in
      let fine = definition_is_fine definitions well at (kind.Template t) (kind-of-template (kind_at definitions at) t is) in
      parameters-keep scope t.parameters (nothing-rest type_fine parameters (nothing-first (type_fine ++ parameters) body fine)) module-keeps

-- ---- chains

-- what a thing refers to begins shorter chains
chains-shorter : (things : List Thing) (n k : ℕ) (thing : Thing) → slice_get things k ≡ Some thing → (BeginsLongerChain things (suc n) k → ⊥)
    → (next : ℕ) → Contains thing.references next → BeginsLongerChain things n next → ⊥
chains-shorter things n k thing is short next among (rest, chain, longer) =
    short (next ∷ rest, (subst (λ l. Contains l next) (sym (ap (λ o. option_map_or (λ (t : Thing). t.references) o []) is)) among, chain), omega arith)

-- a thing alone is a chain
pub alone : (things : List Thing) (k : ℕ) (thing : Thing) → slice_get things k ≡ Some thing → BeginsLongerChain things 0 k
alone things k thing is = ([], slice_get_within things k thing is, omega arith)

-- ---- what is given with one more link

module _ (reading : Reading) (well : AreWellTyped reading.definitions) where
  abbrev definitions : List Definition
  definitions = reading.definitions

  abbrev things : List Thing
  things = constants_and_templates reading.definitions

  -- the type of the constants of a declaration
  abbrev type_at : ℕ → Option DataType
  type_at at = constants_type (module_names reading.definitions) (kind_at reading.definitions at)

  abbrev next_constants : Outcomes → ℕ → ℕ → Outcome Value
  next_constants outcomes at item = constant_value (with_outcomes outcomes (with_names (λ name. unmet) reading)) (constant_at reading.definitions at item) (type_at at)

  abbrev next_templates : Outcomes → ℕ → List Value → Outcome Template
  next_templates outcomes at values = template_value (λ names. with_outcomes outcomes (with_names names reading)) (template_at reading.definitions at) values

  -- outcomes each of which has one more link than those before it
  record HasLinks (family : ℕ → Outcomes) : Type 0 where
    constants : (n at item : ℕ) → (family (suc n)).0 at item ≡ next_constants (family n) at item
    templates : (n at : ℕ) (values : List Value) → (family (suc n)).1 at values ≡ next_templates (family n) at values
    no_constant : (at item : ℕ) → constant_at reading.definitions at item ≡ None → (family 0).0 at item ≡ unmet
    no_template : (at : ℕ) → template_at reading.definitions at ≡ None → (values : List Value) → (family 0).1 at values ≡ unmet

  abbrev Short : ℕ → ℕ → Type 0
  Short n k = BeginsLongerChain (constants_and_templates reading.definitions) n k → ⊥

  -- what two outcomes give with one more link
  pub constant-next : (one other : Outcomes) (n at item : ℕ) → Short (suc n) (number_at reading.definitions at + item) → ((k : ℕ) → Short n k → AgreeAt reading.definitions one other k)
      → (c : Option Constant) → constant_at reading.definitions at item ≡ c → (wanted : Option DataType)
      → constant_value (with_outcomes one (with_names (λ name. unmet) reading)) c wanted ≡ constant_value (with_outcomes other (with_names (λ name. unmet) reading)) c wanted
  constant-next one other n at item short agree None is wanted = refl
  constant-next one other n at item short agree (Some c) is wanted =
      let thing : Thing = constant_parts (module_scope reading.definitions) c in
      value-same (with_names (λ name. unmet) reading) one other (module_scope reading.definitions) (module-keeps reading.definitions) c.value
      (each-of (AgreeAt reading.definitions one other) thing.references (λ k among. agree k
      (chains-shorter things n (number_at reading.definitions at + item) thing (constant-placed reading.definitions at item c is) short k among))) wanted

  pub template-next : (one other : Outcomes) (n at : ℕ) → Short (suc n) (number_at reading.definitions at) → ((k : ℕ) → Short n k → AgreeAt reading.definitions one other k)
      → (t : Option TemplateDefinition) → template_at reading.definitions at ≡ t → (values : List Value)
      → template_value (λ names. with_outcomes one (with_names names reading)) t values ≡ template_value (λ names. with_outcomes other (with_names names reading)) t values
  template-next one other n at short agree None is values = refl
  template-next one other n at short agree (Some t) is values =
      let scope : Scope = with_parameters (module_scope reading.definitions) t.parameters in
      let thing : Thing = template_parts scope t.template in
      template-same (with_names (given_to t.parameters values) reading) one other scope (template-keeps reading.definitions well at t is) t.template
      (each-of (AgreeAt reading.definitions one other) thing.references (λ k among. agree k
      (chains-shorter things n (number_at reading.definitions at) thing (template-placed reading.definitions at t is) short k among)))
      (resolved (module_names reading.definitions) t.type_name)

  module _ (one other : ℕ → Outcomes) (one_has : HasLinks one) (other_has : HasLinks other) where
    constant-first : (at item : ℕ) → Short 0 (number_at reading.definitions at + item) → (c : Option Constant) → constant_at reading.definitions at item ≡ c → (one 0).0 at item ≡ (other 0).0 at item
    constant-first at item short None is = one_has.no_constant at item is ∙ sym (other_has.no_constant at item is)
    constant-first at item short (Some c) is =
        absurd (short (alone things (number_at reading.definitions at + item) (constant_parts (module_scope reading.definitions) c) (constant-placed reading.definitions at item c is)))

    template-first : (at : ℕ) → Short 0 (number_at reading.definitions at) → (t : Option TemplateDefinition) → template_at reading.definitions at ≡ t → (values : List Value)
        → (one 0).1 at values ≡ (other 0).1 at values
    template-first at short None is values = one_has.no_template at is values ∙ sym (other_has.no_template at is values)
    template-first at short (Some t) is values =
        absurd (short (alone things (number_at reading.definitions at) (template_parts (with_parameters (module_scope reading.definitions) t.parameters) t.template) (template-placed reading.definitions at t is)))

    -- where no chain is longer they give the same
    same-at : (n k : ℕ) → Short n k → AgreeAt reading.definitions (one n) (other n) k
    same-at zero k short = (
      λ at item is. constant-first at item (subst (Short 0) (sym is) short) (constant_at reading.definitions at item) refl,
      λ at is values. template-first at (subst (Short 0) (sym is) short) (template_at reading.definitions at) refl values,
    )
    same-at (suc n) k short = (
      λ at item is. one_has.constants n at item
          ∙ constant-next (one n) (other n) n at item (subst (Short (suc n)) (sym is) short) (same-at n) (constant_at reading.definitions at item) refl (type_at at)
          ∙ sym (other_has.constants n at item),
      λ at is values. one_has.templates n at values
          ∙ template-next (one n) (other n) n at (subst (Short (suc n)) (sym is) short) (same-at n) (template_at reading.definitions at) refl values
          ∙ sym (other_has.templates n at values),
    )

  -- ---- chains of at most so many

  -- the names that are visible elsewhere don't matter
  any-names : (n : ℕ) (names : List ℕ → Outcome Value) → outcomes_within n (with_names names reading) ≡ outcomes_within n reading
  any-names zero names = refl
  any-names (suc n) names = refl

  pub constant-within : (n at item : ℕ) → (outcomes_within (suc n) reading).0 at item ≡ next_constants (outcomes_within n reading) at item
  constant-within n at item =
      ap (λ (o : Outcomes). constant_value (with_outcomes o (with_names (λ name. unmet) reading)) (constant_at reading.definitions at item) (type_at at)) (any-names n (λ name. unmet))

  pub template-within : (n : ℕ) (t : Option TemplateDefinition) (values : List Value)
      → template_value (λ names. with_outcomes (outcomes_within n (with_names names reading)) (with_names names reading)) t values
      ≡ template_value (λ names. with_outcomes (outcomes_within n reading) (with_names names reading)) t values
  template-within n None values = refl
  template-within n (Some t) values =
      ap (λ (o : Outcomes). template_value (λ names. with_outcomes o (with_names names reading)) (Some t) values) (any-names n (given_to t.parameters values))

  within-links : HasLinks (λ n. outcomes_within n reading)
  within-links = record {
    constants = constant-within;
    templates = λ n at values. template-within n (template_at reading.definitions at) values;
    no_constant = λ at item is. refl;
    no_template = λ at is values. refl;
  }

  more-links : HasLinks (λ n. outcomes_within (suc n) reading)
  more-links = record {
    constants = λ n at item. constant-within (suc n) at item;
    templates = λ n at values. template-within (suc n) (template_at reading.definitions at) values;
    no_constant = λ at item is. ap (λ c. constant_value (with_outcomes (outcomes_within 0 (with_names (λ name. unmet) reading)) (with_names (λ name. unmet) reading)) c (type_at at)) is;
    no_template = λ at is values. ap (λ t. template_value (λ names. with_outcomes (outcomes_within 0 (with_names names reading)) (with_names names reading)) t values) is;
  }

  module _ (n : ℕ) (all_short : (k : ℕ) → Short n k) where
    constants-stand : ConstantsStandForTheirValues (within_chains n reading)
    constants-stand at item =
        (same-at (λ m. outcomes_within m reading) (λ m. outcomes_within (suc m) reading) within-links more-links n (number_at reading.definitions at + item) (all_short (number_at reading.definitions at + item))).0 at item refl
        ∙ constant-within n at item

    templates-stand : TemplatesStandForTheirBodies (within_chains n reading)
    templates-stand at values =
        (same-at (λ m. outcomes_within m reading) (λ m. outcomes_within (suc m) reading) within-links more-links n (number_at reading.definitions at) (all_short (number_at reading.definitions at))).1 at refl values
        ∙ template-within n (template_at reading.definitions at) values

  -- ---- no other outcomes

  module _ (outcomes : Outcomes) (constants_stand : ConstantsStandForTheirValues (with_outcomes outcomes reading)) (templates_stand : TemplatesStandForTheirBodies (with_outcomes outcomes reading)) where
    same-links : HasLinks (λ n. outcomes)
    same-links = record {
      constants = λ n at item. constants_stand at item;
      templates = λ n at values. templates_stand at values;
      no_constant = λ at item is. constants_stand at item ∙ ap (λ c. constant_value (with_outcomes outcomes (with_names (λ name. unmet) reading)) c (type_at at)) is;
      no_template = λ at is values. templates_stand at values ∙ ap (λ t. template_value (λ names. with_outcomes outcomes (with_names names reading)) t values) is;
    }

    one-meaning : (n : ℕ) → ((k : ℕ) → Short n k) → GiveTheSame (with_outcomes outcomes reading) (within_chains n reading)
    one-meaning n all_short = record {
      constants = λ at item. (same-at (λ m. outcomes) (λ m. outcomes_within m reading) same-links within-links n (number_at reading.definitions at + item) (all_short (number_at reading.definitions at + item))).0 at item refl;
      templates = λ at values. (same-at (λ m. outcomes) (λ m. outcomes_within m reading) same-links within-links n (number_at reading.definitions at) (all_short (number_at reading.definitions at))).1 at refl values;
    }

-- ---- modules that break no rule

-- no chain has more members than the rule of sizes lets it have
pub no-longer : (definitions : List Definition) → AreWellTyped definitions → (links : ℕ) → 200 ≤ links → (k : ℕ) → BeginsLongerChain (constants_and_templates definitions) links k → ⊥
no-longer definitions well links enough k (rest, chain, longer) = well rule.Size (size (inl (k, (rest, chain, omega arith))))

module _ (definitions : List Definition) (well : AreWellTyped definitions) (links : ℕ) (enough : 200 ≤ links) (facts : Reading) (is : facts.definitions ≡ definitions) where
  abbrev still_well : AreWellTyped facts.definitions
  still_well = subst AreWellTyped (sym is) well

  abbrev all_short : (k : ℕ) → BeginsLongerChain (constants_and_templates facts.definitions) links k → ⊥
  all_short = no-longer facts.definitions still_well links enough

  -- each constant stands for its value
  pub constants_stand : ConstantsStandForTheirValues (within_chains links facts)
  constants_stand = constants-stand facts still_well links all_short

  -- each template stands for its body
  pub templates_stand : TemplatesStandForTheirBodies (within_chains links facts)
  templates_stand = templates-stand facts still_well links all_short

  -- nothing else that constants and templates could give is so
  pub nothing_else : (outcomes : Outcomes) → ConstantsStandForTheirValues (with_outcomes outcomes facts) → TemplatesStandForTheirBodies (with_outcomes outcomes facts)
      → GiveTheSame (with_outcomes outcomes facts) (within_chains links facts)
  nothing_else outcomes constants templates = one-meaning facts still_well outcomes constants templates links all_short

-- more links change nothing
pub more_links : (definitions : List Definition) → AreWellTyped definitions → (links more : ℕ) → 200 ≤ links → 200 ≤ more → (facts : Reading) → facts.definitions ≡ definitions
    → GiveTheSame (within_chains more facts) (within_chains links facts)
more_links definitions well links more enough enough_more facts is =
    nothing_else definitions well links enough facts is (outcomes_within more facts) (constants_stand definitions well more enough_more facts is) (templates_stand definitions well more enough_more facts is)

-- ---- frames

-- in what a frame stands for constants stand for their values, and templates for their bodies
module _ (definitions : List Definition) (well : AreWellTyped definitions) (frame : Frame) (is : frame.definitions.now ≡ definitions) where
  pub frame-constants-stand : ConstantsStandForTheirValues (reading_of frame)
  frame-constants-stand = constants_stand definitions well 200 (omega arith) (facts frame) is

  pub frame-templates-stand : TemplatesStandForTheirBodies (reading_of frame)
  frame-templates-stand = templates_stand definitions well 200 (omega arith) (facts frame) is
