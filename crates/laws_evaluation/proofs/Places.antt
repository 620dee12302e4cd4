-- Each constant and each template of a module stands at its number among what is written out.
use Rattle.std.proofs.Common.{◌≡◌, ℕ, zero, suc, ◌+◌, List, [], ◌∷◌, ◌++◌, length, take, Option, Some, None, refl, ap, ◌∙◌, arith}
use Rattle.std.proofs.lemmas.List.{length-map}
use Rattle.std.proofs.lemmas.Option.{slice_get-map}
use Rattle.std.specs.List.{slice_get}
use Rattle.std.specs.Option.{option_map}
use Rattle.laws_evaluation.proofs.Lists.{get-first, get-rest, some-same}
use Rattle.check_survey.specs.declared.thing.Thing.{Thing}
use Rattle.ttcn_syntax.specs.declared.tree.definition.Definition.{Definition}
use Rattle.ttcn_syntax.specs.declared.tree.definition.DefinitionKind.{DefinitionKind}
use Rattle.ttcn_syntax.specs.declared.tree.definition.DefinitionKind.TheVariants as kind
use Rattle.ttcn_syntax.specs.declared.tree.definition.TemplateDefinition.{TemplateDefinition}
use Rattle.ttcn_syntax.specs.declared.tree.statement.Constant.{Constant}
use Rattle.check_scope.specs.Scopes.{module_scope}
use Rattle.check_rules.specs.Definitions.{with_parameters}
use Rattle.check_scope.specs.Names.{constant_at, constant_of, kind_at, template_at, template_of}
use Rattle.check_rules.specs.Parts.{constant_parts, how_many, how_many_in, number_at, template_parts, things_at, things_from, constants_and_templates}

module _ (definitions : List Definition) where
  length-written : (k : DefinitionKind) → length (things_at definitions k) ≡ how_many k
  length-written (kind.Constants cs) = length-map cs.constants (constant_parts (module_scope definitions))
  length-written _ = refl

  -- what stands at a place of a definition stands as far behind its number
  placed : (rest : List Definition) (at item : ℕ) (k : DefinitionKind) (thing : Thing) → kind_at rest at ≡ Some k → slice_get (things_at definitions k) item ≡ Some thing
      → slice_get (things_from definitions rest) (number_at rest at + item) ≡ Some thing
  placed [] at item k thing is found = absurd (let e = is in cc)
  placed (d ∷ rest) zero item k thing is found =
      let same : d.kind ≡ k = some-same d.kind k is in
      ap (slice_get (things_at definitions d.kind ++ things_from definitions rest)) (let e : how_many_in (take 0 (d ∷ rest)) + item ≡ item = omega arith in e)
      ∙ get-first (things_at definitions d.kind) (things_from definitions rest) item thing (ap (λ j. slice_get (things_at definitions j) item) same ∙ found)
  placed (d ∷ rest) (suc at) item k thing is found =
      let size : length (things_at definitions d.kind) ≡ how_many d.kind = length-written d.kind in
      let e : how_many d.kind + how_many_in (take at rest) + item ≡ length (things_at definitions d.kind) + (how_many_in (take at rest) + item) = omega (arith, size) in
      ap (slice_get (things_at definitions d.kind ++ things_from definitions rest)) e
      ∙ get-rest (things_at definitions d.kind) (things_from definitions rest) (number_at rest at + item)
      ∙ placed rest at item k thing is found

  pub constant-placed : (at item : ℕ) (c : Constant) → constant_at definitions at item ≡ Some c
      → slice_get (constants_and_templates definitions) (number_at definitions at + item) ≡ Some (constant_parts (module_scope definitions) c)
  constant-placed at item c is = of-kind (kind_at definitions at) refl is
    where
      of-kind : (k : Option DefinitionKind) → kind_at definitions at ≡ k → constant_of k item ≡ Some c
          → slice_get (constants_and_templates definitions) (number_at definitions at + item) ≡ Some (constant_parts (module_scope definitions) c)
      of-kind (Some (kind.Constants cs)) is found =
          placed definitions at item (kind.Constants cs) (constant_parts (module_scope definitions) c) is
          (slice_get-map (constant_parts (module_scope definitions)) cs.constants item ∙ ap (option_map (constant_parts (module_scope definitions))) found)
      of-kind (Some (kind.Record r)) is found = absurd (let e = found in cc)
      of-kind (Some (kind.Enumerated e)) is found = absurd (let f = found in cc)
      of-kind (Some (kind.Port p)) is found = absurd (let e = found in cc)
      of-kind (Some (kind.Component d)) is found = absurd (let e = found in cc)
      of-kind (Some (kind.Template t)) is found = absurd (let e = found in cc)
      of-kind (Some (kind.Function f)) is found = absurd (let e = found in cc)
      of-kind (Some (kind.Altstep a)) is found = absurd (let e = found in cc)
      of-kind (Some (kind.Testcase t)) is found = absurd (let e = found in cc)
      of-kind None is found = absurd (let e = found in cc)

  pub template-placed : (at : ℕ) (t : TemplateDefinition) → template_at definitions at ≡ Some t
      → slice_get (constants_and_templates definitions) (number_at definitions at) ≡ Some (template_parts (with_parameters (module_scope definitions) t.parameters) t.template)
  template-placed at t is = of-kind (kind_at definitions at) refl is
    where
      of-kind : (k : Option DefinitionKind) → kind_at definitions at ≡ k → template_of k ≡ Some t
          → slice_get (constants_and_templates definitions) (number_at definitions at) ≡ Some (template_parts (with_parameters (module_scope definitions) t.parameters) t.template)
      of-kind (Some (kind.Template u)) is found =
          let e : number_at definitions at ≡ number_at definitions at + 0 = omega arith in
          ap (slice_get (constants_and_templates definitions)) e
          ∙ placed definitions at 0 (kind.Template u) (template_parts (with_parameters (module_scope definitions) t.parameters) t.template) is
          (ap (λ v. Some (template_parts (with_parameters (module_scope definitions) v.parameters) v.template)) (some-same u t found))
      of-kind (Some (kind.Constants cs)) is found = absurd (let e = found in cc)
      of-kind (Some (kind.Record r)) is found = absurd (let e = found in cc)
      of-kind (Some (kind.Enumerated e)) is found = absurd (let f = found in cc)
      of-kind (Some (kind.Port p)) is found = absurd (let e = found in cc)
      of-kind (Some (kind.Component d)) is found = absurd (let e = found in cc)
      of-kind (Some (kind.Function f)) is found = absurd (let e = found in cc)
      of-kind (Some (kind.Altstep a)) is found = absurd (let e = found in cc)
      of-kind (Some (kind.Testcase u)) is found = absurd (let e = found in cc)
      of-kind None is found = absurd (let e = found in cc)
