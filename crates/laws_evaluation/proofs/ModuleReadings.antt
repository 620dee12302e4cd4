-- The readings of a well-typed module have all that its scope knows, where as many links are let as the checker lets it have.
use Rattle.std.proofs.Common.{◌≡◌, ◌≤◌, ℕ, zero, suc, ◌+◌, Bool, true, false, ◌&&◌, ◌||◌, List, [], ◌∷◌, ◌++◌, map, bytes_eq, Option, Some, None, is_none, is_some, if◌then◌else◌, refl, sym, ap, subst, ◌∙◌, arith}
use Rattle.std.proofs.lemmas.Bool.{and_parts}
use Rattle.std.proofs.lemmas.Iterator.Adapters.{position_from-zero}
use Rattle.std.proofs.lemmas.List.Elements.{All-cons, All-nil}
use Rattle.std.specs.Cmp.Lexicographic.{bytes_decides}
use Rattle.std.specs.List.{All, list_any, position, position_from, slice_get}
use Rattle.std.specs.Option.{option_or}
use Rattle.check_survey.specs.Graphs.{BeginsLongerChain}
use Rattle.ttcn_syntax.specs.declared.tree.definition.Definition.{Definition}
use Rattle.ttcn_syntax.specs.declared.tree.definition.DefinitionKind.{DefinitionKind}
use Rattle.ttcn_syntax.specs.declared.tree.definition.DefinitionKind.TheVariants as kind
use Rattle.ttcn_syntax.specs.declared.tree.definition.Enumerator.{Enumerator}
use Rattle.ttcn_syntax.specs.declared.tree.definition.Parameter.{Parameter}
use Rattle.ttcn_syntax.specs.declared.tree.definition.TemplateDefinition.{TemplateDefinition}
use Rattle.ttcn_syntax.specs.declared.tree.statement.Constant.{Constant}
use Rattle.ttcn_syntax.specs.declared.tree.value.TypeName.{TypeName}
use Rattle.ttcn_syntax.specs.declared.tree.value.TypeName.TheVariants as type_name
use Rattle.check_rules.specs.Parts.{constant_parts, number_at, template_parts, constants_and_templates}
use Rattle.check_rules.specs.Rules.{AreWellTyped}
use Rattle.laws_checker.proofs.Nothing.{kept, nothing-first, nothing-rest}
use Rattle.laws_checker.proofs.Whole.{definition_is_fine, module_whole, parameters_whole}
use Rattle.laws_checker.specs.Laws.{IsWhole}
use Rattle.check_rules.specs.Calls.{parameters_of, template_type}
use Rattle.check_rules.specs.Targets.{check_new_name, check_type}
use Rattle.check_rules.specs.Templates.{template}
use Rattle.check_rules.specs.Values.{value as checked}
use Rattle.check_rules.specs.Definitions.{check_parameter, check_module_constants, check_parameters, parameter_entry, with_parameters}
use Rattle.check_scope.specs.Names.{Entry, Names, Scope, constant_at, constant_entries, constant_of, constants_type, declaring, entries_at, entries_from, kind_at, listed, module_names, resolved, template_at, template_of, type_meant}
use Rattle.check_scope.specs.Scopes.{module_scope}
use Rattle.check_scope.specs.Typings.{target_of, typed}
use Rattle.check_scope.specs.declared.names.Meaning.{Meaning}
use Rattle.check_scope.specs.declared.names.Meaning.TheVariants as meaning
use Rattle.check_scope.specs.declared.rule.Rule.{Rule}
use Rattle.check_scope.specs.declared.rule.Rule.TheVariants as rule
use Rattle.check_scope.specs.declared.types.DataType.{DataType}
use Rattle.laws_evaluation.proofs.Agreement.{AgreeAt}
use Rattle.laws_evaluation.proofs.MetExpressions.{met-map, met-there}
use Rattle.laws_evaluation.proofs.Places.{constant-placed, template-placed}
use Rattle.laws_evaluation.proofs.Steps.{alone, constant-next, constant-within, kind-of-template, no-longer, none-is, template-next, template-within}
use Rattle.laws_evaluation.proofs.TypedChains.{constants-fine, deep-fits, fields_differ, given-fits, given-has, module-fits}
use Rattle.laws_evaluation.proofs.TypedRecords.{true-both, values_met}
use Rattle.laws_evaluation.proofs.TypedTemplates.{templates_met}
use Rattle.laws_evaluation.specs.Types.{AreGiven, FieldsDiffer, FitsIn, HasAll, HasParameterType, IsOfTyping, ParametersKnown, is_of, names_timer, names_value}
use Rattle.value_types.specs.Chains.{Outcomes, constant_value, given_to, outcomes_within, template_value, with_names, with_outcomes, within_chains}
use Rattle.value_types.specs.Literals.{value_wanted}
use Rattle.value_types.specs.Outcomes.{DynamicError, Fails, IfYields, IsMet, Outcome, Unmet, Yields, dynamic_error, or_unmet, unmet}
use Rattle.value_types.specs.Readings.{Reading, by_meaning, enumerated, enumerators_of}
use Rattle.value_types.specs.Templates.{template_wanted}
use Rattle.value_types.specs.declared.value.Value.{Value}
use Rattle.value_types.specs.declared.value.Value.TheVariants as value

-- ---- parameters have their types

type-known : (names : Names) (with_default : Bool) (t : TypeName) → check_type names with_default t ≡ [] → is_some (resolved names t) ≡ true
type-known names with_default type_name.Integer nothing = refl
type-known names with_default type_name.Boolean nothing = refl
type-known names with_default type_name.Default nothing = refl
type-known names with_default (type_name.Named name) nothing = kept (is_some (type_meant (names name))) rule.UnknownName nothing

module _ (definitions : List Definition) where
  -- types of a scope are those of the module
  abbrev pub Types : Scope → Type 0
  Types scope = (name : List ℕ) → type_meant (scope.names name) ≡ type_meant (module_names definitions name)

  types-next : (scope : Scope) (p : Parameter) → Types scope → scope.names p.name ≡ None → Types (declaring scope (parameter_entry scope p ∷ []))
  types-next scope p types new name = go (bytes_eq p.name name) refl
    where
      go : (b : Bool) → bytes_eq p.name name ≡ b
          → type_meant (option_or (option_or None (if b then Some (meaning.Variable (resolved scope.names p.type_name)) else None)) (scope.names name)) ≡ type_meant (module_names definitions name)
      go true is = subst (λ n. None ≡ type_meant (module_names definitions n)) ((bytes_decides p.name name).0 is) (sym (ap type_meant new) ∙ types p.name)
      go false is = types name

  resolved-known : (scope : Scope) (t : TypeName) → Types scope → is_some (resolved scope.names t) ≡ true → is_some (resolved (module_names definitions) t) ≡ true
  resolved-known scope type_name.Integer types known = refl
  resolved-known scope type_name.Boolean types known = refl
  resolved-known scope type_name.Default types known = refl
  resolved-known scope (type_name.Named name) types known = subst (λ o. is_some o ≡ true) (types name) known

  pub each-known : (scope : Scope) (ps : List Parameter) → Types scope → check_parameters scope ps ≡ [] → All (HasParameterType definitions) ps
  each-known scope [] types nothing = All-nil (HasParameterType definitions)
  each-known scope (p ∷ ps) types nothing =
      let next : Scope = declaring scope (parameter_entry scope p ∷ []) in
      let here : List Rule = check_parameter scope p in
      let others : List Rule = check_parameters next ps in
      let name : List Rule = check_new_name scope.names p.name in
      let type : List Rule = check_type scope.names true p.type_name in
      let fine : here ≡ [] = nothing-first here others nothing in
      let new : scope.names p.name ≡ None = none-is (scope.names p.name) (kept (is_none (scope.names p.name)) rule.DuplicateName (nothing-first name type fine)) in
      All-cons (HasParameterType definitions) p ps (resolved-known scope p.type_name types (type-known scope.names true p.type_name (nothing-rest name type fine)))
      (each-known next ps (types-next scope p types new) (nothing-rest here others nothing))

  pub parameters-fine : AreWellTyped definitions → (t : TemplateDefinition) (at : ℕ) → kind_at definitions at ≡ Some (kind.Template t) → check_parameters (module_scope definitions) t.parameters ≡ []
  parameters-fine well t at is =
      let scope : Scope = module_scope definitions in
      let type_fine : List Rule = check_type scope.names false t.type_name in
      let parameters : List Rule = check_parameters scope t.parameters in
      let body : List Rule = template t.template (with_parameters scope t.parameters) (target_of (resolved (module_names definitions) t.type_name)) in
      nothing-rest type_fine parameters (nothing-first (type_fine ++ parameters) body (definition_is_fine definitions well at (kind.Template t) is))

  body-fine : AreWellTyped definitions → (t : TemplateDefinition) (at : ℕ) → kind_at definitions at ≡ Some (kind.Template t)
      → template t.template (with_parameters (module_scope definitions) t.parameters) (target_of (resolved (module_names definitions) t.type_name)) ≡ []
  body-fine well t at is =
      let scope : Scope = module_scope definitions in
      let type_fine : List Rule = check_type scope.names false t.type_name in
      let parameters : List Rule = check_parameters scope t.parameters in
      let body : List Rule = template t.template (with_parameters scope t.parameters) (target_of (resolved (module_names definitions) t.type_name)) in
      nothing-rest (type_fine ++ parameters) body (definition_is_fine definitions well at (kind.Template t) is)

  known-of : AreWellTyped definitions → (at : ℕ) (k : Option DefinitionKind) → kind_at definitions at ≡ k → is_some (template_type definitions k) ≡ true → All (HasParameterType definitions) (parameters_of k)
  known-of well at (Some (kind.Template t)) is has = each-known (module_scope definitions) t.parameters (λ name. refl) (parameters-fine well t at is)
  known-of well at (Some (kind.Record r)) is has = absurd (let e = has in cc)
  known-of well at (Some (kind.Enumerated r)) is has = absurd (let e = has in cc)
  known-of well at (Some (kind.Port r)) is has = absurd (let e = has in cc)
  known-of well at (Some (kind.Component r)) is has = absurd (let e = has in cc)
  known-of well at (Some (kind.Constants r)) is has = absurd (let e = has in cc)
  known-of well at (Some (kind.Function r)) is has = absurd (let e = has in cc)
  known-of well at (Some (kind.Altstep r)) is has = absurd (let e = has in cc)
  known-of well at (Some (kind.Testcase r)) is has = absurd (let e = has in cc)
  known-of well at None is has = absurd (let e = has in cc)

pub parameters_known : (definitions : List Definition) → AreWellTyped definitions → ParametersKnown definitions
parameters_known definitions well at has = known-of definitions well at (kind_at definitions at) refl has

-- ---- what names of the module stand for is there

or-first : (a b : Bool) → a ≡ true → (a || b) ≡ true
or-first a b is = ap (λ c. c || b) is

or-later : (a b : Bool) → b ≡ true → (a || b) ≡ true
or-later true b is = refl
or-later false b is = is

from-chosen : (b any : Bool) (i : ℕ) (rest : Option ℕ) → (any ≡ true → is_some rest ≡ true) → (b || any) ≡ true → is_some (if b then Some i else rest) ≡ true
from-chosen true any i rest later is = refl
from-chosen false any i rest later is = later is

from-there : {A : Type 0} (test : A → Bool) (i : ℕ) (l : List A) → list_any test l ≡ true → is_some (position_from test i l) ≡ true
from-there test i [] any = absurd (let e = any in cc)
from-there test i (x ∷ l) any = from-chosen (test x) (list_any test l) i (position_from test (i + 1) l) (from-there test (i + 1) l) any

position-there : {A : Type 0} (test : A → Bool) (l : List A) → list_any test l ≡ true → is_some (position test l) ≡ true
position-there test l any = subst (λ o. is_some o ≡ true) (sym (position_from-zero test l)) (from-there test 0 l any)

module _ (definitions : List Definition) where
  -- what a meaning names is there
  abbrev Stands : List ℕ → Meaning → Type 0
  Stands name (meaning.Enumerator at) = is_some (position (λ e. bytes_eq e.name name) (enumerators_of (kind_at definitions at))) ≡ true
  Stands name (meaning.ModuleConstant at item) = is_some (constant_at definitions at item) ≡ true
  Stands name (meaning.Variable of) = ⊥
  Stands name (meaning.Constant of) = ⊥
  Stands name meaning.Timer = ⊥
  Stands name _ = Unit {0}

  abbrev IfStands : List ℕ → Option Meaning → Type 0
  IfStands name None = Unit {0}
  IfStands name (Some m) = Stands name m

  abbrev EachStands : List Entry → Type 0
  EachStands [] = Unit {0}
  EachStands (entry ∷ entries) = Stands entry.0 entry.1 × EachStands entries

  stands-or : (name : List ℕ) (one other : Option Meaning) → IfStands name one → IfStands name other → IfStands name (option_or one other)
  stands-or name None other one_stands other_stands = other_stands
  stands-or name (Some m) other one_stands other_stands = one_stands

  stands-if : (b : Bool) (entry : Entry) (name : List ℕ) → bytes_eq entry.0 name ≡ b → Stands entry.0 entry.1 → IfStands name (if b then Some entry.1 else None)
  stands-if true entry name is stands = subst (λ n. Stands n entry.1) ((bytes_decides entry.0 name).0 is) stands
  stands-if false entry name is stands = tt

  stands-listed : (entries : List Entry) (name : List ℕ) → EachStands entries → IfStands name (listed entries name)
  stands-listed [] name each = tt
  stands-listed (entry ∷ entries) name each =
      stands-or name (listed entries name) (if bytes_eq entry.0 name then Some entry.1 else None) (stands-listed entries name each.1)
      (stands-if (bytes_eq entry.0 name) entry name refl each.0)

  stands-append : (xs ys : List Entry) → EachStands xs → EachStands ys → EachStands (xs ++ ys)
  stands-append [] ys xs_stand ys_stand = ys_stand
  stands-append (x ∷ xs) ys xs_stand ys_stand = (xs_stand.0, stands-append xs ys xs_stand.1 ys_stand)

  same-bytes : (xs : List ℕ) → bytes_eq xs xs ≡ true
  same-bytes xs = (bytes_decides xs xs).1 refl

  enumerators-stand : (at : ℕ) (all : List Enumerator) → enumerators_of (kind_at definitions at) ≡ all → (rest : List Enumerator)
      → ((test : Enumerator → Bool) → list_any test rest ≡ true → list_any test all ≡ true) → EachStands (map (λ n. (n.name, meaning.Enumerator at)) rest)
  enumerators-stand at all is [] within = tt
  enumerators-stand at all is (n ∷ rest) within =
      let test : Enumerator → Bool = λ e. bytes_eq e.name n.name in (
        subst (λ l. is_some (position test l) ≡ true) (sym is) (position-there test all (within test (or-first (test n) (list_any test rest) (same-bytes n.name)))),
        enumerators-stand at all is rest (λ t any. within t (or-later (t n) (list_any t rest) any)),
      )

  constants-stand : (at : ℕ) (all : List Constant) → ((k : ℕ) → constant_at definitions at k ≡ slice_get all k) → (item : ℕ) (rest : List Constant)
      → ((k j : ℕ) → j ≡ item + k → slice_get all j ≡ slice_get rest k) → EachStands (constant_entries at item rest)
  constants-stand at all is item [] same = tt
  constants-stand at all is item (c ∷ rest) same =
      (ap is_some (is item ∙ same 0 item (omega arith)), constants-stand at all is (item + 1) rest (λ k j e. same (suc k) j (omega (arith, e))))

  kind-stands : (at : ℕ) (k : DefinitionKind) → kind_at definitions at ≡ Some k → EachStands (entries_at at k)
  kind-stands at (kind.Record r) is = (tt, tt)
  kind-stands at (kind.Enumerated e) is = (tt, enumerators-stand at e.enumerators (ap enumerators_of is) e.enumerators (λ test any. any))
  kind-stands at (kind.Port p) is = (tt, tt)
  kind-stands at (kind.Component c) is = (tt, tt)
  kind-stands at (kind.Constants cs) is =
      constants-stand at cs.constants (λ k. ap (λ o. constant_of o k) is) 0 cs.constants (λ k j e. let same : j ≡ k = omega (arith, e) in ap (slice_get cs.constants) same)
  kind-stands at (kind.Template t) is = (tt, tt)
  kind-stands at (kind.Function f) is = (tt, tt)
  kind-stands at (kind.Altstep a) is = (tt, tt)
  kind-stands at (kind.Testcase t) is = (tt, tt)

  from-stands : (i : ℕ) (rest : List Definition) → ((k j : ℕ) → j ≡ i + k → kind_at rest k ≡ kind_at definitions j) → EachStands (entries_from i rest)
  from-stands i [] same = tt
  from-stands i (d ∷ rest) same =
      stands-append (entries_at i d.kind) (entries_from (i + 1) rest) (kind-stands i d.kind (sym (same 0 i (omega arith))))
      (from-stands (i + 1) rest (λ k j e. same (suc k) j (omega (arith, e))))

  names-stand : (name : List ℕ) → IfStands name (module_names definitions name)
  names-stand name = stands-listed (entries_from 0 definitions) name (from-stands 0 definitions (λ k j e. let same : k ≡ j = omega (arith, e) in ap (kind_at definitions) same))

  -- ---- readings of the module

  abbrev HasType : ℕ → Type 0
  HasType at = is_some (template_type definitions (kind_at definitions at)) ≡ true

  module _ (reading : Reading) (is : reading.definitions ≡ definitions) (no_timers : (name : List ℕ) → reading.timers name ≡ None)
      (constants : (at item : ℕ) → is_some (constant_at definitions at item) ≡ true → IsMet (reading.constants at item))
      (templates : (at : ℕ) (values : List Value) → HasType at → AreGiven definitions (parameters_of (kind_at definitions at)) values → IsMet (reading.templates at values)) where
    name-met : (name : List ℕ) (m : Option Meaning) → IfStands name m → names_value m ≡ true → IsMet (by_meaning reading name m)
    name-met name (Some (meaning.ModuleConstant at item)) stands valued = constants at item stands
    name-met name (Some (meaning.Enumerator at)) stands valued =
        subst (λ ds. IsMet (enumerated ds at name)) (sym is)
        (met-map (value.Enumerated at) (or_unmet (position (λ e. bytes_eq e.name name) (enumerators_of (kind_at definitions at)))) (met-there (position (λ e. bytes_eq e.name name) (enumerators_of (kind_at definitions at))) stands))
    name-met name (Some (meaning.Variable of)) stands valued = absurd stands
    name-met name (Some (meaning.Constant of)) stands valued = absurd stands
    name-met name _ stands valued = absurd (let e = valued in cc)

    no-timer : (name : List ℕ) (m : Option Meaning) → IfStands name m → false ≡ names_timer m
    no-timer name (Some meaning.Timer) stands = absurd stands
    no-timer name _ stands = refl

    pub module-has : HasAll (module_scope definitions) reading
    module-has = record {
      values = λ name valued. subst (λ ds. IsMet (by_meaning reading name (module_names ds name))) (sym is) (name-met name (module_names definitions name) (names-stand name) valued);
      timers = λ name. ap is_some (no_timers name) ∙ no-timer name (module_names definitions name) (names-stand name);
      templates = templates;
    }

-- ---- outcomes whose failures are dynamic errors

abbrev patch : {A : Type 0} → Outcome A → Outcome A
patch (Yields a) = Yields a
patch (Fails why) = dynamic_error

patch-same : {A : Type 0} (o : Outcome A) → IsMet o → o ≡ patch o
patch-same (Yields a) met = refl
patch-same (Fails DynamicError) met = refl
patch-same (Fails Unmet) met = absurd met

patch-met : {A : Type 0} (o : Outcome A) → IsMet (patch o)
patch-met (Yields a) = tt
patch-met (Fails why) = tt

patch-yields : {A : Type 0} (P : A → Type 0) (o : Outcome A) → IfYields o P → IfYields (patch o) P
patch-yields P (Yields a) of = of
patch-yields P (Fails why) of = tt

-- where this holds
abbrev patch-if : {A : Type 0} → Bool → Outcome A → Outcome A
patch-if b o = if b then patch o else o

if-same : {A : Type 0} (b : Bool) (o : Outcome A) → (b ≡ true → IsMet o) → o ≡ patch-if b o
if-same true o met = patch-same o (met refl)
if-same false o met = refl

if-met : {A : Type 0} (b : Bool) (o : Outcome A) → b ≡ true → IsMet (patch-if b o)
if-met true o is = patch-met o
if-met false o is = absurd (let e = is in cc)

if-yields : {A : Type 0} (b : Bool) (P : A → Type 0) (o : Outcome A) → IfYields o P → IfYields (patch-if b o) P
if-yields true P o of = patch-yields P o of
if-yields false P o of = of

-- ---- arguments of their parameters' types

module _ (definitions : List Definition) where
  abbrev is_given : Option DataType → Value → Bool
  is_given None v = true
  is_given (Some t) v = is_of definitions t v

  abbrev are_given : List Parameter → List Value → Bool
  are_given [] [] = true
  are_given [] (v ∷ vs) = false
  are_given (p ∷ ps) [] = false
  are_given (p ∷ ps) (v ∷ vs) = is_given (resolved (module_names definitions) p.type_name) v && are_given ps vs

  given-one : (of : Option DataType) (v : Value) → IsOfTyping definitions (typed of) v → is_given of v ≡ true
  given-one None v is = refl
  given-one (Some t) v is = is

  of-given : (of : Option DataType) (v : Value) → is_given of v ≡ true → IsOfTyping definitions (typed of) v
  of-given None v is = tt
  of-given (Some t) v is = is

  given-all : (ps : List Parameter) (vs : List Value) → AreGiven definitions ps vs → are_given ps vs ≡ true
  given-all [] [] are = refl
  given-all [] (v ∷ vs) are = absurd are
  given-all (p ∷ ps) [] are = absurd are
  given-all (p ∷ ps) (v ∷ vs) are =
      true-both (is_given (resolved (module_names definitions) p.type_name) v) (are_given ps vs) (given-one (resolved (module_names definitions) p.type_name) v are.0) (given-all ps vs are.1)

  all-given : (ps : List Parameter) (vs : List Value) → are_given ps vs ≡ true → AreGiven definitions ps vs
  all-given [] [] are = tt
  all-given [] (v ∷ vs) are = absurd (let e = are in cc)
  all-given (p ∷ ps) [] are = absurd (let e = are in cc)
  all-given (p ∷ ps) (v ∷ vs) are =
      let both = and_parts (is_given (resolved (module_names definitions) p.type_name) v) (are_given ps vs) are in
      (of-given (resolved (module_names definitions) p.type_name) v both.0, all-given ps vs both.1)

-- ---- chains

module _ (reading : Reading) (well : AreWellTyped reading.definitions) where
  abbrev definitions : List Definition
  definitions = reading.definitions

  -- a template of the module has its parameters' values
  abbrev is_called : ℕ → List Value → Bool
  is_called at values = is_some (template_type reading.definitions (kind_at reading.definitions at)) && are_given reading.definitions (parameters_of (kind_at reading.definitions at)) values

  -- what constants and templates of the module give, where nothing is unmet
  abbrev patched : Outcomes → Outcomes
  patched o = (λ at item. patch-if (is_some (constant_at reading.definitions at item)) (o.0 at item), λ at values. patch-if (is_called at values) (o.1 at values))

  abbrev MetAt : Outcomes → ℕ → Type 0
  MetAt o k =
      ((at item : ℕ) → number_at reading.definitions at + item ≡ k → is_some (constant_at reading.definitions at item) ≡ true → IsMet (o.0 at item))
      × ((at : ℕ) → number_at reading.definitions at ≡ k → (values : List Value) → is_called at values ≡ true → IsMet (o.1 at values))

  agree : (o : Outcomes) (k : ℕ) → MetAt o k → AgreeAt reading.definitions o (patched o) k
  agree o k met = (
    λ at item e. if-same (is_some (constant_at reading.definitions at item)) (o.0 at item) (met.0 at item e),
    λ at e values. if-same (is_called at values) (o.1 at values) (met.1 at e values),
  )

  abbrev family : ℕ → (List ℕ → Outcome Value) → Reading
  family n names = with_outcomes (patched (outcomes_within n reading)) (with_names names reading)

  family-fits : (n : ℕ) (names : List ℕ → Outcome Value) → FitsIn (module_scope reading.definitions) (family n names)
  family-fits n names =
      let deep = deep-fits reading.definitions well n reading refl in
      module-fits (family n names) reading.definitions refl
      (λ at item. if-yields (is_some (constant_at reading.definitions at item)) (IsOfTyping reading.definitions (typed (constants_type (module_names reading.definitions) (kind_at reading.definitions at))))
      ((outcomes_within n reading).0 at item) (deep.0 at item))
      (λ at values are. if-yields (is_called at values) _ ((outcomes_within n reading).1 at values) (deep.1 at values are))

  called : (at : ℕ) (values : List Value) → is_some (template_type reading.definitions (kind_at reading.definitions at)) ≡ true
      → AreGiven reading.definitions (parameters_of (kind_at reading.definitions at)) values → is_called at values ≡ true
  called at values known are =
      true-both (is_some (template_type reading.definitions (kind_at reading.definitions at))) (are_given reading.definitions (parameters_of (kind_at reading.definitions at)) values)
      known (given-all reading.definitions (parameters_of (kind_at reading.definitions at)) values are)

  family-has : (n : ℕ) (names : List ℕ → Outcome Value) → HasAll (module_scope reading.definitions) (family n names)
  family-has n names =
      module-has reading.definitions (family n names) refl (λ name. refl)
      (λ at item some. if-met (is_some (constant_at reading.definitions at item)) ((outcomes_within n reading).0 at item) some)
      (λ at values known are. if-met (is_called at values) ((outcomes_within n reading).1 at values) (called at values known are))

  abbrev whole : IsWhole (module_scope reading.definitions)
  whole = module_whole reading.definitions well None

  -- ---- a constant

  constant-value : (n : ℕ) (c : Constant) (of : Option DataType) → is_some of ≡ true → checked c.value (module_scope reading.definitions) (target_of of) ≡ [] → IsMet (value_wanted c.value (family n (λ name. unmet)) of)
  constant-value n c (Some t) known nothing =
      values_met c.value (module_scope reading.definitions) (family n (λ name. unmet)) whole (fields_differ reading.definitions well) (family-fits n (λ name. unmet)) (family-has n (λ name. unmet)) t false nothing
  constant-value n c None known nothing = absurd (let e = known in cc)

  constant-of : (n at item : ℕ) (k : Option DefinitionKind) → kind_at reading.definitions at ≡ k → (c : Constant) → constant_of k item ≡ Some c
      → IsMet (value_wanted c.value (family n (λ name. unmet)) (constants_type (module_names reading.definitions) k))
  constant-of n at item (Some (kind.Constants cs)) is c found =
      let of = resolved (module_names reading.definitions) cs.type_name in
      let type_fine : List Rule = check_type (module_names reading.definitions) false cs.type_name in
      let parts : List Rule = check_module_constants (module_scope reading.definitions) of cs.constants in
      let fine = definition_is_fine reading.definitions well at (kind.Constants cs) is in
      constant-value n c of (type-known (module_names reading.definitions) false cs.type_name (nothing-first type_fine parts fine))
      (constants-fine (module_scope reading.definitions) of cs.constants item c (nothing-rest type_fine parts fine) found)
  constant-of n at item (Some (kind.Record r)) is c found = absurd (let e = found in cc)
  constant-of n at item (Some (kind.Enumerated r)) is c found = absurd (let e = found in cc)
  constant-of n at item (Some (kind.Port r)) is c found = absurd (let e = found in cc)
  constant-of n at item (Some (kind.Component r)) is c found = absurd (let e = found in cc)
  constant-of n at item (Some (kind.Template r)) is c found = absurd (let e = found in cc)
  constant-of n at item (Some (kind.Function r)) is c found = absurd (let e = found in cc)
  constant-of n at item (Some (kind.Altstep r)) is c found = absurd (let e = found in cc)
  constant-of n at item (Some (kind.Testcase r)) is c found = absurd (let e = found in cc)
  constant-of n at item None is c found = absurd (let e = found in cc)

  -- no chain that begins there is longer
  abbrev IsShort : ℕ → ℕ → Type 0
  IsShort n k = BeginsLongerChain (constants_and_templates reading.definitions) n k → ⊥

  constant-met : (n at item : ℕ) → IsShort (suc n) (number_at reading.definitions at + item) → ((k : ℕ) → IsShort n k → MetAt (outcomes_within n reading) k)
      → (c : Option Constant) → constant_at reading.definitions at item ≡ c → is_some c ≡ true → IsMet ((outcomes_within (suc n) reading).0 at item)
  constant-met n at item short met None found some = absurd (let e = some in cc)
  constant-met n at item short met (Some c) found some =
      let o : Outcomes = outcomes_within n reading in
      let of : Option DataType = constants_type (module_names reading.definitions) (kind_at reading.definitions at) in
      subst IsMet (sym (constant-within reading well n at item
      ∙ ap (λ d. constant_value (with_outcomes o (with_names (λ name. unmet) reading)) d of) found
      ∙ constant-next reading well o (patched o) n at item short (λ k s. agree o k (met k s)) (Some c) found of))
      (constant-of n at item (kind_at reading.definitions at) refl c found)

  -- ---- a template

  template-of-type : (n : ℕ) (t : TemplateDefinition) (values : List Value) (scope : Scope) → scope.definitions ≡ reading.definitions → IsWhole scope → FitsIn scope (family n (given_to t.parameters values))
      → HasAll scope (family n (given_to t.parameters values)) → (of : Option DataType) → is_some of ≡ true → template t.template scope (target_of of) ≡ []
      → IsMet (template_wanted t.template (family n (given_to t.parameters values)) of)
  template-of-type n t values scope same known fits has (Some u) typed nothing =
      templates_met t.template scope (family n (given_to t.parameters values)) known (subst FieldsDiffer (sym same) (fields_differ reading.definitions well))
      (subst ParametersKnown (sym same) (parameters_known reading.definitions well)) fits has u false nothing
  template-of-type n t values scope same known fits has None typed nothing = absurd (let e = typed in cc)

  template-body : (n : ℕ) (t : TemplateDefinition) (at : ℕ) → kind_at reading.definitions at ≡ Some (kind.Template t) → (values : List Value) → AreGiven reading.definitions t.parameters values
      → is_some (resolved (module_names reading.definitions) t.type_name) ≡ true
      → IsMet (template_wanted t.template (family n (given_to t.parameters values)) (resolved (module_names reading.definitions) t.type_name))
  template-body n t at is values are known =
      let scope : Scope = with_parameters (module_scope reading.definitions) t.parameters in
      let fine = parameters-fine reading.definitions well t at is in
      let fits = given-fits reading.definitions well (family n) (λ names name. refl) (family-fits n) t values fine are in
      template-of-type n t values scope (sym fits.definitions) (parameters_whole (module_scope reading.definitions) t.parameters fine whole) fits
      (given-has reading.definitions well (family n) (λ names name. refl) (family-fits n) t values fine are (family-has n (given_to t.parameters values)))
      (resolved (module_names reading.definitions) t.type_name) known (body-fine reading.definitions well t at is)

  template-called : (n : ℕ) (t : TemplateDefinition) (at : ℕ) (k : Option DefinitionKind) → kind_at reading.definitions at ≡ k → k ≡ Some (kind.Template t) → (values : List Value)
      → (is_some (template_type reading.definitions k) && are_given reading.definitions (parameters_of k) values) ≡ true
      → IsMet (template_wanted t.template (family n (given_to t.parameters values)) (resolved (module_names reading.definitions) t.type_name))
  template-called n t at k is of values given =
      let both = and_parts (is_some (template_type reading.definitions (Some (kind.Template t)))) (are_given reading.definitions t.parameters values)
      (subst (λ j. (is_some (template_type reading.definitions j) && are_given reading.definitions (parameters_of j) values) ≡ true) of given) in
      template-body n t at (is ∙ of) values (all-given reading.definitions t.parameters values both.1) both.0

  template-met : (n at : ℕ) → IsShort (suc n) (number_at reading.definitions at) → ((k : ℕ) → IsShort n k → MetAt (outcomes_within n reading) k)
      → (t : Option TemplateDefinition) → template_at reading.definitions at ≡ t → (values : List Value) → is_called at values ≡ true → IsMet ((outcomes_within (suc n) reading).1 at values)
  template-met n at short met None found values given = absurd (no-template (kind_at reading.definitions at) found (and_parts (is_some (template_type reading.definitions (kind_at reading.definitions at))) (are_given reading.definitions (parameters_of (kind_at reading.definitions at)) values) given).0)
    where
      no-template : (k : Option DefinitionKind) → template_of k ≡ None → is_some (template_type reading.definitions k) ≡ true → ⊥
      no-template (Some (kind.Template t)) none known = let e = none in cc
      no-template (Some (kind.Record r)) none known = let e = known in cc
      no-template (Some (kind.Enumerated r)) none known = let e = known in cc
      no-template (Some (kind.Port r)) none known = let e = known in cc
      no-template (Some (kind.Component r)) none known = let e = known in cc
      no-template (Some (kind.Constants r)) none known = let e = known in cc
      no-template (Some (kind.Function r)) none known = let e = known in cc
      no-template (Some (kind.Altstep r)) none known = let e = known in cc
      no-template (Some (kind.Testcase r)) none known = let e = known in cc
      no-template None none known = let e = known in cc
  template-met n at short met (Some t) found values given =
      let o : Outcomes = outcomes_within n reading in
      subst IsMet (sym (template-within reading well n (template_at reading.definitions at) values
      ∙ ap (λ d. template_value (λ names. with_outcomes o (with_names names reading)) d values) found
      ∙ template-next reading well o (patched o) n at short (λ k s. agree o k (met k s)) (Some t) found values))
      (template-called n t at (kind_at reading.definitions at) refl (kind-of-template reading.definitions (kind_at reading.definitions at) t found) values given)

  -- ---- both

  no-constant : (at item : ℕ) → IsShort 0 (number_at reading.definitions at + item) → (c : Option Constant) → constant_at reading.definitions at item ≡ c → is_some c ≡ true → ⊥
  no-constant at item short None found some = let e = some in cc
  no-constant at item short (Some c) found some =
      short (alone (constants_and_templates reading.definitions) (number_at reading.definitions at + item) (constant_parts (module_scope reading.definitions) c) (constant-placed reading.definitions at item c found))

  no-template-at : (at : ℕ) → IsShort 0 (number_at reading.definitions at) → (k : Option DefinitionKind) → kind_at reading.definitions at ≡ k → is_some (template_type reading.definitions k) ≡ true → ⊥
  no-template-at at short (Some (kind.Template t)) is known =
      short (alone (constants_and_templates reading.definitions) (number_at reading.definitions at) (template_parts (with_parameters (module_scope reading.definitions) t.parameters) t.template) (template-placed reading.definitions at t (ap template_of is)))
  no-template-at at short (Some (kind.Record r)) is known = let e = known in cc
  no-template-at at short (Some (kind.Enumerated r)) is known = let e = known in cc
  no-template-at at short (Some (kind.Port r)) is known = let e = known in cc
  no-template-at at short (Some (kind.Component r)) is known = let e = known in cc
  no-template-at at short (Some (kind.Constants r)) is known = let e = known in cc
  no-template-at at short (Some (kind.Function r)) is known = let e = known in cc
  no-template-at at short (Some (kind.Altstep r)) is known = let e = known in cc
  no-template-at at short (Some (kind.Testcase r)) is known = let e = known in cc
  no-template-at at short None is known = let e = known in cc

  -- where no longer chain begins, what is there is met
  met-at : (n k : ℕ) → IsShort n k → MetAt (outcomes_within n reading) k
  met-at zero k short = (
    λ at item e some. absurd (no-constant at item (subst (IsShort 0) (sym e) short) (constant_at reading.definitions at item) refl some),
    λ at e values given. absurd (no-template-at at (subst (IsShort 0) (sym e) short) (kind_at reading.definitions at) refl
        (and_parts (is_some (template_type reading.definitions (kind_at reading.definitions at))) (are_given reading.definitions (parameters_of (kind_at reading.definitions at)) values) given).0),
  )
  met-at (suc n) k short = (
    λ at item e some. constant-met n at item (subst (IsShort (suc n)) (sym e) short) (met-at n) (constant_at reading.definitions at item) refl some,
    λ at e values given. template-met n at (subst (IsShort (suc n)) (sym e) short) (met-at n) (template_at reading.definitions at) refl values given,
  )

  has-all : (n : ℕ) → 200 ≤ n → (names : List ℕ → Outcome Value) → HasAll (module_scope reading.definitions) (with_names names (within_chains n reading))
  has-all n enough names =
      module-has reading.definitions (with_names names (within_chains n reading)) refl (λ name. refl)
      (λ at item some. (met-at n (number_at reading.definitions at + item) (no-longer reading.definitions well n enough (number_at reading.definitions at + item))).0 at item refl some)
      (λ at values known are. (met-at n (number_at reading.definitions at) (no-longer reading.definitions well n enough (number_at reading.definitions at))).1 at refl values (called at values known are))

-- a reading of a well-typed module has all that the module's scope knows
pub module_has_all : (definitions : List Definition) → AreWellTyped definitions → (n : ℕ) → 200 ≤ n → (reading : Reading) → reading.definitions ≡ definitions → (names : List ℕ → Outcome Value)
    → HasAll (module_scope definitions) (with_names names (within_chains n reading))
module_has_all definitions well n enough reading is names =
    subst (λ ds. HasAll (module_scope ds) (with_names names (within_chains n reading))) is (has-all reading (subst AreWellTyped (sym is) well) n enough names)
