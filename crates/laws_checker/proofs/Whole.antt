-- The scopes of a module that breaks no rule are whole.
use Rattle.std.proofs.Common.{◌≡◌, ℕ, ◌+◌, zero, suc, Bool, true, false, not, List, [], ◌∷◌, ◌++◌, map, bytes_eq, Option, Some, None, is_some, IfSome, if◌then◌else◌, refl, sym, subst, arith}
use Rattle.std.proofs.lemmas.List.Elements.{All-cons, All-nil}
use Rattle.std.specs.List.{All, Contains, list_any}
use Rattle.std.specs.Option.{option_or}
use Rattle.ttcn_syntax.specs.declared.tree.definition.Definition.{Definition}
use Rattle.ttcn_syntax.specs.declared.tree.definition.DefinitionKind.{DefinitionKind}
use Rattle.ttcn_syntax.specs.declared.tree.definition.DefinitionKind.TheVariants as kind
use Rattle.ttcn_syntax.specs.declared.tree.definition.Enumerator.{Enumerator}
use Rattle.ttcn_syntax.specs.declared.tree.definition.Field.{Field}
use Rattle.ttcn_syntax.specs.declared.tree.definition.Function.{Function}
use Rattle.ttcn_syntax.specs.declared.tree.definition.Member.{Member}
use Rattle.ttcn_syntax.specs.declared.tree.definition.Member.TheVariants as member
use Rattle.ttcn_syntax.specs.declared.tree.definition.MemberVariable.{MemberVariable}
use Rattle.ttcn_syntax.specs.declared.tree.definition.Parameter.{Parameter}
use Rattle.ttcn_syntax.specs.declared.tree.definition.TemplateDefinition.{TemplateDefinition}
use Rattle.ttcn_syntax.specs.declared.tree.statement.Constant.{Constant}
use Rattle.ttcn_syntax.specs.declared.tree.statement.Constants.{Constants}
use Rattle.ttcn_syntax.specs.declared.tree.statement.Timer.{Timer}
use Rattle.ttcn_syntax.specs.declared.tree.statement.Variables.{Variables}
use Rattle.ttcn_syntax.specs.declared.tree.value.TypeName.{TypeName}
use Rattle.ttcn_syntax.specs.declared.tree.value.TypeName.TheVariants as type_name
use Rattle.check_rules.proofs.Meanings.{EachMeans, means-append}
use Rattle.laws_checker.proofs.Nothing.{kept, nothing-first, nothing-rest}
use Rattle.check_rules.specs.Declarations.{behind_all, one_by_one}
use Rattle.check_rules.specs.Definitions.{as_part, check_component_name, check_result, place_in, returns_of, check_member_variable, check_parameter, check_part, check_port_name, check_sites, check_definition, check_definitions, check_fields, check_member, check_members, check_module_constants, check_parameters, member_variable_entry, parameter_entry, port_entry, with_parameters}
use Rattle.check_scope.specs.Scopes.{check_module_names, component_scope, module_scope, scope_on}
use Rattle.check_rules.specs.Calls.{component_named, result_type_of, template_type}
use Rattle.laws_checker.specs.Laws.{HasFieldType, IsKnown, IsWhole}
use Rattle.check_scope.specs.Names.{Entry, Names, Scope, behind_members, fields_of, constant_entries, constants_type, declaring, entries_at, entries_from, kind_at, listed, member_entries, members_of, module_names, port_type_meant, resolved, type_meant}
use Rattle.check_rules.specs.Rules.{AreWellTyped}
use Rattle.check_rules.specs.Rules.Breaks.{site}
use Rattle.check_rules.specs.Statements.{statements}
use Rattle.check_rules.specs.Targets.{check_constant, check_constants, check_new_name, check_timer_name, check_timers, check_type, check_variable, check_variables, behind_constants, behind_timers, behind_variables, constant_entry, timer_entry, variable_entry}
use Rattle.check_rules.specs.Templates.{template}
use Rattle.check_scope.specs.Typings.{target_of, unless}
use Rattle.check_scope.specs.declared.names.Meaning.{Meaning}
use Rattle.check_scope.specs.declared.names.Meaning.TheVariants as meaning
use Rattle.check_scope.specs.declared.rule.Rule.{Rule}
use Rattle.check_scope.specs.declared.rule.Rule.TheVariants as rule

-- ---- nothing is broken at any site

none-listed : (rules : List Rule) → ((r : Rule) → Contains rules r → ⊥) → rules ≡ []
none-listed [] none = refl
none-listed (r ∷ rules) none = absurd (none r (0, omega arith, refl))

pub nothing-at-sites : (definitions : List Definition) → AreWellTyped definitions → check_sites definitions ≡ []
nothing-at-sites definitions well = none-listed (check_sites definitions) (λ r contains. well r (site contains))

nothing-in : (definitions : List Definition) → AreWellTyped definitions → check_definitions definitions 0 definitions ≡ []
nothing-in definitions well = nothing-rest (check_module_names definitions) (check_definitions definitions 0 definitions) (nothing-at-sites definitions well)

some-is : (k other : DefinitionKind) → Some k ≡ Some other → k ≡ other
some-is k other is = cc

at-position : (all : List Definition) (at : ℕ) (definitions : List Definition) (i : ℕ) (k : DefinitionKind) → check_definitions all at definitions ≡ []
    → kind_at definitions i ≡ Some k → check_definition all (i + at) k ≡ []
at-position all at [] i k nothing is = absurd (let e = is in cc)
at-position all at (d ∷ definitions) zero k nothing is =
    subst (λ n. check_definition all n k ≡ []) (omega arith)
    (subst (λ other. check_definition all at other ≡ []) (some-is d.kind k is) (nothing-first (check_definition all at d.kind) (check_definitions all (at + 1) definitions) nothing))
at-position all at (d ∷ definitions) (suc i) k nothing is =
    subst (λ n. check_definition all n k ≡ []) (omega arith)
    (at-position all (at + 1) definitions i k (nothing-rest (check_definition all at d.kind) (check_definitions all (at + 1) definitions) nothing) is)

-- a definition breaks nothing inside
pub definition_is_fine : (definitions : List Definition) → AreWellTyped definitions → (at : ℕ) (k : DefinitionKind) → kind_at definitions at ≡ Some k
    → check_definition definitions at k ≡ []
definition_is_fine definitions well at k is =
    subst (λ n. check_definition definitions n k ≡ []) (omega arith) (at-position definitions 0 definitions at k (nothing-in definitions well) is)

-- ---- types

type-known : (names : Names) (with_default : Bool) (t : TypeName) → check_type names with_default t ≡ [] → is_some (resolved names t) ≡ true
type-known names with_default type_name.Integer nothing = refl
type-known names with_default type_name.Boolean nothing = refl
type-known names with_default type_name.Default nothing = refl
type-known names with_default (type_name.Named name) nothing = kept (is_some (type_meant (names name))) rule.UnknownName nothing

meant-known : (m : Option Meaning) → as_part m ≡ [] → is_some (type_meant m) ≡ true
meant-known (Some (meaning.Record at)) nothing = refl
meant-known (Some (meaning.Enumerated at)) nothing = refl
meant-known (Some (meaning.Component at)) nothing = refl
meant-known (Some (meaning.PortType at)) nothing = absurd (let e = nothing in cc)
meant-known (Some (meaning.Enumerator at)) nothing = absurd (let e = nothing in cc)
meant-known (Some (meaning.ModuleConstant at item)) nothing = absurd (let e = nothing in cc)
meant-known (Some (meaning.Template at)) nothing = absurd (let e = nothing in cc)
meant-known (Some (meaning.Function at)) nothing = absurd (let e = nothing in cc)
meant-known (Some (meaning.Altstep at)) nothing = absurd (let e = nothing in cc)
meant-known (Some (meaning.Testcase at)) nothing = absurd (let e = nothing in cc)
meant-known (Some (meaning.Variable of)) nothing = absurd (let e = nothing in cc)
meant-known (Some (meaning.Constant of)) nothing = absurd (let e = nothing in cc)
meant-known (Some (meaning.Port of)) nothing = absurd (let e = nothing in cc)
meant-known (Some meaning.Timer) nothing = absurd (let e = nothing in cc)
meant-known None nothing = absurd (let e = nothing in cc)

part-known : (names : Names) (t : TypeName) → check_part names t ≡ [] → is_some (resolved names t) ≡ true
part-known names type_name.Integer nothing = refl
part-known names type_name.Boolean nothing = refl
part-known names type_name.Default nothing = refl
part-known names (type_name.Named name) nothing = meant-known (names name) nothing

fields-known : (definitions : List Definition) (before : List (List ℕ)) (fields : List Field) → check_fields (module_names definitions) before fields ≡ []
    → All (HasFieldType definitions) fields
fields-known definitions before [] nothing = All-nil (HasFieldType definitions)
fields-known definitions before (field ∷ fields) nothing =
    let names = module_names definitions in
    let new : List Rule = unless (not (list_any (bytes_eq field.name) before)) rule.DuplicateName in
    let others : List Rule = check_fields names (before ++ field.name ∷ []) fields in
    let here : new ++ check_part names field.type_name ≡ [] = nothing-first (new ++ check_part names field.type_name) others nothing in
    All-cons (HasFieldType definitions) field fields (part-known names field.type_name (nothing-rest new (check_part names field.type_name) here))
    (fields-known definitions (before ++ field.name ∷ []) fields (nothing-rest (new ++ check_part names field.type_name) others nothing))

-- ---- names

if-or : (P : Meaning → Type 0) (one other : Option Meaning) → IfSome one P → IfSome other P → IfSome (option_or one other) P
if-or P (Some m) other here there = here
if-or P None other here there = there

if-chosen : (P : Meaning → Type 0) (b : Bool) (m : Meaning) → P m → IfSome (if b then Some m else None) P
if-chosen P true m holds = holds
if-chosen P false m holds = tt

if-listed : (P : Meaning → Type 0) (entries : List Entry) (name : List ℕ) → EachMeans P entries → IfSome (listed entries name) P
if-listed P [] name each = tt
if-listed P (entry ∷ entries) name each =
    if-or P (listed entries name) (if bytes_eq entry.0 name then Some entry.1 else None) (if-listed P entries name each.1) (if-chosen P (bytes_eq entry.0 name) entry.1 each.0)

-- what is declared with known types leaves a scope whole
pub declaring-whole : (scope : Scope) (entries : List Entry) → IsWhole scope → EachMeans (IsKnown scope.definitions) entries → IsWhole (declaring scope entries)
declaring-whole scope entries whole each = record {
  names = λ name. if-or (IsKnown scope.definitions) (listed entries name) (scope.names name) (if-listed (IsKnown scope.definitions) entries name each) (whole.names name);
  fields = whole.fields;
}

one-declared : (scope : Scope) (entry : Entry) → IsWhole scope → IsKnown scope.definitions entry.1 → IsWhole (declaring scope (entry ∷ []))
one-declared scope entry whole known = declaring-whole scope (entry ∷ []) whole (known, tt)

-- names that are declared one behind the other
all-declared : {A : Type 0} (rules : Scope → A → List Rule) (entry : Scope → A → Entry) → ((s : Scope) (x : A) → rules s x ≡ [] → IsKnown s.definitions (entry s x).1)
    → (scope : Scope) (items : List A) → one_by_one rules entry scope items ≡ [] → IsWhole scope → IsWhole (behind_all entry scope items)
all-declared rules entry known scope [] nothing whole = whole
all-declared rules entry known scope (x ∷ items) nothing whole =
    let behind : Scope = declaring scope (entry scope x ∷ []) in
    all-declared rules entry known behind items (nothing-rest (rules scope x) (one_by_one rules entry behind items) nothing)
    (one-declared scope (entry scope x) whole (known scope x (nothing-first (rules scope x) (one_by_one rules entry behind items) nothing)))

-- ---- declarations

pub variables-whole : (scope : Scope) (vs : Variables) → check_variables scope vs ≡ [] → IsWhole scope → IsWhole (behind_variables scope vs)
variables-whole scope vs nothing whole =
    let of = resolved scope.names vs.type_name in
    let items : List Rule = one_by_one (check_variable of) (variable_entry of) scope vs.variables in
    all-declared (check_variable of) (variable_entry of) (λ s x fine. type-known scope.names true vs.type_name (nothing-first (check_type scope.names true vs.type_name) items nothing))
    scope vs.variables (nothing-rest (check_type scope.names true vs.type_name) items nothing) whole

pub constants-whole : (scope : Scope) (cs : Constants) → check_constants scope cs ≡ [] → IsWhole scope → IsWhole (behind_constants scope cs)
constants-whole scope cs nothing whole =
    let of = resolved scope.names cs.type_name in
    let items : List Rule = one_by_one (check_constant of) (constant_entry of) scope cs.constants in
    all-declared (check_constant of) (constant_entry of) (λ s x fine. type-known scope.names false cs.type_name (nothing-first (check_type scope.names false cs.type_name) items nothing))
    scope cs.constants (nothing-rest (check_type scope.names false cs.type_name) items nothing) whole

pub timers-whole : (scope : Scope) (timers : List Timer) → check_timers scope timers ≡ [] → IsWhole scope → IsWhole (behind_timers scope timers)
timers-whole scope timers nothing whole = all-declared check_timer_name timer_entry (λ s x fine. tt) scope timers nothing whole

pub parameters_whole : (scope : Scope) (parameters : List Parameter) → check_parameters scope parameters ≡ [] → IsWhole scope → IsWhole (with_parameters scope parameters)
parameters_whole scope parameters nothing whole =
    all-declared check_parameter parameter_entry
    (λ s p fine. type-known s.names true p.type_name (nothing-rest (check_new_name s.names p.name) (check_type s.names true p.type_name) fine))
    scope parameters nothing whole

-- ---- members

each-mapped : {A : Type 0} (P : Meaning → Type 0) (entry : A → Entry) (items : List A) → ((x : A) → P (entry x).1) → EachMeans P (map entry items)
each-mapped P entry [] holds = tt
each-mapped P entry (x ∷ items) holds = (holds x, each-mapped P entry items holds)

member-known : (scope : Scope) (m : Member) → check_member scope m ≡ [] → EachMeans (IsKnown scope.definitions) (member_entries scope.names m)
member-known scope (member.Ports port_type ports) nothing =
    let of = port_type_meant (scope.names port_type) in
    each-mapped (IsKnown scope.definitions) (λ (name : List ℕ). (name, meaning.Port of)) ports
    (λ name. kept (is_some of) rule.UnknownName (nothing-first (unless (is_some of) rule.UnknownName) (one_by_one check_port_name (port_entry of) scope ports) nothing))
member-known scope (member.Constants cs) nothing =
    let of = resolved scope.names cs.type_name in
    each-mapped (IsKnown scope.definitions) (λ (c : Constant). (c.name, meaning.Constant of)) cs.constants
    (λ c. type-known scope.names false cs.type_name (nothing-first (check_type scope.names false cs.type_name) (one_by_one (check_constant of) (constant_entry of) scope cs.constants) nothing))
member-known scope (member.Variables t variables) nothing =
    let of = resolved scope.names t in
    each-mapped (IsKnown scope.definitions) (λ (v : MemberVariable). (v.name, meaning.Variable of)) variables
    (λ v. type-known scope.names true t (nothing-first (check_type scope.names true t) (one_by_one (check_member_variable of) (member_variable_entry of) scope variables) nothing))
member-known scope (member.Timers timers) nothing = each-mapped (IsKnown scope.definitions) (λ (t : Timer). (t.name, meaning.Timer)) timers (λ t. tt)

-- a scope with other names
abbrev pub naming : Scope → Names → Scope
naming scope names = record { definitions = scope.definitions; names = names; itself = scope.itself }

members-whole : (scope : Scope) (members : List Member) → check_members scope members ≡ [] → IsWhole scope → IsWhole (naming scope (behind_members scope.names members))
members-whole scope [] nothing whole = whole
members-whole scope (m ∷ members) nothing whole =
    let behind : Scope = declaring scope (member_entries scope.names m) in
    members-whole behind members (nothing-rest (check_member scope m) (check_members behind members) nothing)
    (declaring-whole scope (member_entries scope.names m) whole (member-known scope m (nothing-first (check_member scope m) (check_members behind members) nothing)))

-- ---- the module

module _ (definitions : List Definition) (well : AreWellTyped definitions) where
  constants-known : (at item : ℕ) (cs : Constants) (constants : List Constant) → kind_at definitions at ≡ Some (kind.Constants cs)
      → EachMeans (IsKnown definitions) (constant_entries at item constants)
  constants-known at item cs [] is = tt
  constants-known at item cs (c ∷ constants) is =
      let names = module_names definitions in
      let fine : check_definition definitions at (kind.Constants cs) ≡ [] = definition_is_fine definitions well at (kind.Constants cs) is in (
        subst (λ k. is_some (constants_type names k) ≡ true) (sym is)
            (type-known names false cs.type_name (nothing-first (check_type names false cs.type_name) (check_module_constants (module_scope definitions) (resolved names cs.type_name) cs.constants) fine)),
        constants-known at (item + 1) cs constants is,
      )

  template-known : (at : ℕ) (t : TemplateDefinition) → kind_at definitions at ≡ Some (kind.Template t) → is_some (template_type definitions (kind_at definitions at)) ≡ true
  template-known at t is =
      let scope : Scope = module_scope definitions in
      let typed : List Rule = check_type scope.names false t.type_name in
      let parameters : List Rule = check_parameters scope t.parameters in
      let body : List Rule = template t.template (with_parameters scope t.parameters) (target_of (resolved scope.names t.type_name)) in
      subst (λ k. is_some (template_type definitions k) ≡ true) (sym is)
      (type-known scope.names false t.type_name (nothing-first typed parameters (nothing-first (typed ++ parameters) body (definition_is_fine definitions well at (kind.Template t) is))))

  result-known : (of : Option TypeName) → check_result definitions of ≡ [] → IfSome of (λ t. is_some (resolved (module_names definitions) t) ≡ true)
  result-known None nothing = tt
  result-known (Some t) nothing = type-known (module_names definitions) false t nothing

  function-known : (at : ℕ) (f : Function) → kind_at definitions at ≡ Some (kind.Function f)
      → IfSome (result_type_of (kind_at definitions at)) (λ of. is_some (resolved (module_names definitions) of) ≡ true)
  function-known at f is =
      let scope : Scope = scope_on definitions (component_named definitions f.runs_on) in
      let named : List Rule = check_component_name definitions f.runs_on in
      let parameters : List Rule = check_parameters scope f.parameters in
      let result : List Rule = check_result definitions f.returns in
      let body : List Rule = statements f.body (place_in scope f.parameters (returns_of definitions f.returns)) in
      subst (λ k. IfSome (result_type_of k) (λ of. is_some (resolved (module_names definitions) of) ≡ true)) (sym is)
      (result-known f.returns (nothing-rest (named ++ parameters) result
      (nothing-first ((named ++ parameters) ++ result) body (definition_is_fine definitions well at (kind.Function f) is))))

  kind-known : (at : ℕ) (k : DefinitionKind) → kind_at definitions at ≡ Some k → EachMeans (IsKnown definitions) (entries_at at k)
  kind-known at (kind.Record r) is = (tt, tt)
  kind-known at (kind.Enumerated e) is = (tt, each-mapped (IsKnown definitions) (λ (n : Enumerator). (n.name, meaning.Enumerator at)) e.enumerators (λ n. tt))
  kind-known at (kind.Port p) is = (tt, tt)
  kind-known at (kind.Component c) is = (tt, tt)
  kind-known at (kind.Constants cs) is = constants-known at 0 cs cs.constants is
  kind-known at (kind.Template t) is = (template-known at t is, tt)
  kind-known at (kind.Function f) is = (function-known at f is, tt)
  kind-known at (kind.Altstep a) is = (tt, tt)
  kind-known at (kind.Testcase t) is = (tt, tt)

  from-known : (at : ℕ) (rest : List Definition) → ((i : ℕ) (k : DefinitionKind) → kind_at rest i ≡ Some k → kind_at definitions (i + at) ≡ Some k)
      → EachMeans (IsKnown definitions) (entries_from at rest)
  from-known at [] stand = tt
  from-known at (d ∷ rest) stand =
      means-append (IsKnown definitions) (entries_at at d.kind) (entries_from (at + 1) rest)
      (kind-known at d.kind (subst (λ n. kind_at definitions n ≡ Some d.kind) (omega arith) (stand 0 d.kind refl)))
      (from-known (at + 1) rest (λ i k is. subst (λ n. kind_at definitions n ≡ Some k) (omega arith) (stand (suc i) k is)))

  record-known : (k : Option DefinitionKind) (at : ℕ) → kind_at definitions at ≡ k → All (HasFieldType definitions) (fields_of k)
  record-known (Some (kind.Record r)) at is = fields-known definitions [] r.fields (definition_is_fine definitions well at (kind.Record r) is)
  record-known (Some (kind.Enumerated e)) at is = All-nil (HasFieldType definitions)
  record-known (Some (kind.Port p)) at is = All-nil (HasFieldType definitions)
  record-known (Some (kind.Component c)) at is = All-nil (HasFieldType definitions)
  record-known (Some (kind.Constants cs)) at is = All-nil (HasFieldType definitions)
  record-known (Some (kind.Template t)) at is = All-nil (HasFieldType definitions)
  record-known (Some (kind.Function f)) at is = All-nil (HasFieldType definitions)
  record-known (Some (kind.Altstep a)) at is = All-nil (HasFieldType definitions)
  record-known (Some (kind.Testcase t)) at is = All-nil (HasFieldType definitions)
  record-known None at is = All-nil (HasFieldType definitions)

  pub module_whole : (itself : Option ℕ) → IsWhole (record { definitions = definitions; names = module_names definitions; itself = itself })
  module_whole itself = record {
    names = λ name. if-listed (IsKnown definitions) (entries_from 0 definitions) name (from-known 0 definitions (λ i k is. subst (λ n. kind_at definitions n ≡ Some k) (omega arith) is));
    fields = λ at. record-known (kind_at definitions at) at refl;
  }

  component-whole : (k : Option DefinitionKind) (at : ℕ) → kind_at definitions at ≡ k → IsWhole (record { definitions = definitions; names = behind_members (module_names definitions) (members_of k); itself = Some at })
  component-whole (Some (kind.Component c)) at is =
      members-whole (component_scope definitions at) c.members (definition_is_fine definitions well at (kind.Component c) is) (module_whole (Some at))
  component-whole (Some (kind.Record r)) at is = module_whole (Some at)
  component-whole (Some (kind.Enumerated e)) at is = module_whole (Some at)
  component-whole (Some (kind.Port p)) at is = module_whole (Some at)
  component-whole (Some (kind.Constants cs)) at is = module_whole (Some at)
  component-whole (Some (kind.Template t)) at is = module_whole (Some at)
  component-whole (Some (kind.Function f)) at is = module_whole (Some at)
  component-whole (Some (kind.Altstep a)) at is = module_whole (Some at)
  component-whole (Some (kind.Testcase t)) at is = module_whole (Some at)
  component-whole None at is = module_whole (Some at)

  -- the scope of a behaviour
  pub behaviour_whole : (runs_on : Option ℕ) → IsWhole (scope_on definitions runs_on)
  behaviour_whole None = module_whole None
  behaviour_whole (Some at) = component-whole (kind_at definitions at) at refl
