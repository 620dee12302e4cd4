-- Right sides that break no rule.
use Rattle.std.proofs.Common.{◌≡◌, ℕ, Bool, true, false, List, [], ◌∷◌, ◌++◌, Option, Some, None, is_none, refl, subst}
use Rattle.ttcn_syntax.specs.declared.tree.definition.DefinitionKind.{DefinitionKind}
use Rattle.ttcn_syntax.specs.declared.tree.definition.DefinitionKind.TheVariants as kind
use Rattle.ttcn_syntax.specs.declared.tree.statement.Assignment.{Assignment}
use Rattle.ttcn_syntax.specs.declared.tree.statement.Constant.{Constant}
use Rattle.ttcn_syntax.specs.declared.tree.statement.Constants.{Constants}
use Rattle.ttcn_syntax.specs.declared.tree.statement.Variable.{Variable}
use Rattle.ttcn_syntax.specs.declared.tree.statement.Variables.{Variables}
use Rattle.ttcn_syntax.specs.declared.tree.value.Call.{Call}
use Rattle.ttcn_syntax.specs.declared.tree.value.Rhs.{Rhs}
use Rattle.ttcn_syntax.specs.declared.tree.value.Rhs.TheVariants as rhs
use Rattle.ttcn_syntax.specs.declared.tree.value.TypeName.{TypeName}
use Rattle.check_rules.specs.Calls.{behaviour_meant, check_activation, check_call, gives_value, result_type_of, result_typing}
use Rattle.check_rules.specs.Declarations.{one_by_one}
use Rattle.check_rules.specs.Targets.{call_typing, check_assignment, check_constant, check_constants, check_created, check_initial, check_new_name, check_rhs, check_target, check_type, check_variable, check_variables, constant_entry, target_at, variable_entry}
use Rattle.check_rules.specs.Values.{value}
use Rattle.check_scope.specs.Names.{Scope, component_meant, declaring, kind_at, module_names, resolved}
use Rattle.check_scope.specs.Typings.{fits, goes_to, same_type, target_of, type_known, unless}
use Rattle.check_scope.specs.declared.rule.Rule.{Rule}
use Rattle.check_scope.specs.declared.rule.Rule.TheVariants as rule
use Rattle.check_scope.specs.declared.types.DataType.{DataType}
use Rattle.check_scope.specs.declared.types.DataType.TheVariants as type
use Rattle.check_scope.specs.declared.types.Typing.{Typing}
use Rattle.check_scope.specs.declared.types.Typing.TheVariants as typing
use Rattle.laws_checker.proofs.Fitting.{call_resolves}
use Rattle.laws_checker.proofs.Nothing.{kept, nothing-first, nothing-rest}
use Rattle.laws_checker.specs.Laws.{IsWhole, Resolves}
use Rattle.laws_statements.proofs.Assigning.{reference-typed, reference-variable}
use Rattle.laws_statements.proofs.Resolving.{activation_resolves}
use Rattle.laws_statements.proofs.Typing.{goes-typed, same-types, some-of}
use Rattle.laws_statements.proofs.Typing as known
use Rattle.laws_statements.specs.Results.{IsResultKnown, KnowsResults}
use Rattle.laws_statements.specs.Targets.{AreConstants, AreVariables, Creates, DeclaresConstants, DeclaresVariables, GivesResult, IsAssignment, IsInitial, IsRightSide}

has-result : (k : Option DefinitionKind) → gives_value k ≡ true → (name : TypeName) × (result_type_of k ≡ Some name)
has-result (Some (kind.Function f)) is = some-of f.returns is
has-result _ is = absurd (let e = is in cc)

module _ (scope : Scope) (knows : KnowsResults scope.definitions) where
  created : (t : DataType) (name : List ℕ) (meant : Option ℕ) → component_meant (scope.names name) ≡ meant → check_created (Some t) meant ≡ [] → Creates scope t name
  created t name None is nothing = absurd (let e = nothing in cc)
  created t name (Some at) is nothing =
      record { at = at; meant = is; is = same-types t (type.Component at) (kept (same_type t (type.Component at)) rule.ValueType nothing) }

  called : (t : DataType) (call : Call) → Resolves scope gives_value call → fits (Some t) (call_typing scope (behaviour_meant (scope.names call.name))) ≡ true → GivesResult scope t call
  called t call resolves fit =
      let k : Option DefinitionKind = kind_at scope.definitions resolves.at in
      let named = has-result k resolves.kind in
      let goes : goes_to t (result_typing scope (result_type_of k)) ≡ true = subst (λ m. goes_to t (call_typing scope m) ≡ true) resolves.meant fit in
      record {
        resolves = resolves;
        of = named.0;
        result = named.1;
        is = goes-typed t (resolved (module_names scope.definitions) named.0) (subst (IsResultKnown scope.definitions) named.1 (knows resolves.at))
            (subst (λ o. goes_to t (result_typing scope o) ≡ true) named.1 goes);
      }

  pub right_fits : (t : DataType) (o : Bool) (right : Rhs) → check_rhs scope (record { data_type = Some t; optional = o }) right ≡ [] → IsRightSide scope t o right
  right_fits t o (rhs.Value v) nothing = nothing
  right_fits t o (rhs.Create name) nothing = created t name (component_meant (scope.names name)) refl nothing
  right_fits t o (rhs.Call call) nothing =
      let resolving : List Rule = check_call scope gives_value call in
      let fit : Bool = fits (Some t) (call_typing scope (behaviour_meant (scope.names call.name))) in
      called t call (call_resolves scope gives_value call (nothing-first resolving (unless fit rule.ValueType) nothing))
      (kept fit rule.ValueType (nothing-rest resolving (unless fit rule.ValueType) nothing))
  right_fits t o (rhs.Activate call) nothing =
      let activating : List Rule = check_activation scope call in
      let fit : Bool = fits (Some t) (typing.Known type.Default) in (
        activation_resolves scope call (nothing-first activating (unless fit rule.ValueType) nothing),
        same-types t type.Default (kept fit rule.ValueType (nothing-rest activating (unless fit rule.ValueType) nothing)),
      )

  initial-fits : (t : DataType) (right : Option Rhs) → check_initial scope (target_of (Some t)) right ≡ [] → IsInitial scope t right
  initial-fits t None nothing = tt
  initial-fits t (Some right) nothing = right_fits t false right nothing

  pub assignment_fits : IsWhole scope → (assignment : Assignment) → check_assignment scope assignment ≡ [] → IsAssignment scope assignment
  assignment_fits whole assignment nothing =
      let target = check_target scope assignment.target in
      let right = check_rhs scope (target_at scope assignment.target) assignment.value in
      let fine : target.broken ≡ [] = nothing-first target.broken right nothing in
      let is = reference-typed scope whole assignment.target fine in
      let optional : Bool = (target_at scope assignment.target).optional in
      record {
        data_type = is.0;
        target = reference-variable scope whole assignment.target is.0 is.1 fine;
        right = right_fits is.0 optional assignment.value
            (subst (λ (t : Typing). check_rhs scope (record { data_type = type_known t; optional = optional }) assignment.value ≡ []) is.1 (nothing-rest target.broken right nothing));
      }

-- ---- declarations

each-variable : (scope : Scope) → KnowsResults scope.definitions → (t : DataType) (vs : List Variable) → one_by_one (check_variable (Some t)) (variable_entry (Some t)) scope vs ≡ [] → AreVariables scope t vs
each-variable scope knows t [] nothing = tt
each-variable scope knows t (v ∷ vs) nothing =
    let new : List Rule = check_new_name scope.names v.name in
    let initial : List Rule = check_initial scope (target_of (Some t)) v.value in
    let behind : Scope = declaring scope (variable_entry (Some t) scope v ∷ []) in
    let others : List Rule = one_by_one (check_variable (Some t)) (variable_entry (Some t)) behind vs in
    let here : new ++ initial ≡ [] = nothing-first (new ++ initial) others nothing in (
      kept (is_none (scope.names v.name)) rule.DuplicateName (nothing-first new initial here),
      initial-fits scope knows t v.value (nothing-rest new initial here),
      each-variable behind knows t vs (nothing-rest (new ++ initial) others nothing),
    )

pub variables_fit : (scope : Scope) → KnowsResults scope.definitions → (vs : Variables) → check_variables scope vs ≡ [] → DeclaresVariables scope vs
variables_fit scope knows vs nothing =
    let named : List Rule = check_type scope.names true vs.type_name in
    let items = λ (of : Option DataType). one_by_one (check_variable of) (variable_entry of) scope vs.variables in
    let declared = items (resolved scope.names vs.type_name) in
    let of = some-of (resolved scope.names vs.type_name) (known.type_known scope.names true vs.type_name (nothing-first named declared nothing)) in
    record {
      data_type = of.0;
      known = of.1;
      each = each-variable scope knows of.0 vs.variables (subst (λ t. items t ≡ []) of.1 (nothing-rest named declared nothing));
    }

each-constant : (scope : Scope) (t : DataType) (cs : List Constant) → one_by_one (check_constant (Some t)) (constant_entry (Some t)) scope cs ≡ [] → AreConstants scope t cs
each-constant scope t [] nothing = tt
each-constant scope t (c ∷ cs) nothing =
    let new : List Rule = check_new_name scope.names c.name in
    let given : List Rule = value c.value scope (target_of (Some t)) in
    let behind : Scope = declaring scope (constant_entry (Some t) scope c ∷ []) in
    let others : List Rule = one_by_one (check_constant (Some t)) (constant_entry (Some t)) behind cs in
    let here : new ++ given ≡ [] = nothing-first (new ++ given) others nothing in (
      kept (is_none (scope.names c.name)) rule.DuplicateName (nothing-first new given here),
      nothing-rest new given here,
      each-constant behind t cs (nothing-rest (new ++ given) others nothing),
    )

pub constants_fit : (scope : Scope) (cs : Constants) → check_constants scope cs ≡ [] → DeclaresConstants scope cs
constants_fit scope cs nothing =
    let named : List Rule = check_type scope.names false cs.type_name in
    let items = λ (of : Option DataType). one_by_one (check_constant of) (constant_entry of) scope cs.constants in
    let declared = items (resolved scope.names cs.type_name) in
    let of = some-of (resolved scope.names cs.type_name) (known.type_known scope.names false cs.type_name (nothing-first named declared nothing)) in
    record {
      data_type = of.0;
      known = of.1;
      each = each-constant scope of.0 cs.constants (subst (λ t. items t ≡ []) of.1 (nothing-rest named declared nothing));
    }
