-- Members of component types that break no rule.
use Rattle.std.proofs.Common.{◌≡◌, ℕ, true, false, List, [], ◌∷◌, ◌++◌, map, Option, Some, None, is_none, is_some, refl, sym, subst}
use Rattle.std.specs.Option.{option_or}
use Rattle.ttcn_syntax.specs.declared.tree.definition.ComponentType.{ComponentType}
use Rattle.ttcn_syntax.specs.declared.tree.definition.Definition.{Definition}
use Rattle.ttcn_syntax.specs.declared.tree.definition.DefinitionKind.TheVariants as kind
use Rattle.ttcn_syntax.specs.declared.tree.definition.Member.{Member}
use Rattle.ttcn_syntax.specs.declared.tree.definition.Member.TheVariants as member
use Rattle.ttcn_syntax.specs.declared.tree.definition.MemberVariable.{MemberVariable}
use Rattle.ttcn_syntax.specs.declared.tree.statement.Constant.{Constant}
use Rattle.ttcn_syntax.specs.declared.tree.statement.Timer.{Timer}
use Rattle.ttcn_syntax.specs.declared.tree.value.TypeName.{TypeName}
use Rattle.ttcn_syntax.specs.declared.tree.value.TypeName.TheVariants as type_name
use Rattle.ttcn_syntax.specs.declared.tree.value.Value.{Value}
use Rattle.check_rules.specs.Declarations.{one_by_one}
use Rattle.check_rules.specs.Targets.{check_constant, check_new_name, check_timer_name, check_type, constant_entry, timer_entry}
use Rattle.check_scope.specs.Names.{Entry, Names, Scope, behind, behind_members, declaring, kind_at, listed, member_entries, module_names, port_type_meant, resolved, type_meant}
use Rattle.check_scope.specs.Scopes.{component_scope}
use Rattle.check_scope.specs.Typings.{target_of, unless}
use Rattle.check_scope.specs.declared.names.Meaning.{Meaning}
use Rattle.check_scope.specs.declared.names.Meaning.TheVariants as meaning
use Rattle.check_scope.specs.declared.rule.Rule.{Rule}
use Rattle.check_scope.specs.declared.rule.Rule.TheVariants as rule
use Rattle.check_scope.specs.declared.types.DataType.{DataType}
use Rattle.check_rules.specs.Definitions.{check_initial_value, check_member, check_member_variable, check_members, check_port_name, member_variable_entry, port_entry}
use Rattle.laws_checker.proofs.Nothing.{kept, nothing-first, nothing-rest}
use Rattle.laws_checker.proofs.Whole.{declaring-whole, definition_is_fine, module_whole, naming}
use Rattle.laws_checker.specs.Laws.{IsKnown, IsWhole}
use Rattle.laws_statements.proofs.Naming.{name_defined}
use Rattle.laws_statements.proofs.RightSides.{constants_fit}
use Rattle.laws_statements.proofs.Typing.{some-of, type_known}
use Rattle.laws_statements.specs.Members.{AreMemberVariables, AreNew, DeclaresMemberVariables, DeclaresPorts, IsInitialValue, IsMember, scope_behind}
use Rattle.check_rules.proofs.Meanings.{EachMeans, IfMeans, means-listed}
use Rattle.check_rules.specs.Rules.{AreWellTyped}

-- ---- members declare no types

-- what a member's name stands for
abbrev OfMember : Meaning → Type 0
OfMember m = (type_meant (Some m) ≡ None) × (port_type_meant (Some m) ≡ None)

each-mapped : {A : Type 0} (P : Meaning → Type 0) (entry : A → Entry) (items : List A) → ((x : A) → P (entry x).1) → EachMeans P (map entry items)
each-mapped P entry [] holds = tt
each-mapped P entry (x ∷ items) holds = (holds x, each-mapped P entry items holds)

of-member : (names : Names) (m : Member) → EachMeans OfMember (member_entries names m)
of-member names (member.Ports port_type ports) = each-mapped OfMember (λ (name : List ℕ). (name, meaning.Port (port_type_meant (names port_type)))) ports (λ name. (refl, refl))
of-member names (member.Constants cs) = each-mapped OfMember (λ (c : Constant). (c.name, meaning.Constant (resolved names cs.type_name))) cs.constants (λ c. (refl, refl))
of-member names (member.Variables of variables) = each-mapped OfMember (λ (v : MemberVariable). (v.name, meaning.Variable (resolved names of))) variables (λ v. (refl, refl))
of-member names (member.Timers timers) = each-mapped OfMember (λ (t : Timer). (t.name, meaning.Timer)) timers (λ t. (refl, refl))

type-or : (one other : Option Meaning) (t : DataType) → IfMeans OfMember one → type_meant (option_or one other) ≡ Some t → type_meant other ≡ Some t
type-or None other t of is = is
type-or (Some m) other t of is = absurd (let e = of.0 in cc)

port-or : (one other : Option Meaning) (at : ℕ) → IfMeans OfMember one → port_type_meant (option_or one other) ≡ Some at → port_type_meant other ≡ Some at
port-or None other at of is = is
port-or (Some m) other at of is = absurd (let e = of.1 in cc)

type-before : (names : Names) (members : List Member) (name : List ℕ) (t : DataType) → type_meant (behind_members names members name) ≡ Some t → type_meant (names name) ≡ Some t
type-before names [] name t is = is
type-before names (m ∷ members) name t is =
    type-or (listed (member_entries names m) name) (names name) t (means-listed OfMember (member_entries names m) name (of-member names m))
    (type-before (behind names (member_entries names m)) members name t is)

port-before : (names : Names) (members : List Member) (name : List ℕ) (at : ℕ) → port_type_meant (behind_members names members name) ≡ Some at → port_type_meant (names name) ≡ Some at
port-before names [] name at is = is
port-before names (m ∷ members) name at is =
    port-or (listed (member_entries names m) name) (names name) at (means-listed OfMember (member_entries names m) name (of-member names m))
    (port-before (behind names (member_entries names m)) members name at is)

-- the types that are visible between members are those of the module
pub types-of-module : (definitions : List Definition) (at : ℕ) (before : List Member) (of : TypeName) (t : DataType)
    → resolved (scope_behind definitions at before).names of ≡ Some t → resolved (module_names definitions) of ≡ Some t
types-of-module definitions at before type_name.Integer t is = is
types-of-module definitions at before type_name.Boolean t is = is
types-of-module definitions at before type_name.Default t is = is
types-of-module definitions at before (type_name.Named name) t is = type-before (module_names definitions) before name t is

port-type-is : (m : Option Meaning) (at : ℕ) → port_type_meant m ≡ Some at → m ≡ Some (meaning.PortType at)
port-type-is (Some (meaning.PortType of)) at is = cc
port-type-is _ at is = absurd (let e = is in cc)

-- ---- one member

new-names : {A : Type 0} (rules : Scope → A → List Rule) (entry : Scope → A → Entry) → ((s : Scope) (x : A) → rules s x ≡ [] → is_none (s.names (entry s x).0) ≡ true)
    → (scope : Scope) (items : List A) → one_by_one rules entry scope items ≡ [] → AreNew entry scope items
new-names rules entry new scope [] nothing = tt
new-names rules entry new scope (x ∷ items) nothing =
    let behind_it : Scope = declaring scope (entry scope x ∷ []) in (
      new scope x (nothing-first (rules scope x) (one_by_one rules entry behind_it items) nothing),
      new-names rules entry new behind_it items (nothing-rest (rules scope x) (one_by_one rules entry behind_it items) nothing),
    )

initial-fits : (scope : Scope) (t : DataType) (v : Option Value) → check_initial_value scope (target_of (Some t)) v ≡ [] → IsInitialValue scope t v
initial-fits scope t None nothing = tt
initial-fits scope t (Some v) nothing = nothing

each-variable : (scope : Scope) (t : DataType) (vs : List MemberVariable) → one_by_one (check_member_variable (Some t)) (member_variable_entry (Some t)) scope vs ≡ [] → AreMemberVariables scope t vs
each-variable scope t [] nothing = tt
each-variable scope t (v ∷ vs) nothing =
    let new : List Rule = check_new_name scope.names v.name in
    let initial : List Rule = check_initial_value scope (target_of (Some t)) v.value in
    let behind_it : Scope = declaring scope (member_variable_entry (Some t) scope v ∷ []) in
    let others : List Rule = one_by_one (check_member_variable (Some t)) (member_variable_entry (Some t)) behind_it vs in
    let here : new ++ initial ≡ [] = nothing-first (new ++ initial) others nothing in (
      kept (is_none (scope.names v.name)) rule.DuplicateName (nothing-first new initial here),
      initial-fits scope t v.value (nothing-rest new initial here),
      each-variable behind_it t vs (nothing-rest (new ++ initial) others nothing),
    )

variables-fit : (scope : Scope) (of : TypeName) (vs : List MemberVariable) → check_member scope (member.Variables of vs) ≡ [] → DeclaresMemberVariables scope of vs
variables-fit scope of vs nothing =
    let named : List Rule = check_type scope.names true of in
    let items = λ (t : Option DataType). one_by_one (check_member_variable t) (member_variable_entry t) scope vs in
    let declared = items (resolved scope.names of) in
    let known = some-of (resolved scope.names of) (type_known scope.names true of (nothing-first named declared nothing)) in
    record {
      data_type = known.0;
      known = known.1;
      each = each-variable scope known.0 vs (subst (λ t. items t ≡ []) known.1 (nothing-rest named declared nothing));
    }

module _ (definitions : List Definition) (at : ℕ) (before : List Member) where
  abbrev here : Scope
  here = scope_behind definitions at before

  ports-fit : (port_type : List ℕ) (ports : List (List ℕ)) → check_member here (member.Ports port_type ports) ≡ [] → DeclaresPorts here port_type ports
  ports-fit port_type ports nothing =
      let of = port_type_meant (here.names port_type) in
      let items = λ (k : Option ℕ). one_by_one check_port_name (port_entry k) here ports in
      let named : List Rule = unless (is_some of) rule.UnknownName in
      let known = some-of of (kept (is_some of) rule.UnknownName (nothing-first named (items of) nothing)) in
      record {
        of = known.0;
        meant = port-type-is (here.names port_type) known.0 known.1;
        defined = name_defined definitions port_type (meaning.PortType known.0)
            (port-type-is (module_names definitions port_type) known.0 (port-before (module_names definitions) before port_type known.0 known.1));
        each = new-names check_port_name (port_entry (Some known.0)) (λ s name fine. kept (is_none (s.names name)) rule.DuplicateName fine) here ports
            (subst (λ k. items k ≡ []) known.1 (nothing-rest named (items of) nothing));
      }

  pub member-fits : (m : Member) → check_member here m ≡ [] → IsMember here m
  member-fits (member.Ports port_type ports) nothing = ports-fit port_type ports nothing
  member-fits (member.Constants cs) nothing = constants_fit here cs nothing
  member-fits (member.Variables of variables) nothing = variables-fit here of variables nothing
  member-fits (member.Timers timers) nothing =
      new-names check_timer_name timer_entry (λ s t fine. kept (is_none (s.names t.name)) rule.DuplicateName fine) here timers nothing

-- ---- all members

-- what a member's names stand for is known
member-known : (scope : Scope) (m : Member) → check_member scope m ≡ [] → EachMeans (IsKnown scope.definitions) (member_entries scope.names m)
member-known scope (member.Ports port_type ports) nothing =
    let of = port_type_meant (scope.names port_type) in
    each-mapped (IsKnown scope.definitions) (λ (name : List ℕ). (name, meaning.Port of)) ports
    (λ name. kept (is_some of) rule.UnknownName (nothing-first (unless (is_some of) rule.UnknownName) (one_by_one check_port_name (port_entry of) scope ports) nothing))
member-known scope (member.Constants cs) nothing =
    let of = resolved scope.names cs.type_name in
    each-mapped (IsKnown scope.definitions) (λ (c : Constant). (c.name, meaning.Constant of)) cs.constants
    (λ c. type_known scope.names false cs.type_name (nothing-first (check_type scope.names false cs.type_name) (one_by_one (check_constant of) (constant_entry of) scope cs.constants) nothing))
member-known scope (member.Variables t variables) nothing =
    let of = resolved scope.names t in
    each-mapped (IsKnown scope.definitions) (λ (v : MemberVariable). (v.name, meaning.Variable of)) variables
    (λ v. type_known scope.names true t (nothing-first (check_type scope.names true t) (one_by_one (check_member_variable of) (member_variable_entry of) scope variables) nothing))
member-known scope (member.Timers timers) nothing = each-mapped (IsKnown scope.definitions) (λ (t : Timer). (t.name, meaning.Timer)) timers (λ t. tt)

between : (scope : Scope) (before rest : List Member) → check_members scope (before ++ rest) ≡ [] → IsWhole scope
    → IsWhole (naming scope (behind_members scope.names before)) × (check_members (naming scope (behind_members scope.names before)) rest ≡ [])
between scope [] rest nothing whole = (whole, nothing)
between scope (m ∷ before) rest nothing whole =
    let next : Scope = declaring scope (member_entries scope.names m) in
    between next before rest (nothing-rest (check_member scope m) (check_members next (before ++ rest)) nothing)
    (declaring-whole scope (member_entries scope.names m) whole (member-known scope m (nothing-first (check_member scope m) (check_members next (before ++ rest)) nothing)))

module _ (definitions : List Definition) (well : AreWellTyped definitions) (at : ℕ) (c : ComponentType) (is : kind_at definitions at ≡ Some (kind.Component c)) where
  pub fine-between : (before rest : List Member) → before ++ rest ≡ c.members
      → IsWhole (scope_behind definitions at before) × (check_members (scope_behind definitions at before) rest ≡ [])
  fine-between before rest all =
      between (component_scope definitions at) before rest
      (subst (λ members. check_members (component_scope definitions at) members ≡ []) (sym all) (definition_is_fine definitions well at (kind.Component c) is))
      (module_whole definitions well (Some at))

  pub whole_between : (before rest : List Member) → before ++ rest ≡ c.members → IsWhole (scope_behind definitions at before)
  whole_between before rest all = (fine-between before rest all).0

  pub member_fine : (before : List Member) (m : Member) (rest : List Member) → before ++ m ∷ rest ≡ c.members → check_member (scope_behind definitions at before) m ≡ []
  member_fine before m rest all =
      let scope = scope_behind definitions at before in
      nothing-first (check_member scope m) (check_members (declaring scope (member_entries scope.names m)) rest) (fine-between before (m ∷ rest) all).1

  pub member_is : (before : List Member) (m : Member) (rest : List Member) → before ++ m ∷ rest ≡ c.members → IsMember (scope_behind definitions at before) m
  member_is before m rest all = member-fits definitions at before m (member_fine before m rest all)

-- one more name
pub name_leaves_whole : (scope : Scope) → IsWhole scope → (name : List ℕ) (m : Meaning) → IsKnown scope.definitions m → IsWhole (declaring scope ((name, m) ∷ []))
name_leaves_whole scope whole name m known = declaring-whole scope ((name, m) ∷ []) whole (known, tt)
