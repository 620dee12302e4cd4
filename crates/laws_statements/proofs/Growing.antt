-- What declarations that break no rule add to a scope: it is within the one behind them.
use Rattle.std.proofs.Common.{◌≡◌, ℕ, Bool, true, false, List, [], ◌∷◌, ◌++◌, map, bytes_eq, Option, Some, None, is_none, is_some, IfSome, if◌then◌else◌, refl, sym, subst, ◌∙◌}
use Rattle.std.specs.Option.{option_or}
use Rattle.ttcn_syntax.specs.declared.tree.definition.ComponentType.{ComponentType}
use Rattle.ttcn_syntax.specs.declared.tree.definition.Definition.{Definition}
use Rattle.ttcn_syntax.specs.declared.tree.definition.DefinitionKind.TheVariants as kind
use Rattle.ttcn_syntax.specs.declared.tree.definition.Member.{Member}
use Rattle.ttcn_syntax.specs.declared.tree.definition.Member.TheVariants as member
use Rattle.ttcn_syntax.specs.declared.tree.definition.MemberVariable.{MemberVariable}
use Rattle.ttcn_syntax.specs.declared.tree.definition.Parameter.{Parameter}
use Rattle.ttcn_syntax.specs.declared.tree.statement.Action.{Action}
use Rattle.ttcn_syntax.specs.declared.tree.statement.Action.TheFolds.{fold-roll-Action, ind-Action, map-Action}
use Rattle.ttcn_syntax.specs.declared.tree.statement.Action.TheOpen.{Action-F}
use Rattle.ttcn_syntax.specs.declared.tree.statement.Alternative.{Alternative}
use Rattle.ttcn_syntax.specs.declared.tree.statement.Branch.{Branch}
use Rattle.ttcn_syntax.specs.declared.tree.statement.Conditional.{Conditional}
use Rattle.ttcn_syntax.specs.declared.tree.statement.Constant.{Constant}
use Rattle.ttcn_syntax.specs.declared.tree.statement.Statement.{Statement, out-Statement}
use Rattle.ttcn_syntax.specs.declared.tree.statement.Timer.{Timer}
use Rattle.ttcn_syntax.specs.declared.tree.statement.Variable.{Variable}
use Rattle.check_rules.specs.Declarations.{behind_all, one_by_one}
use Rattle.check_rules.specs.Targets.{check_constant, check_initial, check_new_name, check_timer_name, check_type, check_variable, constant_entry, timer_entry, variable_entry}
use Rattle.check_rules.specs.Values.{value}
use Rattle.check_scope.specs.Names.{Entry, Names, Scope, behind, behind_members, declaring, kind_at, listed, member_entries, module_names, port_type_meant, resolved}
use Rattle.check_scope.specs.Typings.{target_of, unless}
use Rattle.check_scope.specs.declared.names.Meaning.{Meaning}
use Rattle.check_scope.specs.declared.names.Meaning.TheVariants as meaning
use Rattle.check_scope.specs.declared.rule.Rule.{Rule}
use Rattle.check_scope.specs.declared.rule.Rule.TheVariants as rule
use Rattle.check_scope.specs.declared.types.DataType.{DataType}
use Rattle.check_rules.proofs.StatementForms.{statement-out}
use Rattle.check_rules.specs.Definitions.{check_initial_value, check_member, check_member_variable, check_members, check_parameter, check_parameters, check_port_name, member_variable_entry, parameter_entry, port_entry, with_parameters}
use Rattle.check_rules.specs.Statements.{Check, Place, StatementRules, action, action_step, alternative, alternative_step, branch, branch_step, conditional, conditional_step, statement, statement_step}
use Rattle.laws_checker.proofs.Nothing.{kept, nothing-first, nothing-rest}
use Rattle.laws_checker.proofs.Whole.{naming}
use Rattle.laws_statements.proofs.Members.{fine-between}
use Rattle.laws_statements.proofs.Naming.{same-name}
use Rattle.laws_statements.specs.Members.{scope_behind}
use Rattle.laws_statements.specs.Within.{IsWithin}
use Rattle.check_rules.specs.Rules.{AreWellTyped}

-- ---- within

itself-visible : (o : Option Meaning) → IfSome o (λ m. o ≡ Some m)
itself-visible (Some m) = refl
itself-visible None = tt

pub within_itself : (s : Scope) → IsWithin s s
within_itself s = record { definitions = refl; itself = refl; names = λ name. itself-visible (s.names name) }

both-visible : (one other more : Option Meaning) → IfSome one (λ m. other ≡ Some m) → IfSome other (λ m. more ≡ Some m) → IfSome one (λ m. more ≡ Some m)
both-visible None other more first next = tt
both-visible (Some m) (Some n) more first next = next ∙ first
both-visible (Some m) None more first next = absurd (let e = first in cc)

pub within_both : (one other more : Scope) → IsWithin one other → IsWithin other more → IsWithin one more
within_both one other more first next = record {
  definitions = next.definitions ∙ first.definitions;
  itself = next.itself ∙ first.itself;
  names = λ name. both-visible (one.names name) (other.names name) (more.names name) (first.names name) (next.names name);
}

-- ---- new names

-- entries with names that are not visible
abbrev pub AreUnseen : Scope → List Entry → Type 0
AreUnseen s [] = Unit {0}
AreUnseen s (entry ∷ entries) = (s.names entry.0 ≡ None) × AreUnseen s entries

either-unseen : (one other before : Option Meaning) → IfSome one (λ m. before ≡ None) → IfSome other (λ m. before ≡ None) → IfSome (option_or one other) (λ m. before ≡ None)
either-unseen (Some m) other before first next = first
either-unseen None other before first next = next

if-unseen : (s : Scope) (b : Bool) (m : Meaning) (name n : List ℕ) → (b ≡ true → name ≡ n) → s.names name ≡ None → IfSome (if b then Some m else None) (λ k. s.names n ≡ None)
if-unseen s true m name n same unseen = subst (λ n. s.names n ≡ None) (same refl) unseen
if-unseen s false m name n same unseen = tt

listed-unseen : (s : Scope) (entries : List Entry) (n : List ℕ) → AreUnseen s entries → IfSome (listed entries n) (λ m. s.names n ≡ None)
listed-unseen s [] n unseen = tt
listed-unseen s (entry ∷ entries) n unseen =
    either-unseen (listed entries n) (if bytes_eq entry.0 n then Some entry.1 else None) (s.names n) (listed-unseen s entries n unseen.1)
    (if-unseen s (bytes_eq entry.0 n) entry.1 entry.0 n (same-name entry.0 n) unseen.0)

stays-visible : (one before : Option Meaning) → IfSome one (λ m. before ≡ None) → IfSome before (λ m. option_or one before ≡ Some m)
stays-visible None before unseen = itself-visible before
stays-visible (Some k) None unseen = tt
stays-visible (Some k) (Some m) unseen = absurd (let e = unseen in cc)

unseen-within : (s : Scope) (entries : List Entry) → AreUnseen s entries → IsWithin s (declaring s entries)
unseen-within s entries unseen = record {
  definitions = refl;
  itself = refl;
  names = λ name. stays-visible (listed entries name) (s.names name) (listed-unseen s entries name unseen);
}

pub new_name_within : (s : Scope) (name : List ℕ) (m : Meaning) → s.names name ≡ None → IsWithin s (declaring s ((name, m) ∷ []))
new_name_within s name m unseen = unseen-within s ((name, m) ∷ []) (unseen, tt)

none-is : (o : Option Meaning) → is_none o ≡ true → o ≡ None
none-is None is = refl
none-is (Some m) is = absurd (let e = is in cc)

pub new-unseen : (names : Names) (name : List ℕ) → check_new_name names name ≡ [] → names name ≡ None
new-unseen names name nothing = none-is (names name) (kept (is_none (names name)) rule.DuplicateName nothing)

-- ---- names that are declared one behind the other

module _ {A : Type 0} (rules : Scope → A → List Rule) (entry : Scope → A → Entry) (new : (s : Scope) (x : A) → rules s x ≡ [] → s.names (entry s x).0 ≡ None) where
  items-grow : (s : Scope) (items : List A) → one_by_one rules entry s items ≡ [] → IsWithin s (behind_all entry s items)
  items-grow s [] nothing = within_itself s
  items-grow s (x ∷ items) nothing =
      let next : Scope = declaring s (entry s x ∷ []) in
      within_both s next (behind_all entry next items)
      (unseen-within s (entry s x ∷ []) (new s x (nothing-first (rules s x) (one_by_one rules entry next items) nothing), tt))
      (items-grow next items (nothing-rest (rules s x) (one_by_one rules entry next items) nothing))

pub or-unseen : (one before : Option Meaning) → option_or one before ≡ None → before ≡ None
or-unseen None before unseen = unseen
or-unseen (Some m) before unseen = absurd (let e = unseen in cc)

unseen-before : (s : Scope) (first entries : List Entry) → AreUnseen (declaring s first) entries → AreUnseen s entries
unseen-before s first [] unseen = tt
unseen-before s first (entry ∷ entries) unseen = (or-unseen (listed first entry.0) (s.names entry.0) unseen.0, unseen-before s first entries unseen.1)

module _ {A : Type 0} (rules : Scope → A → List Rule) (name : A → List ℕ) (m : Meaning) (new : (s : Scope) (x : A) → rules s x ≡ [] → s.names (name x) ≡ None) where
  each-unseen : (s : Scope) (items : List A) → one_by_one rules (λ s x. (name x, m)) s items ≡ [] → AreUnseen s (map (λ x. (name x, m)) items)
  each-unseen s [] nothing = tt
  each-unseen s (x ∷ items) nothing =
      let next : Scope = declaring s ((name x, m) ∷ []) in
      let others : List Rule = one_by_one rules (λ s x. (name x, m)) next items in (
        new s x (nothing-first (rules s x) others nothing),
        unseen-before s ((name x, m) ∷ []) (map (λ x. (name x, m)) items) (each-unseen next items (nothing-rest (rules s x) others nothing)),
      )

-- ---- parameters and statements

pub parameters_within : (s : Scope) (ps : List Parameter) → check_parameters s ps ≡ [] → IsWithin s (with_parameters s ps)
parameters_within s ps nothing =
    items-grow check_parameter parameter_entry
    (λ s p fine. new-unseen s.names p.name (nothing-first (check_new_name s.names p.name) (check_type s.names true p.type_name) fine)) s ps nothing

pub variable-new : (of : Option DataType) (s : Scope) (v : Variable) → check_variable of s v ≡ [] → s.names v.name ≡ None
variable-new of s v fine = new-unseen s.names v.name (nothing-first (check_new_name s.names v.name) (check_initial s (target_of of) v.value) fine)

pub constant-new : (of : Option DataType) (s : Scope) (c : Constant) → check_constant of s c ≡ [] → s.names c.name ≡ None
constant-new of s c fine = new-unseen s.names c.name (nothing-first (check_new_name s.names c.name) (value c.value s (target_of of)) fine)

-- the scope in front of a statement is within the one behind it
abbrev Grows : StatementRules → Type 0
Grows said = (place : Place) → said.broken place ≡ [] → IsWithin place.scope (said.scope_behind place.scope)

level-grows : (x : Action-F Action Alternative Branch Conditional Statement)
    → Grows (action_step (map-Action Action Alternative Branch Conditional Statement StatementRules Check Check Check StatementRules action alternative branch conditional statement x))
level-grows (Action-F.Variables vs) place nothing =
    let s : Scope = place.scope in
    let of = resolved s.names vs.type_name in
    items-grow (check_variable of) (variable_entry of) (variable-new of) s vs.variables
    (nothing-rest (check_type s.names true vs.type_name) (one_by_one (check_variable of) (variable_entry of) s vs.variables) nothing)
level-grows (Action-F.Constants cs) place nothing =
    let s : Scope = place.scope in
    let of = resolved s.names cs.type_name in
    items-grow (check_constant of) (constant_entry of) (constant-new of) s cs.constants
    (nothing-rest (check_type s.names false cs.type_name) (one_by_one (check_constant of) (constant_entry of) s cs.constants) nothing)
level-grows (Action-F.Timers timers) place nothing = items-grow check_timer_name timer_entry (λ s t fine. new-unseen s.names t.name fine) place.scope timers nothing
level-grows _ place nothing = within_itself place.scope

action-grows : (a : Action) → Grows (action a)
action-grows = ind-Action (λ a. Grows (action a)) (λ a. Unit {0}) (λ b. Unit {0}) (λ c. Unit {0}) (λ s. Unit {0})
    (λ x y is. subst Grows (sym (fold-roll-Action StatementRules Check Check Check StatementRules action_step alternative_step branch_step conditional_step statement_step x)) (level-grows x))
    (λ x y is. tt) (λ x y is. tt) (λ x y is. tt) (λ x y is. tt)

pub statement_within : (s : Statement) (place : Place) → (statement s).broken place ≡ [] → IsWithin place.scope ((statement s).scope_behind place.scope)
statement_within s = subst Grows (sym (statement-out s)) (action-grows (out-Statement s).action)

-- ---- members

member-unseen : (s : Scope) (m : Member) → check_member s m ≡ [] → AreUnseen s (member_entries s.names m)
member-unseen s (member.Ports port_type ports) nothing =
    let of = port_type_meant (s.names port_type) in
    each-unseen check_port_name (λ (name : List ℕ). name) (meaning.Port of) (λ s name fine. new-unseen s.names name fine) s ports
    (nothing-rest (unless (is_some of) rule.UnknownName) (one_by_one check_port_name (port_entry of) s ports) nothing)
member-unseen s (member.Constants cs) nothing =
    let of = resolved s.names cs.type_name in
    each-unseen (check_constant of) (λ c. c.name) (meaning.Constant of) (constant-new of) s cs.constants
    (nothing-rest (check_type s.names false cs.type_name) (one_by_one (check_constant of) (constant_entry of) s cs.constants) nothing)
member-unseen s (member.Variables t variables) nothing =
    let of = resolved s.names t in
    each-unseen (check_member_variable of) (λ (v : MemberVariable). v.name) (meaning.Variable of)
    (λ s v fine. new-unseen s.names v.name (nothing-first (check_new_name s.names v.name) (check_initial_value s (target_of of) v.value) fine)) s variables
    (nothing-rest (check_type s.names true t) (one_by_one (check_member_variable of) (member_variable_entry of) s variables) nothing)
member-unseen s (member.Timers timers) nothing =
    each-unseen check_timer_name (λ (t : Timer). t.name) meaning.Timer (λ s t fine. new-unseen s.names t.name fine) s timers nothing

members-grow : (s : Scope) (more rest : List Member) → check_members s (more ++ rest) ≡ [] → IsWithin s (naming s (behind_members s.names more))
members-grow s [] rest nothing = within_itself s
members-grow s (m ∷ more) rest nothing =
    let next : Scope = declaring s (member_entries s.names m) in
    within_both s next (naming next (behind_members next.names more))
    (unseen-within s (member_entries s.names m) (member-unseen s m (nothing-first (check_member s m) (check_members next (more ++ rest)) nothing)))
    (members-grow next more rest (nothing-rest (check_member s m) (check_members next (more ++ rest)) nothing))

members-append : (names : Names) (before more : List Member) → behind_members names (before ++ more) ≡ behind_members (behind_members names before) more
members-append names [] more = refl
members-append names (m ∷ before) more = members-append (behind names (member_entries names m)) before more

pub members_within : (definitions : List Definition) → AreWellTyped definitions → (at : ℕ) (c : ComponentType) → kind_at definitions at ≡ Some (kind.Component c)
    → (before more rest : List Member) → before ++ (more ++ rest) ≡ c.members → IsWithin (scope_behind definitions at before) (scope_behind definitions at (before ++ more))
members_within definitions well at c is before more rest all =
    let here : Scope = scope_behind definitions at before in
    subst (λ names. IsWithin here (naming here names)) (sym (members-append (module_names definitions) before more))
    (members-grow here more rest (fine-between definitions well at c is before (more ++ rest) all).1)
