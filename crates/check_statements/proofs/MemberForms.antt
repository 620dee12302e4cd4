-- What the declarations of component types declare, and what they break, one by one.
use Rattle.std.proofs.Common.{◌≡◌, ◌≤◌, ℕ, ◌+◌, ◌<◌, List, [], ◌∷◌, length, get_or, drop, map, Option, refl, sym, ap, ◌∙◌}
use Rattle.std.proofs.lemmas.List.{drop_all}
use Rattle.ttcn_syntax.specs.declared.tree.definition.Member.{Member}
use Rattle.ttcn_syntax.specs.declared.tree.definition.Member.TheVariants as member
use Rattle.ttcn_syntax.specs.declared.tree.definition.MemberVariable.{MemberVariable}
use Rattle.ttcn_syntax.specs.declared.tree.statement.Constant.{Constant}
use Rattle.ttcn_syntax.specs.declared.tree.statement.Constants.{Constants}
use Rattle.ttcn_syntax.specs.declared.tree.statement.Timer.{Timer}
use Rattle.check_scope.specs.internal.Checking.{both, least}
use Rattle.check_rules.specs.Declarations.{behind_all}
use Rattle.check_rules.specs.Definitions.{check_member, check_members, member_variable_entry, port_entry}
use Rattle.check_scope.specs.Names.{Entry, Names, Scope, declaring, member_entries, resolved}
use Rattle.check_rules.specs.Targets.{behind_constants, behind_timers}
use Rattle.check_scope.specs.declared.broken.Broken.{Broken}
use Rattle.check_scope.specs.declared.names.Meaning.TheVariants as meaning
use Rattle.check_scope.specs.declared.types.DataType.{DataType}
use Rattle.check_scope.proofs.Entries.{behinds-split}
use Rattle.check_scope.proofs.Leasts.{both-assoc, both-nothing, least_append}
use Rattle.check_scope.proofs.Lookups.{drop-next}

-- ---- what is declared

-- names that stand for the same wherever they are declared
pub behind-map : {A : Type 0} (entry : A → Entry) (scope : Scope) (items : List A) → behind_all (λ s item. entry item) scope items ≡ declaring scope (map entry items)
behind-map entry scope [] = refl
behind-map entry scope (item ∷ items) =
    behind-map entry (declaring scope (entry item ∷ [])) items
    ∙ ap (λ (n : Names). record { definitions = scope.definitions; names = n; itself = scope.itself }) (sym (behinds-split scope.names (entry item ∷ []) (map entry items)))

pub behind-ports : (of : Option ℕ) (scope : Scope) (names : List (List ℕ)) → behind_all (port_entry of) scope names ≡ declaring scope (map (λ name. (name, meaning.Port of)) names)
behind-ports of scope names = behind-map (λ (name : List ℕ). (name, meaning.Port of)) scope names

pub behind-member-variables : (of : Option DataType) (scope : Scope) (variables : List MemberVariable)
    → behind_all (member_variable_entry of) scope variables ≡ declaring scope (map (λ variable. (variable.name, meaning.Variable of)) variables)
behind-member-variables of scope variables = behind-map (λ (variable : MemberVariable). (variable.name, meaning.Variable of)) scope variables

pub behind-member-constants : (scope : Scope) (cs : Constants) → behind_constants scope cs ≡ declaring scope (member_entries scope.names (member.Constants cs))
behind-member-constants scope cs = behind-map (λ (constant : Constant). (constant.name, meaning.Constant (resolved scope.names cs.type_name))) scope cs.constants

pub behind-member-timers : (scope : Scope) (timers : List Timer) → behind_timers scope timers ≡ declaring scope (member_entries scope.names (member.Timers timers))
behind-member-timers scope timers = behind-map (λ (timer : Timer). (timer.name, meaning.Timer)) scope timers

-- ---- what is broken

-- what was found so far, with what the declarations that are left break
abbrev pub rest_of_members : Scope → List Member → Broken → Broken
rest_of_members scope members found = both found (least (check_members scope members))

-- one declaration more
pub check_members-next : (scope next_scope : Scope) (members : List Member) (i : ℕ) (m : Member) (found part next : Broken) → i < length members → m ≡ get_or members i m
    → part ≡ least (check_member scope m) → next_scope ≡ declaring scope (member_entries scope.names m) → next ≡ both found part
    → rest_of_members scope (drop i members) found ≡ rest_of_members next_scope (drop (i + 1) members) next
check_members-next scope next_scope members i m found part next inside is part-is scope_is next_is =
    let behind : Scope = declaring scope (member_entries scope.names m) in
    ap (λ others. rest_of_members scope others found) (drop-next members i m inside is)
    ∙ ap (both found) (least_append (check_member scope m) (check_members behind (drop (i + 1) members)))
    ∙ sym (both-assoc found (least (check_member scope m)) (least (check_members behind (drop (i + 1) members))))
    ∙ ap (rest_of_members behind (drop (i + 1) members)) (sym (next_is ∙ ap (both found) part-is))
    ∙ ap (λ s. rest_of_members s (drop (i + 1) members) next) (sym scope_is)

-- none is left
pub check_members-end : (scope : Scope) (members : List Member) (i : ℕ) (found : Broken) → length members ≤ i → rest_of_members scope (drop i members) found ≡ found
check_members-end scope members i found past = ap (λ others. rest_of_members scope others found) (drop_all i members past) ∙ both-nothing found
