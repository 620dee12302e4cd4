-- What names stand for at a site: what is declared in the behaviour, or else what is visible outside of it.
use Rattle.std.proofs.Common.{◌≡◌, ℕ, Bool, true, false, List, [], ◌∷◌, map, bytes_eq, Option, Some, None, IfSome, IsSomeAnd, ◌⊎◌, inl, inr, append-nil, refl, sym, subst, ◌∙◌, if◌then◌else◌}
use Rattle.std.specs.List.{All}
use Rattle.std.specs.Option.{option_or}
use Rattle.std.proofs.lemmas.List.Elements.{All-head, All-tail}
use Rattle.ttcn_syntax.specs.declared.tree.definition.Definition.{Definition}
use Rattle.ttcn_syntax.specs.declared.tree.definition.DefinitionKind.{DefinitionKind}
use Rattle.ttcn_syntax.specs.declared.tree.definition.DefinitionKind.TheVariants as kind
use Rattle.ttcn_syntax.specs.declared.tree.definition.Member.{Member}
use Rattle.ttcn_syntax.specs.declared.tree.definition.Member.TheVariants as member
use Rattle.ttcn_syntax.specs.declared.tree.definition.MemberVariable.{MemberVariable}
use Rattle.ttcn_syntax.specs.declared.tree.definition.Parameter.{Parameter}
use Rattle.ttcn_syntax.specs.declared.tree.statement.Constant.{Constant}
use Rattle.ttcn_syntax.specs.declared.tree.statement.Timer.{Timer}
use Rattle.check_rules.specs.Calls.{parameters_of}
use Rattle.check_rules.specs.Declarations.{behind_all}
use Rattle.check_rules.specs.Templates.{template_meant}
use Rattle.check_scope.specs.Names.{Entry, Names, Scope, behind, behind_members, declaring, kind_at, listed, member_entries, members_of, module_names, port_type_meant, resolved}
use Rattle.check_scope.specs.Scopes.{outer_names, scope_on}
use Rattle.check_scope.specs.declared.names.Meaning.{Meaning}
use Rattle.check_scope.specs.declared.names.Meaning.TheVariants as meaning
use Rattle.check_rules.specs.Definitions.{parameter_entry}
use Rattle.laws_evaluation.specs.Types.{names_timer}
use Rattle.laws_sites.proofs.Outside.{parameters-free}
use Rattle.laws_sites.specs.Standing.{IsFineSite, IsFree}
use Rattle.laws_statements.proofs.Growing.{members_within}
use Rattle.laws_statements.proofs.Naming.{name_defined, same-name}
use Rattle.laws_statements.specs.Named.{IsDefinedAs}
use Rattle.semantics.specs.Sites.{Site, behaviour_scope, runs_on, scope_at, scope_with}
use Rattle.check_rules.proofs.Meanings.{EachMeans, IfMeans, means-listed}
use Rattle.check_rules.specs.Rules.{AreWellTyped}
use Rattle.laws_types.specs.Fitting.{DeclaresLocals, IsLocal}

-- ---- the module and the members of a component type

visible-itself : {A : Type 0} (o : Option A) → IfSome o (λ a. o ≡ Some a)
visible-itself None = tt
visible-itself (Some a) = refl

-- what the module's names stand for is the same among the members of a component type
pub module-on : (definitions : List Definition) → AreWellTyped definitions → (at : ℕ) (k : Option DefinitionKind) → kind_at definitions at ≡ k → (name : List ℕ)
    → IfSome (module_names definitions name) (λ m. behind_members (module_names definitions) (members_of k) name ≡ Some m)
module-on definitions well at (Some (kind.Component c)) is name = (members_within definitions well at c is [] c.members [] (append-nil c.members)).names name
module-on definitions well at _ is name = visible-itself (module_names definitions name)

pub module-outside : (definitions : List Definition) → AreWellTyped definitions → (of : Option ℕ) (name : List ℕ)
    → IfSome (module_names definitions name) (λ m. outer_names definitions of name ≡ Some m)
module-outside definitions well None name = visible-itself (module_names definitions name)
module-outside definitions well (Some at) name = module-on definitions well at (kind_at definitions at) refl name

-- members are no templates
abbrev NoTemplate : Meaning → Type 0
NoTemplate m = template_meant (Some m) ≡ None

each-mapped : {A : Type 0} (P : Meaning → Type 0) (entry : A → Entry) (items : List A) → ((x : A) → P (entry x).1) → EachMeans P (map entry items)
each-mapped P entry [] holds = tt
each-mapped P entry (x ∷ items) holds = (holds x, each-mapped P entry items holds)

no-templates : (names : Names) (m : Member) → EachMeans NoTemplate (member_entries names m)
no-templates names (member.Ports port_type ports) = each-mapped NoTemplate (λ (name : List ℕ). (name, meaning.Port (port_type_meant (names port_type)))) ports (λ name. refl)
no-templates names (member.Constants cs) = each-mapped NoTemplate (λ (c : Constant). (c.name, meaning.Constant (resolved names cs.type_name))) cs.constants (λ c. refl)
no-templates names (member.Variables of variables) = each-mapped NoTemplate (λ (v : MemberVariable). (v.name, meaning.Variable (resolved names of))) variables (λ v. refl)
no-templates names (member.Timers timers) = each-mapped NoTemplate (λ (t : Timer). (t.name, meaning.Timer)) timers (λ t. refl)

template-or : (one other : Option Meaning) → IfMeans NoTemplate one → template_meant other ≡ None → template_meant (option_or one other) ≡ None
template-or None other of is = is
template-or (Some m) other of is = of

pub no-template-behind : (names : Names) (members : List Member) (name : List ℕ) → template_meant (names name) ≡ None → template_meant (behind_members names members name) ≡ None
no-template-behind names [] name is = is
no-template-behind names (m ∷ members) name is =
    no-template-behind (behind names (member_entries names m)) members name
    (template-or (listed (member_entries names m) name) (names name) (means-listed NoTemplate (member_entries names m) name (no-templates names m)) is)

pub no-template-outside : (definitions : List Definition) (of : Option ℕ) (name : List ℕ) → module_names definitions name ≡ None → template_meant (outer_names definitions of name) ≡ None
no-template-outside definitions None name is = subst (λ o. template_meant o ≡ None) (sym is) refl
no-template-outside definitions (Some at) name is =
    no-template-behind (module_names definitions) (members_of (kind_at definitions at)) name (subst (λ o. template_meant o ≡ None) (sym is) refl)

-- the module has no timers
no-timer : (definitions : List Definition) (name : List ℕ) (m : Option Meaning) → IfSome m (IsDefinedAs definitions name) → names_timer m ≡ false
no-timer definitions name (Some meaning.Timer) is = absurd is
no-timer definitions name _ is = refl

if-defined : (definitions : List Definition) (name : List ℕ) (m : Option Meaning) → module_names definitions name ≡ m → IfSome m (IsDefinedAs definitions name)
if-defined definitions name None is = tt
if-defined definitions name (Some m) is = name_defined definitions name m is

pub module-timers : (definitions : List Definition) (name : List ℕ) → names_timer (module_names definitions name) ≡ false
module-timers definitions name = no-timer definitions name (module_names definitions name) (if-defined definitions name (module_names definitions name) refl)

-- ---- what is declared

-- a name stands for what it stands for outside, or for what is declared in the behaviour, where it is free
abbrev pub Says : List Definition → ℕ → Option Meaning → Option Meaning → List ℕ → Type 0
Says definitions behaviour outer found name = (found ≡ outer) ⊎ (IsFree definitions behaviour name × IsSomeAnd found IsLocal)

says-if : (definitions : List Definition) (behaviour : ℕ) (name : List ℕ) (e : Entry) (outer before : Option Meaning) (b : Bool) → bytes_eq e.0 name ≡ b → IsFree definitions behaviour e.0 → IsLocal e.1
    → Says definitions behaviour outer before name → Says definitions behaviour outer (option_or (if b then Some e.1 else None) before) name
says-if definitions behaviour name e outer before true same free of is = inr (subst (IsFree definitions behaviour) (same-name e.0 name same) free, of)
says-if definitions behaviour name e outer before false same free of is = is

says-behind : (definitions : List Definition) (behaviour : ℕ) (scope : Scope) (entries : List Entry) (name : List ℕ) → All (λ e. IsFree definitions behaviour e.0) entries → All (λ e. IsLocal e.1) entries
    → Says definitions behaviour (scope.names name) ((scope_with scope entries).names name) name
says-behind definitions behaviour scope [] name free of = inl refl
says-behind definitions behaviour scope (e ∷ entries) name free of =
    says-if definitions behaviour name e (scope.names name) ((scope_with scope entries).names name) (bytes_eq e.0 name) refl
    (All-head (λ (e : Entry). IsFree definitions behaviour e.0) e entries free) (All-head (λ (e : Entry). IsLocal e.1) e entries of)
    (says-behind definitions behaviour scope entries name (All-tail (λ (e : Entry). IsFree definitions behaviour e.0) e entries free) (All-tail (λ (e : Entry). IsLocal e.1) e entries of))

says-both : (definitions : List Definition) (behaviour : ℕ) (outer found more : Option Meaning) (name : List ℕ) → Says definitions behaviour outer found name → Says definitions behaviour found more name
    → Says definitions behaviour outer more name
says-both definitions behaviour outer found more name (inl first) (inl next) = inl (next ∙ first)
says-both definitions behaviour outer found more name (inr first) (inl next) = inr (first.0, subst (λ o. IsSomeAnd o IsLocal) (sym next) first.1)
says-both definitions behaviour outer found more name is (inr next) = inr next

says-parameters : (definitions : List Definition) (behaviour : ℕ) (scope : Scope) (ps : List Parameter) (name : List ℕ) → All (λ p. IsFree definitions behaviour p.name) ps
    → Says definitions behaviour (scope.names name) ((behind_all parameter_entry scope ps).names name) name
says-parameters definitions behaviour scope [] name free = inl refl
says-parameters definitions behaviour scope (p ∷ ps) name free =
    let next : Scope = declaring scope (parameter_entry scope p ∷ []) in
    says-both definitions behaviour (scope.names name) (next.names name) ((behind_all parameter_entry next ps).names name) name
    (says-if definitions behaviour name (parameter_entry scope p) (scope.names name) (scope.names name) (bytes_eq p.name name) refl
    (All-head (λ (p : Parameter). IsFree definitions behaviour p.name) p ps free) tt (inl refl))
    (says-parameters definitions behaviour next ps name (All-tail (λ (p : Parameter). IsFree definitions behaviour p.name) p ps free))

-- what a name stands for at a site
pub site-says : (definitions : List Definition) → AreWellTyped definitions → (site : Site) → IsFineSite definitions site.behaviour site → DeclaresLocals site → (name : List ℕ)
    → Says definitions site.behaviour (outer_names definitions (runs_on definitions site.behaviour) name) ((scope_at definitions site).names name) name
site-says definitions well site fine locals name =
    let b : ℕ = site.behaviour in
    let start : Scope = scope_on definitions (runs_on definitions b) in
    let inside : Scope = behaviour_scope definitions b in
    says-both definitions b (start.names name) (inside.names name) ((scope_at definitions site).names name) name
    (says-parameters definitions b start (parameters_of (kind_at definitions b)) name (parameters-free definitions well b))
    (says-behind definitions b inside site.declared name fine.declared locals)

-- ---- the module and `self` at a site

with-definitions : (scope : Scope) (entries : List Entry) → (scope_with scope entries).definitions ≡ scope.definitions
with-definitions scope [] = refl
with-definitions scope (e ∷ entries) = with-definitions scope entries

with-itself : (scope : Scope) (entries : List Entry) → (scope_with scope entries).itself ≡ scope.itself
with-itself scope [] = refl
with-itself scope (e ∷ entries) = with-itself scope entries

parameters-definitions : (scope : Scope) (ps : List Parameter) → (behind_all parameter_entry scope ps).definitions ≡ scope.definitions
parameters-definitions scope [] = refl
parameters-definitions scope (p ∷ ps) = parameters-definitions (declaring scope (parameter_entry scope p ∷ [])) ps

parameters-itself : (scope : Scope) (ps : List Parameter) → (behind_all parameter_entry scope ps).itself ≡ scope.itself
parameters-itself scope [] = refl
parameters-itself scope (p ∷ ps) = parameters-itself (declaring scope (parameter_entry scope p ∷ [])) ps

pub site-definitions : (definitions : List Definition) (site : Site) → (scope_at definitions site).definitions ≡ definitions
site-definitions definitions site =
    with-definitions (behaviour_scope definitions site.behaviour) site.declared
    ∙ parameters-definitions (scope_on definitions (runs_on definitions site.behaviour)) (parameters_of (kind_at definitions site.behaviour))

pub site-itself : (definitions : List Definition) (site : Site) → (scope_at definitions site).itself ≡ runs_on definitions site.behaviour
site-itself definitions site =
    with-itself (behaviour_scope definitions site.behaviour) site.declared
    ∙ parameters-itself (scope_on definitions (runs_on definitions site.behaviour)) (parameters_of (kind_at definitions site.behaviour))
