-- Frames of behaviours that begin with arguments, and what the names of behaviours stand for.
use Rattle.std.proofs.Common.{◌≡◌, ℕ, Bool, true, false, List, [], ◌∷◌, ◌++◌, map, zip, bytes_eq, Option, Some, None, IfSome, IsSomeAnd, is_some, append-nil, inl, inr, refl, sym, subst, ◌∙◌, if◌then◌else◌}
use Rattle.std.specs.List.{All}
use Rattle.std.specs.Option.{option_or}
use Rattle.std.proofs.lemmas.List.Elements.{All-head, All-tail}
use Rattle.ttcn_syntax.specs.declared.tree.definition.Definition.{Definition}
use Rattle.ttcn_syntax.specs.declared.tree.definition.DefinitionKind.{DefinitionKind}
use Rattle.ttcn_syntax.specs.declared.tree.definition.DefinitionKind.TheVariants as kind
use Rattle.ttcn_syntax.specs.declared.tree.definition.Member.{Member}
use Rattle.ttcn_syntax.specs.declared.tree.definition.Member.TheVariants as member
use Rattle.ttcn_syntax.specs.declared.tree.definition.MemberVariable.{MemberVariable}
use Rattle.ttcn_syntax.specs.declared.tree.definition.Parameter.{Parameter}
use Rattle.ttcn_syntax.specs.declared.tree.statement.Constant.{Constant}
use Rattle.ttcn_syntax.specs.declared.tree.statement.Statement.{Statement}
use Rattle.ttcn_syntax.specs.declared.tree.statement.Timer.{Timer}
use Rattle.ttcn_syntax.specs.declared.tree.value.TypeName.{TypeName}
use Rattle.ttcn_syntax.specs.declared.tree.value.TypeName.TheVariants as type_name
use Rattle.check_rules.specs.Calls.{component_named, parameters_of}
use Rattle.check_rules.specs.Declarations.{behind_all}
use Rattle.check_rules.specs.Targets.{check_new_name, check_type}
use Rattle.check_rules.specs.Templates.{template}
use Rattle.check_scope.specs.Names.{Entry, Names, Scope, behind, behind_members, declaring, kind_at, listed, member_entries, members_of, module_names, port_type_meant, resolved, type_meant}
use Rattle.check_scope.specs.Scopes.{module_scope, outer_names, scope_on}
use Rattle.check_scope.specs.Typings.{target_of, typed}
use Rattle.check_scope.specs.declared.names.Meaning.{Meaning}
use Rattle.check_scope.specs.declared.names.Meaning.TheVariants as meaning
use Rattle.check_scope.specs.declared.rule.Rule.{Rule}
use Rattle.check_scope.specs.declared.types.DataType.{DataType}
use Rattle.check_rules.specs.Definitions.{check_component_name, check_parameter, check_parameters, check_result, parameter_entry, place_in, returns_of, with_parameters}
use Rattle.check_rules.specs.Statements.{statements}
use Rattle.laws_checker.proofs.Nothing.{nothing-first, nothing-rest}
use Rattle.laws_checker.proofs.Whole.{definition_is_fine}
use Rattle.laws_evaluation.proofs.Parameters.{all_parameters_known}
use Rattle.laws_evaluation.specs.Types.{AreGiven, HasParameterType, IsOfTyping, names_timer}
use Rattle.laws_sites.proofs.Outside.{Begins, beginning-fine}
use Rattle.laws_sites.specs.Standing.{IsFineSite}
use Rattle.laws_statements.proofs.Growing.{new-unseen, new_name_within, parameters_within}
use Rattle.semantics.specs.Branches.{argument_values, frame_with, with_arguments}
use Rattle.semantics.specs.Entries.{put}
use Rattle.semantics.specs.Items.{Item, items}
use Rattle.semantics.specs.Sites.{Site, beginning, component_name, runs_on, scope_at}
use Rattle.semantics.specs.Snapshots.{View}
use Rattle.check_rules.proofs.Meanings.{EachMeans, IfMeans, means-listed}
use Rattle.check_rules.specs.Rules.{AreWellTyped}
use Rattle.value_types.specs.Frames.{entry}
use Rattle.value_types.specs.declared.value.Value.{Value}
use Rattle.laws_types.proofs.Declared.{by-name, own-behind}
use Rattle.laws_steps.proofs.Entries.{put-other, put-own}
use Rattle.laws_types.proofs.Nested.{nest-block}
use Rattle.laws_types.proofs.Visible.{Says, module-outside, site-says}
use Rattle.laws_types.specs.Fitting.{DeclaresLocals, FitsSite, IsLocal, IsValueOf, RunsOn, or_timer, scope_seen}
use Rattle.laws_types.specs.Typed.{FitsFrame, Nest}

-- ---- parameters break no rule

module _ (definitions : List Definition) (well : AreWellTyped definitions) where
  abbrev scope-of : Option DefinitionKind → Scope
  scope-of k = scope_on definitions (component_named definitions (component_name k))

  altstep-parameters : (named parameters body : List Rule) → named ++ parameters ++ body ≡ [] → parameters ≡ []
  altstep-parameters named parameters body nothing = nothing-rest named parameters (nothing-first (named ++ parameters) body nothing)

  parameters-of : (at : ℕ) (k : Option DefinitionKind) → kind_at definitions at ≡ k → check_parameters (scope-of k) (parameters_of k) ≡ []
  parameters-of at (Some (kind.Function f)) is =
      let scope : Scope = scope_on definitions (component_named definitions f.runs_on) in
      let named : List Rule = check_component_name definitions f.runs_on in
      let parameters : List Rule = check_parameters scope f.parameters in
      let result : List Rule = check_result definitions f.returns in
      let body : List Rule = statements f.body (place_in scope f.parameters (returns_of definitions f.returns)) in
      nothing-rest named parameters (nothing-first (named ++ parameters) result
      (nothing-first ((named ++ parameters) ++ result) body (definition_is_fine definitions well at (kind.Function f) is)))
  parameters-of at (Some (kind.Altstep a)) is =
      let scope : Scope = scope_on definitions (component_named definitions a.runs_on) in
      let named : List Rule = check_component_name definitions a.runs_on in
      altstep-parameters named (check_parameters scope a.parameters) _ (definition_is_fine definitions well at (kind.Altstep a) is)
  parameters-of at (Some (kind.Template t)) is =
      let scope : Scope = module_scope definitions in
      let type_fine : List Rule = check_type scope.names false t.type_name in
      let parameters : List Rule = check_parameters scope t.parameters in
      let body : List Rule = template t.template (with_parameters scope t.parameters) (target_of (resolved scope.names t.type_name)) in
      nothing-rest type_fine parameters (nothing-first (type_fine ++ parameters) body (definition_is_fine definitions well at (kind.Template t) is))
  parameters-of at (Some (kind.Record r)) is = refl
  parameters-of at (Some (kind.Enumerated e)) is = refl
  parameters-of at (Some (kind.Port p)) is = refl
  parameters-of at (Some (kind.Component c)) is = refl
  parameters-of at (Some (kind.Constants cs)) is = refl
  parameters-of at (Some (kind.Testcase t)) is = refl
  parameters-of at None is = refl

  -- ---- arguments

  -- a scope sees the module
  abbrev Sees : Names → Type 0
  Sees names = (name : List ℕ) → IfSome (module_names definitions name) (λ m. names name ≡ Some m)

  type-seen : (found : Option Meaning) (other : Option Meaning) (t : DataType) → IfSome found (λ m. other ≡ Some m) → type_meant found ≡ Some t → type_meant other ≡ Some t
  type-seen None other t sees is = absurd (let e = is in cc)
  type-seen (Some m) other t sees is = subst (λ o. type_meant o ≡ Some t) (sym sees) is

  resolved-seen : (names : Names) (of : TypeName) (t : DataType) → Sees names → resolved (module_names definitions) of ≡ Some t → resolved names of ≡ Some t
  resolved-seen names type_name.Integer t sees is = is
  resolved-seen names type_name.Boolean t sees is = is
  resolved-seen names type_name.Default t sees is = is
  resolved-seen names (type_name.Named name) t sees is = type-seen (module_names definitions name) (names name) t (sees name) is

  same-type-if : (names : Names) (of : TypeName) (found : Option DataType) → resolved (module_names definitions) of ≡ found → is_some found ≡ true → Sees names → resolved names of ≡ found
  same-type-if names of (Some t) is there sees = resolved-seen names of t sees is
  same-type-if names of None is there sees = absurd (let e = there in cc)

  same-type : (names : Names) (of : TypeName) → is_some (resolved (module_names definitions) of) ≡ true → Sees names → resolved names of ≡ resolved (module_names definitions) of
  same-type names of there sees = same-type-if names of (resolved (module_names definitions) of) refl there sees

  chain : (one other more : Option Meaning) → IfSome one (λ m. other ≡ Some m) → IfSome other (λ m. more ≡ Some m) → IfSome one (λ m. more ≡ Some m)
  chain None other more first next = tt
  chain (Some m) other more first next = subst (λ o. IfSome o (λ k. more ≡ Some k)) first next

  new-of : (s : Scope) (p : Parameter) (others : List Rule) → check_parameter s p ++ others ≡ [] → s.names p.name ≡ None
  new-of s p others nothing = new-unseen s.names p.name (nothing-first (check_new_name s.names p.name) (check_type s.names true p.type_name) (nothing-first (check_parameter s p) others nothing))

  sees-next : (s : Scope) (p : Parameter) → s.names p.name ≡ None → Sees s.names → Sees (declaring s (parameter_entry s p ∷ [])).names
  sees-next s p unseen sees name =
      chain (module_names definitions name) (s.names name) ((declaring s (parameter_entry s p ∷ [])).names name) (sees name)
      ((new_name_within s p.name (parameter_entry s p).1 unseen).names name)

  given-typed : (ps : List Parameter) (s : Scope) (vs : List Value) → check_parameters s ps ≡ [] → All (HasParameterType definitions) ps → Sees s.names → AreGiven definitions ps vs → (x : List ℕ)
      → IfSome (entry (with_arguments (zip ps vs)) x) (IsValueOf definitions ((behind_all parameter_entry s ps).names x))
  given-typed [] s [] nothing known sees given x = tt
  given-typed [] s (v ∷ vs) nothing known sees given x = absurd given
  given-typed (p ∷ ps) s [] nothing known sees given x = absurd given
  given-typed (p ∷ ps) s (v ∷ vs) nothing known sees given x =
      let next : Scope = declaring s (parameter_entry s p ∷ []) in
      let others : List Rule = check_parameters next ps in
      let unseen : s.names p.name ≡ None = new-of s p others nothing in
      let rest : others ≡ [] = nothing-rest (check_parameter s p) others nothing in
      let last : Scope = behind_all parameter_entry next ps in
      let there : next.names p.name ≡ Some (parameter_entry s p).1 = own-behind s (parameter_entry s p) in
      let stays : last.names p.name ≡ Some (parameter_entry s p).1 = subst (λ o. IfSome o (λ m. last.names p.name ≡ Some m)) there ((parameters_within next ps rest).names p.name) in
      by-name (λ x. IfSome (entry (put p.name v (with_arguments (zip ps vs))) x) (IsValueOf definitions (last.names x))) p.name x
      (subst (λ found. IfSome found (IsValueOf definitions (last.names p.name))) (sym (put-own p.name v (with_arguments (zip ps vs))))
      (subst (λ m. IsValueOf definitions m v) (sym stays)
      (subst (λ t. IsOfTyping definitions (typed t) v) (sym (same-type s.names p.type_name (All-head (HasParameterType definitions) p ps known) sees)) given.0)))
      (λ differs. subst (λ found. IfSome found (IsValueOf definitions (last.names x))) (sym (put-other p.name x v differs (with_arguments (zip ps vs))))
      (given-typed ps next vs rest (All-tail (HasParameterType definitions) p ps known) (sees-next s p unseen sees) given.1 x))

  -- parameters are no timers
  untimed-if : (b : Bool) (of : Option DataType) (before : Option Meaning) → IfSome before (λ m. false ≡ names_timer (Some m)) → IfSome (option_or (if b then Some (meaning.Variable of) else None) before) (λ m. false ≡ names_timer (Some m))
  untimed-if true of before is = refl
  untimed-if false of before is = is

  untimed : (ps : List Parameter) (s : Scope) (x : List ℕ) → IfSome (s.names x) (λ m. false ≡ names_timer (Some m)) → IfSome ((behind_all parameter_entry s ps).names x) (λ m. false ≡ names_timer (Some m))
  untimed [] s x is = is
  untimed (p ∷ ps) s x is = untimed ps (declaring s (parameter_entry s p ∷ [])) x (untimed-if (bytes_eq p.name x) (resolved s.names p.type_name) (s.names x) is)

  -- what is seen where a behaviour begins
  pub arguments-seen : (at : ℕ) (vs : List Value) → AreGiven definitions (parameters_of (kind_at definitions at)) vs → FitsSite definitions (beginning at) (record { values = argument_values definitions at vs; timers = [] })
  arguments-seen at vs given =
      let start : Scope = scope_on definitions (runs_on definitions at) in
      let ps : List Parameter = parameters_of (kind_at definitions at) in
      record {
        values = λ x. given-typed ps start vs (parameters-of at (kind_at definitions at) refl) (all_parameters_known definitions well at) (λ name. module-outside definitions well (runs_on definitions at) name) given x;
        timers = λ x free. untimed ps start x (subst (λ o. IfSome o (λ m. false ≡ names_timer (Some m))) (sym free) tt);
        timer_names = λ x is. absurd (let e = is in cc);
      }

  pub frame-begins : (component_type at : ℕ) (vs : List Value) (remaining : List Item) → RunsOn definitions at component_type → AreGiven definitions (parameters_of (kind_at definitions at)) vs
      → FitsFrame definitions component_type at [] (frame_with definitions at vs remaining)
  frame-begins component_type at vs remaining on given = record { on = on; names = tt; seen = arguments-seen at vs given }

  pub body-nests : (at : ℕ) (body : List Statement) → Begins definitions well at (statements body) → Nest definitions at [] (items definitions (beginning at) body)
  body-nests at body is =
      subst (Nest definitions at []) (append-nil (items definitions (beginning at) body))
      (nest-block definitions at body (beginning at) is.0 [] (beginning-fine definitions well at) is.1 tt)

-- ---- what the names of behaviours and types stand for

-- a variable, a constant, a port or a timer
abbrev pub IsPart : Meaning → Type 0
IsPart (meaning.Variable of) = Unit {0}
IsPart (meaning.Constant of) = Unit {0}
IsPart (meaning.Port of) = Unit {0}
IsPart meaning.Timer = Unit {0}
IsPart _ = ⊥

each-mapped : {A : Type 0} (P : Meaning → Type 0) (entry : A → Entry) (xs : List A) → ((x : A) → P (entry x).1) → EachMeans P (map entry xs)
each-mapped P entry [] holds = tt
each-mapped P entry (x ∷ xs) holds = (holds x, each-mapped P entry xs holds)

parts : (names : Names) (m : Member) → EachMeans IsPart (member_entries names m)
parts names (member.Ports port_type ports) = each-mapped IsPart (λ (name : List ℕ). (name, meaning.Port (port_type_meant (names port_type)))) ports (λ name. tt)
parts names (member.Constants cs) = each-mapped IsPart (λ (c : Constant). (c.name, meaning.Constant (resolved names cs.type_name))) cs.constants (λ c. tt)
parts names (member.Variables of variables) = each-mapped IsPart (λ (v : MemberVariable). (v.name, meaning.Variable (resolved names of))) variables (λ v. tt)
parts names (member.Timers timers) = each-mapped IsPart (λ (t : Timer). (t.name, meaning.Timer)) timers (λ t. tt)

local-part : (m : Option Meaning) → IsSomeAnd m IsLocal → IfMeans IsPart m
local-part (Some (meaning.Variable of)) is = tt
local-part (Some (meaning.Constant of)) is = tt
local-part (Some meaning.Timer) is = tt
local-part _ is = absurd is

module _ (f : Option Meaning → Option ℕ) (of-part : (m : Option Meaning) → IfMeans IsPart m → f m ≡ None) where
  meant-or : (one other : Option Meaning) (at : ℕ) → IfMeans IsPart one → f (option_or one other) ≡ Some at → f other ≡ Some at
  meant-or None other at of is = is
  meant-or (Some m) other at of is = absurd (let e = sym (of-part (Some m) of) ∙ is in cc)

  meant-before : (names : Names) (members : List Member) (name : List ℕ) (at : ℕ) → f (behind_members names members name) ≡ Some at → f (names name) ≡ Some at
  meant-before names [] name at is = is
  meant-before names (m ∷ members) name at is =
      meant-or (listed (member_entries names m) name) (names name) at (means-listed IsPart (member_entries names m) name (parts names m))
      (meant-before (behind names (member_entries names m)) members name at is)

  meant-outside : (definitions : List Definition) (of : Option ℕ) (name : List ℕ) (at : ℕ) → f (outer_names definitions of name) ≡ Some at → f (module_names definitions name) ≡ Some at
  meant-outside definitions None name at is = is
  meant-outside definitions (Some c) name at is = meant-before (module_names definitions) (members_of (kind_at definitions c)) name at is

  meant-said : (definitions : List Definition) (behaviour : ℕ) (of : Option ℕ) (found : Option Meaning) (name : List ℕ) (at : ℕ) → Says definitions behaviour (outer_names definitions of name) found name
      → f found ≡ Some at → f (module_names definitions name) ≡ Some at
  meant-said definitions behaviour of found name at (inl same) is = meant-outside definitions of name at (subst (λ o. f o ≡ Some at) same is)
  meant-said definitions behaviour of found name at (inr own) is = absurd (let e = sym (of-part found (local-part found own.1)) ∙ is in cc)

  meant-extra : {A : Type 0} (found : Option A) (m : Option Meaning) (at : ℕ) → f (or_timer found m) ≡ Some at → f m ≡ Some at
  meant-extra found (Some m) at is = is
  meant-extra None None at is = is
  meant-extra (Some a) None at is = absurd (let e = sym (of-part (Some meaning.Timer) tt) ∙ is in cc)

  -- what such a name stands for at a site is what it stands for in the module
  pub module-meant : (definitions : List Definition) → AreWellTyped definitions → (site : Site) (view : View) → IsFineSite definitions site.behaviour site → DeclaresLocals site → (name : List ℕ) (at : ℕ)
      → f ((scope_seen definitions site view).names name) ≡ Some at → f (module_names definitions name) ≡ Some at
  module-meant definitions well site view fine locals name at is =
      meant-said definitions site.behaviour (runs_on definitions site.behaviour) ((scope_at definitions site).names name) name at (site-says definitions well site fine locals name)
      (meant-extra (entry view.timers name) ((scope_at definitions site).names name) at is)
