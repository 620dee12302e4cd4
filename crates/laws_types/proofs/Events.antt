-- Events that break no rule are judged without what no checked module meets, and what their branches store is of the types of its targets.
use Rattle.std.proofs.Common.{◌≡◌, ℕ, Bool, true, false, not, List, [], ◌∷◌, ◌++◌, find, bytes_eq, nat_eq, Option, Some, None, IfSome, IsSomeAnd, is_some, option_map, refl, sym, ap, subst, ◌∙◌, if◌then◌else◌}
use Rattle.std.specs.List.{All}
use Rattle.std.proofs.lemmas.List.Elements.{All-append, All-cons, All-head, All-nil, All-tail}
use Rattle.ttcn_syntax.specs.declared.tree.definition.Definition.{Definition}
use Rattle.ttcn_syntax.specs.declared.tree.expression.ComponentRef.{ComponentRef}
use Rattle.ttcn_syntax.specs.declared.tree.expression.Reference.{Reference}
use Rattle.ttcn_syntax.specs.declared.tree.statement.Event.{Event}
use Rattle.ttcn_syntax.specs.declared.tree.statement.Event.TheVariants as event
use Rattle.ttcn_syntax.specs.declared.tree.statement.PortSelector.{PortSelector}
use Rattle.ttcn_syntax.specs.declared.tree.statement.PortSelector.TheVariants as selector
use Rattle.ttcn_syntax.specs.declared.tree.statement.Receive.{Receive}
use Rattle.ttcn_syntax.specs.declared.tree.template.MessageTemplate.{MessageTemplate}
use Rattle.check_rules.specs.Expressions.{Judgement, along, check_meaning, check_wanted_component}
use Rattle.check_rules.specs.Targets.{as_target, target_at}
use Rattle.check_rules.specs.Templates.{template}
use Rattle.check_scope.specs.Names.{Scope}
use Rattle.check_scope.specs.Typings.{same_type, target_of, type_known}
use Rattle.check_scope.specs.declared.names.Meaning.{Meaning}
use Rattle.check_scope.specs.declared.names.Meaning.TheVariants as meaning
use Rattle.check_scope.specs.declared.rule.Rule.{Rule}
use Rattle.check_scope.specs.declared.rule.Rule.TheVariants as rule
use Rattle.check_scope.specs.declared.types.DataType.{DataType}
use Rattle.check_scope.specs.declared.types.DataType.TheVariants as type
use Rattle.check_scope.specs.declared.types.Typing.TheVariants as typing
use Rattle.check_rules.specs.Messages.{Passage, check_event, check_message, check_received, check_receive, check_selector, check_sender_redirect, check_to, check_type_name, check_value_redirect, incoming, incoming_at, is_timer_name, passage_at, port_meant, received_type, type_of_message}
use Rattle.laws_checker.proofs.Fitting.{same-number}
use Rattle.laws_checker.proofs.Nothing.{kept, nothing-first, nothing-rest}
use Rattle.laws_checker.specs.Laws.{IsKnown, IsWhole}
use Rattle.laws_evaluation.proofs.ModuleReadings.{parameters_known}
use Rattle.laws_evaluation.proofs.Only.{only-then}
use Rattle.laws_evaluation.proofs.TypedChains.{fields_differ}
use Rattle.laws_evaluation.proofs.TypedLiterals.{same-type}
use Rattle.laws_evaluation.proofs.TypedTemplates.{templates_met}
use Rattle.laws_evaluation.proofs.TypedValues.{component-value-goes, goes-out, level_goes}
use Rattle.laws_evaluation.proofs.Using.{wanted_found, wanted_given}
use Rattle.laws_evaluation.specs.Types.{FitsIn, HasAll, IsOfTyping, is_of, names_timer}
use Rattle.laws_evaluation.specs.Uses.{GivesOnly, IsReference}
use Rattle.laws_sites.specs.Standing.{IsFineSite}
use Rattle.laws_statements.proofs.MessageTypes.{anywhere_typed, passing_typed}
use Rattle.laws_statements.proofs.Redirecting.{redirects_fit}
use Rattle.laws_statements.proofs.Within.{template_stays, wanted_stays}
use Rattle.laws_statements.specs.Messages.{HasType}
use Rattle.laws_statements.specs.Redirects.{HasRedirects, StoresMessage, StoresSender}
use Rattle.laws_statements.specs.Targets.{IsVariable}
use Rattle.laws_statements.specs.Within.{IsWithin}
use Rattle.semantics.specs.Branches.{Judge, read_by}
use Rattle.semantics.specs.Configurations.{Data, Message, same_path}
use Rattle.semantics.specs.Events.{Effect, Elapses, Faulty, Happened, Passed, Plain, Receives, Redirect, Trial, fits_sender, from_fits, happened_if, happened_or_passed, is_from, or_next, redirected_sender, redirected_value, redirects, template_fits, timer_seen, tried, try_chance, try_done, try_event, try_front, try_fronts, try_port, try_receive, try_template, try_timeout, try_type, try_typed}
use Rattle.semantics.specs.Sites.{Site, scope_at}
use Rattle.semantics.specs.Snapshots.{Snapshot, Test, is_terminated_in, members_in, mtc_of, others_run}
use Rattle.semantics.specs.Storing.{target_meant, type_for}
use Rattle.check_rules.specs.Rules.{AreWellTyped}
use Rattle.value_types.specs.Frames.{entry, is_running}
use Rattle.value_types.specs.Matching.{is_match}
use Rattle.value_types.specs.Outcomes.{DynamicError, Fails, IsMet, Outcome, Unmet, Yields, dynamic_error}
use Rattle.value_types.specs.Readings.{Reading, component_at, component_referred}
use Rattle.value_types.specs.Templates.{template_wanted}
use Rattle.value_types.specs.declared.frame.TimerState.{TimerState}
use Rattle.value_types.specs.declared.frame.TimerState.TheVariants as timer
use Rattle.value_types.specs.declared.value.ComponentId.{ComponentId}
use Rattle.value_types.specs.declared.value.Value.{Value, out-Value}
use Rattle.value_types.specs.declared.value.Value.TheOpen.{Value-F}
use Rattle.value_types.specs.declared.value.Value.TheVariants as value
use Rattle.laws_types.proofs.Declared.{declared-fine, declared-locals}
use Rattle.laws_types.proofs.Forms.{is-timer}
use Rattle.laws_types.proofs.Readings.{seen-whole, seen-within, site-fits, site-has}
use Rattle.laws_types.proofs.Stands.{only-mapped}
use Rattle.laws_types.proofs.Visible.{site-definitions}
use Rattle.laws_types.specs.Fitting.{DeclaresLocals, FitsMembers, FitsSite, RunsOn, or_timer, scope_seen}
use Rattle.laws_types.specs.Typed.{AreDeclared, FitsMessage, IsTarget}

-- ---- what is judged, and what comes of it

-- where branches are judged: what is seen there fits
pub record FitsJudge (definitions : List Definition) (component_type : ℕ) (judge : Judge) : Type 0 where
  pub on : RunsOn definitions judge.site.behaviour component_type
  pub names : AreDeclared definitions judge.site.behaviour judge.site.declared
  pub seen : FitsSite definitions judge.site judge.view

-- a redirect's value is of its target's type
abbrev pub FitsRedirect : Test → Site → Redirect → Type 0
FitsRedirect test site redirect = (t : DataType) × IsTarget test.definitions site (target_meant test site redirect.reference) t × (is_of test.definitions t redirect.value ≡ true)

abbrev pub FitsEffect : Test → Site → Effect → Type 0
FitsEffect test site Plain = Unit {0}
FitsEffect test site (Receives port stored) = All (FitsRedirect test site) stored
FitsEffect test site (Elapses name) = (scope_at test.definitions site).names name ≡ Some meaning.Timer

abbrev pub FitsTrial : Test → Site → Trial → Type 0
FitsTrial test site Passed = Unit {0}
FitsTrial test site (Faulty DynamicError) = Unit {0}
FitsTrial test site (Faulty Unmet) = ⊥
FitsTrial test site (Happened effect) = FitsEffect test site effect

tried-fits : {A : Type 0} (test : Test) (site : Site) (P : A → Type 0) (f : A → Trial) (o : Outcome A) → GivesOnly o P → ((a : A) → P a → FitsTrial test site (f a)) → FitsTrial test site (tried f o)
tried-fits test site P f (Yields a) is more = more a is
tried-fits test site P f (Fails DynamicError) is more = tt
tried-fits test site P f (Fails Unmet) is more = is

happened-fits : (test : Test) (site : Site) (b : Bool) → FitsTrial test site (happened_if b)
happened-fits test site true = tt
happened-fits test site false = tt

any-given : {A : Type 0} (P : A → Type 0) (o : Outcome A) → GivesOnly o P → GivesOnly o (λ a. Unit {0})
any-given P (Yields a) is = tt
any-given P (Fails DynamicError) is = tt
any-given P (Fails Unmet) is = is

met-given : {A : Type 0} (o : Outcome A) → IsMet o → GivesOnly o (λ a. Unit {0})
met-given (Yields a) is = tt
met-given (Fails DynamicError) is = tt
met-given (Fails Unmet) is = is

from-level : (definitions : List Definition) (sender : Option ComponentId) (x : Value-F Value) (at : ℕ) → level_goes definitions x (target_of (Some (type.Component at))) ≡ true → GivesOnly (is_from sender x) (λ b. Unit {0})
from-level definitions sender (Value-F.Component c) at goes = tt
from-level definitions sender Value-F.Null at goes = tt
from-level definitions sender (Value-F.Integer n) at goes = absurd (let e = goes in cc)
from-level definitions sender (Value-F.Boolean b) at goes = absurd (let e = goes in cc)
from-level definitions sender (Value-F.Enumerated bt n) at goes = absurd (let e = goes in cc)
from-level definitions sender (Value-F.Record bt fields) at goes = absurd (let e = goes in cc)
from-level definitions sender (Value-F.Default n) at goes = absurd (let e = goes in cc)
from-level definitions sender Value-F.Omit at goes = absurd (let e = goes in cc)

module _ (test : Test) (well : AreWellTyped test.definitions) (snapshot : Snapshot) (own : Data) (members : FitsMembers test.definitions snapshot.itself.component_type (members_in snapshot own))
    (judge : Judge) (is : FitsJudge test.definitions snapshot.itself.component_type judge) where
  abbrev ds : List Definition
  ds = test.definitions

  abbrev site : Site
  site = judge.site

  abbrev here : Scope
  here = scope_at ds site

  abbrev pub judged-in : Scope
  judged-in = scope_seen ds site judge.view

  abbrev pub read : Reading
  read = read_by test snapshot own judge

  pub judge-fine : IsFineSite ds site.behaviour site
  judge-fine = declared-fine ds well site.behaviour site.declared is.names

  pub judge-locals : DeclaresLocals site
  judge-locals = declared-locals ds well site.behaviour site.declared is.names

  pub judge-fit : FitsIn judged-in read
  judge-fit = site-fits test snapshot own site judge.view well judge-fine judge-locals is.on is.seen members

  pub judge-has : HasAll judged-in read
  judge-has = site-has test snapshot own site judge.view well judge-fine judge-locals is.on is.seen members

  pub judge-whole : IsWhole judged-in
  judge-whole = seen-whole ds site judge.view judge-fine.whole

  pub judge-within : IsWithin here judged-in
  judge-within = seen-within ds site judge.view

  abbrev Fits : Trial → Type 0
  Fits trial = FitsTrial test site trial

  -- ---- timers and components

  wanted-wide : (c : ComponentRef) → (check_wanted_component here c).broken ≡ [] → (check_wanted_component judged-in c).broken ≡ []
  wanted-wide c nothing = subst (λ (j : Judgement). j.broken ≡ []) (sym (wanted_stays c here judged-in judge-within nothing)) nothing

  timeout-fits : (name : List ℕ) (o : Option TimerState) → is_some o ≡ true → here.names name ≡ Some meaning.Timer → Fits (try_timeout name o)
  timeout-fits name (Some timer.Expired) there timed = timed
  timeout-fits name (Some timer.Running) there timed = tt
  timeout-fits name (Some timer.Inactive) there timed = tt
  timeout-fits name None there timed = absurd (let e = there in cc)

  mapped-there : (o : Option TimerState) → is_some (option_map is_running o) ≡ is_some o
  mapped-there None = refl
  mapped-there (Some state) = refl

  timed-there : (name : List ℕ) → here.names name ≡ Some meaning.Timer → is_some (timer_seen test snapshot own judge name) ≡ true
  timed-there name timed =
      sym (mapped-there (timer_seen test snapshot own judge name)) ∙ judge-has.timers name
      ∙ ap (λ m. names_timer (or_timer (entry judge.view.timers name) m)) timed

  done-fits : (c : ComponentRef) → (check_wanted_component here c).broken ≡ [] → Fits (try_done snapshot read c)
  done-fits c nothing =
      tried-fits test site (λ id. Unit {0}) (λ c. happened_if (is_terminated_in snapshot c.path)) (component_referred read c)
      (any-given (λ id. IsOfTyping ds (check_wanted_component judged-in c).typing (value.Component id)) (component_referred read c)
      (wanted_found c judged-in read judge-whole judge-fit judge-has (wanted-wide c nothing)))
      (λ id any. happened-fits test site (is_terminated_in snapshot id.path))

  all-done-if : (b c : Bool) → Fits (if b then happened_if c else Faulty DynamicError)
  all-done-if true c = happened-fits test site c
  all-done-if false c = tt

  -- ---- redirects

  target-here : (reference : Reference) (t : DataType) → IsVariable here reference t → IsTarget ds site (target_meant test site reference) t
  target-here reference t variable = record {
    own = refl;
    of = variable.of;
    variable = variable.variable;
    fields = subst (λ d. (along d (typing.Known variable.of) reference.fields).broken ≡ []) (site-definitions ds site) variable.fields;
    is = subst (λ d. (along d (typing.Known variable.of) reference.fields).typing ≡ typing.Known t) (site-definitions ds site) variable.is;
    data_type = ap (type_for reference.fields) (ap (λ m. type_known (check_meaning here.definitions m).typing) variable.variable);
  }

  target-type : (reference : Reference) (t : DataType) → IsVariable here reference t → (target_at here reference).data_type ≡ Some t
  target-type reference t variable =
      subst (λ m. type_known (along here.definitions (as_target here.definitions m).typing reference.fields).typing ≡ Some t) (sym variable.variable) (ap type_known variable.is)

  sender-goes : (at : ℕ) (sender : ComponentId) → nat_eq at sender.component_type ≡ true → is_of ds (type.Component at) (value.Component sender) ≡ true
  sender-goes at sender same = subst (λ n. is_of ds (type.Component n) (value.Component sender) ≡ true) (sym (same-number at sender.component_type same)) (component-value-goes ds sender)

  sender-if : (reference : Reference) (at : ℕ) (sender : ComponentId) → IsVariable here reference (type.Component at) → (b : Bool) → fits_sender sender (target_at here reference).data_type ≡ b
      → GivesOnly (if b then Yields (record { reference = reference; value = value.Component sender } ∷ []) else dynamic_error) (All (FitsRedirect test site))
  sender-if reference at sender variable false fits = tt
  sender-if reference at sender variable true fits =
      All-cons (FitsRedirect test site) (record { reference = reference; value = value.Component sender }) []
      (type.Component at, target-here reference (type.Component at) variable, sender-goes at sender (subst (λ d. fits_sender sender d ≡ true) (target-type reference (type.Component at) variable) fits))
      (All-nil (FitsRedirect test site))

  sender-stored : (o : Option Reference) (sender : Option ComponentId) → IfSome o (StoresSender here) → GivesOnly (redirected_sender here o sender) (All (FitsRedirect test site))
  sender-stored None sender stores = All-nil (FitsRedirect test site)
  sender-stored (Some reference) None stores = tt
  sender-stored (Some reference) (Some sender) stores = sender-if reference stores.at sender stores.variable (fits_sender sender (target_at here reference).data_type) refl

  same-known : (t u : DataType) → typing.Known t ≡ typing.Known u → t ≡ u
  same-known t u e = cc

  module _ (receive : Receive) (nothing : check_receive here receive ≡ []) where
    abbrev passage : Passage
    passage = incoming here receive.port

    abbrev port_rules : List Rule
    port_rules = check_selector here receive.port

    abbrev message_rules : List Rule
    message_rules = check_received here passage receive.message

    abbrev from_rules : List Rule
    from_rules = check_to here receive.from

    abbrev stored_rules : List Rule
    stored_rules = check_value_redirect here (is_some receive.message) (received_type here passage receive.message) receive.value

    abbrev sent_rules : List Rule
    sent_rules = check_sender_redirect here receive.sender

    in-front : (port_rules ++ message_rules) ++ from_rules ≡ []
    in-front = nothing-first ((port_rules ++ message_rules) ++ from_rules) stored_rules (nothing-first (((port_rules ++ message_rules) ++ from_rules) ++ stored_rules) sent_rules nothing)

    port-fine : port_rules ≡ []
    port-fine = nothing-first port_rules message_rules (nothing-first (port_rules ++ message_rules) from_rules in-front)

    message-fine : message_rules ≡ []
    message-fine = nothing-rest port_rules message_rules (nothing-first (port_rules ++ message_rules) from_rules in-front)

    from-fine : from_rules ≡ []
    from-fine = nothing-rest (port_rules ++ message_rules) from_rules in-front

    stores : HasRedirects here receive
    stores = redirects_fit here judge-fine.whole receive nothing

    -- the type that a template tells
    told-by : (found : DataType) (m : MessageTemplate) → receive.message ≡ Some m → (IfSome receive.message (λ m. (type_of_message here passage.0 passage.1 m).typing ≡ typing.Known found)) → (type_of_message here passage.0 passage.1 m).typing ≡ typing.Known found
    told-by found m stands told = subst (λ o. IfSome o (λ m. (type_of_message here passage.0 passage.1 m).typing ≡ typing.Known found)) stands told

    value-stored : (o : Option Reference) (found : DataType) (v : Value) → IfSome o (StoresMessage here receive) → is_of ds found v ≡ true
        → IfSome receive.message (λ m. (type_of_message here passage.0 passage.1 m).typing ≡ typing.Known found) → All (FitsRedirect test site) (redirected_value o v)
    value-stored None found v redirect goes told = All-nil (FitsRedirect test site)
    value-stored (Some reference) found v redirect goes told =
        let same : found ≡ redirect.data_type = same-known found redirect.data_type (sym (told-by found redirect.message redirect.stands told) ∙ redirect.is) in
        All-cons (FitsRedirect test site) (record { reference = reference; value = v }) []
        (redirect.data_type, target-here reference redirect.data_type redirect.variable, subst (λ t. is_of ds t v ≡ true) same goes) (All-nil (FitsRedirect test site))

    all-stored : (message : Message) (found : DataType) → is_of ds found message.value ≡ true → IfSome receive.message (λ m. (type_of_message here passage.0 passage.1 m).typing ≡ typing.Known found)
        → GivesOnly (redirects here receive message) (All (FitsRedirect test site))
    all-stored message found goes told =
        only-mapped (All (FitsRedirect test site)) (All (FitsRedirect test site)) (λ stored. redirected_value receive.value message.value ++ stored) (redirected_sender here receive.sender message.sender)
        (sender-stored receive.sender message.sender stores.sender)
        (λ stored all. All-append (FitsRedirect test site) (redirected_value receive.value message.value) stored (value-stored receive.value found message.value stores.value goes told) all)

    -- ---- messages

    from-met : (from : Option ComponentRef) (sender : Option ComponentId) → check_to here from ≡ [] → GivesOnly (from_fits read from sender) (λ b. Unit {0})
    from-met None sender fine = tt
    from-met (Some c) sender fine =
        only-then (IsReference ds (check_wanted_component judged-in c).typing) (λ b. Unit {0}) (λ v. is_from sender (out-Value v)) (component_at read c)
        (wanted_given c judged-in read judge-whole judge-fit judge-has (wanted-wide c fine))
        (λ v of. from-level ds sender (out-Value v) of.component_type (sym (goes-out ds v (target_of (Some (type.Component of.component_type)))) ∙ of.is_component))

    template-fine : (m : MessageTemplate) (found : DataType) → check_message here passage.0 passage.1 m ≡ [] → (type_of_message here passage.0 passage.1 m).typing ≡ typing.Known found
        → template m.template judged-in (target_of (Some found)) ≡ []
    template-fine m found fine told =
        let told-typing = (type_of_message here passage.0 passage.1 m).typing in
        let front : List Rule = check_type_name here m.type_name ++ (type_of_message here passage.0 passage.1 m).broken in
        template_stays m.template (target_of (Some found)) here judged-in judge-within
        (subst (λ t. template m.template here (target_of (type_known t)) ≡ []) told (nothing-rest front (template m.template here (target_of (type_known told-typing))) fine))

    template-met : (o : Option MessageTemplate) (found : DataType) (v : Value) → check_received here passage o ≡ [] → IfSome o (λ m. (type_of_message here passage.0 passage.1 m).typing ≡ typing.Known found)
        → GivesOnly (template_fits read found o v) (λ b. Unit {0})
    template-met None found v fine told = tt
    template-met (Some m) found v fine told =
        only-mapped (λ t. Unit {0}) (λ b. Unit {0}) (λ t. is_match t v) (template_wanted m.template read (Some found))
        (met-given (template_wanted m.template read (Some found))
        (templates_met m.template judged-in read judge-whole (fields_differ ds well) (parameters_known ds well) judge-fit judge-has found false (template-fine m found fine told)))
        (λ t any. tt)

    happened-or : (port : List ℕ) (stored : Outcome (List Redirect)) (b : Bool) → GivesOnly stored (All (FitsRedirect test site)) → Fits (happened_or_passed stored port b)
    happened-or port stored false all = tt
    happened-or port stored true all = tried-fits test site (All (FitsRedirect test site)) (λ redirects. Happened (Receives port redirects)) stored all (λ redirects each. each)

    template-tried : (port : List ℕ) (message : Message) (found : DataType) (b : Bool) → is_of ds found message.value ≡ true → IfSome receive.message (λ m. (type_of_message here passage.0 passage.1 m).typing ≡ typing.Known found)
        → Fits (try_template test site read receive port message found b)
    template-tried port message found false goes told = tt
    template-tried port message found true goes told =
        tried-fits test site (λ b. Unit {0}) (happened_or_passed (redirects here receive message) port) (template_fits read found receive.message message.value)
        (template-met receive.message found message.value message-fine told) (λ b any. happened-or port (redirects here receive message) b (all-stored message found goes told))

    typed-tried : (port : List ℕ) (message : Message) (found : DataType) → is_of ds found message.value ≡ true → IfSome receive.message (λ m. (type_of_message here passage.0 passage.1 m).typing ≡ typing.Known found)
        → Fits (try_typed test site read receive port message found)
    typed-tried port message found goes told =
        tried-fits test site (λ b. Unit {0}) (try_template test site read receive port message found) (from_fits read receive.from message.sender)
        (from-met receive.from message.sender from-fine) (λ b any. template-tried port message found b goes told)

    -- the type of what is received is known
    passing-known : (port : Option ℕ) (m : MessageTemplate) → is_some port ≡ true → check_message here (passage_at here.definitions true port).0 (passage_at here.definitions true port).1 m ≡ []
        → HasType here (passage_at here.definitions true port) m
    passing-known (Some port) m there fine = passing_typed here judge-fine.whole true port m fine
    passing-known None m there fine = absurd (let e = there in cc)

    port-known : (found : Option Meaning) (m : MessageTemplate) → IfSome found (IsKnown here.definitions) → is_some (port_meant found) ≡ true
        → check_message here (incoming_at here.definitions (port_meant found)).0 (incoming_at here.definitions (port_meant found)).1 m ≡ []
        → HasType here (incoming_at here.definitions (port_meant found)) m
    port-known (Some (meaning.Port of)) m known there fine = passing-known of m known fine
    port-known _ m known there fine = absurd (let e = there in cc)

    selected-known : (selected : PortSelector) (m : MessageTemplate) → check_selector here selected ≡ [] → check_message here (incoming here selected).0 (incoming here selected).1 m ≡ [] → HasType here (incoming here selected) m
    selected-known selector.Any m named fine = anywhere_typed here judge-fine.whole m fine
    selected-known (selector.Named name) m named fine =
        port-known (here.names name) m (judge-fine.whole.names name) (kept (is_some (port_meant (here.names name))) rule.UnknownName named) fine

    same-if : (b : Bool) (port : List ℕ) (message : Message) (wanted found : DataType) → same_type wanted found ≡ b → is_of ds found message.value ≡ true
        → IfSome receive.message (λ m. (type_of_message here passage.0 passage.1 m).typing ≡ typing.Known wanted) → Fits (if b then try_typed test site read receive port message found else Passed)
    same-if false port message wanted found same goes told = tt
    same-if true port message wanted found same goes told =
        let is-same : wanted ≡ found = same-type wanted found same in
        typed-tried port message found goes (subst (λ t. IfSome receive.message (λ m. (type_of_message here passage.0 passage.1 m).typing ≡ typing.Known t)) is-same told)

    type-tried : (o : Option MessageTemplate) (port : List ℕ) (message : Message) (found : DataType) → receive.message ≡ o → is_of ds found message.value ≡ true
        → Fits (try_type test site read receive port message (received_type here passage o) (Some found) o)
    type-tried None port message found stands goes =
        typed-tried port message found goes (subst (λ o. IfSome o (λ m. (type_of_message here passage.0 passage.1 m).typing ≡ typing.Known found)) (sym stands) tt)
    type-tried (Some m) port message found stands goes =
        let known : HasType here passage m = selected-known receive.port m port-fine (subst (λ o. check_received here passage o ≡ []) stands message-fine) in
        subst (λ t. Fits (try_type test site read receive port message (type_known t) (Some found) (Some m))) (sym known.is)
        (same-if (same_type known.data_type found) port message known.data_type found refl goes
        (subst (λ o. IfSome o (λ m. (type_of_message here passage.0 passage.1 m).typing ≡ typing.Known known.data_type)) (sym stands) known.is))

    front-tried : (port : List ℕ) (message : Option Message) → IfSome message (FitsMessage ds) → Fits (try_front test site read receive port message)
    front-tried port None fits = tt
    front-tried port (Some message) fits =
        subst (λ o. Fits (try_type test site read receive port message (received_type here passage receive.message) o receive.message)) (sym fits.is_typed)
        (type-tried receive.message port message fits.data_type refl fits.goes)

    next-fits : (one next : Trial) → Fits one → Fits next → Fits (or_next one next)
    next-fits Passed next is also = also
    next-fits (Faulty why) next is also = is
    next-fits (Happened effect) next is also = is

    fronts-tried : (fronts : List (List ℕ × Option Message)) → All (λ front. IfSome front.1 (FitsMessage ds)) fronts → Fits (try_fronts test site read receive fronts)
    fronts-tried [] all = tt
    fronts-tried (front ∷ fronts) all =
        next-fits (try_front test site read receive front.0 front.1) (try_fronts test site read receive fronts)
        (front-tried front.0 front.1 (All-head (λ (front : List ℕ × Option Message). IfSome front.1 (FitsMessage ds)) front fronts all))
        (fronts-tried fronts (All-tail (λ (front : List ℕ × Option Message). IfSome front.1 (FitsMessage ds)) front fronts all))

    port-tried : (o : Option (List ℕ × Option Message)) → IsSomeAnd o (λ front. IfSome front.1 (FitsMessage ds)) → Fits (try_port test site read receive o)
    port-tried (Some front) fits = front-tried front.0 front.1 fits
    port-tried None fits = absurd fits

    selector-tried : (selected : PortSelector) → receive.port ≡ selected → All (λ front. IfSome front.1 (FitsMessage ds)) snapshot.fronts
        → ((name : List ℕ) → is_some (port_meant (here.names name)) ≡ true → IsSomeAnd (find (λ front. bytes_eq front.0 name) snapshot.fronts) (λ front. IfSome front.1 (FitsMessage ds)))
        → Fits (try_receive test snapshot site read receive selected)
    selector-tried selector.Any same all found = fronts-tried snapshot.fronts all
    selector-tried (selector.Named name) same all found =
        port-tried (find (λ front. bytes_eq front.0 name) snapshot.fronts)
        (found name (kept (is_some (port_meant (here.names name))) rule.UnknownName (subst (λ s. check_selector here s ≡ []) same port-fine)))

  -- ---- events

  pub event-fits : (e : Event) → check_event here e ≡ [] → All (λ front. IfSome front.1 (FitsMessage ds)) snapshot.fronts
      → ((name : List ℕ) → is_some (port_meant (here.names name)) ≡ true → IsSomeAnd (find (λ front. bytes_eq front.0 name) snapshot.fronts) (λ front. IfSome front.1 (FitsMessage ds)))
      → Fits (try_event test snapshot own judge e)
  event-fits (event.Receive receive) nothing all found = selector-tried receive nothing receive.port refl all found
  event-fits (event.Timeout name) nothing all found =
      let timed = is-timer (here.names name) (kept (is_timer_name (here.names name)) rule.UnknownName nothing) in
      timeout-fits name (timer_seen test snapshot own judge name) (timed-there name timed) timed
  event-fits (event.Done c) nothing all found = done-fits c nothing
  event-fits event.AllDone nothing all found = all-done-if (same_path read.itself.path (mtc_of test).path) (not (others_run snapshot (mtc_of test).path))

  pub chance-fits : (e : Option Event) → IfSome e (λ e. check_event here e ≡ []) → All (λ front. IfSome front.1 (FitsMessage ds)) snapshot.fronts
      → ((name : List ℕ) → is_some (port_meant (here.names name)) ≡ true → IsSomeAnd (find (λ front. bytes_eq front.0 name) snapshot.fronts) (λ front. IfSome front.1 (FitsMessage ds)))
      → Fits (try_chance test snapshot own judge e)
  chance-fits None nothing all found = tt
  chance-fits (Some e) nothing all found = event-fits e nothing all found
