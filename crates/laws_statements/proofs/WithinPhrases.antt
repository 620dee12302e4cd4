-- Calls, assignments, messages and what else stands in statements breaks no rule where further names are visible, if it breaks none without.
use Rattle.std.proofs.Common.{◌≡◌, ℕ, Bool, true, false, not, List, [], ◌∷◌, ◌++◌, Option, Some, None, is_some, IfSome, if◌then◌else◌, refl, ap, ◌∙◌}
use Rattle.ttcn_syntax.specs.declared.tree.definition.Definition.{Definition}
use Rattle.ttcn_syntax.specs.declared.tree.definition.DefinitionKind.{DefinitionKind}
use Rattle.ttcn_syntax.specs.declared.tree.expression.ComponentRef.{ComponentRef}
use Rattle.ttcn_syntax.specs.declared.tree.expression.ComponentRef.TheVariants as component
use Rattle.ttcn_syntax.specs.declared.tree.expression.Expr.{Expr}
use Rattle.ttcn_syntax.specs.declared.tree.expression.Reference.{Reference}
use Rattle.ttcn_syntax.specs.declared.tree.statement.Assignment.{Assignment}
use Rattle.ttcn_syntax.specs.declared.tree.statement.Event.{Event}
use Rattle.ttcn_syntax.specs.declared.tree.statement.Event.TheVariants as event
use Rattle.ttcn_syntax.specs.declared.tree.statement.LogItem.{LogItem}
use Rattle.ttcn_syntax.specs.declared.tree.statement.LogItem.TheVariants as log_item
use Rattle.ttcn_syntax.specs.declared.tree.statement.Mapping.{Mapping}
use Rattle.ttcn_syntax.specs.declared.tree.statement.PortSelector.{PortSelector}
use Rattle.ttcn_syntax.specs.declared.tree.statement.PortSelector.TheVariants as selector
use Rattle.ttcn_syntax.specs.declared.tree.statement.Receive.{Receive}
use Rattle.ttcn_syntax.specs.declared.tree.statement.Send.{Send}
use Rattle.ttcn_syntax.specs.declared.tree.statement.Verdict.{Verdict}
use Rattle.ttcn_syntax.specs.declared.tree.template.MessageTemplate.{MessageTemplate}
use Rattle.ttcn_syntax.specs.declared.tree.template.Template.{Template}
use Rattle.ttcn_syntax.specs.declared.tree.value.Call.{Call}
use Rattle.ttcn_syntax.specs.declared.tree.value.Rhs.{Rhs}
use Rattle.ttcn_syntax.specs.declared.tree.value.Rhs.TheVariants as rhs
use Rattle.ttcn_syntax.specs.declared.tree.value.TypeName.{TypeName}
use Rattle.ttcn_syntax.specs.declared.tree.value.TypeName.TheVariants as type_name
use Rattle.ttcn_syntax.specs.declared.tree.value.Value.{Value}
use Rattle.check_rules.specs.Calls.{altstep_meant, behaviour_meant, check_activation, check_arguments, check_behaviour, check_call, component_named, gives_value, is_altstep, parameters_of, result_type_of, result_typing, runs_here, runs_on_of}
use Rattle.check_rules.specs.Expressions.{Judgement, after, along, check_component, check_reference, check_wanted_component, expression, is_timer}
use Rattle.check_rules.specs.Targets.{as_target, call_typing, check_assignment, check_created, check_rhs, check_target, check_type, last_optional, target_at}
use Rattle.check_rules.specs.Templates.{template}
use Rattle.check_scope.specs.Names.{Names, Scope, component_meant, kind_at, module_names, resolved, type_meant}
use Rattle.check_scope.specs.Typings.{fits, refers_to_component, target_of, type_known, typed, unless}
use Rattle.check_scope.specs.declared.names.Meaning.{Meaning}
use Rattle.check_scope.specs.declared.rule.Rule.{Rule}
use Rattle.check_scope.specs.declared.rule.Rule.TheVariants as rule
use Rattle.check_scope.specs.declared.types.DataType.{DataType}
use Rattle.check_scope.specs.declared.types.DataType.TheVariants as type
use Rattle.check_scope.specs.declared.types.Target.{Target}
use Rattle.check_scope.specs.declared.types.Typing.{Typing}
use Rattle.check_scope.specs.declared.types.Typing.TheVariants as typing
use Rattle.check_rules.specs.Definitions.{returns_of}
use Rattle.check_rules.specs.Messages.{Passage, Passing, by_template, by_type_name, check_event, check_message, check_receive, check_received, check_selector, check_send, check_sender_redirect, check_sent, check_timer, check_to, check_type_name, check_value_redirect, incoming, incoming_at, is_timer_name, passage_at, port_meant, received_type, stores, stores_sender, type_by_itself, type_of_message}
use Rattle.check_rules.specs.Statements.{check_boolean, check_condition, check_deactivate, check_ends, check_guard, check_log, check_log_item, check_mapping, check_return, check_setverdict, check_start, check_started, check_stop, is_error, is_function, refers_to_default, runs_there, says_component}
use Rattle.laws_checker.proofs.Nothing.{nothing-first, nothing-rest}
use Rattle.laws_checker.proofs.Whole.{naming}
use Rattle.laws_statements.proofs.WithinExpressions.{arguments-fine, component-same, expression-same, none-append, part-by-part, reference-same, reference_meant, same, value-fine, wanted-same}
use Rattle.laws_statements.proofs.WithinTemplates.{template-fine, typing-same}

-- ---- by what a name means

abbrev target_meant : List Definition → List (List ℕ) → Option Meaning → Judgement
target_meant definitions fields m = after (as_target definitions m).broken (along definitions (as_target definitions m).typing fields)

abbrev target_meant_at : List Definition → List (List ℕ) → Option Meaning → Target
target_meant_at definitions fields m = record {
  data_type = type_known (target_meant definitions fields m).typing;
  optional = last_optional definitions (as_target definitions m).typing false fields;
}

target-visible : (definitions : List Definition) (fields : List (List ℕ)) (m : Option Meaning) → (target_meant definitions fields m).broken ≡ [] → is_some m ≡ true
target-visible definitions fields (Some m) nothing = refl
target-visible definitions fields None nothing = absurd (let e = nothing in cc)

abbrev stop_meant : List Definition → List (List ℕ) → Option Meaning → List Rule
stop_meant definitions fields m =
    if is_timer fields m then []
    else ((reference_meant definitions fields m).broken ++ unless (refers_to_component (reference_meant definitions fields m).typing) rule.UnknownName)

stop-visible : (definitions : List Definition) (fields : List (List ℕ)) (m : Option Meaning) → stop_meant definitions fields m ≡ [] → is_some m ≡ true
stop-visible definitions fields (Some m) nothing = refl
stop-visible definitions [] None nothing = absurd (let e = nothing in cc)
stop-visible definitions (f ∷ fields) None nothing = absurd (let e = nothing in cc)

type-visible : (m : Option Meaning) → unless (is_some (type_meant m)) rule.UnknownName ≡ [] → is_some m ≡ true
type-visible (Some m) nothing = refl
type-visible None nothing = absurd (let e = nothing in cc)

created-visible : (wanted : Option DataType) (m : Option Meaning) → check_created wanted (component_meant m) ≡ [] → is_some m ≡ true
created-visible wanted (Some m) nothing = refl
created-visible wanted None nothing = absurd (let e = nothing in cc)

timer-visible : (m : Option Meaning) → unless (is_timer_name m) rule.UnknownName ≡ [] → is_some m ≡ true
timer-visible (Some m) nothing = refl
timer-visible None nothing = absurd (let e = nothing in cc)

port-visible : (m : Option Meaning) → unless (is_some (port_meant m)) rule.UnknownName ≡ [] → is_some m ≡ true
port-visible (Some m) nothing = refl
port-visible None nothing = absurd (let e = nothing in cc)

module _ (h : Scope) (names : Names) (within : (name : List ℕ) → IfSome (h.names name) (λ m. names name ≡ Some m)) where
  abbrev g : Scope
  g = naming h names

  is : (name : List ℕ) → is_some (h.names name) ≡ true → names name ≡ h.names name
  is name there = same h names within name there

  -- ---- calls

  behaviour-fine : (callable : Option DefinitionKind → Bool) (call : Call) (at : Option ℕ) → check_behaviour h callable call at ≡ [] → check_behaviour g callable call at ≡ []
  behaviour-fine callable call None nothing = absurd (let e = nothing in cc)
  behaviour-fine callable call (Some at) nothing =
      let k = kind_at h.definitions at in
      let on : List Rule = unless (runs_here (component_named h.definitions (runs_on_of k)) h.itself) rule.RunsOn in
      let called : List Rule = unless (callable k) rule.CallKind in
      let given = λ (s : Scope). check_arguments s (parameters_of k) call.arguments in
      part-by-part (given h ++ on) called (given g ++ on) called
      (λ none. part-by-part (given h) on (given g) on (arguments-fine h names within (parameters_of k) call.arguments) (λ none. none) none) (λ none. none) nothing

  call-visible : (callable : Option DefinitionKind → Bool) (call : Call) (m : Option Meaning) → check_behaviour h callable call (behaviour_meant m) ≡ [] → is_some m ≡ true
  call-visible callable call (Some m) nothing = refl
  call-visible callable call None nothing = absurd (let e = nothing in cc)

  activation-visible : (call : Call) (m : Option Meaning) → check_behaviour h is_altstep call (altstep_meant m) ≡ [] → is_some m ≡ true
  activation-visible call (Some m) nothing = refl
  activation-visible call None nothing = absurd (let e = nothing in cc)

  call-is : (callable : Option DefinitionKind → Bool) (call : Call) → check_call h callable call ≡ [] → names call.name ≡ h.names call.name
  call-is callable call nothing = is call.name (call-visible callable call (h.names call.name) nothing)

  pub call-fine : (callable : Option DefinitionKind → Bool) (call : Call) → check_call h callable call ≡ [] → check_call g callable call ≡ []
  call-fine callable call nothing =
      ap (λ m. check_behaviour g callable call (behaviour_meant m)) (call-is callable call nothing) ∙ behaviour-fine callable call (behaviour_meant (h.names call.name)) nothing

  pub activation-fine : (call : Call) → check_activation h call ≡ [] → check_activation g call ≡ []
  activation-fine call nothing =
      ap (λ m. check_behaviour g is_altstep call (altstep_meant m)) (is call.name (activation-visible call (h.names call.name) nothing))
      ∙ behaviour-fine is_altstep call (altstep_meant (h.names call.name)) nothing

  -- ---- right sides and targets

  result-same : (of : Option TypeName) → result_typing g of ≡ result_typing h of
  result-same None = refl
  result-same (Some of) = refl

  call-typing-same : (at : Option ℕ) → call_typing g at ≡ call_typing h at
  call-typing-same None = refl
  call-typing-same (Some at) = result-same (result_type_of (kind_at h.definitions at))

  pub rhs-fine : (target : Target) (right : Rhs) → check_rhs h target right ≡ [] → check_rhs g target right ≡ []
  rhs-fine target (rhs.Value v) nothing = value-fine h names within v target nothing
  rhs-fine target (rhs.Create name) nothing =
      ap (λ m. check_created target.data_type (component_meant m)) (is name (created-visible target.data_type (h.names name) nothing)) ∙ nothing
  rhs-fine target (rhs.Call call) nothing =
      let resolving = check_call h gives_value call in
      let fit = λ (t : Typing). unless (fits target.data_type t) rule.ValueType in
      let last : List Rule = fit (call_typing h (behaviour_meant (h.names call.name))) in
      let calls : resolving ≡ [] = nothing-first resolving last nothing in
      none-append (check_call g gives_value call) (fit (call_typing g (behaviour_meant (g.names call.name)))) (call-fine gives_value call calls)
      (ap (λ m. fit (call_typing g (behaviour_meant m))) (call-is gives_value call calls)
      ∙ ap fit (call-typing-same (behaviour_meant (h.names call.name))) ∙ nothing-rest resolving last nothing)
  rhs-fine target (rhs.Activate call) nothing =
      let fit : List Rule = unless (fits target.data_type (typing.Known type.Default)) rule.ValueType in
      part-by-part (check_activation h call) fit (check_activation g call) fit (activation-fine call) (λ none. none) nothing

  target-is : (r : Reference) → (check_target h r).broken ≡ [] → names r.name ≡ h.names r.name
  target-is r nothing = is r.name (target-visible h.definitions r.fields (h.names r.name) nothing)

  pub target-same : (r : Reference) → (check_target h r).broken ≡ [] → check_target g r ≡ check_target h r
  target-same r nothing = ap (target_meant h.definitions r.fields) (target-is r nothing)

  pub target-at-same : (r : Reference) → (check_target h r).broken ≡ [] → target_at g r ≡ target_at h r
  target-at-same r nothing = ap (target_meant_at h.definitions r.fields) (target-is r nothing)

  pub assignment-fine : (a : Assignment) → check_assignment h a ≡ [] → check_assignment g a ≡ []
  assignment-fine a nothing =
      let found : Judgement = check_target h a.target in
      let right = check_rhs h (target_at h a.target) a.value in
      let fine : found.broken ≡ [] = nothing-first found.broken right nothing in
      none-append (check_target g a.target).broken (check_rhs g (target_at g a.target) a.value)
      (ap (λ (j : Judgement). j.broken) (target-same a.target fine) ∙ fine)
      (ap (λ t. check_rhs g t a.value) (target-at-same a.target fine) ∙ rhs-fine (target_at h a.target) a.value (nothing-rest found.broken right nothing))

  -- ---- conditions, and what is logged or returned

  pub condition-fine : (e : Expr) → check_condition h e ≡ [] → check_condition g e ≡ []
  condition-fine e nothing =
      let j : Judgement = expression e h false in
      ap (λ (j : Judgement). j.broken ++ check_boolean j.typing) (expression-same h names within e false (nothing-first j.broken (check_boolean j.typing) nothing)) ∙ nothing

  pub guard-fine : (guard : Option Expr) → check_guard h guard ≡ [] → check_guard g guard ≡ []
  guard-fine None nothing = refl
  guard-fine (Some e) nothing = condition-fine e nothing

  item-fine : (item : LogItem) → check_log_item h item ≡ [] → check_log_item g item ≡ []
  item-fine log_item.Text nothing = refl
  item-fine (log_item.Expr e) nothing = ap (λ (j : Judgement). j.broken) (expression-same h names within e true nothing) ∙ nothing

  pub log-fine : (items : List LogItem) → check_log h items ≡ [] → check_log g items ≡ []
  log-fine [] nothing = refl
  log-fine (item ∷ items) nothing =
      part-by-part (check_log_item h item) (check_log h items) (check_log_item g item) (check_log g items) (item-fine item) (log-fine items) nothing

  pub setverdict-fine : (v : Verdict) (items : List LogItem) → check_setverdict h v items ≡ [] → check_setverdict g v items ≡ []
  setverdict-fine v items nothing =
      let given : List Rule = unless (not (is_error v)) rule.VerdictError in
      part-by-part given (check_log h items) given (check_log g items) (λ none. none) (log-fine items) nothing

  -- in a function with a result or without
  pub return-fine : (definitions : List Definition) (of : Option TypeName) (given : Option Value) → check_return h (returns_of definitions of) given ≡ []
      → check_return g (returns_of definitions of) given ≡ []
  return-fine definitions None None nothing = nothing
  return-fine definitions None (Some v) nothing = absurd (let e = nothing in cc)
  return-fine definitions (Some of) None nothing = nothing
  return-fine definitions (Some of) (Some v) nothing = value-fine h names within v (target_of (resolved (module_names definitions) of)) nothing

  -- ---- defaults and components

  pub deactivate-fine : (r : Option Reference) → check_deactivate h r ≡ [] → check_deactivate g r ≡ []
  deactivate-fine None nothing = refl
  deactivate-fine (Some r) nothing =
      let j : Judgement = check_reference h r in
      ap (λ (j : Judgement). j.broken ++ unless (refers_to_default j.typing) rule.UnknownName)
      (reference-same h names within r (nothing-first j.broken (unless (refers_to_default j.typing) rule.UnknownName) nothing)) ∙ nothing

  wanted-fine : (c : ComponentRef) → (check_wanted_component h c).broken ≡ [] → (check_wanted_component g c).broken ≡ []
  wanted-fine c nothing = ap (λ (j : Judgement). j.broken) (wanted-same h names within c nothing) ∙ nothing

  pub stop-fine : (c : ComponentRef) → check_stop h c ≡ [] → check_stop g c ≡ []
  stop-fine component.Itself nothing = nothing
  stop-fine component.Mtc nothing = nothing
  stop-fine (component.Named r) nothing =
      ap (stop_meant h.definitions r.fields) (is r.name (stop-visible h.definitions r.fields (h.names r.name) nothing)) ∙ nothing

  pub ends-fine : (one other : ComponentRef) → check_ends h one other ≡ [] → check_ends g one other ≡ []
  ends-fine one other nothing =
      part-by-part (check_wanted_component h one).broken (check_wanted_component h other).broken (check_wanted_component g one).broken (check_wanted_component g other).broken
      (wanted-fine one) (wanted-fine other) nothing

  pub mapping-fine : (mapping : Mapping) → check_mapping h mapping ≡ [] → check_mapping g mapping ≡ []
  mapping-fine mapping nothing = wanted-fine mapping.port.component nothing

  started-fine : (t : Typing) (call : Call) (at : Option ℕ) → check_started h t call at ≡ [] → check_started g t call at ≡ []
  started-fine t call None nothing = absurd (let e = nothing in cc)
  started-fine t call (Some at) nothing =
      let k = kind_at h.definitions at in
      let given = λ (s : Scope). check_arguments s (parameters_of k) call.arguments in
      let says : List Rule = unless (says_component k) rule.RunsOn in
      let there : List Rule = unless (runs_there t (component_named h.definitions (runs_on_of k))) rule.RunsOn in
      let called : List Rule = unless (is_function k) rule.CallKind in
      part-by-part (given h ++ says ++ there) called (given g ++ says ++ there) called
      (λ none. part-by-part (given h ++ says) there (given g ++ says) there
      (λ none. part-by-part (given h) says (given g) says (arguments-fine h names within (parameters_of k) call.arguments) (λ none. none) none) (λ none. none) none)
      (λ none. none) nothing

  started-visible : (t : Typing) (call : Call) (m : Option Meaning) → check_started h t call (behaviour_meant m) ≡ [] → is_some m ≡ true
  started-visible t call (Some m) nothing = refl
  started-visible t call None nothing = absurd (let e = nothing in cc)

  pub start-fine : (c : ComponentRef) (call : Call) → check_start h c call ≡ [] → check_start g c call ≡ []
  start-fine c call nothing =
      let j : Judgement = check_component h c false in
      let refers : List Rule = unless (refers_to_component j.typing) rule.UnknownName in
      let started = check_started h j.typing call (behaviour_meant (h.names call.name)) in
      let front : j.broken ++ refers ≡ [] = nothing-first (j.broken ++ refers) started nothing in
      let last : started ≡ [] = nothing-rest (j.broken ++ refers) started nothing in
      ap (λ (k : Judgement). k.broken ++ unless (refers_to_component k.typing) rule.UnknownName ++ check_started g k.typing call (behaviour_meant (names call.name)))
      (component-same h names within c false (nothing-first j.broken refers front))
      ∙ none-append (j.broken ++ refers) (check_started g j.typing call (behaviour_meant (names call.name))) front
      (ap (λ m. check_started g j.typing call (behaviour_meant m)) (is call.name (started-visible j.typing call (h.names call.name) last))
      ∙ started-fine j.typing call (behaviour_meant (h.names call.name)) last)

  pub timer-fine : (name : List ℕ) → check_timer h name ≡ [] → check_timer g name ≡ []
  timer-fine name nothing = ap (λ m. unless (is_timer_name m) rule.UnknownName) (is name (timer-visible (h.names name) nothing)) ∙ nothing

  -- ---- types

  pub type-fine : (default : Bool) (t : TypeName) → check_type h.names default t ≡ [] → check_type names default t ≡ []
  type-fine default type_name.Integer nothing = nothing
  type-fine default type_name.Boolean nothing = nothing
  type-fine default type_name.Default nothing = nothing
  type-fine default (type_name.Named name) nothing =
      ap (λ m. unless (is_some (type_meant m)) rule.UnknownName) (is name (type-visible (h.names name) nothing)) ∙ nothing

  pub type-same : (default : Bool) (t : TypeName) → check_type h.names default t ≡ [] → resolved names t ≡ resolved h.names t
  type-same default type_name.Integer nothing = refl
  type-same default type_name.Boolean nothing = refl
  type-same default type_name.Default nothing = refl
  type-same default (type_name.Named name) nothing = ap type_meant (is name (type-visible (h.names name) nothing))

  -- ---- messages

  type-name-fine : (of : Option TypeName) → check_type_name h of ≡ [] → check_type_name g of ≡ []
  type-name-fine None nothing = refl
  type-name-fine (Some t) nothing = type-fine false t nothing

  by-type-same : (passing : Passing) (otherwise : Judgement) (t : Template) (target : Target) → template t h target ≡ [] → (of : Option TypeName) → check_type_name h of ≡ []
      → by_type_name g passing otherwise t of ≡ by_type_name h passing otherwise t of
  by-type-same passing otherwise t target inside None nothing = ap (by_template passing otherwise) (typing-same h names within t target inside)
  by-type-same passing otherwise t target inside (Some name) nothing = ap (λ of. type_by_itself passing (typed of)) (type-same false name nothing)

  pub message-typing-same : (passing : Passing) (otherwise : Judgement) (message : MessageTemplate) → check_message h passing otherwise message ≡ []
      → type_of_message g passing otherwise message ≡ type_of_message h passing otherwise message
  message-typing-same passing otherwise message nothing =
      let j : Judgement = type_of_message h passing otherwise message in
      let named = check_type_name h message.type_name in
      let target : Target = target_of (type_known j.typing) in
      let inside = template message.template h target in
      by-type-same passing otherwise message.template target (nothing-rest (named ++ j.broken) inside nothing) message.type_name
      (nothing-first named j.broken (nothing-first (named ++ j.broken) inside nothing))

  pub message-fine : (passing : Passing) (otherwise : Judgement) (message : MessageTemplate) → check_message h passing otherwise message ≡ [] → check_message g passing otherwise message ≡ []
  message-fine passing otherwise message nothing =
      let j : Judgement = type_of_message h passing otherwise message in
      let target : Target = target_of (type_known j.typing) in
      ap (λ (k : Judgement). check_type_name g message.type_name ++ k.broken ++ template message.template g (target_of (type_known k.typing))) (message-typing-same passing otherwise message nothing)
      ∙ part-by-part (check_type_name h message.type_name ++ j.broken) (template message.template h target) (check_type_name g message.type_name ++ j.broken) (template message.template g target)
      (λ none. part-by-part (check_type_name h message.type_name) j.broken (check_type_name g message.type_name) j.broken (type-name-fine message.type_name) (λ none. none) none)
      (template-fine h names within message.template target) nothing

  -- ---- sends

  to-fine : (to : Option ComponentRef) → check_to h to ≡ [] → check_to g to ≡ []
  to-fine None nothing = refl
  to-fine (Some c) nothing = wanted-fine c nothing

  sent-fine : (port : Option (Option ℕ)) (message : MessageTemplate) → check_sent h port message ≡ [] → check_sent g port message ≡ []
  sent-fine None message nothing = absurd (let e = nothing in cc)
  sent-fine (Some port) message nothing =
      message-fine (passage_at h.definitions false port).0 (passage_at h.definitions false port).1 message nothing

  sent-visible : (m : Option Meaning) (message : MessageTemplate) → check_sent h (port_meant m) message ≡ [] → is_some m ≡ true
  sent-visible (Some m) message nothing = refl
  sent-visible None message nothing = absurd (let e = nothing in cc)

  pub send-fine : (send : Send) → check_send h send ≡ [] → check_send g send ≡ []
  send-fine send nothing =
      part-by-part (check_sent h (port_meant (h.names send.port)) send.message) (check_to h send.to) (check_sent g (port_meant (names send.port)) send.message) (check_to g send.to)
      (λ none. ap (λ m. check_sent g (port_meant m) send.message) (is send.port (sent-visible (h.names send.port) send.message none))
      ∙ sent-fine (port_meant (h.names send.port)) send.message none)
      (to-fine send.to) nothing

  -- ---- receives

  selector-fine : (s : PortSelector) → check_selector h s ≡ [] → check_selector g s ≡ []
  selector-fine selector.Any nothing = refl
  selector-fine (selector.Named name) nothing =
      ap (λ m. unless (is_some (port_meant m)) rule.UnknownName) (is name (port-visible (h.names name) nothing)) ∙ nothing

  pub incoming-same : (s : PortSelector) → check_selector h s ≡ [] → incoming g s ≡ incoming h s
  incoming-same selector.Any nothing = refl
  incoming-same (selector.Named name) nothing = ap (λ m. incoming_at h.definitions (port_meant m)) (is name (port-visible (h.names name) nothing))

  received-fine : (passage : Passage) (message : Option MessageTemplate) → check_received h passage message ≡ [] → check_received g passage message ≡ []
  received-fine passage None nothing = refl
  received-fine passage (Some message) nothing = message-fine passage.0 passage.1 message nothing

  pub received-type-same : (passage : Passage) (message : Option MessageTemplate) → check_received h passage message ≡ [] → received_type g passage message ≡ received_type h passage message
  received-type-same passage None nothing = refl
  received-type-same passage (Some message) nothing = ap (λ (j : Judgement). type_known j.typing) (message-typing-same passage.0 passage.1 message nothing)

  value-redirect-fine : (finding : Bool) (of : Option DataType) (r : Option Reference) → check_value_redirect h finding of r ≡ [] → check_value_redirect g finding of r ≡ []
  value-redirect-fine finding of None nothing = refl
  value-redirect-fine finding of (Some r) nothing =
      let j : Judgement = check_target h r in
      let finds : List Rule = unless finding rule.Redirect in
      let fit : List Rule = unless (stores of j.typing) rule.Redirect in
      ap (λ (k : Judgement). k.broken ++ finds ++ unless (stores of k.typing) rule.Redirect)
      (target-same r (nothing-first j.broken finds (nothing-first (j.broken ++ finds) fit nothing))) ∙ nothing

  sender-redirect-fine : (r : Option Reference) → check_sender_redirect h r ≡ [] → check_sender_redirect g r ≡ []
  sender-redirect-fine None nothing = refl
  sender-redirect-fine (Some r) nothing =
      let j : Judgement = check_target h r in
      ap (λ (k : Judgement). k.broken ++ unless (stores_sender k.typing) rule.Redirect)
      (target-same r (nothing-first j.broken (unless (stores_sender j.typing) rule.Redirect) nothing)) ∙ nothing

  -- the rules of a receive with what comes in at its port, and with the type of that
  abbrev receiving : Scope → Receive → Passage → Option DataType → List Rule
  receiving s receive passage of =
      check_selector s receive.port ++ check_received s passage receive.message ++ check_to s receive.from ++
      check_value_redirect s (is_some receive.message) of receive.value ++ check_sender_redirect s receive.sender

  pub receive-fine : (receive : Receive) → check_receive h receive ≡ [] → check_receive g receive ≡ []
  receive-fine receive nothing =
      let passage : Passage = incoming h receive.port in
      let of = received_type h passage receive.message in
      let finding : Bool = is_some receive.message in
      let one = λ (s : Scope). check_selector s receive.port in
      let two = λ (s : Scope). check_received s passage receive.message in
      let three = λ (s : Scope). check_to s receive.from in
      let four = λ (s : Scope). check_value_redirect s finding of receive.value in
      let five = λ (s : Scope). check_sender_redirect s receive.sender in
      let upto_four : one h ++ two h ++ three h ++ four h ≡ [] = nothing-first (one h ++ two h ++ three h ++ four h) (five h) nothing in
      let upto_three : one h ++ two h ++ three h ≡ [] = nothing-first (one h ++ two h ++ three h) (four h) upto_four in
      let upto_two : one h ++ two h ≡ [] = nothing-first (one h ++ two h) (three h) upto_three in
      let first : one h ≡ [] = nothing-first (one h) (two h) upto_two in
      let second : two h ≡ [] = nothing-rest (one h) (two h) upto_two in
      ap (λ (p : Passage). receiving g receive p (received_type g p receive.message)) (incoming-same receive.port first)
      ∙ ap (receiving g receive passage) (received-type-same passage receive.message second)
      ∙ none-append (one g ++ two g ++ three g ++ four g) (five g)
      (none-append (one g ++ two g ++ three g) (four g)
      (none-append (one g ++ two g) (three g)
      (none-append (one g) (two g) (selector-fine receive.port first) (received-fine passage receive.message second))
      (to-fine receive.from (nothing-rest (one h ++ two h) (three h) upto_three)))
      (value-redirect-fine finding of receive.value (nothing-rest (one h ++ two h ++ three h) (four h) upto_four)))
      (sender-redirect-fine receive.sender (nothing-rest (one h ++ two h ++ three h ++ four h) (five h) nothing))

  pub event-fine : (e : Event) → check_event h e ≡ [] → check_event g e ≡ []
  event-fine (event.Receive receive) nothing = receive-fine receive nothing
  event-fine (event.Timeout timer) nothing = timer-fine timer nothing
  event-fine (event.Done c) nothing = wanted-fine c nothing
  event-fine event.AllDone nothing = refl
