-- What the parser reads is spelled: declarations, events and statements.
use Rattle.std.proofs.Common.{◌≡◌, ℕ, zero, suc, true, List, [], ◌∷◌, ◌++◌, length, refl, ap}
use Rattle.std.specs.Prelude.{◌&&◌, Option, Some, None}
use Rattle.ttcn_syntax.specs.declared.operator.Level.TheVariants as level
use Rattle.ttcn_syntax.specs.declared.token.Symbol.TheVariants as mark
use Rattle.ttcn_syntax.specs.declared.token.Token.{Token}
use Rattle.ttcn_syntax.specs.declared.token.Token.TheVariants as token
use Rattle.ttcn_syntax.specs.declared.token.Spanned.{Spanned}
use Rattle.ttcn_syntax.specs.declared.token.Word.{Word}
use Rattle.ttcn_syntax.specs.declared.token.Word.TheVariants as word
use Rattle.ttcn_syntax.specs.declared.tree.expression.ComponentRef.{ComponentRef}
use Rattle.ttcn_syntax.specs.declared.tree.expression.ComponentRef.TheVariants as component_ref
use Rattle.ttcn_syntax.specs.declared.tree.expression.Expr.{Expr}
use Rattle.ttcn_syntax.specs.declared.tree.expression.Reference.{Reference}
use Rattle.ttcn_syntax.specs.declared.tree.statement.Action.{Action}
use Rattle.ttcn_syntax.specs.declared.tree.statement.Action.TheVariants as form
use Rattle.ttcn_syntax.specs.declared.tree.statement.Conditional.{Conditional}
use Rattle.ttcn_syntax.specs.declared.tree.statement.LogItem.{LogItem}
use Rattle.ttcn_syntax.specs.declared.tree.statement.MapOperation.{MapOperation}
use Rattle.ttcn_syntax.specs.declared.tree.statement.MapOperation.TheVariants as operation
use Rattle.ttcn_syntax.specs.declared.tree.statement.PortSelector.{PortSelector}
use Rattle.ttcn_syntax.specs.declared.tree.statement.PortSelector.TheVariants as selector
use Rattle.ttcn_syntax.specs.declared.tree.statement.Statement.{Statement}
use Rattle.ttcn_syntax.specs.declared.tree.statement.Verdict.{Verdict}
use Rattle.parse_limits.specs.Groups.{Is}
use Rattle.parse_grammar.specs.Grammar.{Part, Phrase, Spells, a_branch, a_component, a_conditional, a_constant, a_for_start, a_log_item, a_message, a_port, a_port_ref, a_reference, a_rhs, a_statement, a_timer, a_variable, an_action, an_alternative, an_assignment, an_event, an_operand, branches, by, commas, each, else_if, end, id, in_brackets, into, key, map_word, nil, one, optional, phrase, set_to, the_constants, the_timers, the_variables, this, verdict_word, ◌▸◌}
use Rattle.parse_grammar.specs.Grammar as spelled
use Rattle.parse_reader.specs.internal.Reading.{Parser, behind, ended, head_token, is_word, at_brace, second, sees, sees_word, after_semicolons}
use Rattle.parse_reader.specs.internal.Values.{calls}
use Rattle.parse_reader.specs.internal.Declarations.{constant, constants, float, float_of, initial, timer, timers, variable, variables}
use Rattle.parse_reader.specs.internal.Events.{all_done, an_event_by, any_port, bare, component_behind, event_behind, event_by, event_of_one, receive, received, redirect, sender, with_name, without_fields}
use Rattle.parse_reader.specs.internal.Actions.{a_verdict, act_event, assigned_to, assignment, assignment_to, connect, deactivate, log, log_item_by, mapping, member_action, member_action_by, named_action, port_ref, return_, returns_nothing, send, setverdict, start, system_port, verdict_of}
use Rattle.parse_reader.specs.internal.Statements.{action_by, action_in, alt_by, alternative_by, block_by, block_if_any, block_in, branch_by, branches_by, conditional_by, do_by, else_block, else_ifs_from, for_by, for_start_, goes_on, guard, guarded_by, if_by, statement_by, while_by}
use Rattle.parse_reader.specs.internal.Values as read_values
use Rattle.parse_reader.specs.internal.Events as read_events
use Rattle.parse_reader.specs.internal.Actions as read_actions
use Rattle.parse_reader.specs.internal.Statements as read_statements
use Rattle.parse_grammar.proofs.Sound.{Added, Holds, Joined, Sound, Until, after, both, chosen, comma-between, done, eaten, implied, none-joined, one-joined, parts_of, refused, some-is, sound-component, sound-ended, sound-expect, sound-expect-word, sound-expression, sound-here, sound-items, sound-name, sound-reference, sound-semicolons, sound-separated, sound-separated-from, sound-token, sound-until, word-at, word-eaten, word-second}
use Rattle.parse_grammar.proofs.SoundTemplates.{sound-activation, sound-call, sound-message, sound-rhs, sound-type, sound-value}

-- ---- declarations

sound-initial-part : {A : Type 0} (part : A → Part) (p : Parser A) → Sound part p → Sound (λ o. optional (λ a. spelled.sym mark.Assign ▸ part a ▸ nil) o) (initial p)
unfolding initial
sound-initial-part part p sound ts =
    eaten _ _ mark.Assign ts
    (λ s1. after (sound (behind ts)) (λ a rest s2. done (spelled.all (spelled.then s1 (spelled.then s2 end)))))
    (done (spelled.all end))

pub sound-initial : {A : Type 0} (what : A → Phrase) (p : Parser A) → Sound (λ a. phrase (what a)) p → Sound (λ o. optional (set_to what) o) (initial p)
sound-initial what p sound ts = sound-initial-part (λ a. phrase (what a)) p sound ts

sound-variable : Sound (λ v. phrase (a_variable v)) variable
unfolding variable
sound-variable ts =
    after (sound-name ts) (λ bytes a s1. after (sound-initial a_rhs read_values.a_rhs sound-rhs a) (λ v b s2.
    done (by (spelled.variable bytes v) (spelled.then s1 (spelled.then s2 end)))))

pub sound-variables : Sound (λ vs. phrase (the_variables vs)) variables
unfolding variables
sound-variables ts =
    after (sound-expect-word word.Var ts) (λ _ a s1. after (sound-type a) (λ n b s2.
    after (sound-separated (λ v. phrase (a_variable v)) variable sound-variable b) (λ vs c s3.
    done (by (spelled.variables n vs) (spelled.then s1 (spelled.then s2 (spelled.then s3 end)))))))

sound-constant : Sound (λ c. phrase (a_constant c)) constant
unfolding constant
sound-constant ts =
    after (sound-name ts) (λ bytes a s1. after (sound-expect mark.Assign a) (λ _ b s2. after (sound-value b) (λ v c s3.
    done (by (spelled.constant bytes v) (spelled.then s1 (spelled.then s2 (spelled.then s3 end)))))))

pub sound-constants : Sound (λ cs. phrase (the_constants cs)) constants
unfolding constants
sound-constants ts =
    after (sound-expect-word word.Const ts) (λ _ a s1. after (sound-type a) (λ n b s2.
    after (sound-separated (λ c. phrase (a_constant c)) constant sound-constant b) (λ cs c s3.
    done (by (spelled.constants n cs) (spelled.then s1 (spelled.then s2 (spelled.then s3 end)))))))

a-float : (t : Token) (x : Unit {0}) → float_of (Some t) ≡ Some x → t ≡ token.Float
a-float token.Float x h = refl
a-float _ x h = cc

sound-float : Sound (λ _. one token.Float) float
unfolding float
sound-float ts = sound-token (λ _. token.Float) float_of refl a-float ts

timer-spelled : (bytes : List ℕ) (o : Option (Unit {0})) {ts gap rest : List Spanned} → Spells (id bytes) ts gap
    → Spells (optional (λ _. spelled.sym mark.Assign ▸ one token.Float ▸ nil) o) gap rest → Spells (phrase (a_timer (record { name = bytes }))) ts rest
timer-spelled bytes None s (spelled.all end) = by (spelled.timer bytes) (spelled.then s end)
timer-spelled bytes (Some f) s (spelled.all set) = by (spelled.timer_set bytes) (spelled.then s set)

sound-timer : Sound (λ t. phrase (a_timer t)) timer
unfolding timer
sound-timer ts =
    after (sound-name ts) (λ bytes a s1. after (sound-initial-part (λ _. one token.Float) float sound-float a) (λ o b s2.
    done (timer-spelled bytes o s1 s2)))

pub sound-timers : Sound (λ all. phrase (the_timers all)) timers
unfolding timers
sound-timers ts =
    after (sound-expect-word word.Timer ts) (λ _ a s1.
    implied (sound-separated (λ t. phrase (a_timer t)) timer sound-timer a) (λ all b s2.
    by (spelled.timers all) (spelled.then s1 (spelled.then s2 end))))

-- ---- events

sound-sender : Sound (λ o. optional (λ r. key word.Sender ▸ phrase (a_reference r) ▸ nil) o) sender
unfolding sender
sound-sender ts =
    word-eaten _ _ word.Sender ts
    (λ s1. after (sound-reference (behind ts)) (λ r rest s2. done (spelled.all (spelled.then s1 (spelled.then s2 end)))))
    (done (spelled.all end))

sound-redirect : Sound (λ x. into x.0 x.1) redirect
unfolding redirect
sound-redirect ts =
    eaten _ _ mark.Arrow ts
    (λ s1. word-eaten _ _ word.Value (behind ts)
    (λ s2. after (sound-reference (behind (behind ts))) (λ v a s3. after (sound-sender a) (λ s b s4.
    done (spelled.all (spelled.then s1 (spelled.then s2 (spelled.then s3 (spelled.then s4 end))))))))
    (after (sound-expect-word word.Sender (behind ts)) (λ _ a s2. after (sound-reference a) (λ s b s3.
    done (spelled.all (spelled.then s1 (spelled.then s2 (spelled.then s3 end))))))))
    (done (spelled.all end))

sound-component-behind : (w : Word) → Sound (λ o. optional (λ c. key w ▸ phrase (a_component c) ▸ nil) o) (component_behind w)
unfolding component_behind
sound-component-behind w ts =
    word-eaten _ _ w ts
    (λ s1. after (sound-component (behind ts)) (λ c rest s2. done (spelled.all (spelled.then s1 (spelled.then s2 end)))))
    (done (spelled.all end))

sound-received : Sound (λ o. optional (λ m. spelled.sym mark.LeftParen ▸ phrase (a_message m) ▸ spelled.sym mark.RightParen ▸ nil) o) received
unfolding received
sound-received ts =
    eaten _ _ mark.LeftParen ts
    (λ s1. after (sound-message (behind ts)) (λ m a s2. after (sound-expect mark.RightParen a) (λ _ b s3.
    done (spelled.all (spelled.then s1 (spelled.then s2 (spelled.then s3 end)))))))
    (done (spelled.all end))

-- a receive behind its port and the dot
sound-receive : (port : PortSelector) (first gap ts : List Spanned) → Spells (phrase (a_port port)) first gap → Spells (spelled.sym mark.Dot) gap ts
    → Holds (λ e rest. Spells (phrase (an_event e)) first rest) (receive port ts)
unfolding receive
sound-receive port first gap ts s1 s2 =
    after (sound-expect-word word.Receive ts) (λ _ a s3. after (sound-received a) (λ m b s4.
    after (sound-component-behind word.From b) (λ from c s5. after (sound-redirect c) (λ x d s6.
    done (by (spelled.receive port m from x.0 x.1)
    (spelled.then s1 (spelled.then s2 (spelled.then s3 (spelled.then s4 (spelled.then s5 (spelled.then s6 end)))))))))))

name-alone : (bytes : List ℕ) (fields : List (List ℕ)) (found : List ℕ) {ts rest : List Spanned} → without_fields bytes fields ≡ Some found
    → Spells (phrase (a_reference (record { name = bytes; fields = fields }))) ts rest → Spells (id found) ts rest
name-alone bytes [] found h (by (spelled.dotted_name _ _) (spelled.then s (spelled.then (spelled.all end) end))) = rw (some-is h) at s
name-alone bytes (f ∷ fs) found h s = cc

reference-of : {r : Reference} {ts rest : List Spanned} → Spells (phrase (a_component (component_ref.Named r))) ts rest → Spells (phrase (a_reference r)) ts rest
reference-of (by (spelled.named r) (spelled.then s end)) = s

bare-is : (c : ComponentRef) (bytes : List ℕ) {ts rest : List Spanned} → bare c ≡ Some bytes → Spells (phrase (a_component c)) ts rest → Spells (id bytes) ts rest
bare-is (component_ref.Named r) bytes h s = name-alone r.name r.fields bytes h (reference-of s)
bare-is component_ref.Itself bytes h s = cc
bare-is component_ref.Mtc bytes h s = cc

-- what is read behind a component that is a name alone
bare-named : {A : Type 0} {P : A → List Spanned → Type 0} (f : List ℕ → Parser A) (c : ComponentRef) (first gap ts : List Spanned)
    → Spells (phrase (a_component c)) first gap → ((bytes : List ℕ) → Spells (id bytes) first gap → Holds P (f bytes ts)) → Holds P (with_name f (bare c) ts)
bare-named {P = P} f c first gap ts s more = cases (bare c) refl
  where
    cases : (o : Option (List ℕ)) → bare c ≡ o → Holds P (with_name f o ts)
    cases (Some bytes) h = more bytes (bare-is c bytes h s)
    cases None h = refused

event-step : (c : ComponentRef) (first gap : List Spanned) (k : Spanned) (ts : List Spanned) (t : Token) → Is k t → Spells (phrase (a_component c)) first gap
    → Spells (spelled.sym mark.Dot) gap (k ∷ ts) → Holds (λ e rest. Spells (phrase (an_event e)) first rest) (event_by c (Some t) (k ∷ ts))
event-step c first gap k ts (token.Word word.Receive) is s1 s2 =
    bare-named _ c first gap (k ∷ ts) s1 (λ bytes s. sound-receive (selector.Named bytes) first gap (k ∷ ts) (by (spelled.one_port bytes) (spelled.then s end)) s2)
event-step c first gap k ts (token.Word word.Timeout) is s1 s2 =
    bare-named _ c first gap (k ∷ ts) s1 (λ bytes s. done (by (spelled.timeout bytes) (spelled.then s (spelled.then s2 (spelled.then (this is) end)))))
event-step c first gap k ts (token.Word word.Done) is s1 s2 = done (by (spelled.done c) (spelled.then s1 (spelled.then s2 (spelled.then (this is) end))))
event-step c first gap k ts _ is s1 s2 = refused

-- an event behind its component, port or timer and the dot
sound-event-behind : (c : ComponentRef) (first gap ts : List Spanned) → Spells (phrase (a_component c)) first gap → Spells (spelled.sym mark.Dot) gap ts
    → Holds (λ e rest. Spells (phrase (an_event e)) first rest) (event_behind c ts)
unfolding event_behind
sound-event-behind c first gap [] s1 s2 = refused
sound-event-behind c first gap (k ∷ ts) s1 s2 = event-step c first gap k ts k.token refl s1 s2

sound-any-port : Sound (λ e. phrase (an_event e)) any_port
unfolding any_port
sound-any-port ts =
    after (sound-expect-word word.Any ts) (λ _ a s1. after (sound-expect-word word.Port a) (λ _ b s2. after (sound-expect mark.Dot b) (λ _ c s3.
    sound-receive selector.Any ts b c (by spelled.any_port (spelled.then s1 (spelled.then s2 end))) s3)))

sound-all-done : Sound (λ e. phrase (an_event e)) all_done
unfolding all_done
sound-all-done ts =
    after (sound-expect-word word.All ts) (λ _ a s1. after (sound-expect-word word.Component a) (λ _ b s2. after (sound-expect mark.Dot b) (λ _ c s3.
    after (sound-expect-word word.Done c) (λ _ d s4. done (by spelled.all_done (spelled.then s1 (spelled.then s2 (spelled.then s3 (spelled.then s4 end)))))))))

sound-event-of-one : Sound (λ e. phrase (an_event e)) event_of_one
unfolding event_of_one
sound-event-of-one ts =
    after (sound-component ts) (λ c a s1. after (sound-expect mark.Dot a) (λ _ b s2. sound-event-behind c ts a b s1 s2))

an-event-step : (ts : List Spanned) (t : Option Token) → Holds (λ e rest. Spells (phrase (an_event e)) ts rest) (an_event_by t ts)
an-event-step ts (Some (token.Word word.Any)) = sound-any-port ts
an-event-step ts (Some (token.Word word.All)) = sound-all-done ts
an-event-step ts _ = sound-event-of-one ts

sound-event : Sound (λ e. phrase (an_event e)) read_events.an_event
unfolding read_events.an_event
sound-event ts = an-event-step ts (head_token ts)

-- ---- statements without blocks

abbrev log_item_part : LogItem → Part
log_item_part i = phrase (a_log_item i)

abbrev action_part : Action → Part
action_part a = phrase (an_action a)

log-item-step : (k : Spanned) (ts : List Spanned) (t : Token) → Is k t → Holds (λ i rest. Spells (log_item_part i) (k ∷ ts) rest) (log_item_by (Some t) (k ∷ ts))
log-item-step k ts token.Text is = done (by spelled.log_text (spelled.then (this is) end))
log-item-step k ts _ is = after (sound-expression (k ∷ ts)) (λ e rest s. done (by (spelled.log_expr e) (spelled.then s end)))

sound-log-item : Sound log_item_part read_actions.a_log_item
unfolding read_actions.a_log_item
sound-log-item [] = after (sound-expression []) (λ e rest s. done (by (spelled.log_expr e) (spelled.then s end)))
sound-log-item (k ∷ ts) = log-item-step k ts k.token refl

sound-log : Sound action_part log
unfolding log
sound-log ts =
    after (sound-expect-word word.Log ts) (λ _ a s1. after (sound-expect mark.LeftParen a) (λ _ b s2.
    after (sound-until log_item_part mark.RightParen read_actions.a_log_item sound-log-item b) (λ all c u.
    done (by (spelled.act_log all) (spelled.then s1 (spelled.then s2 (spelled.then u.body (spelled.then u.closed end))))))))

verdict-written : (t : Token) (v : Verdict) → verdict_of (Some t) ≡ Some v → t ≡ token.Word (verdict_word v)
verdict-written (token.Word word.None) v h = ap (λ v. token.Word (verdict_word v)) (some-is h)
verdict-written (token.Word word.Pass) v h = ap (λ v. token.Word (verdict_word v)) (some-is h)
verdict-written (token.Word word.Inconc) v h = ap (λ v. token.Word (verdict_word v)) (some-is h)
verdict-written (token.Word word.Fail) v h = ap (λ v. token.Word (verdict_word v)) (some-is h)
verdict-written (token.Word word.Error) v h = ap (λ v. token.Word (verdict_word v)) (some-is h)
verdict-written _ v h = cc

sound-verdict : Sound (λ v. key (verdict_word v)) a_verdict
unfolding a_verdict
sound-verdict ts = sound-token (λ v. token.Word (verdict_word v)) verdict_of refl verdict-written ts

reasons-spelled : (v : Verdict) {ts gap middle rest : List Spanned} (all : List LogItem) → Spells (key (verdict_word v)) ts gap
    → Spells (spelled.sym mark.Comma) gap middle → Added log_item_part [] middle all rest → Spells (commas (key (verdict_word v) ▸ each log_item_part all)) ts rest
reasons-spelled v all s1 comma more = rw more.all (comma-between s1 comma more.spelling)

sound-setverdict : Sound action_part setverdict
unfolding setverdict
sound-setverdict ts =
    after (sound-expect-word word.Setverdict ts) (λ _ a s1. after (sound-expect mark.LeftParen a) (λ _ b s2. after (sound-verdict b) (λ v c s3.
    eaten _ _ mark.Comma c
    (λ comma. after (sound-separated-from log_item_part read_actions.a_log_item sound-log-item (length (behind c)) [] (behind c)) (λ all d more.
    after (sound-expect mark.RightParen d) (λ _ e s5.
    done (by (spelled.act_setverdict v all) (spelled.then s1 (spelled.then s2 (spelled.then (reasons-spelled v all s3 comma more) (spelled.then s5 end))))))))
    (after (sound-expect mark.RightParen c) (λ _ d s4.
    done (by (spelled.act_setverdict v []) (spelled.then s1 (spelled.then s2 (spelled.then (spelled.last_one s3) (spelled.then s4 end))))))))))

sound-port-ref : Sound (λ p. phrase (a_port_ref p)) port_ref
unfolding port_ref
sound-port-ref ts =
    after (sound-component ts) (λ c a s1. after (sound-expect mark.Colon a) (λ _ b s2. after (sound-name b) (λ bytes d s3.
    done (by (spelled.port_ref c bytes) (spelled.then s1 (spelled.then s2 (spelled.then s3 end)))))))

sound-connect : Sound action_part connect
unfolding connect
sound-connect ts =
    after (sound-expect-word word.Connect ts) (λ _ a s1. after (sound-expect mark.LeftParen a) (λ _ b s2. after (sound-port-ref b) (λ p c s3.
    after (sound-expect mark.Comma c) (λ _ d s4. after (sound-port-ref d) (λ q e s5. after (sound-expect mark.RightParen e) (λ _ f s6.
    done (by (spelled.act_connect p q)
    (spelled.then s1 (spelled.then s2 (spelled.then s3 (spelled.then s4 (spelled.then s5 (spelled.then s6 end)))))))))))))

sound-system-port : Sound spelled.system_port system_port
unfolding system_port
sound-system-port ts =
    after (sound-expect-word word.System ts) (λ _ a s1. after (sound-expect mark.Colon a) (λ _ b s2. implied (sound-name b) (λ bytes c s3.
    spelled.all (spelled.then s1 (spelled.then s2 (spelled.then s3 end))))))

sound-mapping : (o : MapOperation) → Sound action_part (mapping (map_word o) o)
unfolding mapping
sound-mapping o ts =
    after (sound-expect-word (map_word o) ts) (λ _ a s1. after (sound-expect mark.LeftParen a) (λ _ b s2. chosen (sees_word word.System b)
    (λ _. after (sound-system-port b) (λ q c s3. after (sound-expect mark.Comma c) (λ _ d s4. after (sound-port-ref d) (λ p e s5.
    after (sound-expect mark.RightParen e) (λ _ f s6. done (by (spelled.act_map_turned o p q)
    (spelled.then s1 (spelled.then s2 (spelled.then s3 (spelled.then s4 (spelled.then s5 (spelled.then s6 end))))))))))))
    (after (sound-port-ref b) (λ p c s3. after (sound-expect mark.Comma c) (λ _ d s4. after (sound-system-port d) (λ q e s5.
    after (sound-expect mark.RightParen e) (λ _ f s6. done (by (spelled.act_map o p q)
    (spelled.then s1 (spelled.then s2 (spelled.then s3 (spelled.then s4 (spelled.then s5 (spelled.then s6 end))))))))))))))

sound-deactivate : Sound action_part deactivate
unfolding deactivate
sound-deactivate ts =
    after (sound-expect-word word.Deactivate ts) (λ _ a s1.
    eaten _ _ mark.LeftParen a
    (λ s2. after (sound-reference (behind a)) (λ r b s3. after (sound-expect mark.RightParen b) (λ _ c s4.
    done (by (spelled.act_deactivate (Some r)) (spelled.then s1 (spelled.then (spelled.all (spelled.then s2 (spelled.then s3 (spelled.then s4 end)))) end))))))
    (done (by (spelled.act_deactivate None) (spelled.then s1 (spelled.then (spelled.all end) end)))))

sound-return : Sound action_part return_
unfolding return_
sound-return ts =
    after (sound-expect-word word.Return ts) (λ _ a s1. chosen (returns_nothing a)
    (λ _. done (by (spelled.act_return None) (spelled.then s1 (spelled.then (spelled.all end) end))))
    (after (sound-value a) (λ v b s2. done (by (spelled.act_return (Some v)) (spelled.then s1 (spelled.then (spelled.all (spelled.then s2 end)) end))))))

sound-assignment-to : (r : Reference) (first ts : List Spanned) → Spells (phrase (a_reference r)) first ts
    → Holds (λ a rest. Spells (phrase (an_assignment a)) first rest) (assignment_to r ts)
unfolding assignment_to
sound-assignment-to r first ts s1 =
    after (sound-expect mark.Assign ts) (λ _ a s2. after (sound-rhs a) (λ v b s3.
    done (by (spelled.assignment r v) (spelled.then s1 (spelled.then s2 (spelled.then s3 end))))))

sound-assignment : Sound (λ a. phrase (an_assignment a)) assignment
unfolding assignment
sound-assignment ts = after (sound-reference ts) (λ r a s. sound-assignment-to r ts a s)

sound-send : (port : List ℕ) (first gap ts : List Spanned) → Spells (id port) first gap → Spells (spelled.sym mark.Dot) gap ts
    → Holds (λ a rest. Spells (action_part a) first rest) (send port ts)
unfolding send
sound-send port first gap ts s1 s2 =
    after (sound-expect-word word.Send ts) (λ _ a s3. after (sound-expect mark.LeftParen a) (λ _ b s4. after (sound-message b) (λ m c s5.
    after (sound-expect mark.RightParen c) (λ _ d s6. after (sound-component-behind word.To d) (λ to e s7.
    done (by (spelled.act_send port m to)
    (spelled.then s1 (spelled.then s2 (spelled.then s3 (spelled.then s4 (spelled.then s5 (spelled.then s6 (spelled.then s7 end)))))))))))))

sound-start : (c : ComponentRef) (first gap ts : List Spanned) → Spells (phrase (a_component c)) first gap → Spells (spelled.sym mark.Dot) gap ts
    → Holds (λ a rest. Spells (action_part a) first rest) (start c ts)
unfolding start
sound-start c first gap ts s1 s2 =
    after (sound-expect-word word.Start ts) (λ _ a s3. chosen (sees mark.LeftParen a && calls (behind a))
    (λ _. after (sound-expect mark.LeftParen a) (λ _ b s4. after (sound-call b) (λ f d s5. after (sound-expect mark.RightParen d) (λ _ e s6.
    done (by (spelled.act_start_component c f)
    (spelled.then s1 (spelled.then s2 (spelled.then s3 (spelled.then s4 (spelled.then s5 (spelled.then s6 end)))))))))))
    (bare-named _ c first gap a s1 (λ bytes s. eaten _ _ mark.LeftParen a
    (λ s4. after (sound-float (behind a)) (λ _ b s5. after (sound-expect mark.RightParen b) (λ _ d s6.
    done (by (spelled.act_start_timer_with bytes)
    (spelled.then s (spelled.then s2 (spelled.then s3 (spelled.then s4 (spelled.then s5 (spelled.then s6 end))))))))))
    (done (by (spelled.act_start_timer bytes) (spelled.then s (spelled.then s2 (spelled.then s3 end))))))))

sound-act-event : (c : ComponentRef) (first gap ts : List Spanned) → Spells (phrase (a_component c)) first gap → Spells (spelled.sym mark.Dot) gap ts
    → Holds (λ a rest. Spells (action_part a) first rest) (act_event c ts)
unfolding act_event
sound-act-event c first gap ts s1 s2 =
    after (sound-event-behind c first gap ts s1 s2) (λ e rest s. done (by (spelled.act_event e) (spelled.then s end)))

member-step : (c : ComponentRef) (first gap : List Spanned) (k : Spanned) (ts : List Spanned) (t : Token) → Is k t → Spells (phrase (a_component c)) first gap
    → Spells (spelled.sym mark.Dot) gap (k ∷ ts) → Holds (λ a rest. Spells (action_part a) first rest) (member_action_by c (Some t) (k ∷ ts))
member-step c first gap k ts (token.Word word.Send) is s1 s2 =
    bare-named send c first gap (k ∷ ts) s1 (λ bytes s. sound-send bytes first gap (k ∷ ts) s s2)
member-step c first gap k ts (token.Word word.Start) is s1 s2 = sound-start c first gap (k ∷ ts) s1 s2
member-step c first gap k ts (token.Word word.Stop) is s1 s2 =
    done (by (spelled.act_stop_of c) (spelled.then s1 (spelled.then s2 (spelled.then (this is) end))))
member-step c first gap k ts _ is s1 s2 = sound-act-event c first gap (k ∷ ts) s1 s2

member-by : (c : ComponentRef) (first gap ts : List Spanned) → Spells (phrase (a_component c)) first gap → Spells (spelled.sym mark.Dot) gap ts
    → Holds (λ a rest. Spells (action_part a) first rest) (member_action_by c (head_token ts) ts)
member-by c first gap [] s1 s2 = sound-act-event c first gap [] s1 s2
member-by c first gap (k ∷ ts) s1 s2 = member-step c first gap k ts k.token refl s1 s2

sound-member-action : (c : ComponentRef) (first ts : List Spanned) → Spells (phrase (a_component c)) first ts
    → Holds (λ a rest. Spells (action_part a) first rest) (member_action c ts)
unfolding member_action
sound-member-action c first ts s1 = after (sound-expect mark.Dot ts) (λ _ a s2. member-by c first ts a s1 s2)

sound-assigned-to : (c : ComponentRef) (first ts : List Spanned) → Spells (phrase (a_component c)) first ts
    → Holds (λ a rest. Spells (action_part a) first rest) (assigned_to c ts)
sound-assigned-to (component_ref.Named r) first ts s1 =
    after (sound-assignment-to r first ts (reference-of s1)) (λ a rest s. done (by (spelled.act_assign a) (spelled.then s end)))
sound-assigned-to component_ref.Itself first ts s1 = refused
sound-assigned-to component_ref.Mtc first ts s1 = refused

sound-named-action : Sound action_part named_action
unfolding named_action
sound-named-action ts =
    chosen (calls ts) (λ _. after (sound-call ts) (λ c a s. done (by (spelled.act_call c) (spelled.then s end))))
    (after (sound-component ts) (λ c a s. chosen (sees mark.Assign a) (λ _. sound-assigned-to c ts a s) (sound-member-action c ts a s)))

-- ---- statements

sound-in-brackets : Sound in_brackets read_statements.in_brackets
unfolding read_statements.in_brackets
sound-in-brackets ts =
    after (sound-expect mark.LeftParen ts) (λ _ a s1. after (sound-expression a) (λ e b s2. after (sound-expect mark.RightParen b) (λ _ c s3.
    done (spelled.all (spelled.then s1 (spelled.then s2 (spelled.then s3 end)))))))

sound-for-start : Sound (λ f. phrase (a_for_start f)) for_start_
unfolding for_start_
sound-for-start ts =
    chosen (sees_word word.Var ts) (λ _. after (sound-variables ts) (λ vs a s. done (by (spelled.for_variables vs) (spelled.then s end))))
    (after (sound-assignment ts) (λ f a s. done (by (spelled.for_assign f) (spelled.then s end))))

sound-guard : (ts : List Spanned) → Holds (λ g rest. Until (optional (λ e. phrase (an_operand level.Or e) ▸ nil) g) (spelled.sym mark.RightBracket) ts rest) (guard ts)
unfolding guard
sound-guard ts =
    eaten _ _ mark.RightBracket ts (λ s. done (record { gap = ts; body = spelled.all end; closed = s }))
    (after (sound-expression ts) (λ e a s1. after (sound-expect mark.RightBracket a) (λ _ b s2.
    done (record { gap = a; body = spelled.all (spelled.then s1 end); closed = s2 }))))

abbrev pub block_part : List Statement → Part
block_part ss = phrase (spelled.a_block ss)

-- statements whose blocks are read by this reader
module _ (blocks : Parser (List Statement)) (sound : Sound block_part blocks) where
  sound-conditional : Sound (λ c. phrase (a_conditional c)) (conditional_by blocks)
  unfolding conditional_by
  sound-conditional ts =
      after (sound-in-brackets ts) (λ e a s1. after (sound a) (λ ss b s2. done (by (spelled.condition e ss) (spelled.then s1 (spelled.then s2 end)))))

  else-if-spelled : (c : Conditional) (ts rest : List Spanned) → goes_on ts ≡ true → Spells (phrase (a_conditional c)) (behind (behind ts)) rest
      → Spells (else_if c) ts rest
  else-if-spelled c ts rest h s =
      let parts = both (sees_word word.Else ts) (is_word word.If (second ts)) h in
      spelled.all (spelled.then (word-at word.Else ts parts.0) (spelled.then (word-second word.If ts parts.1) (spelled.then s end)))

  sound-else-ifs-from : (n : ℕ) (found : List Conditional) (ts : List Spanned) → Holds (Joined else_if found ts) (else_ifs_from (conditional_by blocks) n found ts)
  unfolding else_ifs_from
  sound-else-ifs-from zero found ts = done none-joined
  sound-else-ifs-from (suc n) found ts =
      chosen (goes_on ts)
      (λ e. after (sound-conditional (behind (behind ts))) (λ c a s. implied (sound-else-ifs-from n (found ++ c ∷ []) a)
      (λ cs rest more. one-joined c (else-if-spelled c ts a e s) more)))
      (done none-joined)

  sound-else-block : Sound (λ o. optional (λ ss. key word.Else ▸ block_part ss ▸ nil) o) (else_block blocks)
  unfolding else_block
  sound-else-block ts =
      word-eaten _ _ word.Else ts
      (λ s1. after (sound (behind ts)) (λ ss a s2. done (spelled.all (spelled.then s1 (spelled.then s2 end)))))
      (done (spelled.all end))

  if-spelled : (c : Conditional) (last : Option (List Statement)) {ts a b d rest : List Spanned} (cs : List Conditional) → Spells (key word.If) ts a
      → Spells (phrase (a_conditional c)) a b → Joined else_if (c ∷ []) b cs d
      → Spells (optional (λ ss. key word.Else ▸ block_part ss ▸ nil) last) d rest → Spells (action_part (form.If cs last)) ts rest
  if-spelled c last cs s1 s2 more s4 =
      rw more.all (by (spelled.act_if c more.others last) (spelled.then s1 (spelled.then s2 (spelled.then (spelled.all more.spelling) (spelled.then s4 end)))))

  sound-if : Sound action_part (if_by blocks)
  unfolding if_by
  sound-if ts =
      after (sound-expect-word word.If ts) (λ _ a s1. after (sound-conditional a) (λ c b s2.
      after (sound-else-ifs-from (length b) (c ∷ []) b) (λ cs d more. after (sound-else-block d) (λ last e s4.
      done (if-spelled c last cs s1 s2 more s4)))))

  sound-while : Sound action_part (while_by blocks)
  unfolding while_by
  sound-while ts =
      after (sound-expect-word word.While ts) (λ _ a s1. after (sound-in-brackets a) (λ e b s2. after (sound b) (λ ss c s3.
      done (by (spelled.act_while e ss) (spelled.then s1 (spelled.then s2 (spelled.then s3 end)))))))

  sound-do : Sound action_part (do_by blocks)
  unfolding do_by
  sound-do ts =
      after (sound-expect-word word.Do ts) (λ _ a s1. after (sound a) (λ ss b s2. after (sound-expect-word word.While b) (λ _ c s3.
      after (sound-in-brackets c) (λ e d s4. done (by (spelled.act_do e ss) (spelled.then s1 (spelled.then s2 (spelled.then s3 (spelled.then s4 end)))))))))

  sound-for : Sound action_part (for_by blocks)
  unfolding for_by
  sound-for ts =
      after (sound-expect-word word.For ts) (λ _ a s1. after (sound-expect mark.LeftParen a) (λ _ b s2. after (sound-for-start b) (λ f c s3.
      after (sound-expect mark.Semicolon c) (λ _ d s4. after (sound-expression d) (λ e g s5. after (sound-expect mark.Semicolon g) (λ _ i s6.
      after (sound-assignment i) (λ v j s7. after (sound-expect mark.RightParen j) (λ _ l s8. after (sound l) (λ ss m s9.
      done (by (spelled.act_for f e v ss)
      (spelled.then s1 (spelled.then s2 (spelled.then s3 (spelled.then s4 (spelled.then s5 (spelled.then s6 (spelled.then s7 (spelled.then s8
      (spelled.then s9 end)))))))))))))))))))

  sound-block-if-any : Sound (λ o. optional (λ ss. block_part ss ▸ nil) o) (block_if_any blocks)
  unfolding block_if_any
  sound-block-if-any ts =
      chosen (sees mark.LeftBrace ts) (λ _. after (sound ts) (λ ss a s. done (spelled.all (spelled.then s end)))) (done (spelled.all end))

  sound-guarded : (g : Option Expr) (first gap ts : List Spanned) → Spells (spelled.sym mark.LeftBracket) first gap
      → Until (optional (λ e. phrase (an_operand level.Or e) ▸ nil) g) (spelled.sym mark.RightBracket) gap ts
      → Holds (λ a rest. Spells (phrase (an_alternative a)) first rest) (guarded_by blocks g ts)
  unfolding guarded_by
  sound-guarded g first gap ts s1 u =
      chosen (calls ts)
      (λ _. after (sound-call ts) (λ c a s3. after (sound-block-if-any a) (λ ss b s4.
      done (by (spelled.alternative_call g c ss)
      (spelled.then s1 (spelled.then u.body (spelled.then u.closed (spelled.then s3 (spelled.then s4 end)))))))))
      (after (sound-event ts) (λ e a s3. after (sound-block-if-any a) (λ ss b s4.
      done (by (spelled.alternative_event g e ss)
      (spelled.then s1 (spelled.then u.body (spelled.then u.closed (spelled.then s3 (spelled.then s4 end)))))))))

  sound-alternative : Sound (λ a. phrase (an_alternative a)) (alternative_by blocks)
  unfolding alternative_by
  sound-alternative ts =
      after (sound-expect mark.LeftBracket ts) (λ _ a s1. word-eaten _ _ word.Else a
      (λ s2. after (sound-expect mark.RightBracket (behind a)) (λ _ b s3. after (sound b) (λ ss c s4.
      done (by (spelled.alternative_else ss) (spelled.then s1 (spelled.then s2 (spelled.then s3 (spelled.then s4 end))))))))
      (after (sound-guard a) (λ g b u. sound-guarded g ts a b s1 u)))

  sound-branch : Sound (λ b. phrase (a_branch b)) (branch_by blocks)
  unfolding branch_by
  sound-branch ts =
      after (sound-here ts) (λ place a s1. after (sound-alternative a) (λ x b s2. done (by (spelled.branch place x) (spelled.then s1 (spelled.then s2 end)))))

  pub sound-branches : Sound branches (branches_by blocks)
  unfolding branches_by
  sound-branches ts =
      after (sound-expect mark.LeftBrace ts) (λ _ a s1.
      after (sound-items (λ b. spelled.ended (phrase (a_branch b))) at_brace (ended (branch_by blocks))
      (λ ts. sound-ended (λ b. phrase (a_branch b)) (branch_by blocks) sound-branch ts) a) (λ bs b s2.
      after (sound-expect mark.RightBrace b) (λ _ c s3. done (spelled.all (spelled.then s1 (spelled.then s2 (spelled.then s3 end)))))))

  sound-alt : Sound action_part (alt_by blocks)
  unfolding alt_by
  sound-alt ts =
      after (sound-expect-word word.Alt ts) (λ _ a s1. after (sound-branches a) (λ bs b s2.
      done (by (spelled.act_alt bs) (spelled.then s1 (spelled.then s2 end)))))

  action_step : (k : Spanned) (ts : List Spanned) (t : Token) → Is k t
      → Holds (λ a rest. Spells (action_part a) (k ∷ ts) rest) (action_by blocks (Some t) (k ∷ ts))
  action_step k ts (token.Word word.Var) is = after (sound-variables (k ∷ ts)) (λ vs a s. done (by (spelled.act_variables vs) (spelled.then s end)))
  action_step k ts (token.Word word.Const) is = after (sound-constants (k ∷ ts)) (λ cs a s. done (by (spelled.act_constants cs) (spelled.then s end)))
  action_step k ts (token.Word word.Timer) is = after (sound-timers (k ∷ ts)) (λ all a s. done (by (spelled.act_timers all) (spelled.then s end)))
  action_step k ts (token.Word word.Any) is = after (sound-any-port (k ∷ ts)) (λ e a s. done (by (spelled.act_event e) (spelled.then s end)))
  action_step k ts (token.Word word.All) is = after (sound-all-done (k ∷ ts)) (λ e a s. done (by (spelled.act_event e) (spelled.then s end)))
  action_step k ts (token.Word word.Alt) is = sound-alt (k ∷ ts)
  action_step k ts (token.Word word.Repeat) is = done (by spelled.act_repeat (spelled.then (this is) end))
  action_step k ts (token.Word word.If) is = sound-if (k ∷ ts)
  action_step k ts (token.Word word.While) is = sound-while (k ∷ ts)
  action_step k ts (token.Word word.Do) is = sound-do (k ∷ ts)
  action_step k ts (token.Word word.For) is = sound-for (k ∷ ts)
  action_step k ts (token.Word word.Return) is = sound-return (k ∷ ts)
  action_step k ts (token.Word word.Stop) is = done (by spelled.act_stop (spelled.then (this is) end))
  action_step k ts (token.Word word.Log) is = sound-log (k ∷ ts)
  action_step k ts (token.Word word.Setverdict) is = sound-setverdict (k ∷ ts)
  action_step k ts (token.Word word.Connect) is = sound-connect (k ∷ ts)
  action_step k ts (token.Word word.Map) is = sound-mapping operation.Map (k ∷ ts)
  action_step k ts (token.Word word.Unmap) is = sound-mapping operation.Unmap (k ∷ ts)
  action_step k ts (token.Word word.Activate) is = after (sound-activation (k ∷ ts)) (λ c a s. done (by (spelled.act_activate c) (parts_of s)))
  action_step k ts (token.Word word.Deactivate) is = sound-deactivate (k ∷ ts)
  action_step k ts _ is = sound-named-action (k ∷ ts)

  sound-action : Sound action_part (action_in blocks)
  unfolding action_in
  sound-action [] = sound-named-action []
  sound-action (k ∷ ts) = action_step k ts k.token refl

  sound-statement : Sound (λ s. phrase (a_statement s)) (statement_by blocks)
  unfolding statement_by
  sound-statement ts =
      after (sound-here ts) (λ place a s1. after (sound-action a) (λ x b s2. done (by (spelled.statement place x) (spelled.then s1 (spelled.then s2 end)))))

  sound-block-by : Sound block_part (block_by blocks)
  unfolding block_by
  sound-block-by ts =
      after (sound-expect mark.LeftBrace ts) (λ _ a s1.
      after (sound-items (λ s. spelled.ended (phrase (a_statement s))) at_brace (ended (statement_by blocks))
      (λ ts. sound-ended (λ s. phrase (a_statement s)) (statement_by blocks) sound-statement ts) (after_semicolons a)) (λ ss b s3.
      after (sound-expect mark.RightBrace b) (λ _ c s4.
      done (by (spelled.block ss) (spelled.then s1 (spelled.then (sound-semicolons a) (spelled.then s3 (spelled.then s4 end))))))))

pub sound-block-in : (depth : ℕ) → Sound block_part (block_in depth)
unfolding block_in
sound-block-in zero ts = refused
sound-block-in (suc depth) ts = sound-block-by (block_in depth) (sound-block-in depth) ts

pub sound-block : Sound block_part read_statements.a_block
unfolding read_statements.a_block
sound-block ts = sound-block-in (length ts) ts

-- the branches of an altstep
pub sound-the-branches : Sound branches read_statements.the_branches
unfolding read_statements.the_branches
sound-the-branches ts = sound-branches (block_in (length ts)) (sound-block-in (length ts)) ts
