-- What is spelled is what the parser reads: statements.
use Rattle.std.proofs.Common.{◌≡◌, ℕ, zero, suc, ◌≤◌, Bool, true, false, List, [], ◌∷◌, ◌++◌, length, append-nil, append_assoc, refl, sym, ap, ◌∙◌, arith}
use Rattle.std.specs.Prelude.{Option, Some, None, ◌&&◌, ◌||◌}
use Rattle.ttcn_syntax.specs.declared.operator.Level.TheVariants as level
use Rattle.ttcn_syntax.specs.declared.token.Symbol.TheVariants as mark
use Rattle.ttcn_syntax.specs.declared.token.Token.{Token}
use Rattle.ttcn_syntax.specs.declared.token.Token.TheVariants as token
use Rattle.ttcn_syntax.specs.declared.token.Spanned.{Spanned}
use Rattle.ttcn_syntax.specs.declared.token.Word.{Word}
use Rattle.ttcn_syntax.specs.declared.token.Word.TheVariants as word
use Rattle.ttcn_syntax.specs.declared.tree.expression.ComponentRef.{ComponentRef}
use Rattle.ttcn_syntax.specs.declared.tree.expression.ComponentRef.TheVariants as component_ref
use Rattle.ttcn_syntax.specs.declared.tree.expression.Expr.{Expr}
use Rattle.ttcn_syntax.specs.declared.tree.expression.Reference.{Reference}
use Rattle.ttcn_syntax.specs.declared.tree.value.Call.{Call}
use Rattle.ttcn_syntax.specs.declared.tree.value.Rhs.{Rhs}
use Rattle.ttcn_syntax.specs.declared.tree.value.TypeName.{TypeName}
use Rattle.ttcn_syntax.specs.declared.tree.value.Value.{Value}
use Rattle.ttcn_syntax.specs.declared.tree.template.MessageTemplate.{MessageTemplate}
use Rattle.ttcn_syntax.specs.declared.tree.statement.Action.{Action}
use Rattle.ttcn_syntax.specs.declared.tree.statement.Action.TheVariants as form
use Rattle.ttcn_syntax.specs.declared.tree.statement.Alternative.{Alternative}
use Rattle.ttcn_syntax.specs.declared.tree.statement.Alternative.TheVariants as alternative_form
use Rattle.ttcn_syntax.specs.declared.tree.statement.Assignment.{Assignment}
use Rattle.ttcn_syntax.specs.declared.tree.statement.Branch.{Branch}
use Rattle.ttcn_syntax.specs.declared.tree.statement.Conditional.{Conditional}
use Rattle.ttcn_syntax.specs.declared.tree.statement.Constant.{Constant}
use Rattle.ttcn_syntax.specs.declared.tree.statement.Constants.{Constants}
use Rattle.ttcn_syntax.specs.declared.tree.statement.Event.{Event}
use Rattle.ttcn_syntax.specs.declared.tree.statement.Event.TheVariants as event
use Rattle.ttcn_syntax.specs.declared.tree.statement.ForStart.{ForStart}
use Rattle.ttcn_syntax.specs.declared.tree.statement.ForStart.TheVariants as for_start
use Rattle.ttcn_syntax.specs.declared.tree.statement.LogItem.{LogItem}
use Rattle.ttcn_syntax.specs.declared.tree.statement.LogItem.TheVariants as log_item
use Rattle.ttcn_syntax.specs.declared.tree.statement.MapOperation.{MapOperation}
use Rattle.ttcn_syntax.specs.declared.tree.statement.MapOperation.TheVariants as operation
use Rattle.ttcn_syntax.specs.declared.tree.statement.PortRef.{PortRef}
use Rattle.ttcn_syntax.specs.declared.tree.statement.PortSelector.{PortSelector}
use Rattle.ttcn_syntax.specs.declared.tree.statement.PortSelector.TheVariants as selector
use Rattle.ttcn_syntax.specs.declared.tree.statement.Statement.{Statement}
use Rattle.ttcn_syntax.specs.declared.tree.statement.Timer.{Timer}
use Rattle.ttcn_syntax.specs.declared.tree.statement.Variable.{Variable}
use Rattle.ttcn_syntax.specs.declared.tree.statement.Variables.{Variables}
use Rattle.ttcn_syntax.specs.declared.tree.statement.Verdict.{Verdict}
use Rattle.ttcn_syntax.specs.declared.tree.statement.Verdict.TheVariants as verdict
use Rattle.parse_limits.specs.Groups.{Is}
use Rattle.parse_grammar.specs.Grammar.{Ends, EndsInBrace, Parts, Phrase, Production, Spells, a_block, a_branch, a_call, a_component, a_conditional, a_constant, a_for_start, a_log_item, a_message, a_port_ref, a_reference, a_rhs, a_statement, a_timer, a_type, a_value, a_variable, an_action, an_alternative, an_assignment, an_event, an_operand, before_brace, before_semicolon, branches, commas, each, earlier, else_if, ended, in_brace, into, items, key, last, map_word, optional, phrase, separated, set_to, sym as a_symbol, system_port, the_constants, the_timers, the_variables, verdict_word, ◌▸◌, nil, one}
use Rattle.parse_reader.specs.Trees.{branch_at, conditional, statement_at}
use Rattle.parse_grammar.specs.Grammar as spelled
use Rattle.parse_reader.specs.internal.Reading.{Parser, at_brace, behind, head_token, is_word, same_symbol, same_word, second, sees, sees_word}
use Rattle.parse_reader.specs.internal.Expressions.{component, expression, next_field, reference}
use Rattle.parse_reader.specs.internal.Values.{calls}
use Rattle.parse_reader.specs.internal.Actions.{returns_nothing}
use Rattle.parse_reader.specs.internal.Statements.{action_by, action_in, block_in, goes_on}
use Rattle.parse_reader.specs.internal.Reading as read
use Rattle.parse_reader.specs.internal.Values as read_values
use Rattle.parse_reader.specs.internal.Templates as read_templates
use Rattle.parse_reader.specs.internal.Declarations as read_declarations
use Rattle.parse_reader.specs.internal.Events as read_events
use Rattle.parse_reader.specs.internal.Actions as read_actions
use Rattle.parse_reader.specs.internal.Statements as read_statements
use Rattle.parse_grammar.proofs.Spellings.{shrinks, turn-shrinks}
use Rattle.parse_grammar.proofs.Tokens.{expect-here, expect-word-here, name-here, sees-by, sees-here, sees-is, sees-word-by, sees-word-here}
use Rattle.parse_grammar.proofs.Follow.{Follows, brace-shrinks, follows-at, loosen, no-field, no_symbol, no-word, word_rank}
use Rattle.parse_grammar.proofs.Claims.{Claim, EventRead, Known, KnownInTurn, all, and_more, at_its_end, by, end, last_one, leave, leaves, then, this}
use Rattle.parse_grammar.proofs.Claims as known
use Rattle.parse_grammar.proofs.CompleteLists.{Each, EachItem, Leads, Stops, by-turns, commas-are-read, ends-read, fields-read, items-begin, items-read, semicolons-read, until-read}
use Rattle.parse_grammar.proofs.CompleteExpressions.{Behind, Starts, expression-reads, no-expression, not-first-symbol, not-first-word, starts-component, starts-operand, starts-reference, word-field}
use Rattle.parse_grammar.proofs.CompleteExpressions as first
use Rattle.parse_grammar.proofs.CompleteTemplates.{a-value-reads, activation-reads, call-calls, not-value-symbol, starts-value}

-- ---- declarations

start-set : {A : Type 0} (p : Parser A) (a : A) (k : Spanned) (ts rest : List Spanned) → Is k (token.Symbol mark.Assign) → p ts ≡ Some (a, rest)
    → read_declarations.initial p (k ∷ ts) ≡ Some (Some a, rest)
unfolding read_declarations.initial
start-set p a k ts rest is h = rw (sees-here mark.Assign k ts is) (rw h refl)

start-unset : {A : Type 0} (p : Parser A) (ts : List Spanned) → sees mark.Assign ts ≡ false → read_declarations.initial p ts ≡ Some (None, ts)
unfolding read_declarations.initial
start-unset p ts none = rw none refl

pub initial-reads : {A : Type 0} (p : Parser A) (what : A → Phrase) (v : Option A) (ts rest : List Spanned) → Known (optional (set_to what) v) ts rest
    → Follows 20 rest → ((a : A) (us : List Spanned) → Known (phrase (what a)) us rest → p us ≡ Some (a, rest)) → read_declarations.initial p ts ≡ Some (v, rest)
initial-reads p what None ts rest (all end) f h = start-unset p ts (no_symbol mark.Assign 20 ts f (omega arith))
initial-reads p what (Some a) ts rest (all (then (this {k = k} {rest = us} is) (then s end))) f h = start-set p a k us rest is (h a us s)

variable-by : (bytes : List ℕ) (v : Option Rhs) (k : Spanned) (ts rest : List Spanned) → Is k (token.Id bytes) → read_declarations.initial read_values.a_rhs ts ≡ Some (v, rest)
    → read_declarations.variable (k ∷ ts) ≡ Some (record { name = bytes; value = v }, rest)
unfolding read_declarations.variable
variable-by bytes v k ts rest is h = rw (name-here bytes k ts is) (rw h refl)

one-rhs : (r : Rhs) (ts rest : List Spanned) → Known (phrase (a_rhs r)) ts rest → Follows 20 rest → read_values.a_rhs ts ≡ Some (r, rest)
one-rhs r ts rest (by s claim) f = claim f

pub variable-reads : {v : Variable} {ps : Parts} {ts rest : List Spanned} → Production (a_variable v) ps → KnownInTurn ps ts rest → Claim (a_variable v) ts rest
variable-reads (spelled.variable name v) (then (this {k = k} {rest = ts} is) (then {middle = rest} s end)) = λ f.
    variable-by name v k ts rest is (initial-reads read_values.a_rhs a_rhs v ts rest s f (λ r us t. one-rhs r us rest t f))

no-variable : read_declarations.variable [] ≡ None
unfolding read_declarations.variable read.name
no-variable = refl

one-variable : (v : Variable) (ts rest : List Spanned) → Known (phrase (a_variable v)) ts rest → Follows 24 rest → read_declarations.variable ts ≡ Some (v, rest)
one-variable v ts rest (by s claim) f = claim (loosen 20 24 rest (omega arith) f)

variables-by : (n : TypeName) (vs : List Variable) (k : Spanned) (ts us rest : List Spanned) → Is k (token.Word word.Var) → read_values.a_type ts ≡ Some (n, us)
    → read.separated read_declarations.variable us ≡ Some (vs, rest) → read_declarations.variables (k ∷ ts) ≡ Some (record { type_name = n; variables = vs }, rest)
unfolding read_declarations.variables
variables-by n vs k ts us rest is h more = rw (expect-word-here word.Var k ts is) (rw h (rw more refl))

pub variables-reads : {vs : Variables} {ps : Parts} {ts rest : List Spanned} → Production (the_variables vs) ps → KnownInTurn ps ts rest → Claim (the_variables vs) ts rest
variables-reads (spelled.variables n vs) (then (this {k = k} {rest = ts} is) (then (by {rest = us} s claim) (then {middle = rest} more end))) = λ f.
    variables-by n vs k ts us rest is claim (commas-are-read read_declarations.variable (λ v. phrase (a_variable v)) (length us)
    (record { nothing = no-variable; reads = λ v ts rest s w f. one-variable v ts rest s f }) vs us rest more (omega arith) f)

constant-by : (bytes : List ℕ) (v : Value) (k a : Spanned) (ts rest : List Spanned) → Is k (token.Id bytes) → Is a (token.Symbol mark.Assign)
    → read_values.a_value ts ≡ Some (v, rest) → read_declarations.constant (k ∷ a ∷ ts) ≡ Some (record { name = bytes; value = v }, rest)
unfolding read_declarations.constant
constant-by bytes v k a ts rest is assign h = rw (name-here bytes k (a ∷ ts) is) (rw (expect-here mark.Assign a ts assign) (rw h refl))

pub constant-reads : {c : Constant} {ps : Parts} {ts rest : List Spanned} → Production (a_constant c) ps → KnownInTurn ps ts rest → Claim (a_constant c) ts rest
constant-reads (spelled.constant name v) (then (this {k = k} is) (then (this {k = a} {rest = ts} assign) (then {middle = rest} s end))) = λ f.
    constant-by name v k a ts rest is assign (a-value-reads s f)

no_constant : read_declarations.constant [] ≡ None
unfolding read_declarations.constant read.name
no_constant = refl

one-constant : (c : Constant) (ts rest : List Spanned) → Known (phrase (a_constant c)) ts rest → Follows 24 rest → read_declarations.constant ts ≡ Some (c, rest)
one-constant c ts rest (by s claim) f = claim (loosen 20 24 rest (omega arith) f)

constants-by : (n : TypeName) (cs : List Constant) (k : Spanned) (ts us rest : List Spanned) → Is k (token.Word word.Const) → read_values.a_type ts ≡ Some (n, us)
    → read.separated read_declarations.constant us ≡ Some (cs, rest) → read_declarations.constants (k ∷ ts) ≡ Some (record { type_name = n; constants = cs }, rest)
unfolding read_declarations.constants
constants-by n cs k ts us rest is h more = rw (expect-word-here word.Const k ts is) (rw h (rw more refl))

pub constants-reads : {cs : Constants} {ps : Parts} {ts rest : List Spanned} → Production (the_constants cs) ps → KnownInTurn ps ts rest → Claim (the_constants cs) ts rest
constants-reads (spelled.constants n cs) (then (this {k = k} {rest = ts} is) (then (by {rest = us} s claim) (then {middle = rest} more end))) = λ f.
    constants-by n cs k ts us rest is claim (commas-are-read read_declarations.constant (λ c. phrase (a_constant c)) (length us)
    (record { nothing = no_constant; reads = λ c ts rest s w f. one-constant c ts rest s f }) cs us rest more (omega arith) f)

float-here : (k : Spanned) (ts : List Spanned) → Is k token.Float → read_declarations.float (k ∷ ts) ≡ Some (tt, ts)
unfolding read_declarations.float
float-here k ts is = rw is refl

timer-by : (bytes : List ℕ) (v : Option (Unit {0})) (k : Spanned) (ts rest : List Spanned) → Is k (token.Id bytes) → read_declarations.initial read_declarations.float ts ≡ Some (v, rest)
    → read_declarations.timer (k ∷ ts) ≡ Some (record { name = bytes }, rest)
unfolding read_declarations.timer
timer-by bytes v k ts rest is h = rw (name-here bytes k ts is) (rw h refl)

pub timer-reads : {t : Timer} {ps : Parts} {ts rest : List Spanned} → Production (a_timer t) ps → KnownInTurn ps ts rest → Claim (a_timer t) ts rest
timer-reads (spelled.timer name) (then (this {k = k} {rest = ts} is) end) = λ f.
    timer-by name None k ts ts is (start-unset read_declarations.float ts (no_symbol mark.Assign 20 ts f (omega arith)))
timer-reads (spelled.timer_set name) (then (this {k = k} is) (then (this {k = a} assign) (then (this {k = c} {rest = ts} float) end))) = λ f.
    timer-by name (Some tt) k (a ∷ c ∷ ts) ts is (start-set read_declarations.float tt a (c ∷ ts) ts assign (float-here c ts float))

no-timer : read_declarations.timer [] ≡ None
unfolding read_declarations.timer read.name
no-timer = refl

one-timer : (t : Timer) (ts rest : List Spanned) → Known (phrase (a_timer t)) ts rest → Follows 24 rest → read_declarations.timer ts ≡ Some (t, rest)
one-timer t ts rest (by s claim) f = claim (loosen 20 24 rest (omega arith) f)

timers-by : (all : List Timer) (k : Spanned) (ts rest : List Spanned) → Is k (token.Word word.Timer) → read.separated read_declarations.timer ts ≡ Some (all, rest)
    → read_declarations.timers (k ∷ ts) ≡ Some (all, rest)
unfolding read_declarations.timers
timers-by found k ts rest is h = rw (expect-word-here word.Timer k ts is) h

pub timers-reads : {all : List Timer} {ps : Parts} {ts rest : List Spanned} → Production (the_timers all) ps → KnownInTurn ps ts rest → Claim (the_timers all) ts rest
timers-reads (spelled.timers found) (then (this {k = k} {rest = ts} is) (then {middle = rest} more end)) = λ f.
    timers-by found k ts rest is (commas-are-read read_declarations.timer (λ t. phrase (a_timer t)) (length ts)
    (record { nothing = no-timer; reads = λ t ts rest s w f. one-timer t ts rest s f }) found ts rest more (omega arith) f)

-- ---- what begins with a name or a component

pub record Heads (ts : List Spanned) : Type 0 where
  pub event : read_events.an_event ts ≡ read_events.event_of_one ts
  pub acts : (blocks : Parser (List Statement)) → action_in blocks ts ≡ read_actions.named_action ts
  pub no_variables : sees_word word.Var ts ≡ false

event_at : (k : Spanned) (ts : List Spanned) (t : Token) → Is k t → read_events.an_event (k ∷ ts) ≡ read_events.an_event_by (Some t) (k ∷ ts)
unfolding read_events.an_event
event_at k ts t is = rw is refl

action-at : (blocks : Parser (List Statement)) (k : Spanned) (ts : List Spanned) (t : Token) → Is k t → action_in blocks (k ∷ ts) ≡ action_by blocks (Some t) (k ∷ ts)
unfolding action_in
action-at blocks k ts t is = rw is refl

name-heads : (k : Spanned) (ts : List Spanned) (bytes : List ℕ) → Is k (token.Id bytes) → Heads (k ∷ ts)
name-heads k ts bytes is = record { event = event_at k ts _ is; acts = λ blocks. action-at blocks k ts _ is; no_variables = sees-word-by word.Var k ts _ is }

reference-heads : {r : Reference} {ts rest : List Spanned} → Spells (phrase (a_reference r)) ts rest → Heads ts
reference-heads (spelled.by (spelled.dotted_name name fields) (spelled.then (spelled.this {k = k} {rest = ts} is) more)) = name-heads k ts name is

component-heads : {c : ComponentRef} {ts rest : List Spanned} → Spells (phrase (a_component c)) ts rest → Heads ts
unfolding same_word
component-heads (spelled.by spelled.itself (spelled.then (spelled.this {k = k} {rest = ts} is) more)) =
    record { event = event_at k ts _ is; acts = λ blocks. action-at blocks k ts _ is; no_variables = sees-word-by word.Var k ts _ is }
component-heads (spelled.by spelled.mtc (spelled.then (spelled.this {k = k} {rest = ts} is) more)) =
    record { event = event_at k ts _ is; acts = λ blocks. action-at blocks k ts _ is; no_variables = sees-word-by word.Var k ts _ is }
component-heads (spelled.by (spelled.named r) (spelled.then s more)) = reference-heads s

-- a name alone as a component
bare-by : (bytes : List ℕ) (k : Spanned) (ts : List Spanned) → Is k (token.Id bytes) → reference (k ∷ ts) ≡ Some (record { name = bytes; fields = [] }, ts)
    → component (k ∷ ts) ≡ Some (component_ref.Named (record { name = bytes; fields = [] }), ts)
bare-by bytes k ts is h = first.component_at k ts _ is ∙ first.named-by (record { name = bytes; fields = [] }) (k ∷ ts) ts h

bare-reference : (bytes : List ℕ) (k : Spanned) (ts : List Spanned) → Is k (token.Id bytes) → next_field ts ≡ None
    → reference (k ∷ ts) ≡ Some (record { name = bytes; fields = [] }, ts)
unfolding reference
bare-reference bytes k ts is h = rw (name-here bytes k ts is) (rw (fields-read [] ts ts end h (length ts) (omega arith) []) refl)

bare-component : (bytes : List ℕ) (k : Spanned) (ts : List Spanned) → Is k (token.Id bytes) → next_field ts ≡ None
    → component (k ∷ ts) ≡ Some (component_ref.Named (record { name = bytes; fields = [] }), ts)
bare-component bytes k ts is h = bare-by bytes k ts is (bare-reference bytes k ts is h)

name-no-call : (k : Spanned) (ts : List Spanned) (bytes : List ℕ) → Is k (token.Id bytes) → sees mark.LeftParen ts ≡ false → calls (k ∷ ts) ≡ false
unfolding calls sees
name-no-call k ts bytes is h = rw is h

dot-no-call : (k d : Spanned) (ts : List Spanned) (bytes : List ℕ) → Is k (token.Id bytes) → Is d (token.Symbol mark.Dot) → calls (k ∷ d ∷ ts) ≡ false
unfolding same_symbol
dot-no-call k d ts bytes is dot = name-no-call k (d ∷ ts) bytes is (sees-by mark.LeftParen d ts _ dot)

behind-no-call : (k : Spanned) (bytes : List ℕ) (ts rest : List Spanned) → Is k (token.Id bytes) → Behind ts rest → sees mark.LeftParen rest ≡ false → calls (k ∷ ts) ≡ false
unfolding same_symbol
behind-no-call k bytes ts rest is (first.dotted d c) h =
    let begins = sees-is mark.Dot ts d in
    name-no-call k ts bytes is (rw begins.all (sees-by mark.LeftParen begins.first (behind ts) _ begins.is))
behind-no-call k bytes ts rest is first.same h = name-no-call k ts bytes is h
behind-no-call k bytes ts rest is (first.operator g) h = name-no-call k ts bytes is (no_symbol mark.LeftParen 3 ts g (omega arith))

starts-no-call : (ts rest : List Spanned) → Starts ts rest → sees mark.LeftParen rest ≡ false → calls ts ≡ false
starts-no-call [] rest s h = elim s [ ]
starts-no-call (k ∷ ts) rest (first.plain {t = t} is f less u) h = (first.plain-quiet k t ts is f).no_call
starts-no-call (k ∷ ts) rest (first.minus is i less u) h = (first.minus-quiet k ts is i).no_call
starts-no-call (k ∷ ts) rest (first.named {bytes = bytes} is less b u) h = behind-no-call k bytes ts rest is b h

-- ---- assignments

assignment-to-reads : (r : Reference) (v : Rhs) (a : Spanned) (ts rest : List Spanned) → Is a (token.Symbol mark.Assign) → read_values.a_rhs ts ≡ Some (v, rest)
    → read_actions.assignment_to r (a ∷ ts) ≡ Some (record { target = r; value = v }, rest)
unfolding read_actions.assignment_to
assignment-to-reads r v a ts rest is h = rw (expect-here mark.Assign a ts is) (rw h refl)

assignment-by : (r : Reference) (x : Assignment × List Spanned) (ts us : List Spanned) → reference ts ≡ Some (r, us) → read_actions.assignment_to r us ≡ Some x
    → read_actions.assignment ts ≡ Some x
unfolding read_actions.assignment
assignment-by r x ts us h more = rw h more

assigning : (r : Reference) (x : Assignment) (ts : List Spanned) (a : Spanned) (us rest : List Spanned) → calls ts ≡ false → component ts ≡ Some (component_ref.Named r, a ∷ us)
    → Is a (token.Symbol mark.Assign) → read_actions.assignment_to r (a ∷ us) ≡ Some (x, rest) → read_actions.named_action ts ≡ Some (form.Assign x, rest)
unfolding read_actions.named_action
assigning r x ts a us rest none h is more = rw none (rw h (rw (sees-here mark.Assign a us is) (rw more refl)))

reference-component : {r : Reference} {ts : List Spanned} (rest middle : List Spanned) → Spells (phrase (a_reference r)) ts middle → reference ts ≡ Some (r, rest) → component ts ≡ Some (component_ref.Named r, rest)
reference-component {r = r} rest middle (spelled.by (spelled.dotted_name name fields) (spelled.then (spelled.this {k = k} {rest = ts} is) more)) h =
    first.component_at k ts _ is ∙ first.named-by r (k ∷ ts) rest h

assign-no-field : (a : Spanned) (ts : List Spanned) → Is a (token.Symbol mark.Assign) → next_field (a ∷ ts) ≡ None
unfolding same_symbol
assign-no-field a ts is = rw (sees-by mark.Dot a ts _ is) refl

pub assignment-reads : {a : Assignment} {ps : Parts} {ts rest : List Spanned} → Production (an_assignment a) ps → KnownInTurn ps ts rest → Claim (an_assignment a) ts rest
unfolding same_symbol
assignment-reads (spelled.assignment r v) (then (by {ts = ts} s claim) (then (this {k = a} {rest = us} is) (then {middle = rest} t end))) =
    let first = claim (assign-no-field a us is) in record {
      reads = λ f. assignment-by r _ ts (a ∷ us) first (assignment-to-reads r v a us rest is (one-rhs v us rest t f));
      acts = λ d f. (reference-heads s).acts (block_in d)
          ∙ assigning r _ ts a us rest (starts-no-call ts (a ∷ us) (starts-reference s) (sees-by mark.LeftParen a us _ is))
          (reference-component (a ∷ us) (a ∷ us) s first) is (assignment-to-reads r v a us rest is (one-rhs v us rest t f));
    }

-- ---- events

reference-read : (r : Reference) (ts rest : List Spanned) → Known (phrase (a_reference r)) ts rest → next_field rest ≡ None → reference ts ≡ Some (r, rest)
reference-read r ts rest (by s claim) h = claim h

component-read : (c : ComponentRef) (ts rest : List Spanned) → Known (phrase (a_component c)) ts rest → next_field rest ≡ None → component ts ≡ Some (c, rest)
component-read c ts rest (by s claim) h = claim h

received-some : (m : MessageTemplate) (k c : Spanned) (ts rest : List Spanned) → Is k (token.Symbol mark.LeftParen) → read_templates.message ts ≡ Some (m, c ∷ rest)
    → Is c (token.Symbol mark.RightParen) → read_events.received (k ∷ ts) ≡ Some (Some m, rest)
unfolding read_events.received
received-some m k c ts rest is h close = rw (sees-here mark.LeftParen k ts is) (rw h (rw (expect-here mark.RightParen c rest close) refl))

received-none : (ts : List Spanned) → sees mark.LeftParen ts ≡ false → read_events.received ts ≡ Some (None, ts)
unfolding read_events.received
received-none ts none = rw none refl

received-reads : (m : Option MessageTemplate) (ts rest : List Spanned) → Known (optional (λ m. a_symbol mark.LeftParen ▸ phrase (a_message m) ▸ a_symbol mark.RightParen ▸ nil) m) ts rest
    → sees mark.LeftParen rest ≡ false → read_events.received ts ≡ Some (m, rest)
received-reads None ts rest (all end) none = received-none ts none
received-reads (Some m) ts rest (all (then (this {k = k} {rest = us} is) (then (by s claim) (then (this {k = c} close) end)))) none =
    received-some m k c us rest is (claim (follows-at 22 c rest _ close (omega arith))) close

behind-some : (w : Word) (c : ComponentRef) (k : Spanned) (ts rest : List Spanned) → Is k (token.Word w) → component ts ≡ Some (c, rest)
    → read_events.component_behind w (k ∷ ts) ≡ Some (Some c, rest)
unfolding read_events.component_behind
behind-some w c k ts rest is h = rw (sees-word-here w k ts is) (rw h refl)

behind-none : (w : Word) (ts : List Spanned) → sees_word w ts ≡ false → read_events.component_behind w ts ≡ Some (None, ts)
unfolding read_events.component_behind
behind-none w ts none = rw none refl

component-behind-reads : (w : Word) (c : Option ComponentRef) (ts rest : List Spanned) → Known (optional (λ c. key w ▸ phrase (a_component c) ▸ nil) c) ts rest
    → sees_word w rest ≡ false → next_field rest ≡ None → read_events.component_behind w ts ≡ Some (c, rest)
component-behind-reads w None ts rest (all end) none field = behind-none w ts none
component-behind-reads w (Some c) ts rest (all (then (this {k = k} {rest = us} is) (then s end))) none field = behind-some w c k us rest is (component-read c us rest s field)

-- what begins with a word of its own, or is missing
word-follows : (w : Word) (c : Option ComponentRef) (ts rest : List Spanned) → Known (optional (λ c. key w ▸ phrase (a_component c) ▸ nil) c) ts rest
    → 26 ≤ word_rank w → Follows 26 rest → Follows 26 ts
word-follows w None ts rest (all end) less f = f
word-follows w (Some c) ts rest (all (then (this {k = k} {rest = us} is) more)) less f = follows-at 26 k us _ is less

sender-some : (r : Reference) (k : Spanned) (ts rest : List Spanned) → Is k (token.Word word.Sender) → reference ts ≡ Some (r, rest) → read_events.sender (k ∷ ts) ≡ Some (Some r, rest)
unfolding read_events.sender
sender-some r k ts rest is h = rw (sees-word-here word.Sender k ts is) (rw h refl)

sender-none : (ts : List Spanned) → sees_word word.Sender ts ≡ false → read_events.sender ts ≡ Some (None, ts)
unfolding read_events.sender
sender-none ts none = rw none refl

sender-reads : (r : Option Reference) (ts rest : List Spanned) → Known (optional (λ r. key word.Sender ▸ phrase (a_reference r) ▸ nil) r) ts rest
    → Follows 27 rest → read_events.sender ts ≡ Some (r, rest)
sender-reads None ts rest (all end) f = sender-none ts (no-word word.Sender 27 ts f (omega arith))
sender-reads (Some r) ts rest (all (then (this {k = k} {rest = us} is) (then s end))) f =
    sender-some r k us rest is (reference-read r us rest s (no-field 27 rest f (omega arith)))

sender-no-field : (r : Option Reference) (ts rest : List Spanned) → Known (optional (λ r. key word.Sender ▸ phrase (a_reference r) ▸ nil) r) ts rest
    → Follows 27 rest → next_field ts ≡ None
sender-no-field None ts rest (all end) f = no-field 27 ts f (omega arith)
sender-no-field (Some r) ts rest (all (then (this {k = k} {rest = us} is) more)) f = rw (sees-by mark.Dot k us _ is) refl

into-value : (v : Reference) (s : Option Reference) (k w : Spanned) (ts middle rest : List Spanned) → Is k (token.Symbol mark.Arrow) → Is w (token.Word word.Value)
    → reference ts ≡ Some (v, middle) → read_events.sender middle ≡ Some (s, rest) → read_events.redirect (k ∷ w ∷ ts) ≡ Some ((Some v, s), rest)
unfolding read_events.redirect
into-value v s k w ts middle rest is value h more =
    rw (sees-here mark.Arrow k (w ∷ ts) is) (rw (sees-word-here word.Value w ts value) (rw h (rw more refl)))

into-sender : (s : Reference) (k w : Spanned) (ts rest : List Spanned) → Is k (token.Symbol mark.Arrow) → Is w (token.Word word.Sender)
    → reference ts ≡ Some (s, rest) → read_events.redirect (k ∷ w ∷ ts) ≡ Some ((None, Some s), rest)
unfolding read_events.redirect same_word
into-sender s k w ts rest is sender h =
    rw (sees-here mark.Arrow k (w ∷ ts) is) (rw (sees-word-by word.Value w ts _ sender) (rw (expect-word-here word.Sender w ts sender) (rw h refl)))

into-none : (ts : List Spanned) → sees mark.Arrow ts ≡ false → read_events.redirect ts ≡ Some ((None, None), ts)
unfolding read_events.redirect
into-none ts none = rw none refl

redirect-reads : (v sender : Option Reference) (ts rest : List Spanned) → Known (into v sender) ts rest → Follows 27 rest
    → read_events.redirect ts ≡ Some ((v, sender), rest)
redirect-reads None None ts rest (all end) f = into-none ts (no_symbol mark.Arrow 27 ts f (omega arith))
redirect-reads None (Some s) ts rest (all (then (this {k = k} is) (then (this {k = w} {rest = us} sender) (then t end)))) f =
    into-sender s k w us rest is sender (reference-read s us rest t (no-field 27 rest f (omega arith)))
redirect-reads (Some v) s ts rest (all (then (this {k = k} is) (then (this {k = w} {rest = us} value) (then {middle = middle} t (then more end))))) f =
    into-value v s k w us middle rest is value (reference-read v us middle t (sender-no-field s middle rest more f)) (sender-reads s middle rest more f)

into-follows : (v sender : Option Reference) (ts rest : List Spanned) → Known (into v sender) ts rest → Follows 27 rest
    → Follows 26 ts × (sees_word word.From ts ≡ false)
into-follows None None ts rest (all end) f = (loosen 26 27 ts (omega arith) f, no-word word.From 27 ts f (omega arith))
into-follows None (Some s) ts rest (all (then (this {k = k} {rest = us} is) more)) f = (follows-at 26 k us _ is (omega arith), sees-word-by word.From k us _ is)
into-follows (Some v) s ts rest (all (then (this {k = k} {rest = us} is) more)) f = (follows-at 26 k us _ is (omega arith), sees-word-by word.From k us _ is)

receive-by : (port : PortSelector) (m : Option MessageTemplate) (from : Option ComponentRef) (v sender : Option Reference) (w : Spanned) (ts us vs rest : List Spanned)
    → Is w (token.Word word.Receive) → read_events.received ts ≡ Some (m, us) → read_events.component_behind word.From us ≡ Some (from, vs)
    → read_events.redirect vs ≡ Some ((v, sender), rest)
    → read_events.receive port (w ∷ ts) ≡ Some (event.Receive (record { port = port; message = m; from = from; value = v; sender = sender }), rest)
unfolding read_events.receive
receive-by port m from v sender w ts us vs rest is a b c = rw (expect-word-here word.Receive w ts is) (rw a (rw b (rw c refl)))

receive-reads : (port : PortSelector) (m : Option MessageTemplate) (from : Option ComponentRef) (v sender : Option Reference) (w : Spanned) (ts rest : List Spanned)
    → Is w (token.Word word.Receive)
    → KnownInTurn (optional (λ m. a_symbol mark.LeftParen ▸ phrase (a_message m) ▸ a_symbol mark.RightParen ▸ nil) m
    ▸ optional (λ c. key word.From ▸ phrase (a_component c) ▸ nil) from ▸ into v sender ▸ nil) ts rest
    → Follows 27 rest
    → read_events.receive port (w ∷ ts) ≡ Some (event.Receive (record { port = port; message = m; from = from; value = v; sender = sender }), rest)
receive-reads port m from v sender w ts rest is (then {middle = us} a (then {middle = vs} b (then c end))) f =
    let more = into-follows v sender vs rest c f in
    let next = word-follows word.From from us vs b (omega arith) more.0 in
    receive-by port m from v sender w ts us vs rest is
    (received-reads m ts us a (no_symbol mark.LeftParen 26 us next (omega arith)))
    (component-behind-reads word.From from us vs b more.1 (no-field 26 vs more.0 (omega arith)))
    (redirect-reads v sender vs rest c f)

one-event : (c : ComponentRef) (e : Event) (d : Spanned) (ts us rest : List Spanned) → component ts ≡ Some (c, d ∷ us) → Is d (token.Symbol mark.Dot)
    → read_events.event_behind c us ≡ Some (e, rest) → read_events.event_of_one ts ≡ Some (e, rest)
unfolding read_events.event_of_one
one-event c e d ts us rest h is more = rw h (rw (expect-here mark.Dot d us is) more)

named-member : (c : ComponentRef) (x : Action × List Spanned) (d : Spanned) (ts us : List Spanned) → calls ts ≡ false → component ts ≡ Some (c, d ∷ us)
    → Is d (token.Symbol mark.Dot) → read_actions.member_action_by c (head_token us) us ≡ Some x → read_actions.named_action ts ≡ Some x
unfolding read_actions.named_action read_actions.member_action same_symbol
named-member c x d ts us none h is more = rw none (rw h (rw (sees-by mark.Assign d us _ is) (rw (expect-here mark.Dot d us is) more)))

act-event-by : (c : ComponentRef) (e : Event) (us rest : List Spanned) → read_events.event_behind c us ≡ Some (e, rest) → read_actions.act_event c us ≡ Some (form.Event e, rest)
unfolding read_actions.act_event
act-event-by c e us rest h = rw h refl

-- an event behind a component and a dot
event-of : (c : ComponentRef) (e : Event) (d : Spanned) (ts us rest : List Spanned) → Heads ts → calls ts ≡ false → component ts ≡ Some (c, d ∷ us)
    → Is d (token.Symbol mark.Dot) → (Follows 27 rest → read_events.event_behind c us ≡ Some (e, rest)) → read_actions.member_action_by c (head_token us) us ≡ read_actions.act_event c us
    → EventRead e ts rest
event-of c e d ts us rest heads none h is more acting = record {
  no_call = none;
  reads = λ f. heads.event ∙ one-event c e d ts us rest h is (more f);
  acts = λ n f. heads.acts (block_in n) ∙ named-member c (form.Event e, rest) d ts us none h is (acting ∙ act-event-by c e us rest (more f));
}

event-behind-at : (c : ComponentRef) (k : Spanned) (ts : List Spanned) (t : Token) → Is k t → read_events.event_behind c (k ∷ ts) ≡ read_events.event_by c (Some t) (k ∷ ts)
unfolding read_events.event_behind
event-behind-at c k ts t is = rw is refl

member_at : (c : ComponentRef) (k : Spanned) (ts : List Spanned) (t : Token) → Is k t → read_actions.member_action_by c (Some k.token) (k ∷ ts) ≡ read_actions.member_action_by c (Some t) (k ∷ ts)
member_at c k ts t is = ap (λ t. read_actions.member_action_by c (Some t) (k ∷ ts)) is

any-port-by : (e : Event) (k p d : Spanned) (ts rest : List Spanned) → Is k (token.Word word.Any) → Is p (token.Word word.Port) → Is d (token.Symbol mark.Dot)
    → read_events.receive selector.Any ts ≡ Some (e, rest) → read_events.any_port (k ∷ p ∷ d ∷ ts) ≡ Some (e, rest)
unfolding read_events.any_port
any-port-by e k p d ts rest is port dot h =
    rw (expect-word-here word.Any k (p ∷ d ∷ ts) is) (rw (expect-word-here word.Port p (d ∷ ts) port) (rw (expect-here mark.Dot d ts dot) h))

all-done-by : (k c d w : Spanned) (ts : List Spanned) → Is k (token.Word word.All) → Is c (token.Word word.Component) → Is d (token.Symbol mark.Dot)
    → Is w (token.Word word.Done) → read_events.all_done (k ∷ c ∷ d ∷ w ∷ ts) ≡ Some (event.AllDone, ts)
unfolding read_events.all_done
all-done-by k c d w ts is component dot done =
    rw (expect-word-here word.All k (c ∷ d ∷ w ∷ ts) is) (rw (expect-word-here word.Component c (d ∷ w ∷ ts) component)
    (rw (expect-here mark.Dot d (w ∷ ts) dot) (rw (expect-word-here word.Done w ts done) refl)))

no-call-word : (k : Spanned) (ts : List Spanned) (w : Word) → Is k (token.Word w) → calls (k ∷ ts) ≡ false
unfolding calls
no-call-word k ts w is = rw is refl

any-acts : (blocks : Parser (List Statement)) (e : Event) (k : Spanned) (ts rest : List Spanned) → Is k (token.Word word.Any) → read_events.any_port (k ∷ ts) ≡ Some (e, rest)
    → action_in blocks (k ∷ ts) ≡ Some (form.Event e, rest)
any-acts blocks e k ts rest is h = action-at blocks k ts _ is ∙ ap (λ o. read.and_then o (λ e. read.pure (form.Event e))) h

all-acts : (blocks : Parser (List Statement)) (e : Event) (k : Spanned) (ts rest : List Spanned) → Is k (token.Word word.All) → read_events.all_done (k ∷ ts) ≡ Some (e, rest)
    → action_in blocks (k ∷ ts) ≡ Some (form.Event e, rest)
all-acts blocks e k ts rest is h = action-at blocks k ts _ is ∙ ap (λ o. read.and_then o (λ e. read.pure (form.Event e))) h

pub event-reads : {e : Event} {ps : Parts} {ts rest : List Spanned} → Production (an_event e) ps → KnownInTurn ps ts rest → Claim (an_event e) ts rest
unfolding same_symbol
event-reads {rest = rest} (spelled.receive port m from v sender) (then (by (spelled.by spelled.any_port (spelled.then (spelled.this {k = k} is) (spelled.then (spelled.this {k = p} port_word) spelled.end))) claim) (then (this {k = d} dot) (then (this {k = w} {rest = ts} receive) more))) = record {
  no_call = no-call-word k (p ∷ d ∷ w ∷ ts) _ is;
  reads = λ f. event_at k (p ∷ d ∷ w ∷ ts) _ is ∙ any-port-by _ k p d (w ∷ ts) rest is port_word dot (receive-reads selector.Any m from v sender w ts rest receive more f);
  acts = λ n f. any-acts (block_in n) _ k (p ∷ d ∷ w ∷ ts) rest is (any-port-by _ k p d (w ∷ ts) rest is port_word dot (receive-reads selector.Any m from v sender w ts rest receive more f));
}
event-reads {rest = rest} (spelled.receive port m from v sender) (then (by (spelled.by (spelled.one_port name) (spelled.then (spelled.this {k = k} is) spelled.end)) claim) (then (this {k = d} dot) (then (this {k = w} {rest = ts} receive) more))) =
    event-of (component_ref.Named (record { name = name; fields = [] })) _ d (k ∷ d ∷ w ∷ ts) (w ∷ ts) rest (name-heads k (d ∷ w ∷ ts) name is)
    (dot-no-call k d (w ∷ ts) name is dot) (bare-component name k (d ∷ w ∷ ts) is (word-field d w ts _ dot receive)) dot
    (λ f. event-behind-at _ w ts _ receive ∙ receive-reads (selector.Named name) m from v sender w ts rest receive more f)
    (member_at _ w ts _ receive)
event-reads (spelled.timeout name) (then (this {k = k} is) (then (this {k = d} dot) (then (this {k = w} {rest = ts} out) end))) =
    event-of (component_ref.Named (record { name = name; fields = [] })) _ d (k ∷ d ∷ w ∷ ts) (w ∷ ts) ts (name-heads k (d ∷ w ∷ ts) name is)
    (dot-no-call k d (w ∷ ts) name is dot) (bare-component name k (d ∷ w ∷ ts) is (word-field d w ts _ dot out)) dot
    (λ f. event-behind-at _ w ts _ out) (member_at _ w ts _ out)
event-reads (spelled.done c) (then (by {ts = us} s claim) (then (this {k = d} dot) (then (this {k = w} {rest = ts} done) end))) =
    event-of c _ d us (w ∷ ts) ts (component-heads s) (starts-no-call us (d ∷ w ∷ ts) (starts-component s) (sees-by mark.LeftParen d (w ∷ ts) _ dot))
    (claim (word-field d w ts _ dot done)) dot (λ f. event-behind-at _ w ts _ done) (member_at _ w ts _ done)
event-reads spelled.all_done (then (this {k = k} is) (then (this {k = c} component) (then (this {k = d} dot) (then (this {k = w} {rest = ts} done) end)))) = record {
  no_call = no-call-word k (c ∷ d ∷ w ∷ ts) _ is;
  reads = λ f. event_at k (c ∷ d ∷ w ∷ ts) _ is ∙ all-done-by k c d w ts is component dot done;
  acts = λ n f. all-acts (block_in n) _ k (c ∷ d ∷ w ∷ ts) ts is (all-done-by k c d w ts is component dot done);
}

-- ---- parts of statements

log-text-at : (k : Spanned) (ts : List Spanned) → Is k token.Text → read_actions.a_log_item (k ∷ ts) ≡ Some (log_item.Text, ts)
unfolding read_actions.a_log_item
log-text-at k ts is = rw is refl

log-else : (t : Token) → first.First t → read_actions.log_item_by (Some t) ≡ (λ us. read.and_then (expression us) (λ e. read.pure (log_item.Expr e)))
log-else t first.an_int = refl
log-else t first.a_true = refl
log-else t first.a_false = refl
log-else t first.a_null = refl
log-else t first.itself = refl
log-else t first.an_mtc = refl
log-else t first.present = refl
log-else t first.a_not = refl
log-else t first.paren = refl
log-else t first.a_plus = refl

log-at : (k : Spanned) (ts : List Spanned) (t : Token) → Is k t → read_actions.log_item_by (Some t) ≡ (λ us. read.and_then (expression us) (λ e. read.pure (log_item.Expr e)))
    → read_actions.a_log_item (k ∷ ts) ≡ read.and_then (expression (k ∷ ts)) (λ e. read.pure (log_item.Expr e))
unfolding read_actions.a_log_item
log-at k ts t is h = ap (λ u. read_actions.log_item_by (Some u) (k ∷ ts)) is ∙ ap (λ p. p (k ∷ ts)) h

log-plain : (ts rest : List Spanned) → Starts ts rest → read_actions.a_log_item ts ≡ read.and_then (expression ts) (λ e. read.pure (log_item.Expr e))
log-plain [] rest s = elim s [ ]
log-plain (k ∷ ts) rest (first.plain {t = t} is f less u) = log-at k ts t is (log-else t f)
log-plain (k ∷ ts) rest (first.minus is i less u) = log-at k ts _ is refl
log-plain (k ∷ ts) rest (first.named is less b u) = log-at k ts _ is refl

pub log-item-reads : {i : LogItem} {ps : Parts} {ts rest : List Spanned} → Production (a_log_item i) ps → KnownInTurn ps ts rest → Claim (a_log_item i) ts rest
log-item-reads spelled.log_text (then (this {k = k} {rest = ts} is) end) = λ f. log-text-at k ts is
log-item-reads (spelled.log_expr e) (then (by {ts = ts} {rest = rest} s claim) end) = λ f.
    log-plain ts rest (starts-operand s) ∙ ap (λ o. read.and_then o (λ e. read.pure (log_item.Expr e))) (expression-reads ts rest e claim f)

no-log-item : read_actions.a_log_item [] ≡ None
unfolding read_actions.a_log_item
no-log-item = rw no-expression refl

one-log-item : (i : LogItem) (ts rest : List Spanned) → Known (phrase (a_log_item i)) ts rest → Follows 24 rest → read_actions.a_log_item ts ≡ Some (i, rest)
one-log-item i ts rest (by s claim) f = claim (loosen 20 24 rest (omega arith) f)

each-log-item : (d : ℕ) → Each read_actions.a_log_item (λ i. phrase (a_log_item i)) d
each-log-item d = record { nothing = no-log-item; reads = λ i ts rest s w f. one-log-item i ts rest s f }

log-closes : (i : LogItem) (ts rest : List Spanned) → Known (phrase (a_log_item i)) ts rest → sees mark.RightParen ts ≡ false
log-closes i ts rest (by (spelled.by spelled.log_text (spelled.then (spelled.this {k = k} {rest = us} is) spelled.end)) claim) = sees-by mark.RightParen k us _ is
log-closes i ts rest (by (spelled.by (spelled.log_expr e) (spelled.then s spelled.end)) claim) = not-first-symbol mark.RightParen ts rest (starts-operand s) refl

port-ref-by : (c : ComponentRef) (port : List ℕ) (k p : Spanned) (ts rest : List Spanned) → component ts ≡ Some (c, k ∷ p ∷ rest) → Is k (token.Symbol mark.Colon)
    → Is p (token.Id port) → read_actions.port_ref ts ≡ Some (record { component = c; port = port }, rest)
unfolding read_actions.port_ref
port-ref-by c port k p ts rest h is name = rw h (rw (expect-here mark.Colon k (p ∷ rest) is) (rw (name-here port p rest name) refl))

colon-no-field : (k : Spanned) (ts : List Spanned) → Is k (token.Symbol mark.Colon) → next_field (k ∷ ts) ≡ None
unfolding same_symbol
colon-no-field k ts is = rw (sees-by mark.Dot k ts _ is) refl

pub port-ref-reads : {r : PortRef} {ps : Parts} {ts rest : List Spanned} → Production (a_port_ref r) ps → KnownInTurn ps ts rest → Claim (a_port_ref r) ts rest
port-ref-reads (spelled.port_ref c port) (then (by {ts = ts} s claim) (then (this {k = k} is) (then (this {k = p} {rest = rest} name) end))) =
    port-ref-by c port k p ts rest (claim (colon-no-field k (p ∷ rest) is)) is name

start-variables : (vs : Variables) (ts rest : List Spanned) → sees_word word.Var ts ≡ true → read_declarations.variables ts ≡ Some (vs, rest) → read_statements.for_start_ ts ≡ Some (for_start.Variables vs, rest)
unfolding read_statements.for_start_
start-variables vs ts rest some h = rw some (rw h refl)

start-assign : (a : Assignment) (ts rest : List Spanned) → sees_word word.Var ts ≡ false → read_actions.assignment ts ≡ Some (a, rest) → read_statements.for_start_ ts ≡ Some (for_start.Assign a, rest)
unfolding read_statements.for_start_
start-assign a ts rest none h = rw none (rw h refl)

variables-begin : {vs : Variables} {ts rest : List Spanned} → Spells (phrase (the_variables vs)) ts rest → sees_word word.Var ts ≡ true
variables-begin (spelled.by (spelled.variables n vs) (spelled.then (spelled.this {k = k} {rest = ts} is) more)) = sees-word-here word.Var k ts is

assignment-heads : {a : Assignment} {ts rest : List Spanned} → Spells (phrase (an_assignment a)) ts rest → Heads ts
assignment-heads (spelled.by (spelled.assignment r v) (spelled.then s more)) = reference-heads s

pub for-start-reads : {s : ForStart} {ps : Parts} {ts rest : List Spanned} → Production (a_for_start s) ps → KnownInTurn ps ts rest → Claim (a_for_start s) ts rest
for-start-reads (spelled.for_variables vs) (then (by {ts = ts} {rest = rest} s claim) end) = λ f. start-variables vs ts rest (variables-begin s) (claim f)
for-start-reads (spelled.for_assign a) (then (by {ts = ts} {rest = rest} s claim) end) = λ f.
    start-assign a ts rest (assignment-heads s).no_variables (claim.reads (loosen 20 25 rest (omega arith) f))

in-brackets-by : (e : Expr) (k c : Spanned) (ts rest : List Spanned) → Is k (token.Symbol mark.LeftParen) → expression ts ≡ Some (e, c ∷ rest)
    → Is c (token.Symbol mark.RightParen) → read_statements.in_brackets (k ∷ ts) ≡ Some (e, rest)
unfolding read_statements.in_brackets
in-brackets-by e k c ts rest is h close = rw (expect-here mark.LeftParen k ts is) (rw h (rw (expect-here mark.RightParen c rest close) refl))

expression-read : (e : Expr) (ts rest : List Spanned) → Known (phrase (an_operand level.Or e)) ts rest → Follows 20 rest → expression ts ≡ Some (e, rest)
expression-read e ts rest (by s claim) f = expression-reads ts rest e claim f

in-brackets-reads : (e : Expr) (ts rest : List Spanned) → Known (spelled.in_brackets e) ts rest → read_statements.in_brackets ts ≡ Some (e, rest)
in-brackets-reads e ts rest (all (then (this {k = k} {rest = us} is) (then s (then (this {k = c} close) end)))) =
    in-brackets-by e k c us rest is (expression-read e us (c ∷ rest) s (follows-at 20 c rest _ close (omega arith))) close

block-read : (d : ℕ) (ss : List Statement) (ts rest : List Spanned) → Known (phrase (a_block ss)) ts rest → length ts ≤ d → block_in d ts ≡ Some (ss, rest)
block-read d ss ts rest (by s claim) w = claim d w

conditional-read : (blocks : Parser (List Statement)) (e : Expr) (ss : List Statement) (ts us rest : List Spanned) → read_statements.in_brackets ts ≡ Some (e, us) → blocks us ≡ Some (ss, rest)
    → read_statements.conditional_by blocks ts ≡ Some (conditional e ss, rest)
unfolding read_statements.conditional_by
conditional-read blocks e ss ts us rest h more = rw h (rw more refl)

pub conditional-reads : {c : Conditional} {ps : Parts} {ts rest : List Spanned} → Production (a_conditional c) ps → KnownInTurn ps ts rest → Claim (a_conditional c) ts rest
conditional-reads {ts = ts} (spelled.condition e ss) (then {middle = us} s (then {middle = rest} t end)) = λ d w.
    let shorter = leaves s in
    conditional-read (block_in d) e ss ts us rest (in-brackets-reads e ts us s) (block-read d ss us rest t (omega (arith, w, shorter)))

-- ---- else

else-if-read : (p : Parser Conditional) (n : ℕ) (found : List Conditional) (c : Conditional) (k i : Spanned) (ts us : List Spanned) (x : List Conditional × List Spanned)
    → goes_on (k ∷ i ∷ ts) ≡ true → p ts ≡ Some (c, us) → read_statements.else_ifs_from p n (found ++ c ∷ []) us ≡ Some x
    → read_statements.else_ifs_from p (suc n) found (k ∷ i ∷ ts) ≡ Some x
unfolding read_statements.else_ifs_from
else-if-read p n found c k i ts us x on h more = rw on (rw h more)

else-ifs-end : (p : Parser Conditional) (n : ℕ) (found : List Conditional) (ts : List Spanned) → goes_on ts ≡ false → read_statements.else_ifs_from p n found ts ≡ Some (found ++ [], ts)
unfolding read_statements.else_ifs_from
else-ifs-end p zero found ts h = ap (λ xs. Some (xs, ts)) (sym (append-nil found))
else-ifs-end p (suc n) found ts h = rw h (ap (λ xs. Some (xs, ts)) (sym (append-nil found)))

goes-on-here : (k i : Spanned) (ts : List Spanned) → Is k (token.Word word.Else) → Is i (token.Word word.If) → goes_on (k ∷ i ∷ ts) ≡ true
unfolding same_word
goes-on-here k i ts is also = rw (sees-word-here word.Else k (i ∷ ts) is) (rw also refl)

else-ifs-read : (d : ℕ) (cs : List Conditional) (ts rest : List Spanned) → KnownInTurn (each else_if cs) ts rest → goes_on rest ≡ false → length ts ≤ d
    → (n : ℕ) → length ts ≤ n → (found : List Conditional) → read_statements.else_ifs_from (read_statements.conditional_by (block_in d)) n found ts ≡ Some (found ++ cs, rest)
else-ifs-read d [] ts rest end h w n few found = else-ifs-end (read_statements.conditional_by (block_in d)) n found ts h
else-ifs-read d (c ∷ cs) ts rest (then (all (then (this {k = k} is) (then (this {k = i} {rest = us} also) (then (by {rest = middle} s claim) end)))) more) h w n few found =
    let shorter = shrinks s in
    by-turns (λ n. read_statements.else_ifs_from (read_statements.conditional_by (block_in d)) n found ts ≡ Some (found ++ c ∷ cs, rest)) n (omega (arith, few)) (λ m count.
    else-if-read (read_statements.conditional_by (block_in d)) m found c k i us middle (found ++ c ∷ cs, rest) (goes-on-here k i us is also) (claim d (omega (arith, w)))
    (else-ifs-read d cs middle rest more h (omega (arith, w, shorter)) m (omega (arith, few, count, shorter)) (found ++ c ∷ [])
    ∙ ap (λ xs. Some (xs, rest)) (append_assoc found (c ∷ []) cs)))

else-some : (blocks : Parser (List Statement)) (ss : List Statement) (k : Spanned) (ts rest : List Spanned) → Is k (token.Word word.Else) → blocks ts ≡ Some (ss, rest)
    → read_statements.else_block blocks (k ∷ ts) ≡ Some (Some ss, rest)
unfolding read_statements.else_block
else-some blocks ss k ts rest is h = rw (sees-word-here word.Else k ts is) (rw h refl)

else-none : (blocks : Parser (List Statement)) (ts : List Spanned) → sees_word word.Else ts ≡ false → read_statements.else_block blocks ts ≡ Some (None, ts)
unfolding read_statements.else_block
else-none blocks ts none = rw none refl

else-reads : (d : ℕ) (ss : Option (List Statement)) (ts rest : List Spanned) → Known (optional (λ ss. key word.Else ▸ phrase (a_block ss) ▸ nil) ss) ts rest
    → Follows 27 rest → length ts ≤ d → read_statements.else_block (block_in d) ts ≡ Some (ss, rest)
else-reads d None ts rest (all end) f w = else-none (block_in d) ts (no-word word.Else 27 ts f (omega arith))
else-reads d (Some ss) ts rest (all (then (this {k = k} {rest = us} is) (then s end))) f w =
    else-some (block_in d) ss k us rest is (block-read d ss us rest s (omega (arith, w)))

block-begins : {ss : List Statement} {ts rest : List Spanned} → Spells (phrase (a_block ss)) ts rest → sees mark.LeftBrace ts ≡ true
block-begins (spelled.by (spelled.block ss) (spelled.then (spelled.this {k = k} {rest = ts} is) more)) = sees-here mark.LeftBrace k ts is

block-no-if : {ss : List Statement} (k : Spanned) (ts rest : List Spanned) → Spells (phrase (a_block ss)) ts rest → is_word word.If (second (k ∷ ts)) ≡ false
block-no-if k ts rest (spelled.by (spelled.block ss) (spelled.then (spelled.this is) more)) = rw is refl

and-false : (a b : Bool) → b ≡ false → (a && b) ≡ false
and-false true b h = h
and-false false b h = refl

else-ends : (ss : Option (List Statement)) (ts rest : List Spanned) → Known (optional (λ ss. key word.Else ▸ phrase (a_block ss) ▸ nil) ss) ts rest
    → Follows 27 rest → goes_on ts ≡ false
else-ends None ts rest (all end) f = rw (no-word word.Else 27 ts f (omega arith)) refl
else-ends (Some ss) ts rest (all (then (this {k = k} {rest = us} is) (then (by s claim) end))) f = and-false (sees_word word.Else (k ∷ us)) _ (block-no-if k us rest s)

-- ---- blocks and branches

pub leads-word : (w : Word) (k : Spanned) (ts rest : List Spanned) → Is k (token.Word w) → 30 ≤ word_rank w → length rest ≤ length ts → Leads at_brace (k ∷ ts) rest
leads-word w k ts rest is high less = record {
  goes_on = sees-by mark.RightBrace k ts _ is;
  no_gap = sees-by mark.Semicolon k ts _ is;
  follows = follows-at 30 k ts _ is high;
  shorter = omega (arith, less);
}

leads-name : (bytes : List ℕ) (k : Spanned) (ts rest : List Spanned) → Is k (token.Id bytes) → length rest ≤ length ts → Leads at_brace (k ∷ ts) rest
leads-name bytes k ts rest is less = record {
  goes_on = sees-by mark.RightBrace k ts _ is;
  no_gap = sees-by mark.Semicolon k ts _ is;
  follows = follows-at 30 k ts _ is (omega arith);
  shorter = omega (arith, less);
}

leads-bracket : (k : Spanned) (ts rest : List Spanned) → Is k (token.Symbol mark.LeftBracket) → length rest ≤ length ts → Leads at_brace (k ∷ ts) rest
unfolding same_symbol
leads-bracket k ts rest is less = record {
  goes_on = sees-by mark.RightBrace k ts _ is;
  no_gap = sees-by mark.Semicolon k ts _ is;
  follows = follows-at 30 k ts _ is (omega arith);
  shorter = omega (arith, less);
}

leads-on : (ts middle rest : List Spanned) → Leads at_brace ts middle → length rest ≤ length middle → Leads at_brace ts rest
leads-on ts middle rest l less =
    let more = l.shorter in record { goes_on = l.goes_on; no_gap = l.no_gap; follows = l.follows; shorter = omega (arith, less, more) }

reference-leads : {r : Reference} {ts rest : List Spanned} → Spells (phrase (a_reference r)) ts rest → Leads at_brace ts rest
reference-leads {rest = rest} (spelled.by (spelled.dotted_name name fields) (spelled.then (spelled.this {k = k} {rest = ts} is) more)) = leads-name name k ts rest is (turn-shrinks more)

component-leads : {c : ComponentRef} {ts rest : List Spanned} → Spells (phrase (a_component c)) ts rest → Leads at_brace ts rest
component-leads (spelled.by spelled.itself (spelled.then (spelled.this {k = k} {rest = ts} is) spelled.end)) = leads-word _ k ts ts is (omega arith) (omega arith)
component-leads (spelled.by spelled.mtc (spelled.then (spelled.this {k = k} {rest = ts} is) spelled.end)) = leads-word _ k ts ts is (omega arith) (omega arith)
component-leads (spelled.by (spelled.named r) (spelled.then s spelled.end)) = reference-leads s

call-leads : {c : Call} {ts rest : List Spanned} → Spells (phrase (a_call c)) ts rest → Leads at_brace ts rest
call-leads {rest = rest} (spelled.by (spelled.with_arguments name vs) (spelled.then (spelled.this {k = k} {rest = ts} is) more)) = leads-name name k ts rest is (turn-shrinks more)

event-leads : {e : Event} {ts rest : List Spanned} → Spells (phrase (an_event e)) ts rest → Leads at_brace ts rest
event-leads {rest = rest} (spelled.by (spelled.receive port m from v sender) (spelled.then (spelled.by spelled.any_port (spelled.then (spelled.this {k = k} {rest = ts} is) more)) others)) =
    let one = turn-shrinks more in let two = turn-shrinks others in leads-word _ k ts rest is (omega arith) (omega (arith, one, two))
event-leads {rest = rest} (spelled.by (spelled.receive port m from v sender) (spelled.then (spelled.by (spelled.one_port name) (spelled.then (spelled.this {k = k} {rest = ts} is) more)) others)) =
    let one = turn-shrinks more in let two = turn-shrinks others in leads-name name k ts rest is (omega (arith, one, two))
event-leads {rest = rest} (spelled.by (spelled.timeout name) (spelled.then (spelled.this {k = k} {rest = ts} is) more)) = leads-name name k ts rest is (turn-shrinks more)
event-leads {ts = ts} {rest = rest} (spelled.by (spelled.done c) (spelled.then {middle = middle} s more)) = leads-on ts middle rest (component-leads s) (turn-shrinks more)
event-leads {rest = rest} (spelled.by spelled.all_done (spelled.then (spelled.this {k = k} {rest = ts} is) more)) = leads-word _ k ts rest is (omega arith) (turn-shrinks more)

assignment-leads : {a : Assignment} {ts rest : List Spanned} → Spells (phrase (an_assignment a)) ts rest → Leads at_brace ts rest
assignment-leads {ts = ts} {rest = rest} (spelled.by (spelled.assignment r v) (spelled.then {middle = middle} s more)) = leads-on ts middle rest (reference-leads s) (turn-shrinks more)

variables-lead : {vs : Variables} {ts rest : List Spanned} → Spells (phrase (the_variables vs)) ts rest → Leads at_brace ts rest
variables-lead {rest = rest} (spelled.by (spelled.variables n vs) (spelled.then (spelled.this {k = k} {rest = ts} is) more)) = leads-word _ k ts rest is (omega arith) (turn-shrinks more)

pub constants-lead : {cs : Constants} {ts rest : List Spanned} → Spells (phrase (the_constants cs)) ts rest → Leads at_brace ts rest
constants-lead {rest = rest} (spelled.by (spelled.constants n cs) (spelled.then (spelled.this {k = k} {rest = ts} is) more)) = leads-word _ k ts rest is (omega arith) (turn-shrinks more)

pub timers-lead : {all : List Timer} {ts rest : List Spanned} → Spells (phrase (the_timers all)) ts rest → Leads at_brace ts rest
timers-lead {rest = rest} (spelled.by (spelled.timers found) (spelled.then (spelled.this {k = k} {rest = ts} is) more)) = leads-word _ k ts rest is (omega arith) (turn-shrinks more)

action-leads : {a : Action} {ts rest : List Spanned} → Spells (phrase (an_action a)) ts rest → Leads at_brace ts rest
action-leads (spelled.by (spelled.act_variables vs) (spelled.then s spelled.end)) = variables-lead s
action-leads (spelled.by (spelled.act_constants cs) (spelled.then s spelled.end)) = constants-lead s
action-leads (spelled.by (spelled.act_timers found) (spelled.then s spelled.end)) = timers-lead s
action-leads (spelled.by (spelled.act_assign a) (spelled.then s spelled.end)) = assignment-leads s
action-leads (spelled.by (spelled.act_call c) (spelled.then s spelled.end)) = call-leads s
action-leads (spelled.by (spelled.act_event e) (spelled.then s spelled.end)) = event-leads s
action-leads {rest = rest} (spelled.by (spelled.act_alt bs) (spelled.then (spelled.this {k = k} {rest = ts} is) more)) = leads-word _ k ts rest is (omega arith) (turn-shrinks more)
action-leads {rest = rest} (spelled.by spelled.act_repeat (spelled.then (spelled.this {k = k} {rest = ts} is) more)) = leads-word _ k ts rest is (omega arith) (turn-shrinks more)
action-leads {rest = rest} (spelled.by (spelled.act_if c cs other) (spelled.then (spelled.this {k = k} {rest = ts} is) more)) = leads-word _ k ts rest is (omega arith) (turn-shrinks more)
action-leads {rest = rest} (spelled.by (spelled.act_while e ss) (spelled.then (spelled.this {k = k} {rest = ts} is) more)) = leads-word _ k ts rest is (omega arith) (turn-shrinks more)
action-leads {rest = rest} (spelled.by (spelled.act_do e ss) (spelled.then (spelled.this {k = k} {rest = ts} is) more)) = leads-word _ k ts rest is (omega arith) (turn-shrinks more)
action-leads {rest = rest} (spelled.by (spelled.act_for start e a ss) (spelled.then (spelled.this {k = k} {rest = ts} is) more)) = leads-word _ k ts rest is (omega arith) (turn-shrinks more)
action-leads {rest = rest} (spelled.by (spelled.act_return v) (spelled.then (spelled.this {k = k} {rest = ts} is) more)) = leads-word _ k ts rest is (omega arith) (turn-shrinks more)
action-leads {rest = rest} (spelled.by spelled.act_stop (spelled.then (spelled.this {k = k} {rest = ts} is) more)) = leads-word _ k ts rest is (omega arith) (turn-shrinks more)
action-leads {rest = rest} (spelled.by (spelled.act_log shown) (spelled.then (spelled.this {k = k} {rest = ts} is) more)) = leads-word _ k ts rest is (omega arith) (turn-shrinks more)
action-leads {rest = rest} (spelled.by (spelled.act_setverdict v shown) (spelled.then (spelled.this {k = k} {rest = ts} is) more)) = leads-word _ k ts rest is (omega arith) (turn-shrinks more)
action-leads {rest = rest} (spelled.by (spelled.act_connect a b) (spelled.then (spelled.this {k = k} {rest = ts} is) more)) = leads-word _ k ts rest is (omega arith) (turn-shrinks more)
action-leads {rest = rest} (spelled.by (spelled.act_map operation.Map p q) (spelled.then (spelled.this {k = k} {rest = ts} is) more)) = leads-word _ k ts rest is (omega arith) (turn-shrinks more)
action-leads {rest = rest} (spelled.by (spelled.act_map operation.Unmap p q) (spelled.then (spelled.this {k = k} {rest = ts} is) more)) = leads-word _ k ts rest is (omega arith) (turn-shrinks more)
action-leads {rest = rest} (spelled.by (spelled.act_map_turned operation.Map p q) (spelled.then (spelled.this {k = k} {rest = ts} is) more)) = leads-word _ k ts rest is (omega arith) (turn-shrinks more)
action-leads {rest = rest} (spelled.by (spelled.act_map_turned operation.Unmap p q) (spelled.then (spelled.this {k = k} {rest = ts} is) more)) = leads-word _ k ts rest is (omega arith) (turn-shrinks more)
action-leads {rest = rest} (spelled.by (spelled.act_send port m to) (spelled.then (spelled.this {k = k} {rest = ts} is) more)) = leads-name port k ts rest is (turn-shrinks more)
action-leads {ts = ts} {rest = rest} (spelled.by (spelled.act_start_component c f) (spelled.then {middle = middle} s more)) = leads-on ts middle rest (component-leads s) (turn-shrinks more)
action-leads {rest = rest} (spelled.by (spelled.act_start_timer name) (spelled.then (spelled.this {k = k} {rest = ts} is) more)) = leads-name name k ts rest is (turn-shrinks more)
action-leads {rest = rest} (spelled.by (spelled.act_start_timer_with name) (spelled.then (spelled.this {k = k} {rest = ts} is) more)) = leads-name name k ts rest is (turn-shrinks more)
action-leads {ts = ts} {rest = rest} (spelled.by (spelled.act_stop_of c) (spelled.then {middle = middle} s more)) = leads-on ts middle rest (component-leads s) (turn-shrinks more)
action-leads {rest = rest} (spelled.by (spelled.act_activate c) (spelled.then (spelled.this {k = k} {rest = ts} is) more)) = leads-word _ k ts rest is (omega arith) (turn-shrinks more)
action-leads {rest = rest} (spelled.by (spelled.act_deactivate r) (spelled.then (spelled.this {k = k} {rest = ts} is) more)) = leads-word _ k ts rest is (omega arith) (turn-shrinks more)

statement-leads : {s : Statement} {ts rest : List Spanned} → Spells (phrase (a_statement s)) ts rest → Leads at_brace ts rest
statement-leads (spelled.by (spelled.statement place a) (spelled.then spelled.here (spelled.then s spelled.end))) = action-leads s

alternative-leads : {a : Alternative} {ts rest : List Spanned} → Spells (phrase (an_alternative a)) ts rest → Leads at_brace ts rest
alternative-leads {rest = rest} (spelled.by (spelled.alternative_event guard e ss) (spelled.then (spelled.this {k = k} {rest = ts} is) more)) = leads-bracket k ts rest is (turn-shrinks more)
alternative-leads {rest = rest} (spelled.by (spelled.alternative_call guard c ss) (spelled.then (spelled.this {k = k} {rest = ts} is) more)) = leads-bracket k ts rest is (turn-shrinks more)
alternative-leads {rest = rest} (spelled.by (spelled.alternative_else ss) (spelled.then (spelled.this {k = k} {rest = ts} is) more)) = leads-bracket k ts rest is (turn-shrinks more)

branch-leads : {b : Branch} {ts rest : List Spanned} → Spells (phrase (a_branch b)) ts rest → Leads at_brace ts rest
branch-leads (spelled.by (spelled.branch place a) (spelled.then spelled.here (spelled.then s spelled.end))) = alternative-leads s

one-statement : (d : ℕ) (s : Statement) (ts rest : List Spanned) → Known (ended (phrase (a_statement s))) ts rest → length ts ≤ d → Follows 30 rest
    → read.ended (read_statements.statement_by (block_in d)) ts ≡ Some (s, rest)
one-statement d s ts rest (at_its_end (by spells claim) ends) w f =
    ends-read (read_statements.statement_by (block_in d)) (phrase (a_statement s)) s ts rest (at_its_end (by spells claim) ends)
    (λ t. claim d w (loosen 27 30 rest (omega arith) f) ends)

lead-statement : (s : Statement) (ts rest : List Spanned) → Known (ended (phrase (a_statement s))) ts rest → Leads at_brace ts rest
lead-statement s ts rest (at_its_end (by spells claim) ends) = statement-leads spells

each-statement : (d : ℕ) → EachItem at_brace (read.ended (read_statements.statement_by (block_in d))) (λ s. ended (phrase (a_statement s))) d
each-statement d = record { leads = λ s ts rest t. lead-statement s ts rest t; reads = λ s ts rest t w f. one-statement d s ts rest t w f }

one-branch : (d : ℕ) (b : Branch) (ts rest : List Spanned) → Known (ended (phrase (a_branch b))) ts rest → length ts ≤ d → Follows 30 rest
    → read.ended (read_statements.branch_by (block_in d)) ts ≡ Some (b, rest)
one-branch d b ts rest (at_its_end (by spells claim) ends) w f =
    ends-read (read_statements.branch_by (block_in d)) (phrase (a_branch b)) b ts rest (at_its_end (by spells claim) ends) (λ t. claim d w (loosen 28 30 rest (omega arith) f))

lead-branch : (b : Branch) (ts rest : List Spanned) → Known (ended (phrase (a_branch b))) ts rest → Leads at_brace ts rest
lead-branch b ts rest (at_its_end (by spells claim) ends) = branch-leads spells

each-branch : (d : ℕ) → EachItem at_brace (read.ended (read_statements.branch_by (block_in d))) (λ b. ended (phrase (a_branch b))) d
each-branch d = record { leads = λ b ts rest t. lead-branch b ts rest t; reads = λ b ts rest t w f. one-branch d b ts rest t w f }

pub stops-brace : (c : Spanned) (rest : List Spanned) → Is c (token.Symbol mark.RightBrace) → Stops at_brace (c ∷ rest)
unfolding same_symbol
stops-brace c rest is = record { stopped = sees-here mark.RightBrace c rest is; no_gap = sees-by mark.Semicolon c rest _ is; follows = follows-at 30 c rest _ is (omega arith) }

block-by-reads : (p : Parser (List Statement)) (ss : List Statement) (o c : Spanned) (ts us rest : List Spanned) → Is o (token.Symbol mark.LeftBrace)
    → read.after_semicolons ts ≡ us → read.items at_brace (read.ended (read_statements.statement_by p)) us ≡ Some (ss, c ∷ rest) → Is c (token.Symbol mark.RightBrace)
    → read_statements.block_by p (o ∷ ts) ≡ Some (ss, rest)
unfolding read_statements.block_by
block-by-reads p ss o c ts us rest is gap h close = rw (expect-here mark.LeftBrace o ts is) (rw gap (rw h (rw (expect-here mark.RightBrace c rest close) refl)))

block-deeper : (d : ℕ) (ts : List Spanned) → block_in (suc d) ts ≡ read_statements.block_by (block_in d) ts
unfolding block_in
block-deeper d ts = refl

pub block-reads : {ss : List Statement} {ps : Parts} {ts rest : List Spanned} → Production (a_block ss) ps → KnownInTurn ps ts rest → Claim (a_block ss) ts rest
block-reads (spelled.block ss) (then (this {k = o} {rest = ts} is) (then {middle = us} gap (then s (then (this {k = c} {rest = rest} close) end)))) = λ d w.
    let less = leaves gap in
    by-turns (λ d. block_in d (o ∷ ts) ≡ Some (ss, rest)) d (omega (arith, w)) (λ m count.
    block-deeper m (o ∷ ts)
    ∙ block-by-reads (block_in m) ss o c ts us rest is
    (semicolons-read gap (items-begin at_brace _ (λ s. ended (phrase (a_statement s))) m (each-statement m) ss us (c ∷ rest) s (stops-brace c rest close)))
    (items-read at_brace _ (λ s. ended (phrase (a_statement s))) m (each-statement m) ss us (c ∷ rest) s (stops-brace c rest close)
    (omega (arith, w, less, count)) (length us) (omega arith) []) close)

branches_by : (p : Parser (List Statement)) (bs : List Branch) (o c : Spanned) (ts rest : List Spanned) → Is o (token.Symbol mark.LeftBrace)
    → read.items at_brace (read.ended (read_statements.branch_by p)) ts ≡ Some (bs, c ∷ rest) → Is c (token.Symbol mark.RightBrace)
    → read_statements.branches_by p (o ∷ ts) ≡ Some (bs, rest)
unfolding read_statements.branches_by
branches_by p bs o c ts rest is h close = rw (expect-here mark.LeftBrace o ts is) (rw h (rw (expect-here mark.RightBrace c rest close) refl))

pub branches-read : (d : ℕ) (bs : List Branch) (ts rest : List Spanned) → Known (branches bs) ts rest → length ts ≤ d → read_statements.branches_by (block_in d) ts ≡ Some (bs, rest)
branches-read d bs ts rest (all (then (this {k = o} {rest = us} is) (then s (then (this {k = c} close) end)))) w =
    branches_by (block_in d) bs o c us rest is
    (items-read at_brace _ (λ b. ended (phrase (a_branch b))) d (each-branch d) bs us (c ∷ rest) s (stops-brace c rest close)
    (omega (arith, w)) (length us) (omega arith) []) close

statement-by-reads : (p : Parser (List Statement)) (a : Action) (k : Spanned) (ts rest : List Spanned) → action_in p (k ∷ ts) ≡ Some (a, rest)
    → read_statements.statement_by p (k ∷ ts) ≡ Some (statement_at k.place a, rest)
unfolding read_statements.statement_by read.here
statement-by-reads p a k ts rest h = rw h refl

pub statement-reads : {s : Statement} {ps : Parts} {ts rest : List Spanned} → Production (a_statement s) ps → KnownInTurn ps ts rest → Claim (a_statement s) ts rest
statement-reads {rest = rest} (spelled.statement place a) (then (known.here {k = k} {rest = ts}) (then (by s claim) end)) = λ d w f ends.
    statement-by-reads (block_in d) a k ts rest (claim d w f ends)

branch-by-reads : (p : Parser (List Statement)) (a : Alternative) (k : Spanned) (ts rest : List Spanned) → read_statements.alternative_by p (k ∷ ts) ≡ Some (a, rest)
    → read_statements.branch_by p (k ∷ ts) ≡ Some (branch_at k.place a, rest)
unfolding read_statements.branch_by read.here
branch-by-reads p a k ts rest h = rw h refl

pub branch-reads : {b : Branch} {ps : Parts} {ts rest : List Spanned} → Production (a_branch b) ps → KnownInTurn ps ts rest → Claim (a_branch b) ts rest
branch-reads {rest = rest} (spelled.branch place a) (then (known.here {k = k} {rest = ts}) (then (by s claim) end)) = λ d w f.
    branch-by-reads (block_in d) a k ts rest (claim d w f)

-- ---- alternatives

guard-none : (c : Spanned) (rest : List Spanned) → Is c (token.Symbol mark.RightBracket) → read_statements.guard (c ∷ rest) ≡ Some (None, rest)
unfolding read_statements.guard
guard-none c rest is = rw (sees-here mark.RightBracket c rest is) refl

guard-some : (e : Expr) (ts : List Spanned) (c : Spanned) (rest : List Spanned) → sees mark.RightBracket ts ≡ false → expression ts ≡ Some (e, c ∷ rest)
    → Is c (token.Symbol mark.RightBracket) → read_statements.guard ts ≡ Some (Some e, rest)
unfolding read_statements.guard
guard-some e ts c rest none h is = rw none (rw h (rw (expect-here mark.RightBracket c rest is) refl))

guard-reads : (e : Option Expr) (ts : List Spanned) (c : Spanned) (rest : List Spanned) → Known (optional (λ e. phrase (an_operand level.Or e) ▸ nil) e) ts (c ∷ rest)
    → Is c (token.Symbol mark.RightBracket) → (sees_word word.Else ts ≡ false) × (read_statements.guard ts ≡ Some (e, rest))
guard-reads None ts c rest (all end) is = (sees-word-by word.Else c rest _ is, guard-none c rest is)
guard-reads (Some e) ts c rest (all (then (by s claim) end)) is =
    let begin = starts-operand s in (
      not-first-word word.Else ts (c ∷ rest) begin refl,
      guard-some e ts c rest (not-first-symbol mark.RightBracket ts (c ∷ rest) begin refl) (expression-reads ts (c ∷ rest) e claim (follows-at 20 c rest _ is (omega arith))) is,
    )

block-some : (p : Parser (List Statement)) (ss : List Statement) (ts rest : List Spanned) → sees mark.LeftBrace ts ≡ true → p ts ≡ Some (ss, rest)
    → read_statements.block_if_any p ts ≡ Some (Some ss, rest)
unfolding read_statements.block_if_any
block-some p ss ts rest some h = rw some (rw h refl)

block-none : (p : Parser (List Statement)) (ts : List Spanned) → sees mark.LeftBrace ts ≡ false → read_statements.block_if_any p ts ≡ Some (None, ts)
unfolding read_statements.block_if_any
block-none p ts none = rw none refl

block-if-any-reads : (d : ℕ) (ss : Option (List Statement)) (ts rest : List Spanned) → Known (optional (λ ss. phrase (a_block ss) ▸ nil) ss) ts rest
    → Follows 28 rest → length ts ≤ d → read_statements.block_if_any (block_in d) ts ≡ Some (ss, rest)
block-if-any-reads d None ts rest (all end) f w = block-none (block_in d) ts (no_symbol mark.LeftBrace 28 ts f (omega arith))
block-if-any-reads d (Some ss) ts rest (all (then (by s claim) end)) f w = block-some (block_in d) ss ts rest (block-begins s) (claim d w)

brace-follows : (ts : List Spanned) → sees mark.LeftBrace ts ≡ true → Follows 27 ts
brace-follows ts h = let begins = sees-is mark.LeftBrace ts h in rw begins.all (follows-at 27 begins.first (behind ts) _ begins.is (omega arith))

block-follows : (ss : Option (List Statement)) (ts rest : List Spanned) → Known (optional (λ ss. phrase (a_block ss) ▸ nil) ss) ts rest
    → Follows 28 rest → Follows 27 ts
block-follows None ts rest (all end) f = loosen 27 28 ts (omega arith) f
block-follows (Some ss) ts rest (all (then (by s claim) end)) f = brace-follows ts (block-begins s)

alternative-by-reads : (p : Parser (List Statement)) (g : Option Expr) (x : Alternative × List Spanned) (o : Spanned) (ts us : List Spanned) → Is o (token.Symbol mark.LeftBracket)
    → sees_word word.Else ts ≡ false → read_statements.guard ts ≡ Some (g, us) → read_statements.guarded_by p g us ≡ Some x → read_statements.alternative_by p (o ∷ ts) ≡ Some x
unfolding read_statements.alternative_by
alternative-by-reads p g x o ts us is none h more = rw (expect-here mark.LeftBracket o ts is) (rw none (rw h more))

otherwise-reads : (p : Parser (List Statement)) (ss : List Statement) (o e c : Spanned) (ts rest : List Spanned) → Is o (token.Symbol mark.LeftBracket)
    → Is e (token.Word word.Else) → Is c (token.Symbol mark.RightBracket) → p ts ≡ Some (ss, rest) → read_statements.alternative_by p (o ∷ e ∷ c ∷ ts) ≡ Some (alternative_form.Else ss, rest)
unfolding read_statements.alternative_by
otherwise-reads p ss o e c ts rest is other close h =
    rw (expect-here mark.LeftBracket o (e ∷ c ∷ ts) is) (rw (sees-word-here word.Else e (c ∷ ts) other) (rw (expect-here mark.RightBracket c ts close) (rw h refl)))

guarded-event : (p : Parser (List Statement)) (g : Option Expr) (e : Event) (ss : Option (List Statement)) (ts us rest : List Spanned) → calls ts ≡ false
    → read_events.an_event ts ≡ Some (e, us) → read_statements.block_if_any p us ≡ Some (ss, rest) → read_statements.guarded_by p g ts ≡ Some (alternative_form.Event g e ss, rest)
unfolding read_statements.guarded_by
guarded-event p g e ss ts us rest none h more = rw none (rw h (rw more refl))

guarded-call : (p : Parser (List Statement)) (g : Option Expr) (c : Call) (ss : Option (List Statement)) (ts us rest : List Spanned) → calls ts ≡ true
    → read_values.call ts ≡ Some (c, us) → read_statements.block_if_any p us ≡ Some (ss, rest) → read_statements.guarded_by p g ts ≡ Some (alternative_form.Call g c ss, rest)
unfolding read_statements.guarded_by
guarded-call p g c ss ts us rest some h more = rw some (rw h (rw more refl))

pub alternative-reads : {a : Alternative} {ps : Parts} {ts rest : List Spanned} → Production (an_alternative a) ps → KnownInTurn ps ts rest → Claim (an_alternative a) ts rest
alternative-reads {rest = rest} (spelled.alternative_event guard e ss) (then (this {k = o} {rest = ts} is) (then g (then (this {k = c} {rest = us} close) (then (by {rest = vs} s claim) (then b end))))) = λ d w f.
    let guarded = guard-reads guard ts c us g close in
    let one = leaves g in
    let two = shrinks s in
    alternative-by-reads (block_in d) guard _ o ts us is guarded.0 guarded.1
    (guarded-event (block_in d) guard e ss us vs rest claim.no_call (claim.reads (block-follows ss vs rest b f))
    (block-if-any-reads d ss vs rest b f (omega (arith, w, one, two))))
alternative-reads {rest = rest} (spelled.alternative_call guard e ss) (then (this {k = o} {rest = ts} is) (then g (then (this {k = c} {rest = us} close) (then (by {rest = vs} s claim) (then b end))))) = λ d w f.
    let guarded = guard-reads guard ts c us g close in
    let one = leaves g in
    let two = shrinks s in
    alternative-by-reads (block_in d) guard _ o ts us is guarded.0 guarded.1
    (guarded-call (block_in d) guard e ss us vs rest (call-calls s) claim (block-if-any-reads d ss vs rest b f (omega (arith, w, one, two))))
alternative-reads {rest = rest} (spelled.alternative_else ss) (then (this {k = o} is) (then (this {k = e} other) (then (this {k = c} {rest = ts} close) (then (by s claim) end)))) = λ d w f.
    otherwise-reads (block_in d) ss o e c ts rest is other close (claim d (omega (arith, w)))

-- ---- actions

alt-reads : (p : Parser (List Statement)) (bs : List Branch) (k : Spanned) (ts rest : List Spanned) → Is k (token.Word word.Alt) → read_statements.branches_by p ts ≡ Some (bs, rest)
    → read_statements.alt_by p (k ∷ ts) ≡ Some (form.Alt bs, rest)
unfolding read_statements.alt_by
alt-reads p bs k ts rest is h = rw (expect-word-here word.Alt k ts is) (rw h refl)

if-reads : (p : Parser (List Statement)) (c : Conditional) (cs : List Conditional) (ss : Option (List Statement)) (k : Spanned) (ts us vs rest : List Spanned)
    → Is k (token.Word word.If) → read_statements.conditional_by p ts ≡ Some (c, us) → read_statements.else_ifs_from (read_statements.conditional_by p) (length us) (c ∷ []) us ≡ Some (c ∷ cs, vs)
    → read_statements.else_block p vs ≡ Some (ss, rest) → read_statements.if_by p (k ∷ ts) ≡ Some (form.If (c ∷ cs) ss, rest)
unfolding read_statements.if_by
if-reads p c cs ss k ts us vs rest is h more other = rw (expect-word-here word.If k ts is) (rw h (rw more (rw other refl)))

while-reads : (p : Parser (List Statement)) (e : Expr) (ss : List Statement) (k : Spanned) (ts us rest : List Spanned) → Is k (token.Word word.While)
    → read_statements.in_brackets ts ≡ Some (e, us) → p us ≡ Some (ss, rest) → read_statements.while_by p (k ∷ ts) ≡ Some (form.While e ss, rest)
unfolding read_statements.while_by
while-reads p e ss k ts us rest is h more = rw (expect-word-here word.While k ts is) (rw h (rw more refl))

do-reads : (p : Parser (List Statement)) (e : Expr) (ss : List Statement) (k l : Spanned) (ts us rest : List Spanned) → Is k (token.Word word.Do)
    → p ts ≡ Some (ss, l ∷ us) → Is l (token.Word word.While) → read_statements.in_brackets us ≡ Some (e, rest) → read_statements.do_by p (k ∷ ts) ≡ Some (form.DoWhile ss e, rest)
unfolding read_statements.do_by
do-reads p e ss k l ts us rest is h again more = rw (expect-word-here word.Do k ts is) (rw h (rw (expect-word-here word.While l us again) (rw more refl)))

for-reads : (p : Parser (List Statement)) (start : ForStart) (e : Expr) (a : Assignment) (ss : List Statement) (k o b c l : Spanned) (ts us vs ws rest : List Spanned)
    → Is k (token.Word word.For) → Is o (token.Symbol mark.LeftParen) → read_statements.for_start_ ts ≡ Some (start, b ∷ us) → Is b (token.Symbol mark.Semicolon)
    → expression us ≡ Some (e, c ∷ vs) → Is c (token.Symbol mark.Semicolon) → read_actions.assignment vs ≡ Some (a, l ∷ ws) → Is l (token.Symbol mark.RightParen)
    → p ws ≡ Some (ss, rest) → read_statements.for_by p (k ∷ o ∷ ts) ≡ Some (form.For start e a ss, rest)
unfolding read_statements.for_by
for-reads p start e a ss k o b c l ts us vs ws rest is opening h1 is1 h2 is2 h3 is3 h4 =
    rw (expect-word-here word.For k (o ∷ ts) is) (rw (expect-here mark.LeftParen o ts opening) (rw h1 (rw (expect-here mark.Semicolon b us is1)
    (rw h2 (rw (expect-here mark.Semicolon c vs is2) (rw h3 (rw (expect-here mark.RightParen l ws is3) (rw h4 refl))))))))

return-nothing : (k : Spanned) (ts : List Spanned) → Is k (token.Word word.Return) → returns_nothing ts ≡ true → read_actions.return_ (k ∷ ts) ≡ Some (form.Return None, ts)
unfolding read_actions.return_
return-nothing k ts is some = rw (expect-word-here word.Return k ts is) (rw some refl)

return_value : (v : Value) (k : Spanned) (ts rest : List Spanned) → Is k (token.Word word.Return) → returns_nothing ts ≡ false → read_values.a_value ts ≡ Some (v, rest)
    → read_actions.return_ (k ∷ ts) ≡ Some (form.Return (Some v), rest)
unfolding read_actions.return_
return_value v k ts rest is none h = rw (expect-word-here word.Return k ts is) (rw none (rw h refl))

-- where one token ends in a brace, it is the brace
brace-first : {us rest : List Spanned} → EndsInBrace us rest → length us ≤ suc (length rest) → sees mark.RightBrace us ≡ true
brace-first (last {k = k} {rest = rest} is) few = sees-here mark.RightBrace k rest is
brace-first (earlier more) few = absurd (omega (arith, few, brace-shrinks more))

return-is-no-brace : {A : Type 0} (k : Spanned) (ts : List Spanned) → Is k (token.Word word.Return) → EndsInBrace (k ∷ ts) ts → A
return-is-no-brace k ts is brace = let never = sym (brace-first brace (omega arith)) ∙ sees-by mark.RightBrace k ts _ is in cc

or-right : (a b : Bool) → b ≡ true → (a || b) ≡ true
or-right true b h = refl
or-right false b h = h

ends-return : (k : Spanned) (ts : List Spanned) → Is k (token.Word word.Return) → Ends (k ∷ ts) ts → returns_nothing ts ≡ true
ends-return k ts is (in_brace brace) = return-is-no-brace k ts is brace
ends-return k ts is (before_semicolon {k = c} {rest = rest} semicolon) = rw (sees-here mark.Semicolon c rest semicolon) refl
ends-return k ts is (before_brace {k = c} {rest = rest} brace) = or-right (sees mark.Semicolon (c ∷ rest)) _ (sees-here mark.RightBrace c rest brace)

value-returns : {v : Value} (ts rest : List Spanned) → Spells (phrase (a_value v)) ts rest → returns_nothing ts ≡ false
unfolding same_symbol
value-returns ts rest s =
    rw (not-value-symbol mark.Semicolon ts rest (starts-value s) refl refl) (not-value-symbol mark.RightBrace ts rest (starts-value s) refl refl)

return-reads : (v : Option Value) (k : Spanned) (ts rest : List Spanned) → Is k (token.Word word.Return) → Known (optional (λ v. phrase (a_value v) ▸ nil) v) ts rest
    → Follows 27 rest → Ends (k ∷ ts) rest → read_actions.return_ (k ∷ ts) ≡ Some (form.Return v, rest)
return-reads None k ts rest is (all end) f ends = return-nothing k ts is (ends-return k ts is ends)
return-reads (Some v) k ts rest is (all (then (by s claim) end)) f ends =
    return_value v k ts rest is (value-returns ts rest s) (a-value-reads (by s claim) (loosen 20 27 rest (omega arith) f))

log-reads : (shown : List LogItem) (k o : Spanned) (ts rest : List Spanned) → Is k (token.Word word.Log) → Is o (token.Symbol mark.LeftParen)
    → read.separated_until mark.RightParen read_actions.a_log_item ts ≡ Some (shown, rest) → read_actions.log (k ∷ o ∷ ts) ≡ Some (form.Log shown, rest)
unfolding read_actions.log
log-reads shown k o ts rest is opening h = rw (expect-word-here word.Log k (o ∷ ts) is) (rw (expect-here mark.LeftParen o ts opening) (rw h refl))

verdict-here : (k : Spanned) (ts : List Spanned) (v : Verdict) → Is k (token.Word (verdict_word v)) → read_actions.a_verdict (k ∷ ts) ≡ Some (v, ts)
unfolding read_actions.a_verdict
verdict-here k ts verdict.None is = rw is refl
verdict-here k ts verdict.Pass is = rw is refl
verdict-here k ts verdict.Inconc is = rw is refl
verdict-here k ts verdict.Fail is = rw is refl
verdict-here k ts verdict.Error is = rw is refl

verdict-alone : (v : Verdict) (k o w c : Spanned) (rest : List Spanned) → Is k (token.Word word.Setverdict) → Is o (token.Symbol mark.LeftParen)
    → Is w (token.Word (verdict_word v)) → Is c (token.Symbol mark.RightParen) → read_actions.setverdict (k ∷ o ∷ w ∷ c ∷ rest) ≡ Some (form.Setverdict v [], rest)
unfolding read_actions.setverdict same_symbol
verdict-alone v k o w c rest is opening set close =
    rw (expect-word-here word.Setverdict k (o ∷ w ∷ c ∷ rest) is) (rw (expect-here mark.LeftParen o (w ∷ c ∷ rest) opening) (rw (verdict-here w (c ∷ rest) v set)
    (rw (sees-by mark.Comma c rest _ close) (rw (expect-here mark.RightParen c rest close) refl))))

verdict-because : (v : Verdict) (shown : List LogItem) (k o w m c : Spanned) (ts rest : List Spanned) → Is k (token.Word word.Setverdict) → Is o (token.Symbol mark.LeftParen)
    → Is w (token.Word (verdict_word v)) → Is m (token.Symbol mark.Comma) → read.separated read_actions.a_log_item ts ≡ Some (shown, c ∷ rest) → Is c (token.Symbol mark.RightParen)
    → read_actions.setverdict (k ∷ o ∷ w ∷ m ∷ ts) ≡ Some (form.Setverdict v shown, rest)
unfolding read_actions.setverdict
verdict-because v shown k o w m c ts rest is opening set comma h close =
    rw (expect-word-here word.Setverdict k (o ∷ w ∷ m ∷ ts) is) (rw (expect-here mark.LeftParen o (w ∷ m ∷ ts) opening) (rw (verdict-here w (m ∷ ts) v set)
    (rw (sees-here mark.Comma m ts comma) (rw h (rw (expect-here mark.RightParen c rest close) refl)))))

setverdict-reads : (v : Verdict) (shown : List LogItem) (k o c : Spanned) (ts rest : List Spanned) → Is k (token.Word word.Setverdict) → Is o (token.Symbol mark.LeftParen)
    → Known (commas (key (verdict_word v) ▸ each (λ i. phrase (a_log_item i)) shown)) ts (c ∷ rest) → Is c (token.Symbol mark.RightParen)
    → read_actions.setverdict (k ∷ o ∷ ts) ≡ Some (form.Setverdict v shown, rest)
setverdict-reads v [] k o c ts rest is opening (last_one (this {k = w} set)) close = verdict-alone v k o w c rest is opening set close
setverdict-reads v (i ∷ shown) k o c ts rest is opening (and_more {c = m} {middle = us} (this {k = w} set) comma more) close =
    verdict-because v (i ∷ shown) k o w m c us rest is opening set comma
    (commas-are-read read_actions.a_log_item (λ i. phrase (a_log_item i)) (length us) (each-log-item (length us)) (i ∷ shown) us (c ∷ rest) more (omega arith)
    (follows-at 25 c rest _ close (omega arith))) close

connect-reads : (a b : PortRef) (k o m c : Spanned) (ts us rest : List Spanned) → Is k (token.Word word.Connect) → Is o (token.Symbol mark.LeftParen)
    → read_actions.port_ref ts ≡ Some (a, m ∷ us) → Is m (token.Symbol mark.Comma) → read_actions.port_ref us ≡ Some (b, c ∷ rest) → Is c (token.Symbol mark.RightParen)
    → read_actions.connect (k ∷ o ∷ ts) ≡ Some (form.Connect a b, rest)
unfolding read_actions.connect
connect-reads a b k o m c ts us rest is opening h comma more close =
    rw (expect-word-here word.Connect k (o ∷ ts) is) (rw (expect-here mark.LeftParen o ts opening) (rw h (rw (expect-here mark.Comma m us comma)
    (rw more (rw (expect-here mark.RightParen c rest close) refl)))))

no-system : {p : PortRef} {ts rest : List Spanned} → Spells (phrase (a_port_ref p)) ts rest → sees_word word.System ts ≡ false
no-system {ts = ts} (spelled.by (spelled.port_ref c port) (spelled.then {middle = middle} s more)) = not-first-word word.System ts middle (starts-component s) refl

at-system : (q : List ℕ) (ts rest : List Spanned) → Known (system_port q) ts rest → sees_word word.System ts ≡ true
at-system q ts rest (all (then (this {k = w} {rest = us} system) more)) = sees-word-here word.System w us system

system-port-reads : (q : List ℕ) (ts rest : List Spanned) → Known (system_port q) ts rest → read_actions.system_port ts ≡ Some (q, rest)
unfolding read_actions.system_port
system-port-reads q ts rest (all (then (this {k = w} system) (then (this {k = e} colon) (then (this {k = n} name) end)))) =
    rw (expect-word-here word.System w (e ∷ n ∷ rest) system) (rw (expect-here mark.Colon e (n ∷ rest) colon) (name-here q n rest name))

port-first : (o : MapOperation) (p : PortRef) (q : List ℕ) (k b m c : Spanned) (ts us rest : List Spanned) → Is k (token.Word (map_word o)) → Is b (token.Symbol mark.LeftParen)
    → sees_word word.System ts ≡ false → read_actions.port_ref ts ≡ Some (p, m ∷ us) → Is m (token.Symbol mark.Comma) → read_actions.system_port us ≡ Some (q, c ∷ rest)
    → Is c (token.Symbol mark.RightParen) → read_actions.mapping (map_word o) o (k ∷ b ∷ ts) ≡ Some (form.Map (record { operation = o; port = p; system_port = q }), rest)
unfolding read_actions.mapping
port-first o p q k b m c ts us rest is opening other h comma more close =
    rw (expect-word-here (map_word o) k (b ∷ ts) is) (rw (expect-here mark.LeftParen b ts opening) (rw other (rw h (rw (expect-here mark.Comma m us comma)
    (rw more (rw (expect-here mark.RightParen c rest close) refl))))))

system-first : (o : MapOperation) (p : PortRef) (q : List ℕ) (k b m c : Spanned) (ts us rest : List Spanned) → Is k (token.Word (map_word o)) → Is b (token.Symbol mark.LeftParen)
    → sees_word word.System ts ≡ true → read_actions.system_port ts ≡ Some (q, m ∷ us) → Is m (token.Symbol mark.Comma) → read_actions.port_ref us ≡ Some (p, c ∷ rest)
    → Is c (token.Symbol mark.RightParen) → read_actions.mapping (map_word o) o (k ∷ b ∷ ts) ≡ Some (form.Map (record { operation = o; port = p; system_port = q }), rest)
unfolding read_actions.mapping
system-first o p q k b m c ts us rest is opening system h comma more close =
    rw (expect-word-here (map_word o) k (b ∷ ts) is) (rw (expect-here mark.LeftParen b ts opening) (rw system (rw h (rw (expect-here mark.Comma m us comma)
    (rw more (rw (expect-here mark.RightParen c rest close) refl))))))

mapping-at : (p : Parser (List Statement)) (o : MapOperation) (k : Spanned) (ts : List Spanned) → Is k (token.Word (map_word o))
    → action_in p (k ∷ ts) ≡ read_actions.mapping (map_word o) o (k ∷ ts)
mapping-at p operation.Map k ts is = action-at p k ts _ is
mapping-at p operation.Unmap k ts is = action-at p k ts _ is

send-reads : (port : List ℕ) (m : MessageTemplate) (to : Option ComponentRef) (w o c : Spanned) (ts us rest : List Spanned) → Is w (token.Word word.Send)
    → Is o (token.Symbol mark.LeftParen) → read_templates.message ts ≡ Some (m, c ∷ us) → Is c (token.Symbol mark.RightParen) → read_events.component_behind word.To us ≡ Some (to, rest)
    → read_actions.send port (w ∷ o ∷ ts) ≡ Some (form.Send (record { port = port; message = m; to = to }), rest)
unfolding read_actions.send
send-reads port m to w o c ts us rest is opening h close more =
    rw (expect-word-here word.Send w (o ∷ ts) is) (rw (expect-here mark.LeftParen o ts opening) (rw h (rw (expect-here mark.RightParen c us close) (rw more refl))))

start-call : (c : ComponentRef) (f : Call) (w o e : Spanned) (ts rest : List Spanned) → Is w (token.Word word.Start) → Is o (token.Symbol mark.LeftParen)
    → calls ts ≡ true → read_values.call ts ≡ Some (f, e ∷ rest) → Is e (token.Symbol mark.RightParen) → read_actions.start c (w ∷ o ∷ ts) ≡ Some (form.StartComponent c f, rest)
unfolding read_actions.start
start-call c f w o e ts rest is opening some h close =
    rw (expect-word-here word.Start w (o ∷ ts) is) (rw (sees-here mark.LeftParen o ts opening) (rw some (rw (expect-here mark.LeftParen o ts opening)
    (rw h (rw (expect-here mark.RightParen e rest close) refl)))))

start-alone : (bytes : List ℕ) (w : Spanned) (ts : List Spanned) → Is w (token.Word word.Start) → sees mark.LeftParen ts ≡ false
    → read_actions.start (component_ref.Named (record { name = bytes; fields = [] })) (w ∷ ts) ≡ Some (form.StartTimer bytes, ts)
unfolding read_actions.start
start-alone bytes w ts is none = rw (expect-word-here word.Start w ts is) (rw none refl)

float-no-call : (k : Spanned) (ts : List Spanned) → Is k token.Float → calls (k ∷ ts) ≡ false
unfolding calls
float-no-call k ts is = rw is refl

start-float : (bytes : List ℕ) (w o k c : Spanned) (ts : List Spanned) → Is w (token.Word word.Start) → Is o (token.Symbol mark.LeftParen) → Is k token.Float
    → Is c (token.Symbol mark.RightParen)
    → read_actions.start (component_ref.Named (record { name = bytes; fields = [] })) (w ∷ o ∷ k ∷ c ∷ ts) ≡ Some (form.StartTimer bytes, ts)
unfolding read_actions.start
start-float bytes w o k c ts is opening float close =
    rw (expect-word-here word.Start w (o ∷ k ∷ c ∷ ts) is) (rw (sees-here mark.LeftParen o (k ∷ c ∷ ts) opening) (rw (float-no-call k (c ∷ ts) float)
    (rw (float-here k (c ∷ ts) float) (rw (expect-here mark.RightParen c ts close) refl))))

deactivate-reads : (r : Option Reference) (k : Spanned) (ts rest : List Spanned) → Is k (token.Word word.Deactivate)
    → Known (optional (λ r. a_symbol mark.LeftParen ▸ phrase (a_reference r) ▸ a_symbol mark.RightParen ▸ nil) r) ts rest → Follows 27 rest
    → read_actions.deactivate (k ∷ ts) ≡ Some (form.Deactivate r, rest)
unfolding read_actions.deactivate
deactivate-reads None k ts rest is (all end) f = rw (expect-word-here word.Deactivate k ts is) (rw (no_symbol mark.LeftParen 27 ts f (omega arith)) refl)
deactivate-reads (Some r) k ts rest is (all (then (this {k = o} {rest = us} opening) (then (by s claim) (then (this {k = c} close) end)))) f =
    let inside = claim (no-field 30 (c ∷ rest) (follows-at 30 c rest _ close (omega arith)) (omega arith)) in
    deactivate-one r k o c us rest is opening inside close
  where
    deactivate-one : (r : Reference) (k o c : Spanned) (us rest : List Spanned) → Is k (token.Word word.Deactivate) → Is o (token.Symbol mark.LeftParen)
        → reference us ≡ Some (r, c ∷ rest) → Is c (token.Symbol mark.RightParen) → read_actions.deactivate (k ∷ o ∷ us) ≡ Some (form.Deactivate (Some r), rest)
    deactivate-one r k o c us rest is opening h close =
        rw (expect-word-here word.Deactivate k (o ∷ us) is) (rw (sees-here mark.LeftParen o us opening) (rw h (rw (expect-here mark.RightParen c rest close) refl)))

calling : (c : Call) (ts rest : List Spanned) → calls ts ≡ true → read_values.call ts ≡ Some (c, rest) → read_actions.named_action ts ≡ Some (form.Call c, rest)
unfolding read_actions.named_action
calling c ts rest some h = rw some (rw h refl)

call-heads : {c : Call} {ts rest : List Spanned} → Spells (phrase (a_call c)) ts rest → Heads ts
call-heads (spelled.by (spelled.with_arguments name vs) (spelled.then (spelled.this {k = k} {rest = ts} is) more)) = name-heads k ts name is

variables-act : {vs : Variables} {ts rest : List Spanned} (p : Parser (List Statement)) → Spells (phrase (the_variables vs)) ts rest → read_declarations.variables ts ≡ Some (vs, rest)
    → action_in p ts ≡ Some (form.Variables vs, rest)
variables-act p (spelled.by (spelled.variables n vs) (spelled.then (spelled.this {k = k} {rest = ts} is) more)) h =
    action-at p k ts _ is ∙ ap (λ o. read.and_then o (λ vs. read.pure (form.Variables vs))) h

constants-act : {cs : Constants} {ts rest : List Spanned} (p : Parser (List Statement)) → Spells (phrase (the_constants cs)) ts rest → read_declarations.constants ts ≡ Some (cs, rest)
    → action_in p ts ≡ Some (form.Constants cs, rest)
constants-act p (spelled.by (spelled.constants n cs) (spelled.then (spelled.this {k = k} {rest = ts} is) more)) h =
    action-at p k ts _ is ∙ ap (λ o. read.and_then o (λ cs. read.pure (form.Constants cs))) h

timers-act : {found : List Timer} {ts rest : List Spanned} (p : Parser (List Statement)) → Spells (phrase (the_timers found)) ts rest → read_declarations.timers ts ≡ Some (found, rest)
    → action_in p ts ≡ Some (form.Timers found, rest)
timers-act p (spelled.by (spelled.timers found) (spelled.then (spelled.this {k = k} {rest = ts} is) more)) h =
    action-at p k ts _ is ∙ ap (λ o. read.and_then o (λ all. read.pure (form.Timers all))) h

pub action-reads : {a : Action} {ps : Parts} {ts rest : List Spanned} → Production (an_action a) ps → KnownInTurn ps ts rest → Claim (an_action a) ts rest
unfolding same_symbol
action-reads {rest = rest} (spelled.act_variables vs) (then (by s claim) end) = λ d w f ends. variables-act (block_in d) s (claim (loosen 25 27 rest (omega arith) f))
action-reads {rest = rest} (spelled.act_constants cs) (then (by s claim) end) = λ d w f ends. constants-act (block_in d) s (claim (loosen 25 27 rest (omega arith) f))
action-reads {rest = rest} (spelled.act_timers found) (then (by s claim) end) = λ d w f ends. timers-act (block_in d) s (claim (loosen 25 27 rest (omega arith) f))
action-reads {rest = rest} (spelled.act_assign a) (then (by s claim) end) = λ d w f ends. claim.acts d (loosen 20 27 rest (omega arith) f)
action-reads {ts = ts} {rest = rest} (spelled.act_call c) (then (by s claim) end) = λ d w f ends. (call-heads s).acts (block_in d) ∙ calling c ts rest (call-calls s) claim
action-reads (spelled.act_event e) (then (by s claim) end) = λ d w f ends. claim.acts d f
action-reads {rest = rest} (spelled.act_alt bs) (then (this {k = k} {rest = ts} is) (then s end)) = λ d w f ends.
    action-at (block_in d) k ts _ is ∙ alt-reads (block_in d) bs k ts rest is (branches-read d bs ts rest s (omega (arith, w)))
action-reads spelled.act_repeat (then (this {k = k} {rest = ts} is) end) = λ d w f ends. action-at (block_in d) k ts _ is
action-reads {rest = rest} (spelled.act_if c cs ss) (then (this {k = k} {rest = ts} is) (then (by {rest = us} s claim) (then (all {rest = vs} more) (then other end)))) = λ d w f ends.
    let one = shrinks s in
    let two = leave more in
    action-at (block_in d) k ts _ is
    ∙ if-reads (block_in d) c cs ss k ts us vs rest is (claim d (omega (arith, w)))
    (else-ifs-read d cs us vs more (else-ends ss vs rest other f) (omega (arith, w, one)) (length us) (omega arith) (c ∷ []))
    (else-reads d ss vs rest other f (omega (arith, w, one, two)))
action-reads {rest = rest} (spelled.act_while e ss) (then (this {k = k} {rest = ts} is) (then {middle = us} s (then t end))) = λ d w f ends.
    let one = leaves s in
    action-at (block_in d) k ts _ is
    ∙ while-reads (block_in d) e ss k ts us rest is (in-brackets-reads e ts us s) (block-read d ss us rest t (omega (arith, w, one)))
action-reads {rest = rest} (spelled.act_do e ss) (then (this {k = k} {rest = ts} is) (then s (then (this {k = l} {rest = us} again) (then t end)))) = λ d w f ends.
    action-at (block_in d) k ts _ is
    ∙ do-reads (block_in d) e ss k l ts us rest is (block-read d ss ts (l ∷ us) s (omega (arith, w))) again (in-brackets-reads e us rest t)
action-reads {rest = rest} (spelled.act_for start e a ss) (then (this {k = k} is) (then (this {k = o} {rest = ts} opening) (then (by s1 claim1) (then (this {k = b} {rest = us} is1) (then (by s2 claim2) (then (this {k = c} {rest = vs} is2) (then (by s3 claim3) (then (this {k = l} {rest = ws} is3) (then t end))))))))) = λ d w f ends.
    let one = shrinks s1 in
    let two = shrinks s2 in
    let three = shrinks s3 in
    action-at (block_in d) k (o ∷ ts) _ is
    ∙ for-reads (block_in d) start e a ss k o b c l ts us vs ws rest is opening (claim1 (follows-at 25 b us _ is1 (omega arith))) is1
    (expression-reads us (c ∷ vs) e claim2 (follows-at 20 c vs _ is2 (omega arith))) is2
    (claim3.reads (follows-at 20 l ws _ is3 (omega arith))) is3 (block-read d ss ws rest t (omega (arith, w, one, two, three)))
action-reads {rest = rest} (spelled.act_return v) (then (this {k = k} {rest = ts} is) (then s end)) = λ d w f ends.
    action-at (block_in d) k ts _ is ∙ return-reads v k ts rest is s f ends
action-reads spelled.act_stop (then (this {k = k} {rest = ts} is) end) = λ d w f ends. action-at (block_in d) k ts _ is
action-reads (spelled.act_log shown) (then (this {k = k} is) (then (this {k = o} {rest = ts} opening) (then s (then (this {k = c} {rest = rest} close) end)))) = λ d w f ends.
    action-at (block_in d) k (o ∷ ts) _ is
    ∙ log-reads shown k o ts rest is opening (until-read mark.RightParen read_actions.a_log_item (λ i. phrase (a_log_item i)) (length ts) (each-log-item (length ts))
    (λ i ts rest s. log-closes i ts rest s) shown ts c rest s close (follows-at 25 c rest _ close (omega arith)) (omega arith))
action-reads (spelled.act_setverdict v shown) (then (this {k = k} is) (then (this {k = o} {rest = ts} opening) (then s (then (this {k = c} {rest = rest} close) end)))) = λ d w f ends.
    action-at (block_in d) k (o ∷ ts) _ is ∙ setverdict-reads v shown k o c ts rest is opening s close
action-reads (spelled.act_connect a b) (then (this {k = k} is) (then (this {k = o} {rest = ts} opening) (then (by s1 claim1) (then (this {k = m} {rest = us} comma) (then (by s2 claim2) (then (this {k = c} {rest = rest} close) end)))))) = λ d w f ends.
    action-at (block_in d) k (o ∷ ts) _ is ∙ connect-reads a b k o m c ts us rest is opening claim1 comma claim2 close
action-reads (spelled.act_map o p q) (then (this {k = k} is) (then (this {k = b} {rest = ts} opening) (then (by s claim) (then (this {k = m} {rest = us} comma) (then t (then (this {k = c} {rest = rest} close) end)))))) = λ d w f ends.
    mapping-at (block_in d) o k (b ∷ ts) is ∙ port-first o p q k b m c ts us rest is opening (no-system s) claim comma (system-port-reads q us (c ∷ rest) t) close
action-reads (spelled.act_map_turned o p q) (then (this {k = k} is) (then (this {k = b} {rest = ts} opening) (then s (then (this {k = m} {rest = us} comma) (then (by t claim) (then (this {k = c} {rest = rest} close) end)))))) = λ d w f ends.
    mapping-at (block_in d) o k (b ∷ ts) is ∙ system-first o p q k b m c ts us rest is opening (at-system q ts (m ∷ us) s) (system-port-reads q ts (m ∷ us) s) comma claim close
action-reads {rest = rest} (spelled.act_send port m to) (then (this {k = k} is) (then (this {k = e} dot) (then (this {k = w} sends) (then (this {k = o} {rest = ts} opening) (then (by s claim) (then (this {k = c} {rest = us} close) (then t end))))))) = λ d few f ends.
    (name-heads k (e ∷ w ∷ o ∷ ts) port is).acts (block_in d)
    ∙ named-member _ _ e (k ∷ e ∷ w ∷ o ∷ ts) (w ∷ o ∷ ts) (dot-no-call k e (w ∷ o ∷ ts) port is dot)
    (bare-component port k (e ∷ w ∷ o ∷ ts) is (word-field e w (o ∷ ts) _ dot sends)) dot
    (member_at _ w (o ∷ ts) _ sends ∙ send-reads port m to w o c ts us rest sends opening (claim (follows-at 22 c us _ close (omega arith))) close
    (component-behind-reads word.To to us rest t (no-word word.To 27 rest f (omega arith)) (no-field 27 rest f (omega arith))))
action-reads (spelled.act_start_component c call) (then (by {ts = us} s claim) (then (this {k = e} dot) (then (this {k = w} starts) (then (this {k = o} {rest = ts} opening) (then (by t call_claim) (then (this {k = l} {rest = rest} close) end)))))) = λ d few f ends.
    (component-heads s).acts (block_in d)
    ∙ named-member c _ e us (w ∷ o ∷ ts) (starts-no-call us (e ∷ w ∷ o ∷ ts) (starts-component s) (sees-by mark.LeftParen e (w ∷ o ∷ ts) _ dot))
    (claim (word-field e w (o ∷ ts) _ dot starts)) dot
    (member_at c w (o ∷ ts) _ starts ∙ start-call c call w o l ts rest starts opening (call-calls t) call_claim close)
action-reads (spelled.act_start_timer name) (then (this {k = k} is) (then (this {k = e} dot) (then (this {k = w} {rest = ts} starts) end))) = λ d few f ends.
    (name-heads k (e ∷ w ∷ ts) name is).acts (block_in d)
    ∙ named-member _ _ e (k ∷ e ∷ w ∷ ts) (w ∷ ts) (dot-no-call k e (w ∷ ts) name is dot)
    (bare-component name k (e ∷ w ∷ ts) is (word-field e w ts _ dot starts)) dot
    (member_at _ w ts _ starts ∙ start-alone name w ts starts (no_symbol mark.LeftParen 27 ts f (omega arith)))
action-reads (spelled.act_start_timer_with name) (then (this {k = k} is) (then (this {k = e} dot) (then (this {k = w} starts) (then (this {k = o} opening) (then (this {k = n} float) (then (this {k = c} {rest = ts} close) end)))))) = λ d few f ends.
    (name-heads k (e ∷ w ∷ o ∷ n ∷ c ∷ ts) name is).acts (block_in d)
    ∙ named-member _ _ e (k ∷ e ∷ w ∷ o ∷ n ∷ c ∷ ts) (w ∷ o ∷ n ∷ c ∷ ts) (dot-no-call k e (w ∷ o ∷ n ∷ c ∷ ts) name is dot)
    (bare-component name k (e ∷ w ∷ o ∷ n ∷ c ∷ ts) is (word-field e w (o ∷ n ∷ c ∷ ts) _ dot starts)) dot
    (member_at _ w (o ∷ n ∷ c ∷ ts) _ starts ∙ start-float name w o n c ts starts opening float close)
action-reads (spelled.act_stop_of c) (then (by {ts = us} s claim) (then (this {k = e} dot) (then (this {k = w} {rest = ts} stops) end))) = λ d few f ends.
    (component-heads s).acts (block_in d)
    ∙ named-member c _ e us (w ∷ ts) (starts-no-call us (e ∷ w ∷ ts) (starts-component s) (sees-by mark.LeftParen e (w ∷ ts) _ dot))
    (claim (word-field e w ts _ dot stops)) dot (member_at c w ts _ stops)
action-reads (spelled.act_activate c) (then (this {k = k} is) (then (this {k = o} {rest = ts} opening) (then s (then (this {k = e} {rest = rest} close) end)))) = λ d w f ends.
    action-at (block_in d) k (o ∷ ts) _ is ∙ ap (λ o. read.and_then o (λ c. read.pure (form.Activate c))) (activation-reads k o is opening s close)
action-reads {rest = rest} (spelled.act_deactivate r) (then (this {k = k} {rest = ts} is) (then s end)) = λ d w f ends.
    action-at (block_in d) k ts _ is ∙ deactivate-reads r k ts rest is s f
