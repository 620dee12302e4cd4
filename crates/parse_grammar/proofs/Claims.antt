-- What is read of the tokens that spell a phrase, where what follows ends it.
use Rattle.std.proofs.Common.{◌≡◌, ℕ, ◌≤◌, true, false, List, [], ◌∷◌, ◌++◌, length}
use Rattle.std.specs.Prelude.{Some, None}
use Rattle.ttcn_syntax.specs.Operators.{Joins}
use Rattle.ttcn_syntax.specs.declared.operator.Level.{Level}
use Rattle.ttcn_syntax.specs.declared.operator.Level.TheVariants as level
use Rattle.ttcn_syntax.specs.declared.token.Symbol.TheVariants as mark
use Rattle.ttcn_syntax.specs.declared.token.Token.{Token}
use Rattle.ttcn_syntax.specs.declared.token.Token.TheVariants as token
use Rattle.ttcn_syntax.specs.declared.token.Spanned.{Spanned}
use Rattle.ttcn_syntax.specs.declared.tree.expression.Expr.{Expr}
use Rattle.ttcn_syntax.specs.declared.tree.expression.Link.{Link}
use Rattle.ttcn_syntax.specs.declared.tree.template.Bound.{Bound}
use Rattle.ttcn_syntax.specs.declared.tree.template.Bound.TheVariants as bound
use Rattle.ttcn_syntax.specs.declared.tree.template.TemplateBody.{TemplateBody}
use Rattle.ttcn_syntax.specs.declared.tree.statement.Action.TheVariants as form
use Rattle.ttcn_syntax.specs.declared.tree.statement.Assignment.{Assignment}
use Rattle.ttcn_syntax.specs.declared.tree.statement.Event.{Event}
use Rattle.parse_reader.specs.declared.shape.Shape.{Shape}
use Rattle.parse_reader.specs.declared.shape.Shape.TheVariants as shape
use Rattle.parse_limits.specs.Groups.{Group, Is}
use Rattle.parse_grammar.specs.Grammar.{Ends, InTurn, Part, Parts, Phrase, Spells, a_block, a_bound, a_branch, a_body, a_call, a_component, a_conditional, a_constant, a_control, a_definition, a_field, a_field_template, a_field_value, a_for_start, a_kind, a_log_item, a_member, a_member_variable, a_message, a_module, a_number, a_parameter, a_pattern, a_port, a_port_ref, a_primary, a_reference, a_rhs, a_statement, a_template, a_timer, a_type, a_value, a_variable, a_with, an_action, an_alternative, an_assignment, an_enumerator, an_event, an_operand, at, commas, ended, group, items, nil, one, phrase, semicolons, the_constants, the_language, the_links, the_messages, the_parameters, the_timers, the_variables, turn, ◌▸◌}
use Rattle.parse_grammar.specs.Grammar as spelled
use Rattle.parse_reader.specs.internal.Reading.{sees}
use Rattle.parse_reader.specs.internal.Expressions.{inner, links_from, next_field, operand_of}
use Rattle.parse_reader.specs.internal.Values.{calls}
use Rattle.parse_reader.specs.internal.Templates.{body_of, infinite}
use Rattle.parse_reader.specs.internal.Expressions as read_expressions
use Rattle.parse_reader.specs.internal.Values as read_values
use Rattle.parse_reader.specs.internal.Templates as read_templates
use Rattle.parse_reader.specs.internal.Declarations as read_declarations
use Rattle.parse_reader.specs.internal.Events as read_events
use Rattle.parse_reader.specs.internal.Actions as read_actions
use Rattle.parse_reader.specs.internal.Statements as read_statements
use Rattle.parse_reader.specs.internal.Definitions as read_definitions
use Rattle.parse_reader.specs.Modules as read_modules
use Rattle.parse_grammar.proofs.Follow.{Follows, number}
use Rattle.parse_grammar.proofs.Spellings.{shrinks, turn-shrinks}

-- ---- expressions

-- a primary in brackets begins the operand: within them stands an expression, and behind them the operand goes on
pub record Opened (l : Level) (e : Expr) (ts rest : List Spanned) : Type 0 where
  pub opening : Spanned
  pub inside : List Spanned
  pub all : ts ≡ opening ∷ inside
  pub is_opening : Is opening (token.Symbol mark.LeftParen)
  pub first : Expr
  pub closing : Spanned
  pub middle : List Spanned
  pub infinity : infinite inside ≡ false
  pub shaped : (d : ℕ) → length inside ≤ d → read_templates.shape_in d inside ≡ Some (shape.Expr first, closing ∷ middle)
  pub is_closing : Is closing (token.Symbol mark.RightParen)
  -- no more is left behind the operand than behind the bracket
  pub fewer : length rest ≤ length middle
  pub goes_on : (d : ℕ) → length middle ≤ d → Follows (number l) rest → operand_of (inner d) l (Some first) middle ≡ Some (e, rest)

pub record PrimaryRead (e : Expr) (ts rest : List Spanned) : Type 0 where
  pub reads : (d : ℕ) → length ts ≤ d → Follows 3 rest → read_expressions.primary (inner d) ts ≡ Some (e, rest)
  pub opened : sees mark.LeftParen ts ≡ true → Opened level.Sign e ts rest

pub record OperandRead (l : Level) (e : Expr) (ts rest : List Spanned) : Type 0 where
  pub reads : (d : ℕ) → length ts ≤ d → Follows (number l) rest → operand_of (inner d) l None ts ≡ Some (e, rest)
  pub opened : sees mark.LeftParen ts ≡ true → Opened l e ts rest

-- ---- templates

-- the shape whose body it is
pub record Shaped (d : ℕ) (b : TemplateBody) (ts rest : List Spanned) : Type 0 where
  pub found : Shape
  pub is : body_of found ≡ b
  pub reads : read_templates.shape_in d ts ≡ Some (found, rest)

pub data BoundRead : Bound → List Spanned → List Spanned → Type 0 where
  without_end : {ts rest : List Spanned} → infinite ts ≡ true → read_templates.a_bound ts ≡ Some (bound.Infinity, rest) → BoundRead bound.Infinity ts rest
  with_end : {e : Expr} {ts rest : List Spanned} → infinite ts ≡ false → (Follows 20 rest → read_templates.a_bound ts ≡ Some (bound.Expr e, rest))
      → ((d : ℕ) → length ts ≤ d → Follows 20 rest → read_templates.shape_in d ts ≡ Some (shape.Expr e, rest)) → BoundRead (bound.Expr e) ts rest

-- ---- statements

-- an assignment, also where it is the whole statement
pub record AssignmentRead (a : Assignment) (ts rest : List Spanned) : Type 0 where
  pub reads : Follows 20 rest → read_actions.assignment ts ≡ Some (a, rest)
  pub acts : (d : ℕ) → Follows 20 rest → read_statements.action_in (read_statements.block_in d) ts ≡ Some (form.Assign a, rest)

-- an event, also where it is the whole statement
pub record EventRead (e : Event) (ts rest : List Spanned) : Type 0 where
  pub no_call : calls ts ≡ false
  pub reads : Follows 27 rest → read_events.an_event ts ≡ Some (e, rest)
  pub acts : (d : ℕ) → Follows 27 rest → read_statements.action_in (read_statements.block_in d) ts ≡ Some (form.Event e, rest)

-- ---- all phrases

abbrev pub Claim : Phrase → List Spanned → List Spanned → Type 0
Claim (a_reference r) ts rest = next_field rest ≡ None → read_expressions.reference ts ≡ Some (r, rest)
Claim (a_component c) ts rest = next_field rest ≡ None → read_expressions.component ts ≡ Some (c, rest)
Claim (a_primary e) ts rest = PrimaryRead e ts rest
Claim (an_operand l e) ts rest = OperandRead l e ts rest
Claim (the_links l ls) ts rest = (i : Level) → Joins l i → (d : ℕ) → length ts ≤ d → Follows (number l) rest → (n : ℕ) → length ls ≤ n → (found : List Link)
    → links_from (operand_of (inner d) i None) l n found ts ≡ Some (found ++ ls, rest)
Claim (a_type n) ts rest = read_values.a_type ts ≡ Some (n, rest)
Claim (a_value v) ts rest = (d : ℕ) → length ts ≤ d → Follows 20 rest → read_values.value_in d ts ≡ Some (v, rest)
Claim (a_field_value f) ts rest = (d : ℕ) → length ts ≤ d → Follows 20 rest → read_values.field_value_by (read_values.value_in d) ts ≡ Some (f, rest)
Claim (a_call c) ts rest = read_values.call ts ≡ Some (c, rest)
Claim (a_rhs r) ts rest = Follows 20 rest → read_values.a_rhs ts ≡ Some (r, rest)
Claim (a_template t) ts rest = (d : ℕ) → length ts ≤ d → Follows 22 rest → read_templates.template_by (read_templates.shape_in d) ts ≡ Some (t, rest)
Claim (a_field_template f) ts rest = (d : ℕ) → length ts ≤ d → Follows 22 rest → read_templates.field_template_by (read_templates.template_by (read_templates.shape_in d)) ts ≡ Some (f, rest)
Claim (a_body b) ts rest = (d : ℕ) → length ts ≤ d → Follows 20 rest → Shaped d b ts rest
Claim (a_pattern b) ts rest = (d : ℕ) → length ts ≤ d → read_templates.shape_in d ts ≡ Some (shape.Pattern b, rest)
Claim (a_bound b) ts rest = BoundRead b ts rest
Claim (a_message m) ts rest = Follows 22 rest → read_templates.message ts ≡ Some (m, rest)
Claim (a_variable v) ts rest = Follows 20 rest → read_declarations.variable ts ≡ Some (v, rest)
Claim (the_variables vs) ts rest = Follows 25 rest → read_declarations.variables ts ≡ Some (vs, rest)
Claim (a_constant c) ts rest = Follows 20 rest → read_declarations.constant ts ≡ Some (c, rest)
Claim (the_constants cs) ts rest = Follows 25 rest → read_declarations.constants ts ≡ Some (cs, rest)
Claim (a_timer t) ts rest = Follows 20 rest → read_declarations.timer ts ≡ Some (t, rest)
Claim (the_timers all) ts rest = Follows 25 rest → read_declarations.timers ts ≡ Some (all, rest)
Claim (an_assignment a) ts rest = AssignmentRead a ts rest
-- a port is one of two rows of tokens
Claim (a_port p) ts rest = Unit {0}
Claim (an_event e) ts rest = EventRead e ts rest
Claim (a_log_item i) ts rest = Follows 20 rest → read_actions.a_log_item ts ≡ Some (i, rest)
Claim (a_port_ref r) ts rest = read_actions.port_ref ts ≡ Some (r, rest)
Claim (a_for_start s) ts rest = Follows 25 rest → read_statements.for_start_ ts ≡ Some (s, rest)
Claim (a_conditional c) ts rest = (d : ℕ) → length ts ≤ d → read_statements.conditional_by (read_statements.block_in d) ts ≡ Some (c, rest)
Claim (an_action a) ts rest = (d : ℕ) → length ts ≤ d → Follows 27 rest → Ends ts rest → read_statements.action_in (read_statements.block_in d) ts ≡ Some (a, rest)
Claim (a_statement s) ts rest = (d : ℕ) → length ts ≤ d → Follows 27 rest → Ends ts rest → read_statements.statement_by (read_statements.block_in d) ts ≡ Some (s, rest)
Claim (an_alternative a) ts rest = (d : ℕ) → length ts ≤ d → Follows 28 rest → read_statements.alternative_by (read_statements.block_in d) ts ≡ Some (a, rest)
Claim (a_branch b) ts rest = (d : ℕ) → length ts ≤ d → Follows 28 rest → read_statements.branch_by (read_statements.block_in d) ts ≡ Some (b, rest)
Claim (a_block ss) ts rest = (d : ℕ) → length ts ≤ d → read_statements.block_in d ts ≡ Some (ss, rest)
Claim (a_field f) ts rest = Follows 24 rest → read_definitions.field ts ≡ Some (f, rest)
Claim (a_number n) ts rest = read_definitions.a_number ts ≡ Some (n, rest)
Claim (an_enumerator e) ts rest = Follows 20 rest → read_definitions.enumerator ts ≡ Some (e, rest)
Claim (the_messages m) ts rest = Follows 25 rest → read_definitions.messages ts ≡ Some (m, rest)
Claim (a_member_variable v) ts rest = Follows 20 rest → read_definitions.member_variable ts ≡ Some (v, rest)
Claim (a_member m) ts rest = Follows 25 rest → read_definitions.a_member ts ≡ Some (m, rest)
Claim (a_parameter p) ts rest = read_definitions.parameter ts ≡ Some (p, rest)
Claim (the_parameters ps) ts rest = read_definitions.parameters ts ≡ Some (ps, rest)
Claim (a_kind k) ts rest = Follows 25 rest → read_definitions.a_kind ts ≡ Some (k, rest)
Claim (a_definition d) ts rest = Follows 25 rest → read_definitions.definition ts ≡ Some (d, rest)
Claim the_language ts rest = Follows 25 rest → read_modules.language ts ≡ Some (tt, rest)
Claim a_with ts rest = Follows 30 rest → read_modules.with_ ts ≡ Some (tt, rest)
Claim a_control ts rest = sees mark.RightBrace rest ≡ true → read_modules.control ts ≡ Some (tt, rest)
Claim (a_module m) ts rest = rest ≡ [] → read_modules.whole ts ≡ Some (m, rest)

-- ---- what is spelled, with the claims of its phrases

mutual
  pub data Known : Part → List Spanned → List Spanned → Type 0 where
    this : {t : Token} {k : Spanned} {rest : List Spanned} → Is k t → Known (one t) (k ∷ rest) rest
    here : {k : Spanned} {rest : List Spanned} → Known (at k.place) (k ∷ rest) (k ∷ rest)
    by : {p : Phrase} {ts rest : List Spanned} → Spells (phrase p) ts rest → Claim p ts rest → Known (phrase p) ts rest
    all : {ps : Parts} {ts rest : List Spanned} → KnownInTurn ps ts rest → Known (turn ps) ts rest
    last_one : {p : Part} {ts rest : List Spanned} → Known p ts rest → Known (commas (p ▸ nil)) ts rest
    and_more : {p q : Part} {ps : Parts} {c : Spanned} {ts middle rest : List Spanned} → Known p ts (c ∷ middle)
        → Is c (token.Symbol mark.Comma) → Known (commas (q ▸ ps)) middle rest → Known (commas (p ▸ q ▸ ps)) ts rest
    no_item : {ts : List Spanned} → Known (items nil) ts ts
    next_item : {p : Part} {ps : Parts} {ts middle behind rest : List Spanned} → Known p ts middle → Known semicolons middle behind
        → Known (items ps) behind rest → Known (items (p ▸ ps)) ts rest
    at_its_end : {p : Part} {ts rest : List Spanned} → Known p ts rest → Ends ts rest → Known (ended p) ts rest
    no_semicolon : {ts : List Spanned} → Known semicolons ts ts
    next_semicolon : {k : Spanned} {ts rest : List Spanned} → Is k (token.Symbol mark.Semicolon) → Known semicolons ts rest
        → Known semicolons (k ∷ ts) rest
    balanced : {ts rest : List Spanned} → Group ts rest → Known group ts rest

  -- parts one behind the other
  pub data KnownInTurn : Parts → List Spanned → List Spanned → Type 0 where
    end : {ts : List Spanned} → KnownInTurn nil ts ts
    then : {p : Part} {ps : Parts} {ts middle rest : List Spanned} → Known p ts middle → KnownInTurn ps middle rest → KnownInTurn (p ▸ ps) ts rest

-- what is spelled, without them
mutual
  pub spelling : {p : Part} {ts rest : List Spanned} → Known p ts rest → Spells p ts rest
  spelling (this is) = spelled.this is
  spelling here = spelled.here
  spelling (by s claim) = s
  spelling (all parts) = spelled.all (spellings parts)
  spelling (last_one s) = spelled.last_one (spelling s)
  spelling (and_more s is more) = spelled.and_more (spelling s) is (spelling more)
  spelling no_item = spelled.no_item
  spelling (next_item s gap more) = spelled.next_item (spelling s) (spelling gap) (spelling more)
  spelling (at_its_end s ends) = spelled.at_its_end (spelling s) ends
  spelling no_semicolon = spelled.no_semicolon
  spelling (next_semicolon is s) = spelled.next_semicolon is (spelling s)
  spelling (balanced g) = spelled.balanced g

  pub spellings : {ps : Parts} {ts rest : List Spanned} → KnownInTurn ps ts rest → InTurn ps ts rest
  spellings end = spelled.end
  spellings (then s more) = spelled.then (spelling s) (spellings more)

-- it leaves no more tokens than there were
pub leaves : {p : Part} {ts rest : List Spanned} → Known p ts rest → length rest ≤ length ts
leaves s = shrinks (spelling s)

pub leave : {ps : Parts} {ts rest : List Spanned} → KnownInTurn ps ts rest → length rest ≤ length ts
leave s = turn-shrinks (spellings s)
