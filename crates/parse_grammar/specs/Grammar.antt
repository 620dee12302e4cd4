-- The grammar (ES 201 873-1, annex A, cut to this subset), production by production.
use Rattle.std.specs.Prelude.{◌≡◌, ℕ, List, [], ◌∷◌, Option, Some, None, true, false}
use Rattle.ttcn_syntax.specs.Operators.{Joins, level_of, written}
use Rattle.ttcn_syntax.specs.declared.place.Span.{Span}
use Rattle.ttcn_syntax.specs.declared.operator.Level.{Level}
use Rattle.ttcn_syntax.specs.declared.operator.Level.TheVariants as level
use Rattle.ttcn_syntax.specs.declared.operator.Operator.{Operator}
use Rattle.ttcn_syntax.specs.declared.operator.Sign.TheVariants as sign
use Rattle.ttcn_syntax.specs.declared.token.Symbol.{Symbol}
use Rattle.ttcn_syntax.specs.declared.token.Symbol.TheVariants as mark
use Rattle.ttcn_syntax.specs.declared.token.Token.{Token}
use Rattle.ttcn_syntax.specs.declared.token.Token.TheVariants as token
use Rattle.ttcn_syntax.specs.declared.token.Spanned.{Spanned}
use Rattle.ttcn_syntax.specs.declared.token.Word.{Word}
use Rattle.ttcn_syntax.specs.declared.token.Word.TheVariants as word
use Rattle.ttcn_syntax.specs.declared.tree.expression.ComponentRef.{ComponentRef}
use Rattle.ttcn_syntax.specs.declared.tree.expression.ComponentRef.TheVariants as component_ref
use Rattle.ttcn_syntax.specs.declared.tree.expression.Expr.{Expr}
use Rattle.ttcn_syntax.specs.declared.tree.expression.Expr.TheVariants as expr
use Rattle.ttcn_syntax.specs.declared.tree.expression.Link.{Link}
use Rattle.ttcn_syntax.specs.declared.tree.expression.Reference.{Reference}
use Rattle.ttcn_syntax.specs.declared.tree.value.Call.{Call}
use Rattle.ttcn_syntax.specs.declared.tree.value.FieldValue.{FieldValue}
use Rattle.ttcn_syntax.specs.declared.tree.value.Rhs.{Rhs}
use Rattle.ttcn_syntax.specs.declared.tree.value.Rhs.TheVariants as rhs
use Rattle.ttcn_syntax.specs.declared.tree.value.TypeName.{TypeName}
use Rattle.ttcn_syntax.specs.declared.tree.value.TypeName.TheVariants as type_name
use Rattle.ttcn_syntax.specs.declared.tree.value.Value.{Value}
use Rattle.ttcn_syntax.specs.declared.tree.value.Value.TheVariants as value
use Rattle.ttcn_syntax.specs.declared.tree.template.Bound.{Bound}
use Rattle.ttcn_syntax.specs.declared.tree.template.Bound.TheVariants as bound
use Rattle.ttcn_syntax.specs.declared.tree.template.FieldTemplate.{FieldTemplate}
use Rattle.ttcn_syntax.specs.declared.tree.template.MessageTemplate.{MessageTemplate}
use Rattle.ttcn_syntax.specs.declared.tree.template.Template.{Template}
use Rattle.ttcn_syntax.specs.declared.tree.template.TemplateBody.{TemplateBody}
use Rattle.ttcn_syntax.specs.declared.tree.template.TemplateBody.TheVariants as body
use Rattle.ttcn_syntax.specs.declared.tree.statement.Action.{Action}
use Rattle.ttcn_syntax.specs.declared.tree.statement.Action.TheVariants as form
use Rattle.ttcn_syntax.specs.declared.tree.statement.Alternative.{Alternative}
use Rattle.ttcn_syntax.specs.declared.tree.statement.Alternative.TheVariants as alternative_form
use Rattle.ttcn_syntax.specs.declared.tree.statement.Assignment.{Assignment}
use Rattle.ttcn_syntax.specs.declared.tree.statement.Branch.{Branch}
use Rattle.ttcn_syntax.specs.declared.tree.statement.Conditional.{Conditional}
use Rattle.ttcn_syntax.specs.declared.tree.statement.Constant.{Constant}
use Rattle.ttcn_syntax.specs.declared.tree.statement.Constants.{Constants}
use Rattle.ttcn_syntax.specs.declared.tree.statement.Event.{Event}
use Rattle.ttcn_syntax.specs.declared.tree.statement.Event.TheVariants as event
use Rattle.ttcn_syntax.specs.declared.tree.statement.ForStart.{ForStart}
use Rattle.ttcn_syntax.specs.declared.tree.statement.ForStart.TheVariants as for_start
use Rattle.ttcn_syntax.specs.declared.tree.statement.LogItem.{LogItem}
use Rattle.ttcn_syntax.specs.declared.tree.statement.LogItem.TheVariants as log_item
use Rattle.ttcn_syntax.specs.declared.tree.statement.MapOperation.{MapOperation}
use Rattle.ttcn_syntax.specs.declared.tree.statement.MapOperation.TheVariants as operation
use Rattle.ttcn_syntax.specs.declared.tree.statement.PortRef.{PortRef}
use Rattle.ttcn_syntax.specs.declared.tree.statement.PortSelector.{PortSelector}
use Rattle.ttcn_syntax.specs.declared.tree.statement.PortSelector.TheVariants as selector
use Rattle.ttcn_syntax.specs.declared.tree.statement.Statement.{Statement}
use Rattle.ttcn_syntax.specs.declared.tree.statement.Timer.{Timer}
use Rattle.ttcn_syntax.specs.declared.tree.statement.Variable.{Variable}
use Rattle.ttcn_syntax.specs.declared.tree.statement.Variables.{Variables}
use Rattle.ttcn_syntax.specs.declared.tree.statement.Verdict.{Verdict}
use Rattle.ttcn_syntax.specs.declared.tree.statement.Verdict.TheVariants as verdict
use Rattle.ttcn_syntax.specs.declared.tree.definition.Definition.{Definition}
use Rattle.ttcn_syntax.specs.declared.tree.definition.DefinitionKind.{DefinitionKind}
use Rattle.ttcn_syntax.specs.declared.tree.definition.DefinitionKind.TheVariants as kind
use Rattle.ttcn_syntax.specs.declared.tree.definition.Direction.{Direction}
use Rattle.ttcn_syntax.specs.declared.tree.definition.Direction.TheVariants as direction
use Rattle.ttcn_syntax.specs.declared.tree.definition.EnumNumber.{EnumNumber}
use Rattle.ttcn_syntax.specs.declared.tree.definition.Enumerator.{Enumerator}
use Rattle.ttcn_syntax.specs.declared.tree.definition.Field.{Field}
use Rattle.ttcn_syntax.specs.declared.tree.definition.Member.{Member}
use Rattle.ttcn_syntax.specs.declared.tree.definition.Member.TheVariants as member
use Rattle.ttcn_syntax.specs.declared.tree.definition.MemberVariable.{MemberVariable}
use Rattle.ttcn_syntax.specs.declared.tree.definition.Module.{Module}
use Rattle.ttcn_syntax.specs.declared.tree.definition.Parameter.{Parameter}
use Rattle.ttcn_syntax.specs.declared.tree.definition.PortMessages.{PortMessages}
use Rattle.parse_limits.specs.Groups.{Group, Is}
use Rattle.parse_reader.specs.Trees.{link, field_value, template_of, field_template, statement_at, branch_at, conditional}

-- ---- what a production is made of

-- what tokens may spell, with its tree
pub data Phrase : Type 0 where
  -- expressions: a reference `r.f.g`, a component, an operand without operators, the operands of a level with the
  -- operators between them, and operators of a level with the operands behind them
  a_reference : Reference → Phrase
  a_component : ComponentRef → Phrase
  a_primary : Expr → Phrase
  an_operand : Level → Expr → Phrase
  the_links : Level → List Link → Phrase
  -- values
  a_type : TypeName → Phrase
  a_value : Value → Phrase
  a_field_value : FieldValue → Phrase
  a_call : Call → Phrase
  a_rhs : Rhs → Phrase
  -- templates: a body, and one that is no expression
  a_template : Template → Phrase
  a_field_template : FieldTemplate → Phrase
  a_body : TemplateBody → Phrase
  a_pattern : TemplateBody → Phrase
  a_bound : Bound → Phrase
  a_message : MessageTemplate → Phrase
  -- statements
  a_variable : Variable → Phrase
  the_variables : Variables → Phrase
  a_constant : Constant → Phrase
  the_constants : Constants → Phrase
  a_timer : Timer → Phrase
  the_timers : List Timer → Phrase
  an_assignment : Assignment → Phrase
  a_port : PortSelector → Phrase
  an_event : Event → Phrase
  a_log_item : LogItem → Phrase
  a_port_ref : PortRef → Phrase
  a_for_start : ForStart → Phrase
  a_conditional : Conditional → Phrase
  an_action : Action → Phrase
  a_statement : Statement → Phrase
  an_alternative : Alternative → Phrase
  a_branch : Branch → Phrase
  a_block : List Statement → Phrase
  -- definitions
  a_field : Field → Phrase
  a_number : EnumNumber → Phrase
  an_enumerator : Enumerator → Phrase
  the_messages : PortMessages → Phrase
  a_member_variable : MemberVariable → Phrase
  a_member : Member → Phrase
  a_parameter : Parameter → Phrase
  the_parameters : List Parameter → Phrase
  a_kind : DefinitionKind → Phrase
  a_definition : Definition → Phrase
  -- a module, and what leaves no trace in its tree
  the_language : Phrase
  a_with : Phrase
  a_control : Phrase
  a_module : Module → Phrase

-- what stands on the right of a production
mutual
  pub data Part : Type 0 where
    one : Token → Part
    phrase : Phrase → Part
    -- nothing, but the next token stands at this place
    at : Span → Part
    -- X Y Z
    turn : Parts → Part
    -- X {',' X}
    commas : Parts → Part
    -- {X {';'}}
    items : Parts → Part
    -- X, which ends with '}', or behind which ';' or '}' stands
    ended : Part → Part
    -- {';'}
    semicolons : Part
    -- braces with balanced brackets inside
    group : Part

  -- parts one behind the other
  infixr 5 ◌▸◌
  pub data Parts : Type 0 where
    nil : Parts
    ◌▸◌ : Part → Parts → Parts

-- a part for each
abbrev pub each : {A : Type 0} → (A → Part) → List A → Parts
each part [] = nil
each part (x ∷ xs) = part x ▸ each part xs

-- a part that is this symbol
abbrev pub sym : Symbol → Part
sym s = one (token.Symbol s)

-- a part that is this word
abbrev pub key : Word → Part
key w = one (token.Word w)

-- a part that is this name
abbrev pub id : List ℕ → Part
id name = one (token.Id name)

-- [X {',' X}]
abbrev pub separated : Parts → Part
separated nil = turn nil
separated (p ▸ ps) = commas (p ▸ ps)

-- [X]
abbrev pub optional : {A : Type 0} → (A → Parts) → Option A → Part
optional parts None = turn nil
optional parts (Some a) = turn (parts a)

-- ---- words

-- how a verdict is written
abbrev pub verdict_word : Verdict → Word
verdict_word verdict.None = word.None
verdict_word verdict.Pass = word.Pass
verdict_word verdict.Inconc = word.Inconc
verdict_word verdict.Fail = word.Fail
verdict_word verdict.Error = word.Error

-- the word of each statement about mappings
abbrev pub map_word : MapOperation → Word
map_word operation.Map = word.Map
map_word operation.Unmap = word.Unmap

-- the word of each direction
abbrev pub direction_word : Direction → Word
direction_word direction.In = word.In
direction_word direction.Out = word.Out
direction_word direction.Inout = word.Inout

-- ---- parts that come again

-- '.' Id
abbrev pub dotted : List ℕ → Part
dotted field = turn (sym mark.Dot ▸ id field ▸ nil)

-- '(' Expr ')'
abbrev pub in_brackets : Expr → Part
in_brackets e = turn (sym mark.LeftParen ▸ phrase (an_operand level.Or e) ▸ sym mark.RightParen ▸ nil)

-- 'system' ':' Id
abbrev pub system_port : List ℕ → Part
system_port port = turn (key word.System ▸ sym mark.Colon ▸ id port ▸ nil)

-- ':=' X
abbrev pub set_to : {A : Type 0} → (A → Phrase) → A → Parts
set_to what a = sym mark.Assign ▸ phrase (what a) ▸ nil

-- 'else' 'if' '(' Expr ')' Block
abbrev pub else_if : Conditional → Part
else_if c = turn (key word.Else ▸ key word.If ▸ phrase (a_conditional c) ▸ nil)

-- 'runs' 'on' Id
abbrev pub runs_on : List ℕ → Parts
runs_on component = key word.Runs ▸ key word.On ▸ id component ▸ nil

-- Into = '->' ('value' Ref ['sender' Ref] | 'sender' Ref), which may be missing
abbrev pub into : Option Reference → Option Reference → Part
into None None = turn nil
into None (Some sender) = turn (sym mark.Arrow ▸ key word.Sender ▸ phrase (a_reference sender) ▸ nil)
into (Some v) sender =
    turn (sym mark.Arrow ▸ key word.Value ▸ phrase (a_reference v) ▸ optional (λ r. key word.Sender ▸ phrase (a_reference r) ▸ nil) sender ▸ nil)

-- {Stmt {';'}}
abbrev pub statements : List Statement → Part
statements ss = items (each (λ s. ended (phrase (a_statement s))) ss)

-- '{' {Branch {';'}} '}'
abbrev pub branches : List Branch → Part
branches bs = turn (sym mark.LeftBrace ▸ items (each (λ b. ended (phrase (a_branch b))) bs) ▸ sym mark.RightBrace ▸ nil)

-- ---- the productions

-- the parts of which a phrase consists: a case for each production of the grammar
pub data Production : Phrase → Parts → Type 0 where
  -- Ref = Id {'.' Id}
  dotted_name : (name : List ℕ) (fields : List (List ℕ))
      → Production (a_reference (record { name = name; fields = fields })) (id name ▸ turn (each dotted fields) ▸ nil)
  -- CRef = 'self' | 'mtc' | Ref
  itself : Production (a_component component_ref.Itself) (key word.SelfWord ▸ nil)
  mtc : Production (a_component component_ref.Mtc) (key word.Mtc ▸ nil)
  named : (r : Reference) → Production (a_component (component_ref.Named r)) (phrase (a_reference r) ▸ nil)
  -- Prim = Int | 'true' | 'false' | 'null' | CRef | CRef '.' 'running' | 'ispresent' '(' Ref ')' | '(' Expr ')'
  number : (n : ℕ) → Production (a_primary (expr.Int n)) (one (token.Int n) ▸ nil)
  true_word : Production (a_primary (expr.Bool true)) (key word.True ▸ nil)
  false_word : Production (a_primary (expr.Bool false)) (key word.False ▸ nil)
  null : Production (a_primary expr.Null) (key word.Null ▸ nil)
  referred : (c : ComponentRef) → Production (a_primary (expr.Reference c)) (phrase (a_component c) ▸ nil)
  running : (c : ComponentRef)
      → Production (a_primary (expr.Running c)) (phrase (a_component c) ▸ sym mark.Dot ▸ key word.Running ▸ nil)
  is_present : (r : Reference)
      → Production (a_primary (expr.Ispresent r)) (key word.Ispresent ▸ sym mark.LeftParen ▸ phrase (a_reference r) ▸ sym mark.RightParen ▸ nil)
  bracketed : (e : Expr) → Production (a_primary e) (sym mark.LeftParen ▸ phrase (an_operand level.Or e) ▸ sym mark.RightParen ▸ nil)
  -- Un = ['+' | '-'] Prim
  unsigned : (e : Expr) → Production (an_operand level.Sign e) (phrase (a_primary e) ▸ nil)
  plus : (e : Expr) → Production (an_operand level.Sign (expr.Signed sign.Plus e)) (sym mark.Plus ▸ phrase (a_primary e) ▸ nil)
  minus : (e : Expr) → Production (an_operand level.Sign (expr.Signed sign.Minus e)) (sym mark.Minus ▸ phrase (a_primary e) ▸ nil)
  -- Not = ['not'] Eq
  affirmed : (e : Expr) → Production (an_operand level.Not e) (phrase (an_operand level.Equality e) ▸ nil)
  negated : (e : Expr) → Production (an_operand level.Not (expr.Not e)) (key word.Not ▸ phrase (an_operand level.Equality e) ▸ nil)
  -- Expr = Xor {'or' Xor}, Xor = And {'xor' And}, And = Not {'and' Not}, Eq = Rel {('==' | '!=') Rel},
  -- Rel = Add [('<' | '>' | '<=' | '>=') Add], Add = Mul {('+' | '-') Mul}, Mul = Un {('*' | '/' | 'mod' | 'rem') Un}
  alone : {outer inner : Level} (e : Expr) → Joins outer inner
      → Production (an_operand outer e) (phrase (an_operand inner e) ▸ nil)
  joined : {outer inner : Level} (e : Expr) (l : Link) (ls : List Link) → Joins outer inner → (outer ≡ level.Order → ls ≡ [])
      → Production (an_operand outer (expr.Chain e (l ∷ ls))) (phrase (an_operand inner e) ▸ phrase (the_links outer (l ∷ ls)) ▸ nil)
  no_link : (outer : Level) → Production (the_links outer []) nil
  next_link : {outer inner : Level} (e : Expr) (ls : List Link) → Joins outer inner → (o : Operator) → level_of o ≡ outer
      → Production (the_links outer (link o e ∷ ls)) (one (written o) ▸ phrase (an_operand inner e) ▸ phrase (the_links outer ls) ▸ nil)
  -- Type = 'integer' | 'boolean' | 'default' | Id
  integer : Production (a_type type_name.Integer) (key word.Integer ▸ nil)
  boolean : Production (a_type type_name.Boolean) (key word.Boolean ▸ nil)
  default : Production (a_type type_name.Default) (key word.Default ▸ nil)
  type_by_name : (name : List ℕ) → Production (a_type (type_name.Named name)) (id name ▸ nil)
  -- Value = Expr | 'omit' | '{' [Value {',' Value}] '}' | '{' Id ':=' Value {',' Id ':=' Value} '}'
  value_expr : (e : Expr) → Production (a_value (value.Expr e)) (phrase (an_operand level.Or e) ▸ nil)
  value_omit : Production (a_value value.Omit) (key word.Omit ▸ nil)
  value_listed : (vs : List Value)
      → Production (a_value (value.Listed vs)) (sym mark.LeftBrace ▸ separated (each (λ v. phrase (a_value v)) vs) ▸ sym mark.RightBrace ▸ nil)
  value_assigned : (fs : List FieldValue)
      → Production (a_value (value.Assigned fs)) (sym mark.LeftBrace ▸ commas (each (λ f. phrase (a_field_value f)) fs) ▸ sym mark.RightBrace ▸ nil)
  value_of_field : (name : List ℕ) (v : Value) → Production (a_field_value (field_value name v)) (id name ▸ set_to a_value v)
  -- Id Args, Args = '(' [Value {',' Value}] ')'
  with_arguments : (name : List ℕ) (vs : List Value) → Production (a_call (record { name = name; arguments = vs }))
      (id name ▸ sym mark.LeftParen ▸ separated (each (λ v. phrase (a_value v)) vs) ▸ sym mark.RightParen ▸ nil)
  -- Rhs = Value | Id '.' 'create' | Id Args | 'activate' '(' Id Args ')'
  rhs_value : (v : Value) → Production (a_rhs (rhs.Value v)) (phrase (a_value v) ▸ nil)
  rhs_create : (name : List ℕ) → Production (a_rhs (rhs.Create name)) (id name ▸ sym mark.Dot ▸ key word.Create ▸ nil)
  rhs_call : (c : Call) → Production (a_rhs (rhs.Call c)) (phrase (a_call c) ▸ nil)
  rhs_activate : (c : Call)
      → Production (a_rhs (rhs.Activate c)) (key word.Activate ▸ sym mark.LeftParen ▸ phrase (a_call c) ▸ sym mark.RightParen ▸ nil)
  -- T = Body ['ifpresent']
  template_plain : (b : TemplateBody) → Production (a_template (template_of b false)) (phrase (a_body b) ▸ nil)
  template_ifpresent : (b : TemplateBody) → Production (a_template (template_of b true)) (phrase (a_body b) ▸ key word.Ifpresent ▸ nil)
  -- Body = '?' | '*' | 'omit' | 'complement' '(' T {',' T} ')' | List | Id Args | Expr
  --      | '{' [T {',' T}] '}' | '{' Id ':=' T {',' Id ':=' T} '}'
  body_expr : (e : Expr) → Production (a_body (body.Expr e)) (phrase (an_operand level.Or e) ▸ nil)
  body_pattern : (b : TemplateBody) → Production (a_body b) (phrase (a_pattern b) ▸ nil)
  any : Production (a_pattern body.Any) (sym mark.Question ▸ nil)
  any_or_omit : Production (a_pattern body.AnyOrOmit) (sym mark.Star ▸ nil)
  omit : Production (a_pattern body.Omit) (key word.Omit ▸ nil)
  complement : (ts : List Template) → Production (a_pattern (body.Complement ts))
      (key word.Complement ▸ sym mark.LeftParen ▸ commas (each (λ t. phrase (a_template t)) ts) ▸ sym mark.RightParen ▸ nil)
  template_call : (c : Call) → Production (a_pattern (body.Call c)) (phrase (a_call c) ▸ nil)
  template_listed : (ts : List Template) → Production (a_pattern (body.Listed ts))
      (sym mark.LeftBrace ▸ separated (each (λ t. phrase (a_template t)) ts) ▸ sym mark.RightBrace ▸ nil)
  template_assigned : (fs : List FieldTemplate) → Production (a_pattern (body.Assigned fs))
      (sym mark.LeftBrace ▸ commas (each (λ f. phrase (a_field_template f)) fs) ▸ sym mark.RightBrace ▸ nil)
  template_of_field : (name : List ℕ) (t : Template) → Production (a_field_template (field_template name t)) (id name ▸ set_to a_template t)
  -- List = '(' T {',' T} ')', where one part alone is no Expr, | '(' Bound '..' Bound ')'
  list : (t u : Template) (us : List Template) → Production (a_pattern (body.List (t ∷ u ∷ us)))
      (sym mark.LeftParen ▸ commas (each (λ t. phrase (a_template t)) (t ∷ u ∷ us)) ▸ sym mark.RightParen ▸ nil)
  list_of_pattern : (b : TemplateBody) → Production (a_pattern (body.List (template_of b false ∷ [])))
      (sym mark.LeftParen ▸ phrase (a_pattern b) ▸ sym mark.RightParen ▸ nil)
  list_of_ifpresent : (b : TemplateBody) → Production (a_pattern (body.List (template_of b true ∷ [])))
      (sym mark.LeftParen ▸ phrase (a_body b) ▸ key word.Ifpresent ▸ sym mark.RightParen ▸ nil)
  range : (low high : Bound) → Production (a_pattern (body.Range low high))
      (sym mark.LeftParen ▸ phrase (a_bound low) ▸ sym mark.DotDot ▸ phrase (a_bound high) ▸ sym mark.RightParen ▸ nil)
  -- Bound = Expr | ['-'] 'infinity'
  bound_expr : (e : Expr) → Production (a_bound (bound.Expr e)) (phrase (an_operand level.Or e) ▸ nil)
  infinity : Production (a_bound bound.Infinity) (key word.Infinity ▸ nil)
  minus_infinity : Production (a_bound bound.Infinity) (sym mark.Minus ▸ key word.Infinity ▸ nil)
  -- Typed = [Type ':'] T
  message : (t : Template) → Production (a_message (record { type_name = None; template = t })) (phrase (a_template t) ▸ nil)
  typed_message : (n : TypeName) (t : Template)
      → Production (a_message (record { type_name = Some n; template = t })) (phrase (a_type n) ▸ sym mark.Colon ▸ phrase (a_template t) ▸ nil)
  -- Var = 'var' Type Id [':=' Rhs] {',' Id [':=' Rhs]}
  variable : (name : List ℕ) (v : Option Rhs)
      → Production (a_variable (record { name = name; value = v })) (id name ▸ optional (set_to a_rhs) v ▸ nil)
  variables : (n : TypeName) (vs : List Variable) → Production (the_variables (record { type_name = n; variables = vs }))
      (key word.Var ▸ phrase (a_type n) ▸ commas (each (λ v. phrase (a_variable v)) vs) ▸ nil)
  -- Const = 'const' Type Id ':=' Value {',' Id ':=' Value}
  constant : (name : List ℕ) (v : Value) → Production (a_constant (record { name = name; value = v })) (id name ▸ set_to a_value v)
  constants : (n : TypeName) (cs : List Constant) → Production (the_constants (record { type_name = n; constants = cs }))
      (key word.Const ▸ phrase (a_type n) ▸ commas (each (λ c. phrase (a_constant c)) cs) ▸ nil)
  -- Timer = 'timer' Id [':=' Float] {',' Id [':=' Float]}
  timer : (name : List ℕ) → Production (a_timer (record { name = name })) (id name ▸ nil)
  timer_set : (name : List ℕ) → Production (a_timer (record { name = name })) (id name ▸ sym mark.Assign ▸ one token.Float ▸ nil)
  timers : (all : List Timer) → Production (the_timers all) (key word.Timer ▸ commas (each (λ t. phrase (a_timer t)) all) ▸ nil)
  -- Assign = Ref ':=' Rhs
  assignment : (r : Reference) (v : Rhs)
      → Production (an_assignment (record { target = r; value = v })) (phrase (a_reference r) ▸ set_to a_rhs v)
  -- Event = (Id | 'any' 'port') '.' 'receive' ['(' Typed ')'] ['from' CRef] [Into]
  --       | Id '.' 'timeout' | CRef '.' 'done' | 'all' 'component' '.' 'done'
  one_port : (name : List ℕ) → Production (a_port (selector.Named name)) (id name ▸ nil)
  any_port : Production (a_port selector.Any) (key word.Any ▸ key word.Port ▸ nil)
  receive : (port : PortSelector) (m : Option MessageTemplate) (from : Option ComponentRef) (v sender : Option Reference)
      → Production (an_event (event.Receive (record { port = port; message = m; from = from; value = v; sender = sender })))
      (phrase (a_port port) ▸ sym mark.Dot ▸ key word.Receive
      ▸ optional (λ m. sym mark.LeftParen ▸ phrase (a_message m) ▸ sym mark.RightParen ▸ nil) m
      ▸ optional (λ c. key word.From ▸ phrase (a_component c) ▸ nil) from ▸ into v sender ▸ nil)
  timeout : (name : List ℕ) → Production (an_event (event.Timeout name)) (id name ▸ sym mark.Dot ▸ key word.Timeout ▸ nil)
  done : (c : ComponentRef) → Production (an_event (event.Done c)) (phrase (a_component c) ▸ sym mark.Dot ▸ key word.Done ▸ nil)
  all_done : Production (an_event event.AllDone) (key word.All ▸ key word.Component ▸ sym mark.Dot ▸ key word.Done ▸ nil)
  -- Arg = Text | Expr
  log_text : Production (a_log_item log_item.Text) (one token.Text ▸ nil)
  log_expr : (e : Expr) → Production (a_log_item (log_item.Expr e)) (phrase (an_operand level.Or e) ▸ nil)
  -- CRef ':' Id
  port_ref : (c : ComponentRef) (port : List ℕ)
      → Production (a_port_ref (record { component = c; port = port })) (phrase (a_component c) ▸ sym mark.Colon ▸ id port ▸ nil)
  -- Var | Assign
  for_variables : (vs : Variables) → Production (a_for_start (for_start.Variables vs)) (phrase (the_variables vs) ▸ nil)
  for_assign : (a : Assignment) → Production (a_for_start (for_start.Assign a)) (phrase (an_assignment a) ▸ nil)
  -- '(' Expr ')' Block
  condition : (e : Expr) (ss : List Statement) → Production (a_conditional (conditional e ss)) (in_brackets e ▸ phrase (a_block ss) ▸ nil)
  -- Stmt
  act_variables : (vs : Variables) → Production (an_action (form.Variables vs)) (phrase (the_variables vs) ▸ nil)
  act_constants : (cs : Constants) → Production (an_action (form.Constants cs)) (phrase (the_constants cs) ▸ nil)
  act_timers : (all : List Timer) → Production (an_action (form.Timers all)) (phrase (the_timers all) ▸ nil)
  act_assign : (a : Assignment) → Production (an_action (form.Assign a)) (phrase (an_assignment a) ▸ nil)
  act_call : (c : Call) → Production (an_action (form.Call c)) (phrase (a_call c) ▸ nil)
  act_event : (e : Event) → Production (an_action (form.Event e)) (phrase (an_event e) ▸ nil)
  act_alt : (bs : List Branch) → Production (an_action (form.Alt bs)) (key word.Alt ▸ branches bs ▸ nil)
  act_repeat : Production (an_action form.Repeat) (key word.Repeat ▸ nil)
  act_if : (c : Conditional) (cs : List Conditional) (last : Option (List Statement))
      → Production (an_action (form.If (c ∷ cs) last)) (key word.If ▸ phrase (a_conditional c) ▸ turn (each else_if cs)
      ▸ optional (λ ss. key word.Else ▸ phrase (a_block ss) ▸ nil) last ▸ nil)
  act_while : (e : Expr) (ss : List Statement)
      → Production (an_action (form.While e ss)) (key word.While ▸ in_brackets e ▸ phrase (a_block ss) ▸ nil)
  act_do : (e : Expr) (ss : List Statement)
      → Production (an_action (form.DoWhile ss e)) (key word.Do ▸ phrase (a_block ss) ▸ key word.While ▸ in_brackets e ▸ nil)
  act_for : (start : ForStart) (e : Expr) (a : Assignment) (ss : List Statement)
      → Production (an_action (form.For start e a ss)) (key word.For ▸ sym mark.LeftParen ▸ phrase (a_for_start start)
      ▸ sym mark.Semicolon ▸ phrase (an_operand level.Or e) ▸ sym mark.Semicolon ▸ phrase (an_assignment a) ▸ sym mark.RightParen
      ▸ phrase (a_block ss) ▸ nil)
  act_return : (v : Option Value) → Production (an_action (form.Return v)) (key word.Return ▸ optional (λ v. phrase (a_value v) ▸ nil) v ▸ nil)
  act_stop : Production (an_action form.Stop) (key word.Stop ▸ nil)
  act_log : (is : List LogItem) → Production (an_action (form.Log is))
      (key word.Log ▸ sym mark.LeftParen ▸ separated (each (λ i. phrase (a_log_item i)) is) ▸ sym mark.RightParen ▸ nil)
  act_setverdict : (v : Verdict) (is : List LogItem) → Production (an_action (form.Setverdict v is))
      (key word.Setverdict ▸ sym mark.LeftParen ▸ commas (key (verdict_word v) ▸ each (λ i. phrase (a_log_item i)) is) ▸ sym mark.RightParen ▸ nil)
  act_connect : (a b : PortRef) → Production (an_action (form.Connect a b))
      (key word.Connect ▸ sym mark.LeftParen ▸ phrase (a_port_ref a) ▸ sym mark.Comma ▸ phrase (a_port_ref b) ▸ sym mark.RightParen ▸ nil)
  -- ('map' | 'unmap') '(' CRef ':' Id ',' 'system' ':' Id ')', where the two ports stand in either order
  act_map : (o : MapOperation) (p : PortRef) (q : List ℕ)
      → Production (an_action (form.Map (record { operation = o; port = p; system_port = q })))
      (key (map_word o) ▸ sym mark.LeftParen ▸ phrase (a_port_ref p) ▸ sym mark.Comma ▸ system_port q ▸ sym mark.RightParen ▸ nil)
  act_map_turned : (o : MapOperation) (p : PortRef) (q : List ℕ)
      → Production (an_action (form.Map (record { operation = o; port = p; system_port = q })))
      (key (map_word o) ▸ sym mark.LeftParen ▸ system_port q ▸ sym mark.Comma ▸ phrase (a_port_ref p) ▸ sym mark.RightParen ▸ nil)
  act_send : (port : List ℕ) (m : MessageTemplate) (to : Option ComponentRef)
      → Production (an_action (form.Send (record { port = port; message = m; to = to })))
      (id port ▸ sym mark.Dot ▸ key word.Send ▸ sym mark.LeftParen ▸ phrase (a_message m) ▸ sym mark.RightParen
      ▸ optional (λ c. key word.To ▸ phrase (a_component c) ▸ nil) to ▸ nil)
  act_start_component : (c : ComponentRef) (f : Call) → Production (an_action (form.StartComponent c f))
      (phrase (a_component c) ▸ sym mark.Dot ▸ key word.Start ▸ sym mark.LeftParen ▸ phrase (a_call f) ▸ sym mark.RightParen ▸ nil)
  act_start_timer : (name : List ℕ) → Production (an_action (form.StartTimer name)) (id name ▸ sym mark.Dot ▸ key word.Start ▸ nil)
  act_start_timer_with : (name : List ℕ) → Production (an_action (form.StartTimer name))
      (id name ▸ sym mark.Dot ▸ key word.Start ▸ sym mark.LeftParen ▸ one token.Float ▸ sym mark.RightParen ▸ nil)
  act_stop_of : (c : ComponentRef) → Production (an_action (form.StopOf c)) (phrase (a_component c) ▸ sym mark.Dot ▸ key word.Stop ▸ nil)
  act_activate : (c : Call) → Production (an_action (form.Activate c))
      (key word.Activate ▸ sym mark.LeftParen ▸ phrase (a_call c) ▸ sym mark.RightParen ▸ nil)
  act_deactivate : (r : Option Reference) → Production (an_action (form.Deactivate r))
      (key word.Deactivate ▸ optional (λ r. sym mark.LeftParen ▸ phrase (a_reference r) ▸ sym mark.RightParen ▸ nil) r ▸ nil)
  statement : (place : Span) (a : Action) → Production (a_statement (statement_at place a)) (at place ▸ phrase (an_action a) ▸ nil)
  -- Block = '{' {';'} {Stmt {';'}} '}'
  block : (ss : List Statement) → Production (a_block ss) (sym mark.LeftBrace ▸ semicolons ▸ statements ss ▸ sym mark.RightBrace ▸ nil)
  -- Branch = '[' [Expr] ']' (Event | Id Args) [Block] | '[' 'else' ']' Block
  alternative_event : (guard : Option Expr) (e : Event) (ss : Option (List Statement))
      → Production (an_alternative (alternative_form.Event guard e ss))
      (sym mark.LeftBracket ▸ optional (λ e. phrase (an_operand level.Or e) ▸ nil) guard ▸ sym mark.RightBracket ▸ phrase (an_event e)
      ▸ optional (λ ss. phrase (a_block ss) ▸ nil) ss ▸ nil)
  alternative_call : (guard : Option Expr) (c : Call) (ss : Option (List Statement))
      → Production (an_alternative (alternative_form.Call guard c ss))
      (sym mark.LeftBracket ▸ optional (λ e. phrase (an_operand level.Or e) ▸ nil) guard ▸ sym mark.RightBracket ▸ phrase (a_call c)
      ▸ optional (λ ss. phrase (a_block ss) ▸ nil) ss ▸ nil)
  alternative_else : (ss : List Statement) → Production (an_alternative (alternative_form.Else ss))
      (sym mark.LeftBracket ▸ key word.Else ▸ sym mark.RightBracket ▸ phrase (a_block ss) ▸ nil)
  branch : (place : Span) (a : Alternative) → Production (a_branch (branch_at place a)) (at place ▸ phrase (an_alternative a) ▸ nil)
  -- Field = Type Id ['optional']
  field : (n : TypeName) (name : List ℕ)
      → Production (a_field (record { type_name = n; name = name; optional = false })) (phrase (a_type n) ▸ id name ▸ nil)
  field_optional : (n : TypeName) (name : List ℕ)
      → Production (a_field (record { type_name = n; name = name; optional = true })) (phrase (a_type n) ▸ id name ▸ key word.Optional ▸ nil)
  -- Item = Id ['(' ['-'] Int ')']
  positive : (n : ℕ) → Production (a_number (record { minus = false; magnitude = n })) (one (token.Int n) ▸ nil)
  negative : (n : ℕ) → Production (a_number (record { minus = true; magnitude = n })) (sym mark.Minus ▸ one (token.Int n) ▸ nil)
  enumerator : (name : List ℕ) (n : Option EnumNumber) → Production (an_enumerator (record { name = name; number = n }))
      (id name ▸ optional (λ n. sym mark.LeftParen ▸ phrase (a_number n) ▸ sym mark.RightParen ▸ nil) n ▸ nil)
  -- Dir Type {',' Type}, Dir = 'in' | 'out' | 'inout'
  messages : (d : Direction) (ns : List TypeName) → Production (the_messages (record { direction = d; types = ns }))
      (key (direction_word d) ▸ commas (each (λ n. phrase (a_type n)) ns) ▸ nil)
  -- Member = 'port' Id Id {',' Id} | Const | Var | Timer, where a Var has Values
  member_variable : (name : List ℕ) (v : Option Value)
      → Production (a_member_variable (record { name = name; value = v })) (id name ▸ optional (set_to a_value) v ▸ nil)
  member_ports : (n : List ℕ) (names : List (List ℕ)) → Production (a_member (member.Ports n names)) (key word.Port ▸ id n ▸ commas (each id names) ▸ nil)
  member_constants : (cs : Constants) → Production (a_member (member.Constants cs)) (phrase (the_constants cs) ▸ nil)
  member_variables : (n : TypeName) (vs : List MemberVariable) → Production (a_member (member.Variables n vs))
      (key word.Var ▸ phrase (a_type n) ▸ commas (each (λ v. phrase (a_member_variable v)) vs) ▸ nil)
  member_timers : (all : List Timer) → Production (a_member (member.Timers all)) (phrase (the_timers all) ▸ nil)
  -- Formals = '(' [Formal {',' Formal}] ')', Formal = ['in'] Type Id
  parameter : (n : TypeName) (name : List ℕ)
      → Production (a_parameter (record { type_name = n; name = name })) (phrase (a_type n) ▸ id name ▸ nil)
  parameter_in : (n : TypeName) (name : List ℕ)
      → Production (a_parameter (record { type_name = n; name = name })) (key word.In ▸ phrase (a_type n) ▸ id name ▸ nil)
  parameters : (ps : List Parameter) → Production (the_parameters ps)
      (sym mark.LeftParen ▸ separated (each (λ p. phrase (a_parameter p)) ps) ▸ sym mark.RightParen ▸ nil)
  -- Def
  record_type : (name : List ℕ) (fs : List Field) → Production (a_kind (kind.Record (record { name = name; fields = fs })))
      (key word.Type ▸ key word.Record ▸ id name ▸ sym mark.LeftBrace ▸ separated (each (λ f. phrase (a_field f)) fs) ▸ sym mark.RightBrace ▸ nil)
  enumerated_type : (name : List ℕ) (es : List Enumerator) → Production (a_kind (kind.Enumerated (record { name = name; enumerators = es })))
      (key word.Type ▸ key word.Enumerated ▸ id name ▸ sym mark.LeftBrace ▸ commas (each (λ e. phrase (an_enumerator e)) es) ▸ sym mark.RightBrace ▸ nil)
  port_type : (name : List ℕ) (ms : List PortMessages) → Production (a_kind (kind.Port (record { name = name; messages = ms })))
      (key word.Type ▸ key word.Port ▸ id name ▸ key word.Message ▸ sym mark.LeftBrace ▸ items (each (λ m. phrase (the_messages m)) ms)
      ▸ sym mark.RightBrace ▸ nil)
  component_type : (name : List ℕ) (ms : List Member) → Production (a_kind (kind.Component (record { name = name; members = ms })))
      (key word.Type ▸ key word.Component ▸ id name ▸ sym mark.LeftBrace ▸ items (each (λ m. phrase (a_member m)) ms) ▸ sym mark.RightBrace ▸ nil)
  def_constants : (cs : Constants) → Production (a_kind (kind.Constants cs)) (phrase (the_constants cs) ▸ nil)
  def_template : (n : TypeName) (name : List ℕ) (t : Template)
      → Production (a_kind (kind.Template (record { type_name = n; name = name; parameters = []; template = t })))
      (key word.Template ▸ phrase (a_type n) ▸ id name ▸ set_to a_template t)
  def_template_with : (n : TypeName) (name : List ℕ) (ps : List Parameter) (t : Template)
      → Production (a_kind (kind.Template (record { type_name = n; name = name; parameters = ps; template = t })))
      (key word.Template ▸ phrase (a_type n) ▸ id name ▸ phrase (the_parameters ps) ▸ set_to a_template t)
  def_function : (name : List ℕ) (ps : List Parameter) (component : Option (List ℕ)) (result : Option TypeName) (ss : List Statement)
      → Production (a_kind (kind.Function (record { name = name; parameters = ps; runs_on = component; returns = result; body = ss })))
      (key word.Function ▸ id name ▸ phrase (the_parameters ps) ▸ optional runs_on component
      ▸ optional (λ n. key word.Return ▸ phrase (a_type n) ▸ nil) result ▸ phrase (a_block ss) ▸ nil)
  def_altstep : (name : List ℕ) (ps : List Parameter) (component : Option (List ℕ)) (bs : List Branch)
      → Production (a_kind (kind.Altstep (record { name = name; parameters = ps; runs_on = component; branches = bs })))
      (key word.Altstep ▸ id name ▸ phrase (the_parameters ps) ▸ optional runs_on component ▸ branches bs ▸ nil)
  def_testcase : (name component : List ℕ) (system : Option (List ℕ)) (ss : List Statement)
      → Production (a_kind (kind.Testcase (record { name = name; runs_on = component; system = system; body = ss })))
      (key word.Testcase ▸ id name ▸ sym mark.LeftParen ▸ sym mark.RightParen ▸ turn (runs_on component)
      ▸ optional (λ c. key word.System ▸ id c ▸ nil) system ▸ phrase (a_block ss) ▸ nil)
  definition : (place : Span) (k : DefinitionKind) → Production (a_definition (record { place = place; kind = k })) (at place ▸ phrase (a_kind k) ▸ nil)
  -- With = 'with' Group, which may be missing
  no_with : Production a_with nil
  with_group : Production a_with (key word.With ▸ group ▸ nil)
  -- ['language' Text {',' Text}]
  no_language : Production the_language nil
  languages : (texts : List (Unit {0})) → Production the_language (key word.Language ▸ commas (each (λ _. one token.Text) texts) ▸ nil)
  -- ['control' Group [With] {';'}]
  no_control : Production a_control nil
  control_group : Production a_control (key word.Control ▸ group ▸ phrase a_with ▸ semicolons ▸ nil)
  -- Module = 'module' Id ['language' Text {',' Text}] '{' {';'} {Def [With] {';'}} ['control' Group [With] {';'}] '}' [With] {';'}
  whole : (name : List ℕ) (ds : List Definition) → Production (a_module (record { name = name; definitions = ds }))
      (key word.Module ▸ id name ▸ phrase the_language ▸ sym mark.LeftBrace ▸ semicolons
      ▸ items (each (λ d. turn (phrase (a_definition d) ▸ phrase a_with ▸ nil)) ds) ▸ phrase a_control ▸ sym mark.RightBrace
      ▸ phrase a_with ▸ semicolons ▸ nil)

-- ---- what tokens spell

-- the last of the tokens before those that are left is '}'
pub data EndsInBrace : List Spanned → List Spanned → Type 0 where
  last : {k : Spanned} {rest : List Spanned} → Is k (token.Symbol mark.RightBrace) → EndsInBrace (k ∷ rest) rest
  earlier : {k : Spanned} {ts rest : List Spanned} → EndsInBrace ts rest → EndsInBrace (k ∷ ts) rest

-- what lies between the tokens and those that are left may be followed by what is left
pub data Ends (ts : List Spanned) : List Spanned → Type 0 where
  in_brace : {rest : List Spanned} → EndsInBrace ts rest → Ends ts rest
  before_semicolon : {k : Spanned} {rest : List Spanned} → Is k (token.Symbol mark.Semicolon) → Ends ts (k ∷ rest)
  before_brace : {k : Spanned} {rest : List Spanned} → Is k (token.Symbol mark.RightBrace) → Ends ts (k ∷ rest)

-- a part is spelled at the front of the tokens, and the tokens behind it are left
mutual
  pub data Spells : Part → List Spanned → List Spanned → Type 0 where
    this : {t : Token} {k : Spanned} {rest : List Spanned} → Is k t → Spells (one t) (k ∷ rest) rest
    here : {k : Spanned} {rest : List Spanned} → Spells (at k.place) (k ∷ rest) (k ∷ rest)
    by : {p : Phrase} {ps : Parts} {ts rest : List Spanned} → Production p ps → InTurn ps ts rest → Spells (phrase p) ts rest
    all : {ps : Parts} {ts rest : List Spanned} → InTurn ps ts rest → Spells (turn ps) ts rest
    -- X {',' X}
    last_one : {p : Part} {ts rest : List Spanned} → Spells p ts rest → Spells (commas (p ▸ nil)) ts rest
    and_more : {p q : Part} {ps : Parts} {c : Spanned} {ts middle rest : List Spanned} → Spells p ts (c ∷ middle)
        → Is c (token.Symbol mark.Comma) → Spells (commas (q ▸ ps)) middle rest → Spells (commas (p ▸ q ▸ ps)) ts rest
    -- {X {';'}}
    no_item : {ts : List Spanned} → Spells (items nil) ts ts
    next_item : {p : Part} {ps : Parts} {ts middle behind rest : List Spanned} → Spells p ts middle → Spells semicolons middle behind
        → Spells (items ps) behind rest → Spells (items (p ▸ ps)) ts rest
    at_its_end : {p : Part} {ts rest : List Spanned} → Spells p ts rest → Ends ts rest → Spells (ended p) ts rest
    -- {';'}
    no_semicolon : {ts : List Spanned} → Spells semicolons ts ts
    next_semicolon : {k : Spanned} {ts rest : List Spanned} → Is k (token.Symbol mark.Semicolon) → Spells semicolons ts rest
        → Spells semicolons (k ∷ ts) rest
    balanced : {ts rest : List Spanned} → Group ts rest → Spells group ts rest

  -- parts one behind the other
  pub data InTurn : Parts → List Spanned → List Spanned → Type 0 where
    end : {ts : List Spanned} → InTurn nil ts ts
    then : {p : Part} {ps : Parts} {ts middle rest : List Spanned} → Spells p ts middle → InTurn ps middle rest → InTurn (p ▸ ps) ts rest

-- the tokens are those of this module
abbrev pub IsModule : List Spanned → Module → Type 0
IsModule tokens tree = Spells (phrase (a_module tree)) tokens []
