-- What is read as definitions.
use Rattle.std.specs.Prelude.{ℕ, if◌then◌else◌, List, [], Option, Some, None}
use Rattle.ttcn_syntax.specs.declared.token.Symbol.TheVariants as mark
use Rattle.ttcn_syntax.specs.declared.token.Token.{Token}
use Rattle.ttcn_syntax.specs.declared.token.Token.TheVariants as token
use Rattle.ttcn_syntax.specs.declared.token.Word.{Word}
use Rattle.ttcn_syntax.specs.declared.token.Word.TheVariants as word
use Rattle.ttcn_syntax.specs.declared.tree.value.TypeName.{TypeName}
use Rattle.ttcn_syntax.specs.declared.tree.definition.Definition.{Definition}
use Rattle.ttcn_syntax.specs.declared.tree.definition.DefinitionKind.{DefinitionKind}
use Rattle.ttcn_syntax.specs.declared.tree.definition.DefinitionKind.TheVariants as kind
use Rattle.ttcn_syntax.specs.declared.tree.definition.Direction.{Direction}
use Rattle.ttcn_syntax.specs.declared.tree.definition.Direction.TheVariants as direction
use Rattle.ttcn_syntax.specs.declared.tree.definition.EnumNumber.{EnumNumber}
use Rattle.ttcn_syntax.specs.declared.tree.definition.Enumerator.{Enumerator}
use Rattle.ttcn_syntax.specs.declared.tree.definition.Field.{Field}
use Rattle.ttcn_syntax.specs.declared.tree.definition.Member.{Member}
use Rattle.ttcn_syntax.specs.declared.tree.definition.Member.TheVariants as member
use Rattle.ttcn_syntax.specs.declared.tree.definition.MemberVariable.{MemberVariable}
use Rattle.ttcn_syntax.specs.declared.tree.definition.Parameter.{Parameter}
use Rattle.ttcn_syntax.specs.declared.tree.definition.PortMessages.{PortMessages}
use Rattle.parse_reader.specs.internal.Reading.{Parser, pure, refuse, head_token, sees, sees_word, eat, eat_word, expect, expect_word, here, token_by, name, separated, separated_until, items, at_brace, ◌>>=◌, ◌>>◌}
use Rattle.parse_reader.specs.internal.Values.{a_type, a_value}
use Rattle.parse_reader.specs.internal.Templates.{a_template}
use Rattle.parse_reader.specs.internal.Declarations.{initial, constants, timers}
use Rattle.parse_reader.specs.internal.Statements.{a_block, the_branches}

-- Type Id ['optional']
unfoldable pub field : Parser Field
field = do
  n ← a_type
  bytes ← name
  o ← eat_word word.Optional
  pure (record { type_name = n; name = bytes; optional = o })

-- the number that a token is
abbrev pub int_of : Option Token → Option ℕ
int_of (Some (token.Int n)) = Some n
int_of _ = None

-- a number
unfoldable pub int : Parser ℕ
int = token_by int_of

-- ['-'] Number
unfoldable pub a_number : Parser EnumNumber
a_number = do
  negative ← eat mark.Minus
  n ← int
  pure (record { minus = negative; magnitude = n })

-- Id ['(' Number ')']
unfoldable pub enumerator : Parser Enumerator
enumerator = do
  bytes ← name
  given ← eat mark.LeftParen
  if given
      then (do
        n ← a_number
        expect mark.RightParen
        pure (record { name = bytes; number = Some n }))
      else pure (record { name = bytes; number = None })

-- the direction that a word names
abbrev pub direction_of : Option Token → Option Direction
direction_of (Some (token.Word word.In)) = Some direction.In
direction_of (Some (token.Word word.Out)) = Some direction.Out
direction_of (Some (token.Word word.Inout)) = Some direction.Inout
direction_of _ = None

-- 'in', 'out' or 'inout'
unfoldable pub a_direction : Parser Direction
a_direction = token_by direction_of

-- Direction Type {',' Type}
unfoldable pub messages : Parser PortMessages
messages = do
  d ← a_direction
  ns ← separated a_type
  pure (record { direction = d; types = ns })

-- Id [':=' Value]
unfoldable pub member_variable : Parser MemberVariable
member_variable = do
  bytes ← name
  v ← initial a_value
  pure (record { name = bytes; value = v })

-- 'port' Id Id {',' Id}
unfoldable pub member_ports : Parser Member
member_ports = do
  expect_word word.Port
  n ← name
  names ← separated name
  pure (member.Ports n names)

-- 'var' Type MemberVariable {',' MemberVariable}
unfoldable pub member_variables : Parser Member
member_variables = do
  expect_word word.Var
  n ← a_type
  vs ← separated member_variable
  pure (member.Variables n vs)

-- a member of a component type, by its first token
abbrev pub member_by : Option Token → Parser Member
member_by (Some (token.Word word.Port)) = member_ports
member_by (Some (token.Word word.Const)) = do
  cs ← constants
  pure (member.Constants cs)
member_by (Some (token.Word word.Var)) = member_variables
member_by (Some (token.Word word.Timer)) = do
  all ← timers
  pure (member.Timers all)
member_by _ = refuse

-- a member of a component type
unfoldable pub a_member : Parser Member
a_member ts = member_by (head_token ts) ts

-- ['in'] Type Id
unfoldable pub parameter : Parser Parameter
parameter = do
  eat_word word.In
  n ← a_type
  bytes ← name
  pure (record { type_name = n; name = bytes })

-- '(' [Parameter {',' Parameter}] ')'
unfoldable pub parameters : Parser (List Parameter)
parameters = do
  expect mark.LeftParen
  separated_until mark.RightParen parameter

-- a record type behind 'type'
unfoldable pub record_type : Parser DefinitionKind
record_type = do
  expect_word word.Record
  bytes ← name
  expect mark.LeftBrace
  fs ← separated_until mark.RightBrace field
  pure (kind.Record (record { name = bytes; fields = fs }))

-- an enumerated type behind 'type'
unfoldable pub enumerated_type : Parser DefinitionKind
enumerated_type = do
  expect_word word.Enumerated
  bytes ← name
  expect mark.LeftBrace
  es ← separated enumerator
  expect mark.RightBrace
  pure (kind.Enumerated (record { name = bytes; enumerators = es }))

-- a port type behind 'type'
unfoldable pub port_type : Parser DefinitionKind
port_type = do
  expect_word word.Port
  bytes ← name
  expect_word word.Message
  expect mark.LeftBrace
  ms ← items at_brace messages
  expect mark.RightBrace
  pure (kind.Port (record { name = bytes; messages = ms }))

-- a component type behind 'type'
unfoldable pub component_type : Parser DefinitionKind
component_type = do
  expect_word word.Component
  bytes ← name
  expect mark.LeftBrace
  ms ← items at_brace a_member
  expect mark.RightBrace
  pure (kind.Component (record { name = bytes; members = ms }))

-- a type, by the word behind 'type'
abbrev pub type_kind_by : Option Token → Parser DefinitionKind
type_kind_by (Some (token.Word word.Record)) = record_type
type_kind_by (Some (token.Word word.Enumerated)) = enumerated_type
type_kind_by (Some (token.Word word.Port)) = port_type
type_kind_by (Some (token.Word word.Component)) = component_type
type_kind_by _ = refuse

-- a type
unfoldable pub type_kind : Parser DefinitionKind
type_kind = do
  expect_word word.Type
  λ ts. type_kind_by (head_token ts) ts

-- [Parameters]
unfoldable pub parameters_if_any : Parser (List Parameter)
parameters_if_any = λ ts. if sees mark.LeftParen ts then parameters ts else Some ([], ts)

-- a template's definition
unfoldable pub def_template : Parser DefinitionKind
def_template = do
  expect_word word.Template
  n ← a_type
  bytes ← name
  ps ← parameters_if_any
  expect mark.Assign
  t ← a_template
  pure (kind.Template (record { type_name = n; name = bytes; parameters = ps; template = t }))

-- 'runs' 'on' Id
unfoldable pub runs_on : Parser (List ℕ)
runs_on = do
  expect_word word.Runs
  expect_word word.On
  name

-- ['runs' 'on' Id]
unfoldable pub runs_on_if_any : Parser (Option (List ℕ))
runs_on_if_any = λ ts. if sees_word word.Runs ts then (do c ← runs_on; pure (Some c)) ts else Some (None, ts)

-- ['return' Type]
unfoldable pub result_type : Parser (Option TypeName)
result_type = do
  found ← eat_word word.Return
  if found then (do n ← a_type; pure (Some n)) else pure None

-- a name and parameters behind their word
unfoldable pub signature : Word → Parser (List ℕ × List Parameter)
signature w = do
  expect_word w
  bytes ← name
  ps ← parameters
  pure (bytes, ps)

-- a function
unfoldable pub def_function : Parser DefinitionKind
def_function = do
  expect_word word.Function
  bytes ← name
  ps ← parameters
  component ← runs_on_if_any
  result ← result_type
  ss ← a_block
  pure (kind.Function (record { name = bytes; parameters = ps; runs_on = component; returns = result; body = ss }))

-- an altstep
unfoldable pub def_altstep : Parser DefinitionKind
def_altstep = do
  expect_word word.Altstep
  bytes ← name
  ps ← parameters
  component ← runs_on_if_any
  bs ← the_branches
  pure (kind.Altstep (record { name = bytes; parameters = ps; runs_on = component; branches = bs }))

-- ['system' Id]
unfoldable pub system_type : Parser (Option (List ℕ))
system_type = do
  found ← eat_word word.System
  if found then (do c ← name; pure (Some c)) else pure None

-- a test case up to what it runs on
unfoldable pub testcase_name : Parser (List ℕ)
testcase_name = do
  expect_word word.Testcase
  bytes ← name
  expect mark.LeftParen
  expect mark.RightParen
  pure bytes

-- a test case
unfoldable pub def_testcase : Parser DefinitionKind
def_testcase = do
  expect_word word.Testcase
  bytes ← name
  expect mark.LeftParen
  expect mark.RightParen
  component ← runs_on
  system ← system_type
  ss ← a_block
  pure (kind.Testcase (record { name = bytes; runs_on = component; system = system; body = ss }))

-- what is defined, by its first token
abbrev pub kind_by : Option Token → Parser DefinitionKind
kind_by (Some (token.Word word.Type)) = type_kind
kind_by (Some (token.Word word.Const)) = do
  cs ← constants
  pure (kind.Constants cs)
kind_by (Some (token.Word word.Template)) = def_template
kind_by (Some (token.Word word.Function)) = def_function
kind_by (Some (token.Word word.Altstep)) = def_altstep
kind_by (Some (token.Word word.Testcase)) = def_testcase
kind_by _ = refuse

-- what is defined
unfoldable pub a_kind : Parser DefinitionKind
a_kind ts = kind_by (head_token ts) ts

-- a definition at its place
unfoldable pub definition : Parser Definition
definition = do
  place ← here
  k ← a_kind
  pure (record { place = place; kind = k })
