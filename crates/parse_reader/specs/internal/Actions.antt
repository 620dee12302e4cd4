-- What is read as statements without blocks.
use Rattle.std.specs.Prelude.{ℕ, ◌||◌, ◌&&◌, Bool, if◌then◌else◌, List, [], Option, Some, None}
use Rattle.ttcn_syntax.specs.declared.token.Symbol.TheVariants as mark
use Rattle.ttcn_syntax.specs.declared.token.Token.{Token}
use Rattle.ttcn_syntax.specs.declared.token.Token.TheVariants as token
use Rattle.ttcn_syntax.specs.declared.token.Spanned.{Spanned}
use Rattle.ttcn_syntax.specs.declared.token.Word.{Word}
use Rattle.ttcn_syntax.specs.declared.token.Word.TheVariants as word
use Rattle.ttcn_syntax.specs.declared.tree.expression.ComponentRef.{ComponentRef}
use Rattle.ttcn_syntax.specs.declared.tree.expression.ComponentRef.TheVariants as component_ref
use Rattle.ttcn_syntax.specs.declared.tree.expression.Reference.{Reference}
use Rattle.ttcn_syntax.specs.declared.tree.statement.Action.{Action}
use Rattle.ttcn_syntax.specs.declared.tree.statement.Action.TheVariants as action
use Rattle.ttcn_syntax.specs.declared.tree.statement.Assignment.{Assignment}
use Rattle.ttcn_syntax.specs.declared.tree.statement.LogItem.{LogItem}
use Rattle.ttcn_syntax.specs.declared.tree.statement.LogItem.TheVariants as log_item
use Rattle.ttcn_syntax.specs.declared.tree.statement.MapOperation.{MapOperation}
use Rattle.ttcn_syntax.specs.declared.tree.statement.PortRef.{PortRef}
use Rattle.ttcn_syntax.specs.declared.tree.statement.Verdict.{Verdict}
use Rattle.ttcn_syntax.specs.declared.tree.statement.Verdict.TheVariants as verdict
use Rattle.parse_reader.specs.internal.Reading.{Parser, pure, refuse, head_token, sees, sees_word, behind, eat, expect, expect_word, token_by, name, separated, separated_until, ◌>>=◌, ◌>>◌}
use Rattle.parse_reader.specs.internal.Expressions.{reference, component, expression}
use Rattle.parse_reader.specs.internal.Values.{a_value, call, calls, a_rhs}
use Rattle.parse_reader.specs.internal.Templates.{message}
use Rattle.parse_reader.specs.internal.Declarations.{float}
use Rattle.parse_reader.specs.internal.Events.{component_behind, bare, with_name, event_behind}

-- a part of a log, by its first token
abbrev pub log_item_by : Option Token → Parser LogItem
log_item_by (Some token.Text) = λ ts. Some (log_item.Text, behind ts)
log_item_by _ = do
  e ← expression
  pure (log_item.Expr e)

-- a text or an expression
unfoldable pub a_log_item : Parser LogItem
a_log_item ts = log_item_by (head_token ts) ts

-- 'log' '(' [LogItem {',' LogItem}] ')'
unfoldable pub log : Parser Action
log = do
  expect_word word.Log
  expect mark.LeftParen
  is ← separated_until mark.RightParen a_log_item
  pure (action.Log is)

-- the verdict that a word names
abbrev pub verdict_of : Option Token → Option Verdict
verdict_of (Some (token.Word word.None)) = Some verdict.None
verdict_of (Some (token.Word word.Pass)) = Some verdict.Pass
verdict_of (Some (token.Word word.Inconc)) = Some verdict.Inconc
verdict_of (Some (token.Word word.Fail)) = Some verdict.Fail
verdict_of (Some (token.Word word.Error)) = Some verdict.Error
verdict_of _ = None

-- a verdict
unfoldable pub a_verdict : Parser Verdict
a_verdict = token_by verdict_of

-- 'setverdict' '(' Verdict {',' LogItem} ')'
unfoldable pub setverdict : Parser Action
setverdict = do
  expect_word word.Setverdict
  expect mark.LeftParen
  v ← a_verdict
  reasons ← eat mark.Comma
  if reasons
      then (do
        is ← separated a_log_item
        expect mark.RightParen
        pure (action.Setverdict v is))
      else (do
        expect mark.RightParen
        pure (action.Setverdict v []))

-- Component ':' Id
unfoldable pub port_ref : Parser PortRef
port_ref = do
  c ← component
  expect mark.Colon
  bytes ← name
  pure (record { component = c; port = bytes })

-- 'connect' '(' PortRef ',' PortRef ')'
unfoldable pub connect : Parser Action
connect = do
  expect_word word.Connect
  expect mark.LeftParen
  a ← port_ref
  expect mark.Comma
  b ← port_ref
  expect mark.RightParen
  pure (action.Connect a b)

-- 'system' ':' Id
unfoldable pub system_port : Parser (List ℕ)
system_port = do
  expect_word word.System
  expect mark.Colon
  name

-- this word '(' (PortRef ',' SystemPort | SystemPort ',' PortRef) ')'
unfoldable pub mapping : Word → MapOperation → Parser Action
mapping w operation = do
  expect_word w
  expect mark.LeftParen
  λ ts. if sees_word word.System ts
      then (do
        q ← system_port
        expect mark.Comma
        p ← port_ref
        expect mark.RightParen
        pure (action.Map (record { operation = operation; port = p; system_port = q }))) ts
      else (do
        p ← port_ref
        expect mark.Comma
        q ← system_port
        expect mark.RightParen
        pure (action.Map (record { operation = operation; port = p; system_port = q }))) ts

-- 'deactivate' ['(' Reference ')']
unfoldable pub deactivate : Parser Action
deactivate = do
  expect_word word.Deactivate
  found ← eat mark.LeftParen
  if found
      then (do
        r ← reference
        expect mark.RightParen
        pure (action.Deactivate (Some r)))
      else pure (action.Deactivate None)

-- no value comes behind 'return'
abbrev pub returns_nothing : List Spanned → Bool
returns_nothing ts = sees mark.Semicolon ts || sees mark.RightBrace ts

-- 'return' [Value]
unfoldable pub return_ : Parser Action
return_ = do
  expect_word word.Return
  λ ts. if returns_nothing ts then Some (action.Return None, ts) else (do v ← a_value; pure (action.Return (Some v))) ts

-- what is assigned to this target
unfoldable pub assignment_to : Reference → Parser Assignment
assignment_to r = do
  expect mark.Assign
  v ← a_rhs
  pure (record { target = r; value = v })

-- Reference ':=' Rhs
unfoldable pub assignment : Parser Assignment
assignment = do
  r ← reference
  assignment_to r

-- a send behind its port and the dot
unfoldable pub send : List ℕ → Parser Action
send port = do
  expect_word word.Send
  expect mark.LeftParen
  m ← message
  expect mark.RightParen
  to ← component_behind word.To
  pure (action.Send (record { port = port; message = m; to = to }))

-- behind 'start'
unfoldable pub start : ComponentRef → Parser Action
start c = do
  expect_word word.Start
  λ ts. if sees mark.LeftParen ts && calls (behind ts)
      then (do
        expect mark.LeftParen
        f ← call
        expect mark.RightParen
        pure (action.StartComponent c f)) ts
      else with_name (λ bytes. do
        found ← eat mark.LeftParen
        if found
            then (do
              float
              expect mark.RightParen
              pure (action.StartTimer bytes))
            else pure (action.StartTimer bytes)) (bare c) ts

-- an event as a statement
unfoldable pub act_event : ComponentRef → Parser Action
act_event c = do
  e ← event_behind c
  pure (action.Event e)

-- an action behind a component, port or timer and the dot, by the token that comes next
abbrev pub member_action_by : ComponentRef → Option Token → Parser Action
member_action_by c (Some (token.Word word.Send)) = with_name send (bare c)
member_action_by c (Some (token.Word word.Start)) = start c
member_action_by c (Some (token.Word word.Stop)) = λ ts. Some (action.StopOf c, behind ts)
member_action_by c _ = act_event c

-- a statement behind its component, port or timer
unfoldable pub member_action : ComponentRef → Parser Action
member_action c = do
  expect mark.Dot
  λ ts. member_action_by c (head_token ts) ts

-- an assignment to what was read as a component
abbrev pub assigned_to : ComponentRef → Parser Action
assigned_to (component_ref.Named r) = do
  a ← assignment_to r
  pure (action.Assign a)
assigned_to component_ref.Itself = refuse
assigned_to component_ref.Mtc = refuse

-- a statement that begins with a name, 'self' or 'mtc'
unfoldable pub named_action : Parser Action
named_action = λ ts. if calls ts then (do c ← call; pure (action.Call c)) ts
    else (do
      c ← component
      λ rest. if sees mark.Assign rest then assigned_to c rest else member_action c rest) ts
