-- What is read as events.
use Rattle.std.specs.Prelude.{ℕ, if◌then◌else◌, List, [], ◌∷◌, Option, Some, None}
use Rattle.ttcn_syntax.specs.declared.token.Symbol.TheVariants as mark
use Rattle.ttcn_syntax.specs.declared.token.Token.{Token}
use Rattle.ttcn_syntax.specs.declared.token.Token.TheVariants as token
use Rattle.ttcn_syntax.specs.declared.token.Word.{Word}
use Rattle.ttcn_syntax.specs.declared.token.Word.TheVariants as word
use Rattle.ttcn_syntax.specs.declared.tree.expression.ComponentRef.{ComponentRef}
use Rattle.ttcn_syntax.specs.declared.tree.expression.ComponentRef.TheVariants as component_ref
use Rattle.ttcn_syntax.specs.declared.tree.expression.Reference.{Reference}
use Rattle.ttcn_syntax.specs.declared.tree.template.MessageTemplate.{MessageTemplate}
use Rattle.ttcn_syntax.specs.declared.tree.statement.Event.{Event}
use Rattle.ttcn_syntax.specs.declared.tree.statement.Event.TheVariants as event
use Rattle.ttcn_syntax.specs.declared.tree.statement.PortSelector.{PortSelector}
use Rattle.ttcn_syntax.specs.declared.tree.statement.PortSelector.TheVariants as selector
use Rattle.parse_reader.specs.internal.Reading.{Parser, pure, refuse, head_token, behind, eat, eat_word, expect, expect_word, ◌>>=◌, ◌>>◌}
use Rattle.parse_reader.specs.internal.Expressions.{reference, component}
use Rattle.parse_reader.specs.internal.Templates.{message}

-- ['sender' Reference]
unfoldable pub sender : Parser (Option Reference)
sender = do
  found ← eat_word word.Sender
  if found then (do r ← reference; pure (Some r)) else pure None

-- where message and sender go
unfoldable pub redirect : Parser (Option Reference × Option Reference)
redirect = do
  some_of_it ← eat mark.Arrow
  if some_of_it
      then (do
        valued ← eat_word word.Value
        if valued
            then (do
              v ← reference
              s ← sender
              pure (Some v, s))
            else (do
              expect_word word.Sender
              s ← reference
              pure (None, Some s)))
      else pure (None, None)

-- a component behind its word
unfoldable pub component_behind : Word → Parser (Option ComponentRef)
component_behind w = do
  found ← eat_word w
  if found then (do c ← component; pure (Some c)) else pure None

-- ['(' Message ')']
unfoldable pub received : Parser (Option MessageTemplate)
received = do
  found ← eat mark.LeftParen
  if found
      then (do
        m ← message
        expect mark.RightParen
        pure (Some m))
      else pure None

-- a receive behind its port and the dot
unfoldable pub receive : PortSelector → Parser Event
receive port = do
  expect_word word.Receive
  m ← received
  from ← component_behind word.From
  into ← redirect
  pure (event.Receive (record { port = port; message = m; from = from; value = into.0; sender = into.1 }))

-- the name, where no fields are behind it
abbrev pub without_fields : List ℕ → List (List ℕ) → Option (List ℕ)
without_fields bytes [] = Some bytes
without_fields bytes (f ∷ fs) = None

-- the name, where the reference is no more than that
abbrev pub bare : ComponentRef → Option (List ℕ)
bare (component_ref.Named r) = without_fields r.name r.fields
bare component_ref.Itself = None
bare component_ref.Mtc = None

-- what is read with this name, if there is one
abbrev pub with_name : {A : Type 0} → (List ℕ → Parser A) → Option (List ℕ) → Parser A
with_name p (Some bytes) = p bytes
with_name p None = refuse

-- what is waited for, behind its component, port or timer and the dot
abbrev pub event_by : ComponentRef → Option Token → Parser Event
event_by c (Some (token.Word word.Receive)) = with_name (λ bytes. receive (selector.Named bytes)) (bare c)
event_by c (Some (token.Word word.Timeout)) = with_name (λ bytes ts. Some (event.Timeout bytes, behind ts)) (bare c)
event_by c (Some (token.Word word.Done)) = λ ts. Some (event.Done c, behind ts)
event_by c _ = refuse

-- an event behind its component, port or timer and the dot
unfoldable pub event_behind : ComponentRef → Parser Event
event_behind c ts = event_by c (head_token ts) ts

-- a receive at any port
unfoldable pub any_port : Parser Event
any_port = do
  expect_word word.Any
  expect_word word.Port
  expect mark.Dot
  receive selector.Any

-- 'all' 'component' '.' 'done'
unfoldable pub all_done : Parser Event
all_done = do
  expect_word word.All
  expect_word word.Component
  expect mark.Dot
  expect_word word.Done
  pure event.AllDone

-- an event of one component, port or timer
unfoldable pub event_of_one : Parser Event
event_of_one = do
  c ← component
  expect mark.Dot
  event_behind c

-- an event, by its first token
abbrev pub an_event_by : Option Token → Parser Event
an_event_by (Some (token.Word word.Any)) = any_port
an_event_by (Some (token.Word word.All)) = all_done
an_event_by _ = event_of_one

-- an event
unfoldable pub an_event : Parser Event
an_event ts = an_event_by (head_token ts) ts
