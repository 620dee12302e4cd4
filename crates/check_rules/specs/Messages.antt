-- The rules that receives and sends break (ES 201 873-1, 22.2).
use Rattle.std.specs.Prelude.{ℕ, Bool, true, false, List, [], ◌∷◌, ◌++◌, Option, Some, None, is_none, is_some}
use Rattle.std.specs.List.{list_any}
use Rattle.ttcn_syntax.specs.declared.tree.definition.Definition.{Definition}
use Rattle.ttcn_syntax.specs.declared.tree.expression.ComponentRef.{ComponentRef}
use Rattle.ttcn_syntax.specs.declared.tree.expression.Reference.{Reference}
use Rattle.ttcn_syntax.specs.declared.tree.statement.Event.{Event}
use Rattle.ttcn_syntax.specs.declared.tree.statement.Event.TheVariants as event
use Rattle.ttcn_syntax.specs.declared.tree.statement.PortSelector.{PortSelector}
use Rattle.ttcn_syntax.specs.declared.tree.statement.PortSelector.TheVariants as selector
use Rattle.ttcn_syntax.specs.declared.tree.statement.Receive.{Receive}
use Rattle.ttcn_syntax.specs.declared.tree.statement.Send.{Send}
use Rattle.ttcn_syntax.specs.declared.tree.template.MessageTemplate.{MessageTemplate}
use Rattle.ttcn_syntax.specs.declared.tree.template.Template.{Template}
use Rattle.ttcn_syntax.specs.declared.tree.value.TypeName.{TypeName}
use Rattle.check_rules.specs.Expressions.{Judgement, check_wanted_component}
use Rattle.check_scope.specs.Names.{Scope, kind_at, module_names, resolved}
use Rattle.check_rules.specs.Targets.{check_target, check_type}
use Rattle.check_scope.specs.Typings.{is_component, same_type, target_of, type_known, typed, unless}
use Rattle.check_rules.specs.Templates.{template, typing_of_template}
use Rattle.check_scope.specs.declared.names.Meaning.{Meaning}
use Rattle.check_scope.specs.declared.names.Meaning.TheVariants as meaning
use Rattle.check_scope.specs.declared.rule.Rule.{Rule}
use Rattle.check_scope.specs.declared.rule.Rule.TheVariants as rule
use Rattle.check_scope.specs.declared.types.DataType.{DataType}
use Rattle.check_scope.specs.declared.types.Typing.{Typing}
use Rattle.check_scope.specs.declared.types.Typing.TheVariants as typing
use Rattle.check_scope.specs.PortTypes.{agrees, only_type, types_of_port}

-- ---- what a port lets pass

-- the types of the messages that pass at a port: nothing is known where its own type isn't
abbrev pub Passing : Type 0
Passing = Option (List (Option DataType))

-- the types that pass in a direction at a port whose type stands at a position, if that is known
abbrev pub passing_at : List Definition → Bool → Option ℕ → Passing
passing_at definitions incoming None = None
passing_at definitions incoming (Some at) = Some (types_of_port (module_names definitions) incoming (kind_at definitions at))

-- the port that a name stands for: its type, which may be unknown
abbrev pub port_meant : Option Meaning → Option (Option ℕ)
port_meant (Some (meaning.Port at)) = Some at
port_meant _ = None

-- ---- the type of a message

-- a port lists a type: not judged where nothing is known
abbrev pub lists : Passing → DataType → Bool
lists None t = true
lists (Some types) t = list_any (agrees t) types

-- the judgement of what has no known type, with the rules that it breaks
abbrev pub unknown_type : List Rule → Judgement
unknown_type broken = record { typing = typing.Unknown; broken = broken }

-- a message that says nothing of its type by itself: it is of the only one that passes
abbrev pub of_only : Option DataType → Judgement
of_only None = unknown_type (rule.PortType ∷ [])
of_only (Some t) = record { typing = typing.Known t; broken = [] }

-- the judgement of a message that says nothing of its type by itself, at a port: its type is the only one that passes
abbrev pub type_by_port : Passing → Judgement
type_by_port None = unknown_type []
type_by_port (Some types) = of_only (only_type types)

-- a message whose type is known by itself: it is one of those that pass. Components are not, and `null` has no type
abbrev pub type_by_itself : Passing → Typing → Judgement
type_by_itself passing (typing.Known t) = record { typing = typing.Known t; broken = unless (lists passing t) rule.PortType }
type_by_itself passing typing.Null = unknown_type (rule.ValueType ∷ [])
type_by_itself passing typing.AnyComponent = unknown_type (unless (is_none passing) rule.PortType)
type_by_itself passing typing.NoValue = unknown_type (rule.PortType ∷ [])
type_by_itself passing typing.Unknown = unknown_type []

-- the judgement of a message that says nothing of its type by itself, at `any port`: its type has to be known by itself
abbrev pub type_anywhere : Judgement
type_anywhere = unknown_type (rule.PortType ∷ [])

-- the judgement of a message with no type before it: by its template's own typing, or else the one given
abbrev pub by_template : Passing → Judgement → Option Typing → Judgement
by_template passing otherwise None = otherwise
by_template passing otherwise (Some t) = type_by_itself passing t

-- the judgement of a message: by the type before its template if there is one, or else by the template
abbrev pub by_type_name : Scope → Passing → Judgement → Template → Option TypeName → Judgement
by_type_name scope passing otherwise t None = by_template passing otherwise (typing_of_template scope t)
by_type_name scope passing otherwise t (Some name) = type_by_itself passing (typed (resolved scope.names name))

-- the judgement of a message's type: by the type before the message, else by the message itself, else by the port
abbrev pub type_of_message : Scope → Passing → Judgement → MessageTemplate → Judgement
type_of_message scope passing otherwise message = by_type_name scope passing otherwise message.template message.type_name

-- the rules that the type before a message's template breaks, if there is one: it is not `default`
abbrev pub check_type_name : Scope → Option TypeName → List Rule
check_type_name scope None = []
check_type_name scope (Some name) = check_type scope.names false name

-- the rules that a message breaks where messages of some types pass
abbrev pub check_message : Scope → Passing → Judgement → MessageTemplate → List Rule
check_message scope passing otherwise message =
    check_type_name scope message.type_name ++ (type_of_message scope passing otherwise message).broken ++
    template message.template scope (target_of (type_known (type_of_message scope passing otherwise message).typing))

-- ---- sends

-- what is known where a message passes: the types that pass, and the type of a message that says nothing of it
abbrev pub Passage : Type 0
Passage = Passing × Judgement

-- what is known where a message passes at a port whose type stands at a position, if that is known
abbrev pub passage_at : List Definition → Bool → Option ℕ → Passage
passage_at definitions incoming port = (passing_at definitions incoming port, type_by_port (passing_at definitions incoming port))

-- the rules that a `to` or `from` clause breaks, if there is one: it names a component
abbrev pub check_to : Scope → Option ComponentRef → List Rule
check_to scope None = []
check_to scope (Some reference) = (check_wanted_component scope reference).broken

-- the rules that the message of a `send` breaks at what its port's name stands for, which has to be a port
abbrev pub check_sent : Scope → Option (Option ℕ) → MessageTemplate → List Rule
check_sent scope None message = rule.UnknownName ∷ check_message scope None (type_by_port None) message
check_sent scope (Some port) message = check_message scope (passage_at scope.definitions false port).0 (passage_at scope.definitions false port).1 message

-- the rules that a `send` breaks: those of its port and message, and of its `to` clause
abbrev pub check_send : Scope → Send → List Rule
check_send scope send = check_sent scope (port_meant (scope.names send.port)) send.message ++ check_to scope send.to

-- ---- receives

-- what is known of messages that come in at what a name stands for: nothing where that is no port
abbrev pub incoming_at : List Definition → Option (Option ℕ) → Passage
incoming_at definitions None = (None, type_by_port None)
incoming_at definitions (Some port) = passage_at definitions true port

-- what is known of messages that come in at the port of a `receive`: a named one, or `any port`
abbrev pub incoming : Scope → PortSelector → Passage
incoming scope selector.Any = (None, type_anywhere)
incoming scope (selector.Named name) = incoming_at scope.definitions (port_meant (scope.names name))

-- the rules that the port of a `receive` breaks: its name is that of a port, and `any port` breaks none
abbrev pub check_selector : Scope → PortSelector → List Rule
check_selector scope selector.Any = []
check_selector scope (selector.Named name) = unless (is_some (port_meant (scope.names name))) rule.UnknownName

-- the rules that the message of a receive breaks: none where any message is received
abbrev pub check_received : Scope → Passage → Option MessageTemplate → List Rule
check_received scope incoming None = []
check_received scope incoming (Some message) = check_message scope incoming.0 incoming.1 message

-- what is known of the type of what is received, where a template determines it
abbrev pub received_type : Scope → Passage → Option MessageTemplate → Option DataType
received_type scope incoming None = None
received_type scope incoming (Some message) = type_known (type_of_message scope incoming.0 incoming.1 message).typing

-- ---- redirects

-- a message goes to a target of its type: not judged where one of them is unknown
abbrev pub stores : Option DataType → Typing → Bool
stores None found = true
stores (Some t) (typing.Known other) = same_type t other
stores (Some t) typing.Null = true
stores (Some t) typing.AnyComponent = true
stores (Some t) typing.NoValue = true
stores (Some t) typing.Unknown = true

-- a sender goes to a target of a component type
abbrev pub stores_sender : Typing → Bool
stores_sender (typing.Known t) = is_component t
stores_sender typing.Null = true
stores_sender typing.AnyComponent = true
stores_sender typing.NoValue = true
stores_sender typing.Unknown = true

-- the rules of a `value` redirect, if any: a template tells the message, whose type is that of the target
abbrev pub check_value_redirect : Scope → Bool → Option DataType → Option Reference → List Rule
check_value_redirect scope finding of None = []
check_value_redirect scope finding of (Some reference) =
    (check_target scope reference).broken ++ unless finding rule.Redirect ++ unless (stores of (check_target scope reference).typing) rule.Redirect

-- the rules of a `sender` redirect, if any: its target is of a component type
abbrev pub check_sender_redirect : Scope → Option Reference → List Rule
check_sender_redirect scope None = []
check_sender_redirect scope (Some reference) =
    (check_target scope reference).broken ++ unless (stores_sender (check_target scope reference).typing) rule.Redirect

-- ---- events

-- the rules that a `receive` breaks: those of its port, message, `from` clause and redirects
abbrev pub check_receive : Scope → Receive → List Rule
check_receive scope receive =
    check_selector scope receive.port ++ check_received scope (incoming scope receive.port) receive.message ++ check_to scope receive.from ++
    check_value_redirect scope (is_some receive.message) (received_type scope (incoming scope receive.port) receive.message) receive.value ++
    check_sender_redirect scope receive.sender

-- a name stands for a timer
abbrev pub is_timer_name : Option Meaning → Bool
is_timer_name (Some meaning.Timer) = true
is_timer_name _ = false

-- the rules that a named timer breaks in an operation: its name is that of a timer
abbrev pub check_timer : Scope → List ℕ → List Rule
check_timer scope name = unless (is_timer_name (scope.names name)) rule.UnknownName

-- the rules that an event breaks: a `receive`, a `timeout`, or a `done` of one or all components
abbrev pub check_event : Scope → Event → List Rule
check_event scope (event.Receive receive) = check_receive scope receive
check_event scope (event.Timeout timer) = check_timer scope timer
check_event scope (event.Done reference) = (check_wanted_component scope reference).broken
check_event scope event.AllDone = []
