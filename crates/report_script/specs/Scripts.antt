-- Which script of a test case a text is (ES 201 873-1, 9 and 22.2).
use Rattle.std.specs.Prelude.{ℕ, Bool, true, ◌&&◌, List, [], ◌∷◌, length, nat_lt, Option, Some, None, Result, Ok, Err, bytes_eq, codes, is_some, if◌then◌else◌}
use Rattle.std.specs.Option.{option_and_then, option_map}
use Rattle.std.specs.Str.{is_utf8}
use Rattle.serde_json.specs.Data.{Data, Items, no_items, item, Members, no_members, member}
use Rattle.serde_json.specs.Find.{as_array, as_object}
use Rattle.serde_json.specs.Read.{read}
use Rattle.ttcn_syntax.specs.declared.tree.definition.Definition.{Definition}
use Rattle.check_rules.specs.Messages.{port_meant}
use Rattle.check_scope.specs.Names.{Names, module_names, names_on, type_meant}
use Rattle.check_scope.specs.Typings.{target_of}
use Rattle.check_scope.specs.declared.types.DataType.{DataType}
use Rattle.check_scope.specs.declared.types.DataType.TheVariants as type
use Rattle.semantics.specs.Snapshots.{Script, Test}
use Rattle.semantics.specs.Statements.{system_type, takes, types_at}
use Rattle.report_script.specs.Values.{value_given}
use Rattle.report_script.specs.declared.error.ScriptError.{ScriptError}
use Rattle.report_script.specs.declared.error.ScriptError.TheVariants as refusal
use Rattle.value_types.specs.declared.value.Value.{Value}

-- ---- messages

-- the type that the name of a message's only member names
abbrev pub type_named : List Definition → List ℕ → Option DataType
type_named definitions name =
    if bytes_eq name (codes "integer") then Some type.Integer
    else (if bytes_eq name (codes "boolean") then Some type.Boolean else type_meant (module_names definitions name))

-- a message of a type that a port of this type lists as in
abbrev pub message_of : List Definition → Option ℕ → Data → Option DataType → Option Value
message_of definitions port d None = None
message_of definitions port d (Some t) =
    if takes (types_at definitions true port) (Some t) then value_given d definitions (target_of (Some t)) else None

-- a message: one member, which has the name of the message's type
abbrev pub message_in : List Definition → Option ℕ → Members → Option Value
message_in definitions port (member name d no_members) = message_of definitions port d (type_named definitions name)
message_in definitions port _ = None

-- an object that is a message
abbrev pub message_given : List Definition → Option ℕ → Data → Option Value
message_given definitions port d = option_and_then (message_in definitions port) (as_object d)

-- messages, one behind the other
abbrev pub messages_in : List Definition → Option ℕ → Items → Option (List Value)
messages_in definitions port no_items = Some []
messages_in definitions port (item d ds) =
    option_and_then (λ v. option_map (λ vs. v ∷ vs) (messages_in definitions port ds)) (message_given definitions port d)

-- a list of messages
abbrev pub messages_given : List Definition → Option ℕ → Data → Option (List Value)
messages_given definitions port d = option_and_then (messages_in definitions port) (as_array d)

-- ---- ports

-- each member has the name of a port, where names stand for this
abbrev pub are_ports : Names → Members → Bool
are_ports names no_members = true
are_ports names (member name d ms) = is_some (port_meant (names name)) && are_ports names ms

-- the messages at the port of a name
abbrev pub port_given : List Definition → Names → List ℕ → Data → Option (List Value)
port_given definitions names name d = option_and_then (λ port. messages_given definitions port d) (port_meant (names name))

-- the messages at each port that a member names, in the order of the members
abbrev pub ports_given : List Definition → Names → Members → Option Script
ports_given definitions names no_members = Some []
ports_given definitions names (member name d ms) =
    option_and_then (λ messages. option_map (λ ports. (name, messages) ∷ ports) (ports_given definitions names ms))
    (port_given definitions names name d)

-- ---- scripts

-- the test case at a position, with a script
abbrev pub test_with : List Definition → ℕ → Script → Test
test_with definitions testcase script = record { definitions = definitions; testcase = testcase; script = script }

-- the names that are visible in the component type whose ports are the system ports of the test case at a position
abbrev pub system_names : List Definition → ℕ → Names
system_names definitions testcase = names_on definitions (system_type (test_with definitions testcase []))

-- what is there, or why it is not
abbrev pub or_refused : {A : Type 0} → ScriptError → Option A → Result A ScriptError
or_refused why None = Err why
or_refused why (Some a) = Ok a

-- an object from system ports to lists of messages: a member that is no system port is refused first
abbrev pub script_of : List Definition → Names → Option Members → Result Script ScriptError
script_of definitions names None = Err refusal.NoSuchPort
script_of definitions names (Some ms) =
    if are_ports names ms then or_refused refusal.BadMessage (ports_given definitions names ms) else Err refusal.NoSuchPort

-- the script of the test case at a position that JSON is, or the first refusal that holds
abbrev pub script_in : List Definition → ℕ → Data → Result Script ScriptError
script_in definitions testcase d = script_of definitions (system_names definitions testcase) (as_object d)

-- the JSON that a text is
abbrev pub json_in : List ℕ → Option Data
json_in text = if is_utf8 text then read text else None

-- what comes of the JSON that a text is
abbrev pub script_of_json : List Definition → ℕ → Option Data → Result Script ScriptError
script_of_json definitions testcase None = Err refusal.BadJson
script_of_json definitions testcase (Some d) = script_in definitions testcase d

-- a text has no more bytes than this
abbrev pub most_bytes : ℕ
most_bytes = 1048576

-- the script of the test case at a position that a text is, or the first refusal that holds
abbrev pub script_said : List Definition → ℕ → List ℕ → Result Script ScriptError
script_said definitions testcase text =
    if nat_lt most_bytes (length text) then Err refusal.TooLarge else script_of_json definitions testcase (json_in text)
