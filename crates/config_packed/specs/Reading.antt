-- What bytes spell, and the bytes behind. Bytes that spell nothing are read as anything at all.
use Rattle.std.specs.Prelude.{ℕ, zero, suc, ◌+◌, ◌-◌, ◌*◌, ◌/◌, ◌%◌, ◌==◌, ℤ, pos, negsuc, false, true, nat_lt, if◌then◌else◌, List, [], ◌∷◌, length, Option, Some, None}
use Rattle.ttcn_syntax.specs.declared.tree.statement.Verdict.{Verdict}
use Rattle.ttcn_syntax.specs.declared.tree.statement.Verdict.TheVariants as verdict
use Rattle.value_types.specs.declared.frame.TimerState.{TimerState}
use Rattle.value_types.specs.declared.frame.TimerState.TheVariants as timer
use Rattle.value_types.specs.declared.path.Path.{Path}
use Rattle.value_types.specs.declared.value.ComponentId.{ComponentId}
use Rattle.value_types.specs.declared.value.Value.{Value}
use Rattle.value_types.specs.declared.value.Value.TheVariants as value
use Rattle.config_parts.specs.declared.component.Component.{Component}
use Rattle.config_parts.specs.declared.component.Message.{Message}
use Rattle.config_parts.specs.declared.component.Queue.{Queue}
use Rattle.config_parts.specs.declared.component.State.{State}
use Rattle.config_parts.specs.declared.component.State.TheVariants as state
use Rattle.config_parts.specs.declared.config.Config.{Config}
use Rattle.config_parts.specs.declared.config.Config.TheVariants as config
use Rattle.config_parts.specs.declared.config.Going.{Going}
use Rattle.config_parts.specs.declared.connection.Connection.{Connection}
use Rattle.config_parts.specs.declared.connection.End.{End}
use Rattle.config_parts.specs.declared.connection.Links.{Links}
use Rattle.config_parts.specs.declared.frame.ActiveDefault.{ActiveDefault}
use Rattle.config_parts.specs.declared.frame.Cells.{Cells}
use Rattle.config_parts.specs.declared.frame.Data.{Data}
use Rattle.config_parts.specs.declared.frame.Frame.{Frame}

-- what is read from bytes, and the bytes behind
abbrev pub Reads : Type 0 → Type 0
Reads A = List ℕ → A × List ℕ

infixl 10 ◌>>=◌
-- one thing is read behind another
abbrev pub ◌>>=◌ : {A B : Type 0} → Reads A → (A → Reads B) → Reads B
(r >>= k) bytes = k (r bytes).0 (r bytes).1

-- nothing more is read
abbrev pub done : {A : Type 0} → A → Reads A
done thing bytes = (thing, bytes)

-- ---- numbers

-- a byte, or 0 where there is none
unfoldable pub read_byte : Reads ℕ
read_byte [] = (0, [])
read_byte (byte ∷ bytes) = (byte, bytes)

-- a number in four bytes, the lowest one first
unfoldable pub read_four : Reads ℕ
read_four = do
  first ← read_byte
  second ← read_byte
  third ← read_byte
  fourth ← read_byte
  done (first + 256 * (second + 256 * (third + 256 * fourth)))

-- a number in eight bytes, its lower half first
unfoldable pub read_eight : Reads ℕ
read_eight = do
  low ← read_four
  high ← read_four
  done (low + 4294967296 * high)

-- a short number that begins with this byte
unfoldable pub read_short : ℕ → Reads ℕ
read_short first = if nat_lt first 192 then done first else (do
  second ← read_byte
  done (256 * (first - 192) + second))

-- a number that begins with this byte
abbrev pub number_from : Reads ℕ → ℕ → Reads ℕ
number_from wide first = if nat_lt first 255 then read_short first else wide

-- a number of 32 bits
unfoldable pub read_number : Reads ℕ
read_number = read_byte >>= number_from read_four

-- a number of 64 bits
unfoldable pub read_long : Reads ℕ
read_long = read_byte >>= number_from read_eight

-- two numbers that begin with this byte
abbrev pub both_from : Reads ℕ → ℕ → Reads (ℕ × ℕ)
both_from read first = if nat_lt first 240 then done (first / 16, first % 16) else (do
  a ← read_long
  b ← read
  done (a, b))

-- a number of 64 bits and one of 32 bits
unfoldable pub read_pair : Reads (ℕ × ℕ)
read_pair = read_byte >>= both_from read_number

-- two numbers of 64 bits
unfoldable pub read_long_pair : Reads (ℕ × ℕ)
read_long_pair = read_byte >>= both_from read_long

-- ---- lists

-- reads this many items
unfoldable pub read_items : {A : Type 0} → Reads A → ℕ → Reads (List A)
read_items read zero = done []
read_items read (suc count) = do
  item ← read
  items ← read_items read count
  done (item ∷ items)

-- how many items there are, and then the items
unfoldable pub read_list : {A : Type 0} → Reads A → Reads (List A)
read_list read = read_long >>= read_items read

-- ---- values

-- the integer of a number
abbrev pub integer_of : ℕ → ℤ
integer_of n = if n % 2 == 0 then pos (n / 2) else negsuc (n / 2)

-- an integer, by its number, behind the byte of the variant
unfoldable pub read_integer : Reads ℤ
read_integer = do
  number ← read_long
  done (integer_of number)

-- the name of a component that begins with this byte
abbrev pub path_from : ℕ → Reads Path
path_from first =
    if first == 0 then done (record { numbers = [] }) else (
    if nat_lt first 101 then done (record { numbers = (first - 1) ∷ [] }) else (do
      numbers ← read_list read_number
      done (record { numbers = numbers })))

-- the name of a component
unfoldable pub read_path : Reads Path
read_path = read_byte >>= path_from

-- a component that a reference names, where its path begins with this byte
unfoldable pub identity_from : ℕ → Reads ComponentId
identity_from first = do
  path ← path_from first
  component_type ← read_long
  done (record { path = path; component_type = component_type })

-- a component that a reference names
unfoldable pub read_identity : Reads ComponentId
read_identity = read_byte >>= identity_from

-- a field that begins with this byte: behind 0 it has no value
abbrev pub field_from : Reads Value → ℕ → Reads (Option Value)
field_from read tag = if tag == 0 then done None else (do
  value ← read
  done (Some value))

-- a field of a record, where its value is read in this way
unfoldable pub read_field : Reads Value → Reads (Option Value)
read_field read = read_byte >>= field_from read

-- a name of an enumeration, behind the byte of the variant
unfoldable pub read_enumerated : Reads Value
read_enumerated = do
  at ← read_long
  name ← read_long
  done (value.Enumerated at name)

-- a record, behind the byte of the variant, where the values of its fields are read in this way
unfoldable pub read_record : Reads Value → Reads Value
read_record read = do
  at ← read_long
  fields ← read_list (read_field read)
  done (value.Record at fields)

-- a value behind the byte of its variant, where fields are read in this way
abbrev pub other_from : Reads Value → ℕ → Reads Value
other_from read tag =
    if tag == 0 then (do
      integer ← read_integer
      done (value.Integer integer)) else (
    if tag == 1 then done (value.Boolean false) else (
    if tag == 2 then done (value.Boolean true) else (
    if tag == 3 then read_enumerated else (
    if tag == 4 then read_record read else (
    if tag == 5 then (do
      component ← read_identity
      done (value.Component component)) else (
    if tag == 6 then (do
      activation ← read_number
      done (value.Default activation)) else (
    if tag == 7 then done value.Null else done value.Omit)))))))

-- a value that begins with this byte: a byte from 9 on is an integer
abbrev pub value_from : Reads Value → ℕ → Reads Value
value_from read tag = if nat_lt 8 tag then done (value.Integer (integer_of (tag - 9))) else other_from read tag

-- a value whose records nest less deep than this
unfoldable pub read_value_within : ℕ → Reads Value
read_value_within zero = done value.Omit
read_value_within (suc depth) = read_byte >>= value_from (read_value_within depth)

-- no value nests deeper than it has bytes
unfoldable pub read_value : Reads Value
read_value bytes = read_value_within (length bytes) bytes

-- ---- what components have of their own

-- the state of a timer that this byte stands for
abbrev pub timer_of : ℕ → TimerState
timer_of code = if code == 0 then timer.Inactive else (if code == 1 then timer.Running else timer.Expired)

-- the state of a timer
unfoldable pub read_timer : Reads TimerState
read_timer = do
  code ← read_byte
  done (timer_of code)

-- what a slot has
unfoldable pub read_entry : {A : Type 0} → Reads A → Reads (ℕ × A)
read_entry read = do
  slot ← read_number
  stored ← read
  done (slot, stored)

-- how many names have values and how many timers there are, and then they
unfoldable pub read_cells : Reads Cells
read_cells = do
  counts ← read_long_pair
  values ← read_items (read_entry read_value) counts.0
  timers ← read_items (read_entry read_timer) counts.1
  done (record { values = values; timers = timers })

-- what remains in a frame, and then its names
unfoldable pub read_frame : Reads Frame
read_frame = do
  remaining ← read_long
  cells ← read_cells
  done (record { remaining = remaining; cells = cells })

-- an activated default
unfoldable pub read_default : Reads ActiveDefault
read_default = do
  number ← read_number
  altstep ← read_long
  arguments ← read_list read_value
  done (record { number = number; altstep = altstep; arguments = arguments })

-- ---- components, connections and mappings

-- the verdict that this byte stands for
abbrev pub verdict_of : ℕ → Verdict
verdict_of code =
    if code == 0 then verdict.None else (
    if code == 1 then verdict.Pass else (
    if code == 2 then verdict.Inconc else (
    if code == 3 then verdict.Fail else verdict.Error)))

-- a verdict
unfoldable pub read_verdict : Reads Verdict
read_verdict = do
  code ← read_byte
  done (verdict_of code)

-- the state of a component that this byte stands for
abbrev pub state_of : ℕ → State
state_of code = if code == 0 then state.Created else (if code == 1 then state.Running else state.Terminated)

-- the sender of a message that begins with this byte: behind 102 it has none
abbrev pub sender_from : ℕ → Reads (Option ComponentId)
sender_from first = if first == 102 then done None else (do
  component ← identity_from first
  done (Some component))

-- the sender of a message
unfoldable pub read_sender : Reads (Option ComponentId)
read_sender = read_byte >>= sender_from

-- a message, and then its sender
unfoldable pub read_message : Reads Message
read_message = do
  value ← read_value
  sender ← read_sender
  done (record { value = value; sender = sender })

-- how many messages wait at a port and the port, and then the messages: their length is passed over
unfoldable pub read_queue : Reads Queue
read_queue = do
  head ← read_pair
  size ← read_long
  messages ← read_items read_message head.0
  done (record { port = head.1; messages = messages })

-- a component's port
unfoldable pub read_end : Reads End
read_end = do
  component ← read_path
  port ← read_number
  done (record { component = component; port = port })

-- the two ends of a connection
unfoldable pub read_connection : Reads Connection
read_connection = do
  one ← read_end
  other ← read_end
  done (record { one = one; other = other })

-- connections, then the ports that are mapped to system ports, and then how many messages came in at system ports
unfoldable pub read_links : Reads Links
read_links = do
  connections ← read_list read_connection
  mappings ← read_list (read_entry read_end)
  delivered ← read_list (read_entry read_long)
  done (record { connections = connections; mappings = mappings; delivered = delivered })

-- ---- configurations

-- the name and the state of a component
unfoldable pub read_name : Reads (ComponentId × State)
read_name = do
  path ← read_path
  kind ← read_long_pair
  done (record { path = path; component_type = kind.0 }, state_of kind.1)

-- the verdict of a component, and its data
unfoldable pub read_own : Reads (Verdict × Data)
read_own = do
  head ← read_pair
  members ← read_cells
  calls ← read_list read_frame
  last ← read_pair
  defaults ← read_items read_default last.0
  done (verdict_of head.0, record { members = members; calls = calls; defaults = defaults; activations = last.1; children = head.1 })

-- a component of this name, from its content: lengths are passed over
unfoldable pub read_component : ComponentId × State → Reads Component
read_component name = do
  size ← read_long
  own ← read_own
  room ← read_long
  queues ← read_list read_queue
  done (record { itself = name.0; own = own.1; state = name.1; verdict = own.0; queues = queues })

-- components of these names, from their contents
unfoldable pub read_contents : List (ComponentId × State) → Reads (List Component)
read_contents [] = done []
read_contents (name ∷ names) = do
  component ← read_component name
  components ← read_contents names
  done (component ∷ components)

-- a test case that goes on, behind the first byte: how many components it has, and the length of what all of them see, are passed over
unfoldable pub read_going : Reads Going
read_going = do
  count ← read_long
  size ← read_long
  forgotten ← read_verdict
  links ← read_links
  names ← read_list read_name
  components ← read_contents names
  done (record { components = components; links = links; forgotten = forgotten })

-- a configuration that begins with this byte
abbrev pub config_from : ℕ → Reads Config
config_from tag = if tag == 0 then (do
  v ← read_verdict
  done (config.Ended v)) else (do
    going ← read_going
    done (config.Going going))

-- a configuration
unfoldable pub read_config : Reads Config
read_config = read_byte >>= config_from

-- the configuration that bytes spell
abbrev pub config_in : List ℕ → Config
config_in bytes = (read_config bytes).0
