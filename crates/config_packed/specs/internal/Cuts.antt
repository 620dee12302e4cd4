-- How bytes are cut, as the private functions do it: what is read is kept as bytes.
use Rattle.std.specs.Prelude.{ℕ, ◌+◌, ◌-◌, ◌==◌, if◌then◌else◌, List, [], ◌∷◌, ◌++◌, ◌≡◌, length, min, take, drop}
use Rattle.std.specs.List.{flat_map}
use Rattle.config_parts.specs.declared.component.Message.{Message}
use Rattle.config_parts.specs.declared.component.Queue.{Queue}
use Rattle.config_parts.specs.internal.Changes.{change_queue}
use Rattle.config_packed.specs.Reading.{Reads, ◌>>=◌, done, read_items, read_long, read_message, read_pair}
use Rattle.config_packed.specs.Spelling.{spell_list, spell_long, spell_pair, spell_queue, spell_sized}

-- the bytes before those that are left
abbrev pub since : List ℕ → List ℕ → List ℕ
since bytes left = take (length bytes - length left) bytes

-- this many bytes
abbrev pub read_bytes : ℕ → Reads (List ℕ)
read_bytes count bytes = (take count bytes, drop count bytes)

-- the bytes that are read in this way
abbrev pub bytes_read : {A : Type 0} → Reads A → Reads (List ℕ)
bytes_read read bytes = (since bytes (read bytes).1, (read bytes).1)

-- the bytes that stand behind their length
unfoldable pub cut_sized : Reads (List ℕ)
cut_sized = do
  size ← read_long
  bytes ← read_bytes size
  done bytes

-- the bytes of what a component has of its own, and those of its queues
unfoldable pub cut_content : Reads (List ℕ × List ℕ)
cut_content = do
  own ← cut_sized
  queues ← cut_sized
  done (own, queues)

-- of the bytes of messages those of the first: of none there are none
abbrev pub first_of : List ℕ → List ℕ
first_of messages = (bytes_read read_message messages).0

-- of a queue the bytes of its port and its first message, as a queue with at most one message
unfoldable pub cut_front : Reads (List ℕ)
cut_front = do
  head ← read_pair
  messages ← cut_sized
  done (spell_pair (min head.0 1) head.1 ++ spell_sized (first_of messages))

-- the same of so many queues, one behind the other
abbrev pub fronts_read : ℕ → List ℕ → List ℕ
fronts_read count bytes = flat_map (λ (front : List ℕ). front) (read_items cut_front count bytes).0

-- and of all queues
abbrev pub cut_fronts : List ℕ → List ℕ
cut_fronts queues = spell_long (read_long queues).0 ++ fronts_read (read_long queues).0 (read_long queues).1

-- the parts of a component in whose queues only the messages in front are left
abbrev pub shortened_parts : List ℕ × List ℕ → List ℕ × List ℕ
shortened_parts parts = (parts.0, cut_fronts parts.1)

-- the bytes of a component from its parts
abbrev pub joined : List ℕ × List ℕ → List ℕ
joined parts = spell_sized parts.0 ++ spell_sized parts.1

-- the parts of the component at a place, where those of its own are changed at one place and those of its queues at one
abbrev pub changed_at_place : ℕ → List ℕ → ℕ → List ℕ → ℕ → List ℕ × List ℕ → List ℕ × List ℕ
changed_at_place at own behind queues place parts = (if place == at then own else parts.0, if place == behind then queues else parts.1)

-- the parts of components from a place on, with the same changes
abbrev pub changed_from : ℕ → List ℕ → ℕ → List ℕ → ℕ → List (List ℕ × List ℕ) → List (List ℕ × List ℕ)
changed_from at own behind queues place [] = []
changed_from at own behind queues place (parts ∷ others) = changed_at_place at own behind queues place parts ∷ changed_from at own behind queues (place + 1) others

-- the bytes of components from a place on, from their parts, with the same changes
abbrev pub changed_contents : ℕ → List ℕ → ℕ → List ℕ → ℕ → List (List ℕ × List ℕ) → List ℕ
changed_contents at own behind queues place parts = flat_map joined (changed_from at own behind queues place parts)

-- those from one place on, and before another one
abbrev pub some_of : {A : Type 0} → ℕ → ℕ → List A → List A
some_of from to xs = take (to - from) (drop from xs)

-- ---- queues

-- no queue is of the port: changes of its messages change nothing
abbrev pub IsWithout : ℕ → List Queue → Type 0
IsWithout port qs = (change : List Message → List Message) → change_queue port change qs ≡ qs

-- these are the bytes from the first queue of the port on
pub record AreAt (port : ℕ) (qs : List Queue) (bytes : List ℕ) : Type 0 where
  pub front : List ℕ
  pub messages : List Message
  pub behind : List ℕ
  pub here : bytes ≡ spell_queue (record { port = port; messages = messages }) ++ behind
  pub whole : spell_list spell_queue qs ≡ front ++ bytes
  pub changed : (change : List Message → List Message) → spell_list spell_queue (change_queue port change qs) ≡ front ++ (spell_queue (record { port = port; messages = change messages }) ++ behind)
