-- Changes of a component, as the private functions make them.
use Rattle.std.specs.Prelude.{ℕ, zero, suc, Bool, true, false, List, [], ◌∷◌, ◌++◌, Option, Some, None, nat_eq, if◌then◌else◌}
use Rattle.std.specs.List.{find}
use Rattle.std.specs.Option.{option_map}
use Rattle.ttcn_syntax.specs.declared.tree.statement.Verdict.{Verdict}
use Rattle.semantics.specs.Configurations.{same_path, worse}
use Rattle.config_parts.specs.declared.component.Component.{Component}
use Rattle.config_parts.specs.declared.component.Message.{Message}
use Rattle.config_parts.specs.declared.component.Queue.{Queue}
use Rattle.config_parts.specs.declared.component.State.{State}
use Rattle.config_parts.specs.declared.component.State.TheVariants as state
use Rattle.config_parts.specs.declared.frame.Frame.{Frame}
use Rattle.config_parts.specs.declared.frame.Data.{Data}
use Rattle.value_types.specs.declared.path.Path.{Path}

-- a list in which the element at a place is changed
abbrev pub changed_at : {A : Type 0} → List A → ℕ → (A → A) → List A
changed_at [] at change = []
changed_at (x ∷ xs) zero change = change x ∷ xs
changed_at (x ∷ xs) (suc at) change = x ∷ changed_at xs at change

-- the first element of a kind is changed
abbrev pub change_first : {A : Type 0} → (A → Bool) → (A → A) → List A → List A
change_first is change [] = []
change_first is change (x ∷ xs) = if is x then change x ∷ xs else x ∷ change_first is change xs

-- the place of the first element of a kind
abbrev pub place : {A : Type 0} → (A → Bool) → List A → Option ℕ
place is [] = None
place is (x ∷ xs) = if is x then Some 0 else option_map suc (place is xs)

-- ---- components

abbrev pub is_of : Path → Component → Bool
is_of path component = same_path component.itself.path path

abbrev pub is_terminated : State → Bool
is_terminated state.Created = false
is_terminated state.Running = false
is_terminated state.Terminated = true

abbrev pub terminated : State
terminated = state.Terminated

abbrev pub unless_terminated : (Component → Component) → Component → Component
unless_terminated change component = if is_terminated component.state then component else change component

-- the component with a path is changed, unless it is terminated
abbrev pub touch : List Component → Path → (Component → Component) → List Component
touch components path change = change_first (is_of path) (unless_terminated change) components

-- the place of the component with a path, unless it is terminated
abbrev pub live_place : List Component → Path → Option ℕ
live_place [] path = None
live_place (c ∷ cs) path = if is_of path c then (if is_terminated c.state then None else Some 0) else option_map suc (live_place cs path)

abbrev pub is_terminated_component : Option Component → Bool
is_terminated_component None = false
is_terminated_component (Some component) = is_terminated component.state

abbrev pub is_terminated_at : List Component → Path → Bool
is_terminated_at components path = is_terminated_component (find (is_of path) components)

abbrev pub with_own : Data → Component → Component
with_own own c = record { itself = c.itself; own = own; state = c.state; verdict = c.verdict; queues = c.queues }

abbrev pub with_state : State → Component → Component
with_state state c = record { itself = c.itself; own = c.own; state = state; verdict = c.verdict; queues = c.queues }

abbrev pub with_verdict : Verdict → Component → Component
with_verdict v c = record { itself = c.itself; own = c.own; state = c.state; verdict = worse c.verdict v; queues = c.queues }

-- data with these frames above frame 0
abbrev pub with_calls : List Frame → Data → Data
with_calls calls own = record { members = own.members; calls = calls; defaults = own.defaults; activations = own.activations; children = own.children }

abbrev pub begun : Frame → Component → Component
begun frame c = record { itself = c.itself; own = with_calls (frame ∷ []) c.own; state = state.Running; verdict = c.verdict; queues = c.queues }

-- ---- queues

abbrev pub with_queues : (List Queue → List Queue) → Component → Component
with_queues change c = record { itself = c.itself; own = c.own; state = c.state; verdict = c.verdict; queues = change c.queues }

abbrev pub is_of_port : ℕ → Queue → Bool
is_of_port port queue = nat_eq queue.port port

abbrev pub change_queue : ℕ → (List Message → List Message) → List Queue → List Queue
change_queue port change =
    change_first (is_of_port port) (λ queue. record { port = queue.port; messages = change queue.messages })

abbrev pub with_message : ℕ → Message → List Queue → List Queue
with_message port message = change_queue port (λ messages. messages ++ message ∷ [])

abbrev pub without_first : List Message → List Message
without_first [] = []
without_first (message ∷ messages) = messages

abbrev pub without_message : ℕ → List Queue → List Queue
without_message port = change_queue port without_first
