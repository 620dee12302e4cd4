-- The readings that frames stand for.
use Rattle.std.specs.Prelude.{ℕ, Bool, true, false, List, Option, bytes_eq}
use Rattle.std.specs.List.{filter_map, find, list_any, slice_get}
use Rattle.std.specs.Option.{option_map, option_or}
pub use Rattle.check_rules.specs.Limits.{longest_chain}
use Rattle.value_types.specs.Chains.{within_chains}
use Rattle.value_types.specs.Outcomes.{or_error, unmet}
use Rattle.value_types.specs.Readings.{Reading}
use Rattle.value_types.specs.contracts.path.PathPartialEq.TheImpl as equality
use Rattle.value_types.specs.declared.frame.Frame.{Frame}
use Rattle.value_types.specs.declared.frame.TimerState.{TimerState}
use Rattle.value_types.specs.declared.frame.TimerState.TheVariants as timer

-- ---- entries

-- an entry with the name of its slot, where that has one
abbrev pub named_entry : {A : Type 0} → List (List ℕ) → ℕ × A → Option (List ℕ × A)
named_entry names e = option_map (λ name. (name, e.1)) (slice_get names e.0)

-- the entries with the names of their slots: an entry whose slot has no name says nothing
abbrev pub named_entries : {A : Type 0} → List (List ℕ) → List (ℕ × A) → List (List ℕ × A)
named_entries names entries = filter_map (named_entry names) entries

-- what the first entry of a name says
abbrev pub entry : {A : Type 0} → List (List ℕ × A) → List ℕ → Option A
entry entries name = option_map (λ e. e.1) (find (λ e. bytes_eq e.0 name) entries)

-- what is seen of a name in two frames: the inner one comes first
abbrev pub seen_entry : {A : Type 0} → List (List ℕ × A) → List (List ℕ × A) → List ℕ → Option A
seen_entry inner outer name = option_or (entry inner name) (entry outer name)

-- ---- timers

-- a timer of this state is running: neither inactive nor expired
abbrev pub is_running : TimerState → Bool
is_running timer.Running = true
is_running _ = false

-- the state of the timer of a name, where a frame has one
abbrev pub timer_of : Frame → List ℕ → Option TimerState
timer_of frame name = seen_entry (named_entries frame.names.now frame.local_timers.now) (named_entries frame.names.now frame.member_timers.now) name

-- ---- readings

-- what a frame gives, without the module's constants and templates: a name without an entry has no value
abbrev pub facts : Frame → Reading
facts frame = record {
  definitions = frame.definitions.now;
  names = λ name. or_error (seen_entry (named_entries frame.names.now frame.locals.now) (named_entries frame.names.now frame.members.now) name);
  timers = λ name. option_map is_running (timer_of frame name);
  running = λ path. list_any (λ other. (equality.ghosts).eq path other.now) frame.running.now;
  itself = frame.itself.now;
  mtc = frame.mtc.now;
  constants = λ at item. unmet;
  templates = λ at values. unmet;
}

-- the reading that a frame stands for
abbrev pub reading : Frame → Reading
reading frame = within_chains longest_chain (facts frame)
