-- Steps in which a component's snapshot and its choice by that snapshot are taken apart, so that others may step between them (ES 201 873-1, 20.2, ES 201 873-4).
use Rattle.std.specs.Prelude.{ℕ, ◌+◌, Bool, true, false, ◌&&◌, not, List, [], ◌∷◌, Option, Some, None, is_some, Result, Ok, Err, if◌then◌else◌}
use Rattle.std.specs.List.{filter, find}
use Rattle.std.specs.Option.{option_and_then, option_map}
use Rattle.ttcn_syntax.specs.declared.tree.statement.Action.TheOpen.{Action-F}
use Rattle.check_rules.specs.Calls.{altstep_meant}
use Rattle.check_scope.specs.Names.{module_names}
use Rattle.semantics.specs.Configurations.{Component, Configuration, Ended, Frame, Goes, Going, component_at, is_running_state, path_of, same_path}
use Rattle.semantics.specs.Items.{Does, Doing, Item, Whole, action_of}
use Rattle.semantics.specs.Runs.{option_elim, start}
use Rattle.semantics.specs.Snapshots.{Snapshot, Test, snapshot_of}
use Rattle.semantics.specs.Statements.{act}
use Rattle.semantics.specs.Steps.{Delivery, Expiry, Label, Statement, apply, next, settled}
pub use Rattle.step_labels.specs.declared.fine.FineLabel.{FineLabel}
pub use Rattle.step_labels.specs.declared.fine.FineLabel.TheVariants.{Choose, Plain, Snap}
use Rattle.value_types.specs.Outcomes.{Outcome}
use Rattle.value_types.specs.declared.path.Path.{Path}

-- the snapshots by which components have still to choose, each with its component's path
abbrev pub Stored : Type 0
Stored = List (Path × Snapshot)

-- a configuration with stored snapshots
pub record Fine : Type 0 where
  pub now : Configuration
  pub stored : Stored

-- the snapshot that the component with a path has stored
abbrev pub stored_at : Stored → Path → Option Snapshot
stored_at stored path = option_map (λ entry. entry.1) (find (λ entry. same_path entry.0 path) stored)

-- without the snapshot of the component with a path
abbrev pub without_stored : Path → Stored → Stored
without_stored path stored = filter (λ entry. not (same_path entry.0 path)) stored

-- ---- standing at an `alt`

-- a statement is an `alt`, or one event or one call of an altstep as an `alt` of its own
abbrev pub is_alt : Test → Does → Bool
is_alt test (Action-F.Alt branches) = true
is_alt test (Action-F.«Action::Event» event) = true
is_alt test (Action-F.«Action::Call» call) = is_some (altstep_meant (module_names test.definitions call.name))
is_alt test _ = false

-- the first of these items is the whole of an `alt`
abbrev pub begins_with_alt : Test → List Item → Bool
begins_with_alt test (Doing site s Whole ∷ rest) = is_alt test (action_of s)
begins_with_alt test _ = false

-- what remains in the last frame begins with an `alt`
abbrev pub is_at_alt : Test → List Frame → Bool
is_at_alt test [] = false
is_at_alt test (frame ∷ below) = begins_with_alt test frame.remaining

-- a component runs and stands at an `alt`
abbrev pub stands_at_alt : Test → Component → Bool
stands_at_alt test component = is_running_state component.state && is_at_alt test component.own.calls

-- a component was found, and something is true of it
abbrev pub is_found : (Component → Bool) → Option Component → Bool
is_found is None = false
is_found is (Some component) = is component

-- ---- steps

-- the stored snapshots of the components that run
abbrev pub still_stored : Configuration → Stored → Stored
still_stored (Ended v) stored = []
still_stored (Goes c) stored = filter (λ entry. is_found (λ component. is_running_state component.state) (component_at c entry.0)) stored

-- a component takes its snapshot: it runs, stands at an `alt` and has stored none
abbrev pub snap : Test → Going → Stored → Component → Option Fine
snap test c stored component =
    if stands_at_alt test component && not (is_some (stored_at stored (path_of component)))
    then Some (record { now = Goes c; stored = (path_of component, snapshot_of c component) ∷ stored }) else None

-- what comes of a choice: where nothing can be chosen the snapshot alone goes
abbrev pub chosen : Going → Stored → Option (Outcome Configuration) → Fine
chosen c others None = record { now = Goes c; stored = others }
chosen c others (Some outcome) = record { now = settled outcome; stored = still_stored (settled outcome) others }

-- a component chooses by the snapshot that it has stored
abbrev pub choose : Test → Going → Stored → Component → Option Snapshot → Option Fine
choose test c stored component None = None
choose test c stored component (Some snapshot) =
    Some (chosen c (without_stored (path_of component) stored) (apply test c component.itself (act test snapshot component.own)))

-- a label is the statement of an `alt`
abbrev pub is_of_alt : Test → Going → Label → Bool
is_of_alt test c (Statement path) = is_found (stands_at_alt test) (component_at c path)
is_of_alt test c (Expiry path number name) = false
is_of_alt test c (Delivery system_port) = false

-- behind a step, the snapshot of a component that doesn't run any more is gone
abbrev pub behind : Stored → Configuration → Fine
behind stored d = record { now = d; stored = still_stored d stored }

-- any step but one at an `alt`
abbrev pub step_plainly : Test → Going → Stored → Label → Option Fine
step_plainly test c stored label = if is_of_alt test c label then None else option_map (behind stored) (next test (Goes c) label)

-- the fine step of a label in a test case that goes on, where the label can follow: a component takes its snapshot, a component chooses by the snapshot that it took, or a step that is neither
abbrev pub fine_step_in : Test → Going → Stored → FineLabel → Option Fine
fine_step_in test c stored (Snap path) = option_and_then (snap test c stored) (component_at c path)
fine_step_in test c stored (Choose path) = option_and_then (λ component. choose test c stored component (stored_at stored path)) (component_at c path)
fine_step_in test c stored (Plain label) = step_plainly test c stored label

-- the fine step of a label: a test case that ended has none
abbrev pub fine_step_of : Test → Configuration → Stored → FineLabel → Option Fine
fine_step_of test (Ended v) stored label = None
fine_step_of test (Goes c) stored label = fine_step_in test c stored label

-- where a fine label leads
abbrev pub fine_next : Test → Fine → FineLabel → Option Fine
fine_next test fine label = fine_step_of test fine.now fine.stored label

-- ---- fine runs

-- fine runs start where runs start, and no snapshot is stored
abbrev pub fine_start : Test → Fine
fine_start test = record { now = start test; stored = [] }

-- labels one after the other from a configuration with stored snapshots: where they lead, or the number of the first that can't follow, where the first of all has this number
abbrev pub fine_replay_from : Test → List FineLabel → ℕ → Fine → Result Fine ℕ
fine_replay_from test [] number fine = Ok fine
fine_replay_from test (label ∷ others) number fine = option_elim (Err number) (fine_replay_from test others (number + 1)) (fine_next test fine label)

-- labels one after the other from the start
abbrev pub fine_replay : Test → List FineLabel → Result Fine ℕ
fine_replay test labels = fine_replay_from test labels 1 (fine_start test)
