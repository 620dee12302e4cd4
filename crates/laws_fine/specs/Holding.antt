-- Fine configurations as a program may hold them: in place of a stored snapshot the configuration in which it was taken, and the expiries of its component's timers since.
use Rattle.std.specs.Prelude.{ℕ, ◌+◌, ◌&&◌, not, List, [], ◌∷◌, ◌++◌, map, Option, Some, None, is_some, Result, Ok, Err, if◌then◌else◌}
use Rattle.std.specs.List.{filter, find}
use Rattle.std.specs.Option.{option_and_then, option_map}
use Rattle.laws_fine.specs.Fates.{Fate, Lapses, fate_of}
use Rattle.laws_fine.specs.Fine.{Choose, FineLabel, Plain, Snap, is_found, is_of_alt, stands_at_alt}
use Rattle.laws_fine.specs.Gathering.{Told}
use Rattle.semantics.specs.Configurations.{Component, Configuration, Ended, Goes, Going, component_at, is_running_state, same_path}
use Rattle.semantics.specs.Runs.{option_elim, start}
use Rattle.semantics.specs.Snapshots.{Test, snapshot_of}
use Rattle.semantics.specs.Statements.{Act, Waits, act}
use Rattle.semantics.specs.Steps.{Delivery, Expiry, Label, Statement, apply, next, settled}
use Rattle.value_types.specs.Outcomes.{Outcome}
use Rattle.value_types.specs.declared.path.Path.{Path}

-- what is held of the stored snapshot of the component with a path: the configuration in which it was taken, and the expiries of the component's timers since, in their order
pub record Held : Type 0 where
  pub path : Path
  pub taken : Going
  pub since : List Label

-- a configuration, with what is held of its stored snapshots
pub record Holding : Type 0 where
  pub now : Configuration
  pub held : List Held

abbrev pub held_at : List Held → Path → Option Held
held_at held path = find (λ h. same_path h.path path) held

abbrev pub without_held : Path → List Held → List Held
without_held path held = filter (λ h. not (same_path h.path path)) held

-- what is held of components that run
abbrev pub still_held : Configuration → List Held → List Held
still_held (Ended v) held = []
still_held (Goes c) held = filter (λ h. is_found (λ component. is_running_state component.state) (component_at c h.path)) held

-- the expiry of a timer comes behind those that its component had before
abbrev pub noted : Label → Held → Held
noted (Statement path) h = h
noted (Expiry path number name) h = if same_path h.path path then record { path = h.path; taken = h.taken; since = h.since ++ Expiry path number name ∷ [] } else h
noted (Delivery system_port) h = h

-- where a label leads; where it leads nowhere, nothing changes
abbrev pub after_label : Test → Configuration → Label → Configuration
after_label test c label = option_elim c (λ d. d) (next test c label)

-- where labels lead, one after the other
abbrev pub follow : Test → List Label → Configuration → Configuration
follow test [] c = c
follow test (label ∷ labels) c = follow test labels (after_label test c label)

-- ---- steps

-- what a component asks for, if it is there
abbrev pub act_of : Test → Going → Option Component → Act
act_of test c None = Waits
act_of test c (Some component) = act test (snapshot_of c component) component.own

-- what the component asked for when it took its snapshot
abbrev pub act_then : Test → Held → Act
act_then test h = act_of test h.taken (component_at h.taken h.path)

-- a component takes its snapshot
abbrev pub hold_snap : Test → Going → List Held → Path → Component → Option Holding
hold_snap test c held path component =
    if stands_at_alt test component && not (is_some (held_at held path)) then Some (record { now = Goes c; held = record { path = path; taken = c; since = [] } ∷ held }) else None

-- behind a step, what is held of a component that doesn't run any more is gone
abbrev pub hold_behind : Configuration → List Held → Holding
hold_behind d held = record { now = d; held = still_held d held }

-- what comes of a choice: the timers that expired since the snapshot expire behind what was asked for then
abbrev pub hold_chosen : Test → Going → List Held → List Label → Option (Outcome Configuration) → Holding
hold_chosen test c others since None = record { now = Goes c; held = others }
hold_chosen test c others since (Some outcome) = hold_behind (follow test since (settled outcome)) others

-- a component chooses by its snapshot
abbrev pub hold_choose : Test → Going → List Held → Path → Component → Option Held → Option Holding
hold_choose test c held path component None = None
hold_choose test c held path component (Some h) = Some (hold_chosen test c (without_held path held) h.since (apply test c component.itself (act_then test h)))

-- any step but one at an `alt`
abbrev pub hold_plainly : Test → Going → List Held → Label → Option Holding
hold_plainly test c held label = if is_of_alt test c label then None else option_map (λ d. hold_behind d (map (noted label) held)) (next test (Goes c) label)

abbrev pub hold_step : Test → Going → List Held → FineLabel → Option Holding
hold_step test c held (Snap path) = option_and_then (hold_snap test c held path) (component_at c path)
hold_step test c held (Choose path) = option_and_then (λ component. hold_choose test c held path component (held_at held path)) (component_at c path)
hold_step test c held (Plain label) = hold_plainly test c held label

abbrev pub hold_step_of : Test → Configuration → List Held → FineLabel → Option Holding
hold_step_of test (Ended v) held label = None
hold_step_of test (Goes c) held label = hold_step test c held label

-- where a fine label leads
abbrev pub hold_next : Test → Holding → FineLabel → Option Holding
hold_next test h label = hold_step_of test h.now h.held label

-- what comes of the choice that a label makes; any other label makes none
abbrev pub hold_fate : Test → List Held → FineLabel → Fate
hold_fate test held (Snap path) = Lapses
hold_fate test held (Choose path) = option_elim Lapses (λ h. fate_of (act_then test h)) (held_at held path)
hold_fate test held (Plain label) = Lapses

-- ---- runs

abbrev pub hold_start : Test → Holding
hold_start test = record { now = start test; held = [] }

-- labels one after the other, and what came of each choice: where they lead, or the number of the first that can't follow, where the first of all has this number
abbrev pub hold_from : Test → List FineLabel → ℕ → Holding → List Told → Result (Holding × List Told) ℕ
hold_from test [] number h tolds = Ok (h, tolds)
hold_from test (label ∷ labels) number h tolds =
    option_elim (Err number) (λ next. hold_from test labels (number + 1) next (tolds ++ (label, hold_fate test h.held label) ∷ [])) (hold_next test h label)

-- labels one after the other from the start
abbrev pub hold_run : Test → List FineLabel → Result (Holding × List Told) ℕ
hold_run test labels = hold_from test labels 1 (hold_start test) []
