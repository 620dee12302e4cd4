-- Fine configurations, as the private functions know them.
use Rattle.std.specs.Prelude.{◌≡◌, ℕ, Bool, false, List, [], map, bytes_eq, Option, Some, None}
use Rattle.std.specs.List.{All, filter, find}
use Rattle.laws_fine.specs.Fine.{FineLabel}
use Rattle.laws_fine.specs.Holding.{Held, Holding, hold_fate, hold_next}
use Rattle.semantics.specs.Configurations.{is_running_state}
use Rattle.config_parts.specs.Legend.{Legend, going_by, state_by}
use Rattle.config_parts.specs.declared.component.Component.{Component}
use Rattle.config_parts.specs.declared.config.Config.{Config}
use Rattle.config_parts.specs.declared.config.Config.TheVariants as form
use Rattle.config_parts.specs.declared.config.Going.{Going}
use Rattle.step_coarse.specs.Fates.{fate_by}
use Rattle.ttcn_step.specs.Machines.{Fits, Machine, legend, said}
use Rattle.ttcn_step.specs.declared.fine.FineStep.{FineStep}
use Rattle.ttcn_step.specs.declared.fine.Stored.{Stored}

-- ---- what the code's forms stand for

abbrev pub held_by : Legend → Stored → Held
held_by legend entry = record { path = entry.path; taken = going_by legend entry.taken; since = entry.since.items }

-- a configuration, with what is held of these stored snapshots
abbrev pub holding_of : Machine → Config → List Stored → Holding
holding_of machine now stored = record { now = said machine now; held = map (held_by (legend machine)) stored }

-- ---- components that run

abbrev pub found_runs : Option Component → Bool
found_runs None = false
found_runs (Some component) = is_running_state (state_by component.state)

-- the component of a path is there, and runs
abbrev pub runs : Going → List ℕ → Bool
runs going numbers = found_runs (find (λ component. bytes_eq component.itself.path.numbers numbers) going.components)

-- the snapshots of components that run
abbrev pub still : Config → List Stored → List Stored
still (form.Ended v) stored = []
still (form.Going going) stored = filter (λ entry. runs going entry.path.numbers) stored

-- ---- steps

-- a configuration fits a machine, and so do those in which the stored snapshots were taken
pub record IsWell (machine : Machine) (config : Config) (stored : List Stored) : Type 0 where
  pub now : Fits machine config
  pub taken : All (λ entry. Fits machine (form.Going entry.taken)) stored

abbrev pub IsWellBehind : Machine → FineStep → Type 0
IsWellBehind machine found = IsWell machine found.fine.now found.fine.stored.items

-- a call gives what is held behind a fine label and what came of its choice, or none where the label can't follow
abbrev pub Leads : Machine → Config → List Stored → FineLabel → Option FineStep → Type 0
Leads machine now stored label None = hold_next machine.test (holding_of machine now stored) label ≡ None
Leads machine now stored label (Some found) =
    (hold_next machine.test (holding_of machine now stored) label ≡ Some (holding_of machine found.fine.now found.fine.stored.items))
    × (fate_by found.fate ≡ hold_fate machine.test (map (held_by (legend machine)) stored) label)
