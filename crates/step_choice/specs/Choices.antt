-- What a component chooses at an `alt`, as code finds it (ES 201 873-1, 20.2).
use Rattle.std.specs.Prelude.{◌≡◌, ℕ, List, ◌∷◌, ◌++◌, map, Option, Some, None, Result, Ok, Err}
use Rattle.std.specs.List.{All, slice_get}
use Rattle.std.specs.Option.{option_map}
use Rattle.ttcn_syntax.specs.declared.tree.definition.Definition.{Definition}
use Rattle.ttcn_syntax.specs.declared.tree.statement.Statement.{Statement, out-Statement}
use Rattle.semantics.specs.Branches.{Chance, Judge, Written, written_alt, written_defaults}
use Rattle.semantics.specs.Configurations.{Data}
use Rattle.semantics.specs.Events as events
use Rattle.semantics.specs.Events.{Choice, Effect, Refused, first_choice}
use Rattle.semantics.specs.Items.{Doing, Item, Mark, Whole, action_of}
use Rattle.semantics.specs.Sites.{Site}
use Rattle.semantics.specs.Snapshots as snapshots
use Rattle.semantics.specs.Snapshots.{Test}
use Rattle.semantics.specs.Storing.{last_values}
use Rattle.step_choice.specs.Deeds.{deed_by, deed_of}
use Rattle.step_choice.specs.declared.taken.Taken.{Taken}
use Rattle.step_snapshot.specs.Seen.{own_by, seen_by}
use Rattle.step_snapshot.specs.Tests.{extent_of, legend_by, test_by}
use Rattle.step_snapshot.specs.declared.snapshot.Snapshot.{Snapshot}
use Rattle.config_parts.specs.Legend.{frame_by}
use Rattle.config_parts.specs.Views.{IsFrameWithin}
use Rattle.ttcn_graph.specs.Ways.{ways_of}
use Rattle.value_types.specs.Outcomes.{Failure}
use Rattle.value_types.specs.declared.fault.Fault.{Fault}
use Rattle.value_types.specs.declared.fault.Fault.TheVariants.{Dynamic, Memory}

-- ---- choices

-- where the branches at a statement are judged: at its site, in the last frame
abbrev pub judge_at : snapshots.Snapshot → Data → Site → Judge
judge_at snapshot own site = record { site = site; view = record { values = last_values own.calls; timers = snapshot.timers } }

-- the choice among branches with those of the defaults behind them
abbrev pub choice_from : Test → snapshots.Snapshot → Data → List Written → Choice
choice_from test snapshot own written = first_choice test snapshot own (written ++ written_defaults test snapshot own)

-- what a component chooses at a statement, where that is an `alt` or stands for one
abbrev pub choice_of : Test → snapshots.Snapshot → Data → Site → Statement → Option Choice
choice_of test snapshot own site s =
    option_map (choice_from test snapshot own) (written_alt test snapshot own (judge_at snapshot own site) (out-Statement s).place (action_of s))

-- ---- branches that are taken

-- this way of an `alt` at a site has these items before the mark
abbrev pub IsWayOf : List Definition → Site → Statement → ℕ → List Item → Type 0
IsWayOf definitions site s way block =
    (rest : List Item) → slice_get (ways_of definitions (Doing site s Whole ∷ rest)) way ≡ Some (block ++ Mark site s ∷ rest)

-- a branch is taken, and something holds of its way
pub record IsTaken (s : Snapshot) (IsWay : ℕ → List Item → Type 0) (chance : Chance) (effect : Effect) (taken : Taken) : Type 0 where
  pub place : taken.place ≡ chance.place
  pub way : IsWay taken.way chance.way.block
  pub frames : map (frame_by (legend_by s.test.now)) taken.frames ≡ chance.way.frames
  pub within : All (IsFrameWithin (extent_of s.test.now)) taken.frames
  pub deed : deed_by (legend_by s.test.now) taken.deed ≡ deed_of (test_by s.test.now) chance.judge.site effect

-- ---- calls

-- a call finds the branch of a choice, of whose way something holds, or says that there is none, or a fault where it is refused, unless memory was refused
abbrev pub Finds : Snapshot → (ℕ → List Item → Type 0) → Choice → Result (Option Taken) Fault → Type 0
Finds s IsWay choice (Ok None) = choice ≡ events.Nothing
Finds s IsWay choice (Ok (Some taken)) =
    (chance : Chance) × ((effect : Effect) × ((choice ≡ events.Taken chance effect) × IsTaken s IsWay chance effect taken))
Finds s IsWay choice (Err Dynamic) = (why : Failure) × (choice ≡ Refused why)
Finds s IsWay choice (Err Memory) = Unit {0}

-- a call finds what the component chooses at a statement that stands at a site
abbrev pub Chooses : Snapshot → Site → Statement → Result (Option Taken) Fault → Type 0
Chooses s site st result =
    (choice : Choice) × ((choice_of (test_by s.test.now) (seen_by s) (own_by s) site st ≡ Some choice)
    × Finds s (IsWayOf (s.test.now).definitions site st) choice result)
