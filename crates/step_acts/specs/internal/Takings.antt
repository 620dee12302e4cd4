-- Branches that are taken, with what code keeps of them (ES 201 873-1, 20.2).
use Rattle.std.specs.Prelude.{List, [], ◌∷◌}
use Rattle.step_forms.specs.internal.Stands.{site_of}
use Rattle.step_forms.specs.declared.stand.Stand.{Stand}
use Rattle.step_choice.specs.Choices.{IsTaken, IsWayOf}
use Rattle.step_choice.specs.Deeds.{Deed, Elapses, Nothing, Receives}
use Rattle.step_choice.specs.declared.taken.Taken.{Taken}
use Rattle.semantics.specs.Branches.{Chance}
use Rattle.semantics.specs.Configurations.{Data}
use Rattle.semantics.specs.Entries.{put}
use Rattle.semantics.specs.Events.{Effect}
use Rattle.semantics.specs.Items.{Target}
use Rattle.semantics.specs.Snapshots.{Test}
use Rattle.semantics.specs.Statements as said
use Rattle.semantics.specs.Storing.{in_frame, store, with_timers}
use Rattle.value_types.specs.Outcomes.{Outcome, Yields, outcome_and_then}
use Rattle.value_types.specs.declared.frame.TimerState.TheVariants as timer
use Rattle.value_types.specs.declared.value.Value.{Value}

-- values go to targets, one after the other
abbrev pub stored_all : Test → List (Target × Value) → Data → Outcome Data
stored_all test [] own = Yields own
stored_all test (one ∷ more) own = outcome_and_then (stored_all test more) (store test one.0 one.1 own)

-- data as they are: too many frames, frame 0 among them, are a dynamic error
abbrev pub limited : Data → Outcome Data
limited own = said.with_frames own.calls own

-- what is asked for, where a branch does this in the data behind it
abbrev pub effected_by : Test → Deed → Data → said.Act
effected_by test Nothing own = said.acting (said.Requests said.Continues) (limited own)
effected_by test (Receives port stored) own = said.acting (said.Requests (said.Removes port)) (outcome_and_then limited (stored_all test stored own))
effected_by test (Elapses name last) own =
    said.acting (said.Requests said.Continues) (limited (in_frame last (λ frame. with_timers (put name timer.Inactive frame.timers) frame) own))

-- a branch is taken at a statement
abbrev pub IsTakenAt : Stand → Taken → Type 0
IsTakenAt stand taken = (chance : Chance) × ((effect : Effect) × IsTaken stand.snapshot.now (IsWayOf (stand.snapshot.now.test.now).definitions (site_of stand) stand.statement.now) chance effect taken)
