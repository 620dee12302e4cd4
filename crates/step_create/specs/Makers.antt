-- New components that code makes, among those of the rules.
use Rattle.std.specs.Prelude.{◌≡◌, ℕ, List, [], Result, length}
use Rattle.std.specs.Borrow.{Bor}
use Rattle.std.specs.List.{list_any}
use Rattle.step_create.specs.declared.members.Maker.{Maker}
use Rattle.semantics.specs.Configurations as rules
use Rattle.semantics.specs.Snapshots.{Snapshot, Test, runs_in}
use Rattle.step_snapshot.specs.Tests.{legend_by, test_by}
use Rattle.config_parts.specs.Legend.{Legend, frame_with}
use Rattle.config_parts.specs.declared.frame.Cells.{Cells}
use Rattle.value_types.specs.Outcomes.{GivesBy, Outcome}
use Rattle.value_types.specs.contracts.path.PathPartialEq.TheImpl as equality
use Rattle.value_types.specs.declared.fault.Fault.{Fault}
use Rattle.value_types.specs.declared.path.Path.{Path}
use Rattle.value_types.specs.declared.value.ComponentId.{ComponentId}

-- these are the components that run in a snapshot
abbrev pub RunIn : List (Bor Path) → Snapshot → Type 0
RunIn running snapshot = (path : Path) → list_any (λ other. (equality.ghosts).eq path other.now) running ≡ runs_in snapshot path

-- the legend of the test case for which new components are made
abbrev pub legend_of : Maker → Legend
legend_of maker = legend_by maker.test.now

-- how many names have slots
abbrev pub size_of : Maker → ℕ
size_of maker = length (maker.test.now).names

-- frame 0 with these names
abbrev pub frame_for : Maker → Cells → rules.Frame
frame_for maker cells = frame_with (legend_of maker) [] cells

-- a call gives the names of frame 0 that the rules say, in each snapshot in which these components run
abbrev pub Makes : Maker → (Test → ComponentId → Snapshot → Outcome rules.Frame) → Result Cells Fault → Type 0
Makes maker made result = (snapshot : Snapshot) → RunIn maker.running.now snapshot → GivesBy (frame_for maker) (made (test_by maker.test.now) maker.itself.now snapshot) result
