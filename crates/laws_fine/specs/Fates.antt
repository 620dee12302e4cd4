-- The run that a fine run stands for: each choice is moved to the place of its snapshot.
use Rattle.std.specs.Prelude.{Bool, false, List, [], ◌∷◌, Option, Some, None, if◌then◌else◌}
use Rattle.semantics.specs.Configurations.{Component, Configuration, Ended, Goes, component_at, same_path}
use Rattle.semantics.specs.Runs.{option_elim}
use Rattle.semantics.specs.Snapshots.{Snapshot, Test}
use Rattle.semantics.specs.Statements.{Act, Errs, Waits, act}
use Rattle.semantics.specs.Steps.{Label, Statement}
use Rattle.laws_fine.specs.Fine.{Choose, Fine, FineLabel, Plain, Snap, fine_next, fine_start, stored_at}
use Rattle.value_types.specs.declared.path.Path.{Path}

-- what comes of a stored snapshot
pub data Fate : Type 0 where
  -- no choice is made by the snapshot, or nothing can be chosen
  Lapses : Fate
  -- a branch is taken
  Takes : Fate
  -- the choice, or taking the branch, is a fault
  Faults : Fate

-- what is asked for, as a fate
abbrev pub fate_of : Act → Fate
fate_of Waits = Lapses
fate_of (Errs why) = Faults
fate_of asked = Takes

-- what a component does by a snapshot
abbrev pub judged : Test → Snapshot → Option Component → Fate
judged test snapshot None = Lapses
judged test snapshot (Some component) = fate_of (act test snapshot component.own)

-- what it does in a configuration
abbrev pub judged_in : Test → Snapshot → Path → Configuration → Fate
judged_in test snapshot path (Ended v) = Lapses
judged_in test snapshot path (Goes c) = judged test snapshot (component_at c path)

-- a label is the choice of the component with a path
abbrev pub is_choice_of : Path → FineLabel → Bool
is_choice_of path (Choose other) = same_path other path
is_choice_of path (Snap other) = false
is_choice_of path (Plain label) = false

-- where a fine label leads; where it can't follow, nothing changes
abbrev pub fine_after : Test → Fine → FineLabel → Fine
fine_after test fine label = option_elim fine (λ next. next) (fine_next test fine label)

-- what comes of the snapshot that a component has stored, by the labels that follow
abbrev pub fate : Test → Path → Fine → List FineLabel → Fate
fate test path fine [] = Lapses
fate test path fine (label ∷ labels) = option_elim Lapses
    (λ snapshot. if is_choice_of path label then judged_in test snapshot path fine.now else fate test path (fine_after test fine label) labels)
    (stored_at fine.stored path)

-- a snapshot that a component took, with the labels that the others leave: a branch that is taken is a step of its statement, and nothing stands behind a fault
abbrev pub by_fate : Path → Fate → List Label → List Label
by_fate path Lapses others = others
by_fate path Takes others = Statement path ∷ others
by_fate path Faults others = Statement path ∷ []

-- the labels that fine labels stand for, from a configuration with stored snapshots
abbrev pub coarse_from : Test → Fine → List FineLabel → List Label
coarse_from test fine [] = []
coarse_from test fine (Snap path ∷ labels) =
    by_fate path (fate test path (fine_after test fine (Snap path)) labels) (coarse_from test (fine_after test fine (Snap path)) labels)
coarse_from test fine (Choose path ∷ labels) = coarse_from test (fine_after test fine (Choose path)) labels
coarse_from test fine (Plain label ∷ labels) = label ∷ coarse_from test (fine_after test fine (Plain label)) labels

-- the run that a fine run stands for
abbrev pub coarse : Test → List FineLabel → List Label
coarse test labels = coarse_from test (fine_start test) labels
