-- The places that reports name: of the branch that a step takes, and of the statement at which a component stands.
use Rattle.std.specs.Prelude.{List, [], ◌∷◌, Option, Some, None}
use Rattle.std.specs.List.{flat_map}
use Rattle.std.specs.Option.{option_and_then}
use Rattle.ttcn_syntax.specs.declared.place.Span.{Span}
use Rattle.ttcn_syntax.specs.declared.tree.statement.Statement.{out-Statement}
use Rattle.semantics.specs.Configurations.{Component, Configuration, Data, Ended, Frame, Goes, Going, component_at, path_of}
use Rattle.semantics.specs.Events.{Choice, Taken}
use Rattle.semantics.specs.Items.{Doing, Item, Whole}
use Rattle.semantics.specs.Labels.{labels}
use Rattle.semantics.specs.Snapshots.{Snapshot, Test, snapshot_of}
use Rattle.semantics.specs.Statements.{Act, Errs, act, choice_at}
use Rattle.semantics.specs.Steps.{Delivery, Expiry, Label, Statement as OfStatement, if_running}
use Rattle.step_labels.specs.declared.standing.Standing.{Standing}

-- ---- branches

-- the place of the branch that is taken, where one is
abbrev pub place_chosen : Option Choice → Option Span
place_chosen (Some (Taken chance effect)) = Some chance.place
place_chosen _ = None

-- the place of the branch that is taken at the first remaining item, where that is a whole statement
abbrev pub place_in_list : Test → Snapshot → Data → Frame → List Frame → List Item → Option Span
place_in_list test snapshot own frame below (Doing site s Whole ∷ rest) =
    place_chosen (choice_at (record { test = test; snapshot = snapshot; own = own; frame = frame; below = below; rest = rest }) site s)
place_in_list test snapshot own frame below _ = None

-- the place of the branch that is taken in the last frame
abbrev pub place_in_frames : Test → Snapshot → Data → List Frame → Option Span
place_in_frames test snapshot own [] = None
place_in_frames test snapshot own (frame ∷ below) = place_in_list test snapshot own frame below frame.remaining

-- a step that fails takes no branch
abbrev pub unless_fault : Act → Option Span → Option Span
unless_fault (Errs why) place = None
unless_fault other place = place

-- the place of the branch that a component's statement takes
abbrev pub branch_of_component : Test → Going → Component → Option Span
branch_of_component test c component = if_running component
    (unless_fault (act test (snapshot_of c component) component.own) (place_in_frames test (snapshot_of c component) component.own component.own.calls))

-- the place of the branch that the step of a label takes in a test case that goes on; an expiry and a delivery take none
abbrev pub branch_in : Test → Going → Label → Option Span
branch_in test c (OfStatement path) = option_and_then (branch_of_component test c) (component_at c path)
branch_in test c (Expiry path number name) = None
branch_in test c (Delivery system_port) = None

-- the place of the branch that the step of a label takes, where it takes one
abbrev pub branch_of : Test → Configuration → Label → Option Span
branch_of test (Ended v) label = None
branch_of test (Goes c) label = branch_in test c label

-- ---- statements

-- the place of the statement that the first remaining item is a part of
abbrev pub place_of_item : List Item → Option Span
place_of_item (Doing site s part ∷ items) = Some (out-Statement s).place
place_of_item _ = None

-- the place of the first remaining statement of the last frame
abbrev pub place_of_frames : List Frame → Option Span
place_of_frames [] = None
place_of_frames (frame ∷ frames) = place_of_item frame.remaining

-- the place of the first remaining statement of a component that runs
abbrev pub place_of : Component → Option Span
place_of component = if_running component (place_of_frames component.own.calls)

-- ---- blocked components

-- a component's path with the place at which the component stands, where it stands at one
abbrev pub with_place : Component → Option Span → List Standing
with_place component None = []
with_place component (Some place) = record { component = path_of component; place = place } ∷ []

-- the components that run, each with the place of its first remaining statement
abbrev pub standings : Going → List Standing
standings c = flat_map (λ component. with_place component (place_of component)) c.components

-- what was found, where there are no labels
abbrev pub if_none : {A : Type 0} → List Label → List A → List A
if_none [] found = found
if_none (label ∷ others) found = []

-- where no label is enabled, the components that run are blocked
abbrev pub blocked : Test → Configuration → List Standing
blocked test (Ended v) = []
blocked test (Goes c) = if_none (labels test (Goes c)) (standings c)
