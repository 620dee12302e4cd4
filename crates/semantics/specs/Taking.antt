-- Taking a branch, `repeat`, and marks (ES 201 873-1, 20.2 and 20.3).
use Rattle.std.specs.Prelude.{List, [], ◌∷◌, ◌++◌, Option, Some, None}
use Rattle.ttcn_syntax.specs.declared.tree.statement.Statement.{Statement}
use Rattle.semantics.specs.Branches.{Chance, Way}
use Rattle.semantics.specs.Configurations.{Data, Frame}
use Rattle.semantics.specs.Entries.{Identifier}
use Rattle.semantics.specs.Events.{Effect, Elapses, Plain, Receives, Redirect}
use Rattle.semantics.specs.Items.{Doing, Item, Mark, Waiting, Whole}
use Rattle.semantics.specs.Sites.{Site}
use Rattle.semantics.specs.Snapshots.{Test}
use Rattle.semantics.specs.Storing.{in_last, set_timer, store, target_meant, with_calls, with_remaining}
use Rattle.value_types.specs.Outcomes.{Outcome, Yields, outcome_and_then, outcome_map, or_unmet}
use Rattle.value_types.specs.declared.frame.TimerState.TheVariants as timer

-- ---- marks

-- a list without the marks in front
abbrev pub without_marks : List Item → List Item
without_marks [] = []
without_marks (Mark site s ∷ items) = without_marks items
without_marks (Doing site s part ∷ items) = Doing site s part ∷ items
without_marks (Waiting target ∷ items) = Waiting target ∷ items

-- after each step the marks go that stand first in the last frame
abbrev pub uncovered : Data → Data
uncovered own = with_calls (in_last (λ frame. with_remaining (without_marks frame.remaining) frame) own.calls) own

-- ---- taking a branch

-- the last frame behind a branch: what comes before the mark, the mark with the `alt`, and what followed
abbrev pub marked : Site → Statement → List Item → Way → List Item
marked site s rest way = way.block ++ Mark site s ∷ rest

-- the frames with a branch's way, where the `alt` stood in the last one in front of the rest
abbrev pub entered : Site → Statement → List Item → Way → List Frame → List Frame
entered site s rest way calls = way.frames ++ in_last (with_remaining (marked site s rest way)) calls

-- values stored one after the other, as at a site in the last frame
abbrev pub store_all : Test → Site → List Redirect → Data → Outcome Data
store_all test site [] own = Yields own
store_all test site (redirect ∷ redirects) own =
    outcome_and_then (store_all test site redirects) (store test (target_meant test site redirect.reference) redirect.value own)

-- the effect of a branch, at the branch's site in the last frame
abbrev pub effected : Test → Site → Effect → Data → Outcome Data
effected test site Plain own = Yields own
effected test site (Receives port redirects) own = store_all test site redirects own
effected test site (Elapses name) own = Yields (set_timer test site name timer.Inactive own)

-- the data behind a branch that is taken at an `alt`
abbrev pub taken : Test → Site → Statement → List Item → Chance → Effect → Data → Outcome Data
taken test site s rest chance effect own =
    effected test chance.judge.site effect (with_calls (entered site s rest chance.way own.calls) own)

-- the port whose first message a branch removes
abbrev pub port_taken : Effect → Option Identifier
port_taken Plain = None
port_taken (Receives port redirects) = Some port
port_taken (Elapses name) = None

-- ---- `repeat`

-- a list from its first mark on, with the marked `alt` put back
abbrev pub from_mark : List Item → Option (List Item)
from_mark [] = None
from_mark (Mark site s ∷ items) = Some (Doing site s Whole ∷ items)
from_mark (Doing site s part ∷ items) = from_mark items
from_mark (Waiting target ∷ items) = from_mark items

-- the frames from this one on where a mark was found in it, and else what those below give
abbrev pub repeat_in : Frame → List Frame → Option (List Item) → Option (List Frame) → Option (List Frame)
repeat_in frame frames None below = below
repeat_in frame frames (Some items) below = Some (with_remaining items frame ∷ frames)

-- the frames from the last one on that has a mark
abbrev pub repeated : List Frame → Option (List Frame)
repeated [] = None
repeated (frame ∷ frames) = repeat_in frame frames (from_mark frame.remaining) (repeated frames)

-- `repeat`: the `alt` of the last mark is to be done again, and the frames above that mark are gone
abbrev pub repeat_alt : Data → Outcome Data
repeat_alt own = outcome_map (λ calls. with_calls calls own) (or_unmet (repeated own.calls))
