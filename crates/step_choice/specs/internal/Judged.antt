-- Where branches are judged, and what comes of judging them, as the private functions find it.
use Rattle.std.specs.Prelude.{◌≡◌, ℕ, Bool, true, false, List, map, Option, Some, None, Result, Ok, Err}
use Rattle.std.specs.List.{slice_get}
use Rattle.std.specs.declared.alloc.Global.{Global}
use Rattle.std.specs.declared.vec.Vec.{Vec}
use Rattle.ttcn_syntax.specs.declared.tree.definition.Altstep.{Altstep}
use Rattle.ttcn_syntax.specs.declared.tree.definition.DefinitionKind.{DefinitionKind}
use Rattle.ttcn_syntax.specs.declared.tree.definition.DefinitionKind.TheVariants as kind
use Rattle.ttcn_syntax.specs.declared.tree.template.MessageTemplate.{MessageTemplate}
use Rattle.check_scope.specs.Typings.{same_type}
use Rattle.check_scope.specs.declared.types.DataType.{DataType}
use Rattle.semantics.specs.Branches.{Judge, Written, Writing}
use Rattle.semantics.specs.Branches as branches
use Rattle.semantics.specs.Events as events
use Rattle.semantics.specs.Events.{Choice, Effect, Faulty, Happened, Passed, Redirect, Trial}
use Rattle.semantics.specs.Items.{Item}
use Rattle.semantics.specs.Sites.{Site}
use Rattle.semantics.specs.Snapshots.{Test}
use Rattle.step_choice.specs.Deeds.{deed_by, deed_of, stored_by, stored_of}
use Rattle.step_choice.specs.declared.taken.Deed.{Deed}
use Rattle.step_choice.specs.declared.taken.Deed.TheVariants as code
use Rattle.step_choice.specs.declared.taken.Stored.{Stored}
use Rattle.step_snapshot.specs.Seen.{own_by, seen_by}
use Rattle.step_snapshot.specs.Tests.{legend_by, test_by}
use Rattle.step_snapshot.specs.declared.snapshot.Snapshot.{Snapshot}
use Rattle.config_parts.specs.Views.{view_by}
use Rattle.config_parts.specs.declared.frame.Cells.{Cells}
use Rattle.value_types.specs.Outcomes.{Failure, Fails, Outcome, Yields, unmet}
use Rattle.value_types.specs.Readings.{Reading}
use Rattle.value_types.specs.declared.fault.Fault.{Fault}
use Rattle.value_types.specs.declared.fault.Fault.TheVariants.{Dynamic, Memory}

-- ---- where branches are judged

-- the test case
abbrev pub test_of : Snapshot → Test
test_of s = test_by s.test.now

-- the names of slots
abbrev pub names_of : Snapshot → ℕ → List ℕ
names_of s = (legend_by s.test.now).names

-- where branches are judged at a site, the names of the frame having these values and timers
abbrev pub judge_of : Snapshot → Site → Cells → Judge
judge_of s site inner = record { site = site; view = view_by (legend_by s.test.now) inner }

-- what is read where branches are judged at a site
abbrev pub reads : Snapshot → Site → Cells → Reading
reads s site inner = branches.read_by (test_by s.test.now) (seen_by s) (own_by s) (judge_of s site inner)

-- the first branch that isn't passed over
abbrev pub first_of : Snapshot → List Written → Choice
first_of s written = events.first_choice (test_by s.test.now) (seen_by s) (own_by s) written

-- branches of altsteps that call each other in chains of less than so many
abbrev pub below : ℕ → Snapshot → Writing
below levels s = branches.written_within levels (test_by s.test.now) (seen_by s) (own_by s)

-- ---- ways

-- a way is this one, and the items before the mark are these
abbrev pub Is : ℕ → List Item → ℕ → List Item → Type 0
Is way block w b = (w ≡ way) × (b ≡ block)

-- the items before the mark of a way are those at its place among these blocks
abbrev pub IsAmong : List (List Item) → ℕ → List Item → Type 0
IsAmong blocks w b = slice_get blocks w ≡ Some b

-- ---- events

-- a call says what a trial at a site comes to: that the event has not happened, what taking its branch does, or a fault, unless memory was refused
abbrev pub Tries : Snapshot → Site → Trial → Result (Option Deed) Fault → Type 0
Tries s site trial (Ok None) = trial ≡ Passed
Tries s site trial (Ok (Some deed)) =
    (effect : Effect) × ((trial ≡ Happened effect) × (deed_by (legend_by s.test.now) deed ≡ deed_of (test_by s.test.now) site effect))
Tries s site trial (Err Dynamic) = (why : Failure) × (trial ≡ Faulty why)
Tries s site trial (Err Memory) = Unit {0}

-- an event that happens where something is true, and does nothing more
abbrev pub deed_if : Bool → Option Deed
deed_if true = Some code.Nothing
deed_if false = None

-- whether a message of a type that is found is one of the wanted type: any is where no template stands
abbrev pub type_fits : Option DataType → DataType → Option MessageTemplate → Outcome Bool
type_fits wanted found None = Yields true
type_fits None found (Some template) = unmet
type_fits (Some wanted) found (Some template) = Yields (same_type wanted found)

-- a call says what redirects at a site store, or a fault, unless memory was refused
abbrev pub Stores : Test → Site → Outcome (List Redirect) → Result (Vec Stored Global) Fault → Type 0
Stores test site outcome (Ok stored) =
    (redirects : List Redirect) × ((outcome ≡ Yields redirects) × (map stored_by stored.items ≡ map (stored_of test site) redirects))
Stores test site outcome (Err Dynamic) = (why : Failure) × (outcome ≡ Fails why)
Stores test site outcome (Err Memory) = Unit {0}

-- ---- altsteps

-- the altstep that is defined, where it is one
abbrev pub altstep_of : Option DefinitionKind → Option Altstep
altstep_of (Some (kind.Altstep a)) = Some a
altstep_of _ = None
