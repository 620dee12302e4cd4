-- The branches that a component has at an `alt`, written out: a call of an altstep stands for the altstep's branches, and its defaults' branches come last (ES 201 873-1, 16.2, 20.2 and 20.5).
use Rattle.std.specs.Prelude.{ℕ, zero, suc, Bool, true, false, List, [], ◌∷◌, ◌++◌, map, Option, Some, None}
use Rattle.std.specs.List.{flat_map, zip}
use Rattle.std.specs.Option.{option_map}
use Rattle.ttcn_syntax.specs.declared.place.Span.{Span}
use Rattle.ttcn_syntax.specs.declared.tree.definition.Definition.{Definition}
use Rattle.ttcn_syntax.specs.declared.tree.definition.DefinitionKind.{DefinitionKind}
use Rattle.ttcn_syntax.specs.declared.tree.definition.DefinitionKind.TheVariants as kind
use Rattle.ttcn_syntax.specs.declared.tree.definition.Parameter.{Parameter}
use Rattle.ttcn_syntax.specs.declared.tree.expression.Expr.{Expr}
use Rattle.ttcn_syntax.specs.declared.tree.statement.Action.{Action}
use Rattle.ttcn_syntax.specs.declared.tree.statement.Action.TheOpen.{Action-F, Alternative-F}
use Rattle.ttcn_syntax.specs.declared.tree.statement.Alternative.{Alternative, out-Alternative}
use Rattle.ttcn_syntax.specs.declared.tree.statement.Branch.{Branch, out-Branch}
use Rattle.ttcn_syntax.specs.declared.tree.statement.Conditional.{Conditional}
use Rattle.ttcn_syntax.specs.declared.tree.statement.Event.{Event}
use Rattle.ttcn_syntax.specs.declared.tree.statement.Statement.{Statement}
use Rattle.ttcn_syntax.specs.declared.tree.value.Call.{Call}
use Rattle.check_rules.specs.Calls.{altstep_meant, parameters_of}
use Rattle.check_scope.specs.Names.{kind_at, module_names}
use Rattle.semantics.specs.Configurations.{ActiveDefault, Data, Frame}
use Rattle.semantics.specs.Entries.{Entries, put}
use Rattle.semantics.specs.Items.{Does, Item, items, items_if_any}
use Rattle.semantics.specs.Sites.{Site, beginning}
use Rattle.semantics.specs.Snapshots.{Snapshot, Test, View, reading_in, view_of_arguments}
use Rattle.check_rules.specs.Limits.{longest_chain}
use Rattle.value_types.specs.Evaluation.{condition_of}
use Rattle.value_types.specs.Outcomes.{Failure, Outcome, Fails, Unmet, Yields}
use Rattle.value_types.specs.Readings.{Reading}
use Rattle.value_types.specs.Templates.{arguments}
use Rattle.value_types.specs.declared.value.Value.{Value}

-- what is done when a branch is taken: the block that comes to stand where the branch was judged, and the frames of the altsteps that lead to the branch, the innermost first
pub record Way : Type 0 where
  pub block : List Item
  pub frames : List Frame

-- where branches are judged: the site, and what is seen of the frame there
pub record Judge : Type 0 where
  pub site : Site
  pub view : View

-- a branch that may be taken: its place, where it is judged, what it waits for unless it is an `else`, and how it is taken
pub record Chance : Type 0 where
  pub place : Span
  pub judge : Judge
  pub event : Option Event
  pub way : Way

-- a branch whose guard is true, or what keeps the component from judging it
pub data Written : Type 0 where
  Fault : Failure → Written
  Open : Chance → Written

-- ---- altsteps

-- the branches of an altstep; any other definition has none
abbrev pub branches_of : Option DefinitionKind → List Branch
branches_of (Some (kind.Altstep a)) = a.branches
branches_of _ = []

-- the arguments as the values of a frame
abbrev pub with_arguments : List (Parameter × Value) → Entries Value
with_arguments [] = []
with_arguments (pair ∷ pairs) = put pair.0.name pair.1 (with_arguments pairs)

-- what the parameters of the behaviour at a position are given
abbrev pub argument_values : List Definition → ℕ → List Value → Entries Value
argument_values definitions at values = with_arguments (zip (parameters_of (kind_at definitions at)) values)

-- the frame of a behaviour with these arguments
abbrev pub frame_with : List Definition → ℕ → List Value → List Item → Frame
frame_with definitions at values remaining = record { remaining = remaining; values = argument_values definitions at values; timers = [] }

-- where the branches of the altstep at a position are judged
abbrev pub judge_in : Test → ℕ → List Value → Judge
judge_in test at values = record { site = beginning at; view = view_of_arguments (argument_values test.definitions at values) }

-- what is read where branches are judged
abbrev pub read_by : Test → Snapshot → Data → Judge → Reading
read_by test snapshot own judge = reading_in test snapshot own judge.site judge.view

-- a branch of an altstep, where the altstep is called with these arguments and the items before the mark are those of the call
abbrev pub way_through : Test → ℕ → List Value → List Item → Way → Way
way_through test at values before way = record {
  block = before;
  frames = way.frames ++ frame_with test.definitions at values way.block ∷ [];
}

-- a branch of an altstep as one of a call of that altstep; what keeps a branch from being judged stays as it is
abbrev pub through : Test → ℕ → List Value → List Item → Written → Written
through test at values before (Fault why) = Fault why
through test at values before (Open chance) = Open (record {
  place = chance.place;
  judge = chance.judge;
  event = chance.event;
  way = way_through test at values before chance.way;
})

-- ---- guards

-- branches behind a guard: those behind a false one are left out
abbrev pub behind_guard : Outcome Bool → List Written → List Written
behind_guard (Yields true) written = written
behind_guard (Yields false) written = []
behind_guard (Fails why) written = Fault why ∷ []

-- what a guard gives: one that isn't there is true
abbrev pub guard_holds : Reading → Option Expr → Outcome Bool
guard_holds reading None = Yields true
guard_holds reading (Some e) = condition_of e reading

-- ---- branches

-- how the branches of an altstep are written out
abbrev pub Writing : Type 0
Writing = Judge → List Branch → List Written

-- a branch with an event, or with `else`, at a place
abbrev pub open_branch : Test → Judge → Span → Option Event → List Item → Written
open_branch test judge place event block = Open (record {
  place = place;
  judge = judge;
  event = event;
  way = record { block = block; frames = [] };
})

-- the branches of an altstep with its arguments, and the items before the mark
abbrev pub written_with : Writing → Test → Snapshot → Data → ℕ → List Item → Outcome (List Value) → List Written
written_with below test snapshot own at before (Fails why) = Fault why ∷ []
written_with below test snapshot own at before (Yields values) =
    map (through test at values before) (below (judge_in test at values) (branches_of (kind_at test.definitions at)))

-- a call of an altstep: its arguments are evaluated first
abbrev pub written_call : Writing → Test → Snapshot → Data → Judge → Call → List Item → Option ℕ → List Written
written_call below test snapshot own judge call before None = Fault Unmet ∷ []
written_call below test snapshot own judge call before (Some at) =
    written_with below test snapshot own at before (arguments (read_by test snapshot own judge) (parameters_of (kind_at test.definitions at)) call.arguments)

-- an alternative written out: an event or a called altstep where its guard is true, or an `else`
abbrev pub written_alternative : Writing → Test → Snapshot → Data → Judge → Span → Alternative-F Action Alternative Branch Conditional Statement → List Written
written_alternative below test snapshot own judge place (Alternative-F.«Alternative::Event» guard event block) =
    behind_guard (guard_holds (read_by test snapshot own judge) guard) (open_branch test judge place (Some event) (items_if_any test.definitions judge.site block) ∷ [])
written_alternative below test snapshot own judge place (Alternative-F.«Alternative::Call» guard call block) =
    behind_guard (guard_holds (read_by test snapshot own judge) guard)
    (written_call below test snapshot own judge call (items_if_any test.definitions judge.site block) (altstep_meant (module_names test.definitions call.name)))
written_alternative below test snapshot own judge place (Alternative-F.Else block) =
    open_branch test judge place None (items test.definitions judge.site block) ∷ []

-- a branch of an `alt` or of an altstep, written out with its place
abbrev pub written_branch : Writing → Test → Snapshot → Data → Judge → Branch → List Written
written_branch below test snapshot own judge b =
    written_alternative below test snapshot own judge (out-Branch b).place (out-Alternative (out-Branch b).alternative)

-- branches written out, where altsteps call each other in chains of less than so many
abbrev pub written_within : ℕ → Test → Snapshot → Data → Writing
written_within zero test snapshot own judge branches = Fault Unmet ∷ []
written_within (suc n) test snapshot own judge branches = flat_map (written_branch (written_within n test snapshot own) test snapshot own judge) branches

-- ---- an `alt` and the defaults

-- from a branch of an `alt`, or a default, altsteps call each other in chains of so many at most
abbrev pub write_altsteps : Test → Snapshot → Data → Writing
write_altsteps test snapshot own = written_within longest_chain test snapshot own

-- the branches of what a component stands at: an `alt`, or one event or one call of an altstep as an `alt` of its own; anything else has none
abbrev pub written_alt : Test → Snapshot → Data → Judge → Span → Does → Option (List Written)
written_alt test snapshot own judge place (Action-F.Alt branches) =
    Some (flat_map (written_branch (write_altsteps test snapshot own) test snapshot own judge) branches)
written_alt test snapshot own judge place (Action-F.«Action::Event» event) = Some (open_branch test judge place (Some event) [] ∷ [])
written_alt test snapshot own judge place (Action-F.«Action::Call» call) =
    option_map (λ at. written_call (write_altsteps test snapshot own) test snapshot own judge call [] (Some at)) (altstep_meant (module_names test.definitions call.name))
written_alt test snapshot own judge place _ = None

-- the branches of a default
abbrev pub written_default : Test → Snapshot → Data → ActiveDefault → List Written
written_default test snapshot own d = written_with (write_altsteps test snapshot own) test snapshot own d.altstep [] (Yields d.arguments)

-- the branches of all defaults, those of the one that was activated last first
abbrev pub written_defaults : Test → Snapshot → Data → List Written
written_defaults test snapshot own = flat_map (written_default test snapshot own) own.defaults
