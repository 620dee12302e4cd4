-- The configurations of runs stand in their order.
use Rattle.std.proofs.Common.{◌≡◌, Bool, true, false, List, [], ◌∷◌, Option, Some, None, Ok, IfSome, is_some, option_map, refl, sym, ap, subst, ◌↔◌, if◌then◌else◌}
use Rattle.std.specs.List.{AllPairs, Contains}
use Rattle.std.specs.declared.cmp.Ordering.TheVariants.{Less}
use Rattle.std.proofs.lemmas.List.Elements.{All-cons, All-nil}
use Rattle.std.proofs.lemmas.List.Kept.{AllPairs-cons, AllPairs-filter}
use Rattle.ttcn_syntax.specs.declared.tree.statement.Statement.{Statement}
use Rattle.ttcn_syntax.specs.declared.tree.statement.Verdict.TheVariants as verdict
use Rattle.laws_order.proofs.Changes.{IsComponentInOrder, IsConfigurationInOrder, IsGentle, IsGoingInOrder, Precedes, applied-ordered, each-ordered, steps-ordered}
use Rattle.laws_steps.proofs.Applying.{Anyhow}
use Rattle.laws_steps.proofs.Found.{some-of}
use Rattle.laws_steps.proofs.Outcomes.{yields-is}
use Rattle.laws_steps.proofs.Running.{end-holds, next-leads, replay-holds, settled-leads, start-leads}
use Rattle.laws_order.proofs.Members.{members-ordered}
use Rattle.laws_order.proofs.Puts.{none-ordered}
use Rattle.laws_order.proofs.Stored.{IsDataInOrder, IsFrameInOrder}
use Rattle.laws_order.proofs.Unmarked.{LastHasNone, block-none, none-uncovered, uncovered-none}
use Rattle.laws_order.specs.Order.{HasNoMarkFirst, HasValuesInOrder, IsInOrder, StandsInOrder}
use Rattle.semantics.proofs.CanonicalRuns.{ends_live}
use Rattle.semantics.proofs.LabelOrder.{labels_ascend}
use Rattle.semantics.proofs.LabelsEnabled.{labels_enabled}
use Rattle.semantics.proofs.Pairs.{All-both, All-more, pairs-nil}
use Rattle.semantics.specs.Canonical.{canonical_graph}
use Rattle.semantics.specs.Configurations.{Component, Configuration, Data, Ended, Frame, Goes, Going, component_at, is_terminated_state, path_of}
use Rattle.semantics.specs.Creating.{new_members}
use Rattle.semantics.specs.Labels.{label_cmp, labels}
use Rattle.semantics.specs.LiveParts.{husk, is_live, live_component, live_going, live_part}
use Rattle.semantics.specs.Order.{HasNamesInOrder, HasTimersInOrder, IsOrderedWithin}
use Rattle.semantics.specs.Runs.{body_frame, first_snapshot, graph_of, mtc_with, replay, start}
use Rattle.semantics.specs.Sites.{beginning}
use Rattle.semantics.specs.Snapshots.{Snapshot, Test, mtc_of}
use Rattle.semantics.specs.Statements.{act}
use Rattle.semantics.specs.Steps.{Label, apply, connection_cmp, next, settled, step}
use Rattle.summary.specs.Run.{Run, end_of}
use Rattle.value_types.specs.declared.path.Path.{Path}
use Rattle.value_types.specs.declared.value.ComponentId.{ComponentId}

-- ---- in the words of the laws

told-data : (x : Component) → IsOrderedWithin x → HasValuesInOrder x → IsDataInOrder x.own.children x.own
told-data x timers values = record {
  members = record { values = values.members; timers = timers.members };
  calls = All-both HasTimersInOrder (λ frame. HasNamesInOrder frame.values) IsFrameInOrder (λ frame t v. record { values = v; timers = t }) x.own.calls timers.calls values.calls;
  count = refl;
}

told-component : (x : Component) → IsOrderedWithin x → HasValuesInOrder x × HasNoMarkFirst x → IsComponentInOrder x
told-component x timers others = record {
  own = told-data x timers others.0;
  marks = subst LastHasNone (ap (λ (own : Data). own.calls) others.1) (none-uncovered x.own.calls);
}

told-going : (c : Going) → IsInOrder c → IsGoingInOrder c
told-going c is = record {
  components = is.ordered.components;
  within = All-both IsOrderedWithin (λ x. HasValuesInOrder x × HasNoMarkFirst x) IsComponentInOrder told-component c.components is.ordered.within
      (All-both HasValuesInOrder HasNoMarkFirst (λ x. HasValuesInOrder x × HasNoMarkFirst x) (λ x v m. (v, m)) c.components is.values is.marks);
  connections = is.connections;
  mappings = is.ordered.mappings;
}

said-timers : (x : Component) → IsComponentInOrder x → IsOrderedWithin x
said-timers x is = record { members = is.own.members.timers; calls = All-more IsFrameInOrder HasTimersInOrder (λ frame fine. fine.timers) x.own.calls is.own.calls }

said-values : (x : Component) → IsComponentInOrder x → HasValuesInOrder x
said-values x is = record { members = is.own.members.values; calls = All-more IsFrameInOrder (λ frame. HasNamesInOrder frame.values) (λ frame fine. fine.values) x.own.calls is.own.calls }

said-marks : (x : Component) → IsComponentInOrder x → HasNoMarkFirst x
said-marks x is = uncovered-none x.own x.own.calls refl is.marks

said-going : (c : Going) → IsGoingInOrder c → IsInOrder c
said-going c is = record {
  ordered = record { components = is.components; within = All-more IsComponentInOrder IsOrderedWithin said-timers c.components is.within; mappings = is.mappings };
  values = All-more IsComponentInOrder HasValuesInOrder said-values c.components is.within;
  connections = is.connections;
  marks = All-more IsComponentInOrder HasNoMarkFirst said-marks c.components is.within;
}

told : (c : Configuration) → StandsInOrder c → IsConfigurationInOrder c
told (Ended v) is = tt
told (Goes c) is = told-going c is

said : (c : Configuration) → IsConfigurationInOrder c → StandsInOrder c
said (Ended v) is = tt
said (Goes c) is = said-going c is

-- ---- the start

mtc-ordered : (test : Test) (body : List Statement) (members : Frame) → IsFrameInOrder members → IsComponentInOrder (mtc_with test body members)
mtc-ordered test body members is = record {
  own = record {
    members = is;
    calls = All-cons IsFrameInOrder (body_frame test body) [] (record { values = none-ordered; timers = none-ordered }) (All-nil IsFrameInOrder);
    count = refl;
  };
  marks = block-none test.definitions (beginning test.testcase) body;
}

pub first-ordered : (test : Test) (body : List Statement) (members : Frame) → IsFrameInOrder members
    → IsGoingInOrder (record { components = mtc_with test body members ∷ []; connections = []; mappings = []; delivered = []; forgotten = verdict.None })
first-ordered test body members is = record {
  components = AllPairs-cons Precedes (mtc_with test body members) [] (All-nil (Precedes (mtc_with test body members))) (pairs-nil Precedes);
  within = All-cons IsComponentInOrder (mtc_with test body members) [] (mtc-ordered test body members is) (All-nil IsComponentInOrder);
  connections = pairs-nil (λ k l. connection_cmp k l ≡ Less);
  mappings = none-ordered;
}

pub starts : (test : Test) → IsConfigurationInOrder (start test)
starts test =
    start-leads test Anyhow IsGoingInOrder
    (λ body members is made. first-ordered test body members (yields-is IsFrameInOrder (new_members test (mtc_of test) (first_snapshot test)) members made (members-ordered test (mtc_of test) (first_snapshot test))))

pub start_ordered : (test : Test) → StandsInOrder (start test)
start_ordered test = said (start test) (starts test)

-- ---- steps

pub next-of : (test : Test) (c : Configuration) (label : Label) → IsConfigurationInOrder c → IfSome (next test c label) IsConfigurationInOrder
next-of test c label is = next-leads test Anyhow IsGoingInOrder (steps-ordered test) c label is

pub next_ordered : (test : Test) (c d : Configuration) (label : Label) → StandsInOrder c → next test c label ≡ Some d → StandsInOrder d
next_ordered test c d label is e = said d (some-of IsConfigurationInOrder (next test c label) d e (next-of test c label (told c is)))

said-option : (o : Option Configuration) → IfSome o IsConfigurationInOrder → IfSome o StandsInOrder
said-option None fine = tt
said-option (Some d) fine = said d fine

-- what a component asks for by whatever snapshot, as its data are in one configuration, is done in another
pub applied-stands-in-order : (test : Test) (c old : Going) (itself : ComponentId) (p : Path) (x : Component) (snapshot : Snapshot) → StandsInOrder (Goes c) → StandsInOrder (Goes old) → component_at old p ≡ Some x
    → IfSome (option_map settled (apply test c itself (act test snapshot x.own))) StandsInOrder
applied-stands-in-order test c old itself p x snapshot is also there =
    said-option (option_map settled (apply test c itself (act test snapshot x.own)))
    (settled-leads test Anyhow IsGoingInOrder (apply test c itself (act test snapshot x.own)) (applied-ordered test c old itself p x snapshot (told-going c is) (told-going old also) there))

-- ---- runs

pub replay_ordered : (test : Test) (run : List Label) (c : Configuration) → replay test run ≡ Ok c → StandsInOrder c
replay_ordered test run c e = said c (replay-holds test IsConfigurationInOrder (starts test) (next-of test) run c e)

pub ends-ordered : (test : Test) (run : Run Label) → StandsInOrder (end_of (graph_of test) run)
ends-ordered test run = said (end_of (graph_of test) run) (end-holds test IsConfigurationInOrder (starts test) (next-of test) run)

-- ---- what follows from the order

pub labels_ascend_in_runs : (test : Test) (run : List Label) (c : Going) → replay test run ≡ Ok (Goes c) → AllPairs (λ k l. label_cmp k l ≡ Less) (labels test (Goes c))
labels_ascend_in_runs test run c e = let is : IsInOrder c = replay_ordered test run (Goes c) e in labels_ascend test c is.ordered

pub labels_step_in_runs : (test : Test) (run : List Label) (c : Going) → replay test run ≡ Ok (Goes c) → (label : Label) → Contains (labels test (Goes c)) label ↔ (is_some (step test (Goes c) label) ≡ true)
labels_step_in_runs test run c e label = let is : IsInOrder c = replay_ordered test run (Goes c) e in labels_enabled test c is.ordered label

-- ---- live parts

live-component : (b : Bool) (x : Component) → IsComponentInOrder x → IsComponentInOrder (if b then husk (path_of x) else x)
live-component true x is = record {
  own = record { members = record { values = none-ordered; timers = none-ordered }; calls = All-nil IsFrameInOrder; count = refl };
  marks = tt;
}
live-component false x is = is

pub live-path : (b : Bool) (x : Component) → path_of (if b then husk (path_of x) else x) ≡ path_of x
live-path true x = refl
live-path false x = refl

live-gentle : IsGentle live_component
live-gentle = record {
  path = λ x. live-path (is_terminated_state x.state) x;
  within = λ x is. live-component (is_terminated_state x.state) x is;
}

live-going : (c : Going) → IsGoingInOrder c → IsGoingInOrder (live_going c)
live-going c is =
    let each = each-ordered live_component live-gentle c is in
    record { components = each.components; within = each.within; connections = AllPairs-filter (λ k l. connection_cmp k l ≡ Less) (is_live c) c.connections is.connections; mappings = is.mappings }

pub live_ordered : (c : Configuration) → StandsInOrder c → StandsInOrder (live_part c)
live_ordered (Ended v) is = tt
live_ordered (Goes c) is = said-going (live_going c) (live-going c (told-going c is))

pub canonical-ends-ordered : (test : Test) (run : Run Label) → StandsInOrder (end_of (canonical_graph test) run)
canonical-ends-ordered test run = subst StandsInOrder (sym (ends_live test run)) (live_ordered (end_of (graph_of test) run) (ends-ordered test run))
