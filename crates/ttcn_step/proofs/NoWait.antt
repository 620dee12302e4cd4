-- Where a component stands at no `alt` it has a step: it asks for something, or fails.
use Rattle.std.proofs.Common.{◌≡◌, Bool, true, false, List, [], ◌∷◌, map, slice_get, Option, Some, None, is_some, option_map, refl, ap, subst, ◌∙◌, if◌then◌else◌}
use Rattle.std.proofs.lemmas.Option.{same_Some}
use Rattle.ttcn_syntax.specs.declared.tree.statement.Action.TheOpen.{Action-F}
use Rattle.ttcn_syntax.specs.declared.tree.statement.Statement.{Statement, out-Statement}
use Rattle.semantics.specs.Configurations as rules
use Rattle.semantics.specs.Configurations.{Data, Frame}
use Rattle.check_scope.specs.Names.{kind_at}
use Rattle.semantics.specs.Items.{Does, Part, Doing, Whole, action_of}
use Rattle.semantics.specs.Sites.{Site}
use Rattle.semantics.specs.Snapshots.{Snapshot, Test, snapshot_of}
use Rattle.semantics.specs.Statements.{Act, Errs, Requests, Stand, Waits, act, choose_from, judge_at, reads}
use Rattle.semantics.specs.Steps.{apply}
use Rattle.semantics.specs.Storing.{going_on, store, with_calls}
use Rattle.config_parts.specs.Legend.{Legend, component_by, frame_by}
use Rattle.config_parts.specs.declared.component.Component.{Component}
use Rattle.config_parts.specs.declared.frame.Frame as declared
use Rattle.laws_steps.proofs.Acting.{Keeps, act-asks, end-asks, part-asks}
use Rattle.laws_steps.proofs.Outcomes.{any-each, any-yields}
use Rattle.check_rules.specs.Calls.{parameters_of}
use Rattle.semantics.specs.Branches.{Judge, Written, written_alt}
use Rattle.semantics.specs.Events.{Choice, Nothing}
use Rattle.ttcn_syntax.specs.declared.place.Span.{Span}
use Rattle.value_types.specs.Templates.{arguments}
use Rattle.ttcn_step.specs.internal.Plain.{HasStep, IsPlain, IsPlainFirst}
use Rattle.value_types.specs.Literals.{value_wanted}
use Rattle.value_types.specs.declared.value.ComponentId.{ComponentId}

-- something is asked for, or the step fails
abbrev Steps : Act → Type 0
Steps Waits = ⊥
Steps (Errs why) = Unit {0}
Steps (Requests request own) = Unit {0}

-- ---- parts of statements

-- nothing is chosen by a statement that is no `alt` and stands for none
plain-alone : (test : Test) (snapshot : Snapshot) (own : Data) (judge : Judge) (place : Span) (d : Does) → IsPlain d → is_some (written_alt test snapshot own judge place d) ≡ false
plain-alone test snapshot own judge place (Action-F.«Action::Call» call) plain = absurd plain
plain-alone test snapshot own judge place (Action-F.«Action::Event» event) plain = absurd plain
plain-alone test snapshot own judge place (Action-F.Alt branches) plain = absurd plain
plain-alone test snapshot own judge place _ plain = refl

none-chosen : (stand : Stand) (written : Option (List Written)) (choice : Choice) → is_some written ≡ false → option_map (choose_from stand) written ≡ Some choice → ⊥
none-chosen stand None choice none is = let e = is in cc
none-chosen stand (Some written) choice none is = let e = none in cc

module _ (stand : Stand) (site : Site) (s : Statement) (part : Part) (plain : part ≡ Whole → IsPlain (action_of s)) where
  keeps : Keeps stand site s part Steps (λ own. Unit {0}) (λ own. Unit {0}) (λ own. Unit {0}) (λ v. Unit {0}) (λ frame. Unit {0})
  keeps = record {
    evaluated = λ v wanted. any-yields (value_wanted v (reads stand site) wanted);
    handed = λ at given. any-each (arguments (reads stand site) (parameters_of (kind_at stand.test.definitions at)) given);
    default_given = λ n. tt;
    does = tt;
    forgets = λ name. tt;
    opens = λ own is. tt;
    declares = λ name v given. tt;
    declares_timer = λ k timers t named e found. tt;
    stores = λ target v own given is. any-yields (store stand.test target v own);
    sets_timer = λ name state. tt;
    activates = λ at values own all is. tt;
    deactivates = λ stay. tt;
    deactivates_all = tt;
    ends = λ own is. tt;
    makes = λ made makes. tt;
    begins = λ at body values found all. tt;
    calls = λ frame begun fits. tt;
    awaits = λ target own frame is begun fits. tt;
    leaves = λ frame frames under. tt;
    gives_back = λ frame frames target xs v under e given. any-yields (store stand.test target v (going_on xs (with_calls (frame ∷ frames) stand.own)));
    repeats = λ calls found. tt;
    takes = λ chance effect own whole chosen taken fits. tt;
    fails = λ why. tt;
    waits = λ whole chosen.
        none-chosen stand (written_alt stand.test stand.snapshot stand.own (judge_at stand site) (out-Statement s).place (action_of s)) Nothing
        (plain-alone stand.test stand.snapshot stand.own (judge_at stand site) (out-Statement s).place (action_of s) (plain whole)) chosen;
    continues = λ own is. tt;
    worsens = λ v reasons whole e. tt;
    removes = λ port own is. tt;
    sends = λ send v to of meant. tt;
    creates = λ target own at members changed is made stored. tt;
    starts = λ reference c frame meant begun. tt;
    stops_itself = tt;
    stops_last = λ under. tt;
    stops = λ reference c meant. tt;
    connects = λ one other c d first second may. tt;
    maps = λ m c meant may. tt;
    unmaps = λ m c meant. tt;
  }

-- ---- steps of a component

-- no `alt` comes first in the last of these frames, nor what stands for one
abbrev IsPlainLast : List Frame → Type 0
IsPlainLast [] = Unit {0}
IsPlainLast (frame ∷ frames) = IsPlainFirst frame.remaining

asked-steps : (test : Test) (snapshot : Snapshot) (own : Data) → IsPlainLast own.calls → Steps (act test snapshot own)
asked-steps test snapshot own plain =
    act-asks test snapshot own Steps (λ why. tt)
    (λ frame below calls nothing.
    end-asks (record { test = test; snapshot = snapshot; own = own; frame = frame; below = below; rest = [] }) Steps (λ why. tt) (λ under. tt) (λ last frames under. tt) below refl)
    (λ frame below site s part rest calls first.
    let stand : Stand = record { test = test; snapshot = snapshot; own = own; frame = frame; below = below; rest = rest } in
    part-asks stand site s part Steps (λ changed. Unit {0}) (λ changed. Unit {0}) (λ changed. Unit {0}) (λ v. Unit {0}) (λ f. Unit {0})
    (keeps stand site s part (λ whole. subst (λ p. IsPlainFirst (Doing site s p ∷ rest)) whole (subst IsPlainFirst first (subst IsPlainLast calls plain)))))

steps-apply : (test : Test) (c : rules.Going) (itself : ComponentId) (asked : Act) → Steps asked → is_some (apply test c itself asked) ≡ true
steps-apply test c itself Waits steps = absurd steps
steps-apply test c itself (Errs why) steps = refl
steps-apply test c itself (Requests request own) steps = refl

-- ---- components of the code

-- no `alt` comes first in the last frame, nor what stands for one
abbrev pub IsPlainIn : Legend → List declared.Frame → Type 0
IsPlainIn legend [] = Unit {0}
IsPlainIn legend (frame ∷ frames) = IsPlainFirst (legend.lists frame.remaining)

plain-last : (legend : Legend) (frames : List declared.Frame) → IsPlainIn legend frames → IsPlainLast (map (frame_by legend) frames)
plain-last legend [] plain = tt
plain-last legend (frame ∷ frames) plain = plain

pub plain-has-step : (legend : Legend) (test : Test) (x : Component) → IsPlainIn legend x.own.calls → HasStep test (component_by legend x)
plain-has-step legend test x plain c runs =
    let component = component_by legend x in
    let found = apply test c component.itself (act test (snapshot_of c component) component.own) in
    ap (λ (b : Bool). is_some (if b then found else None)) runs
    ∙ steps-apply test c component.itself (act test (snapshot_of c component) component.own) (asked-steps test (snapshot_of c component) component.own (plain-last legend x.own.calls plain))

plain-in : (legend : Legend) (frames : List declared.Frame) (frame : declared.Frame) → Some frame ≡ slice_get frames 0 → IsPlainFirst (legend.lists frame.remaining) → IsPlainIn legend frames
plain-in legend [] frame is plain = tt
plain-in legend (other ∷ frames) frame is plain = subst (λ (f : declared.Frame). IsPlainFirst (legend.lists f.remaining)) (same_Some frame other is) plain

-- such a component has a last frame that tells it
pub plain-frame-has-step : (legend : Legend) (test : Test) (x : Component) (frame : declared.Frame) → Some frame ≡ slice_get x.own.calls 0 → IsPlainFirst (legend.lists frame.remaining)
    → HasStep test (component_by legend x)
plain-frame-has-step legend test x frame is plain = plain-has-step legend test x (plain-in legend x.own.calls frame is plain)
