-- What storing leaves as it was.
use Rattle.std.proofs.Common.{◌≡◌, refl, sym, ap, ◌∙◌, ℕ, ◌<◌, Bool, true, false, nat_lt, if◌then◌else◌, lt-ltb}
use Rattle.semantics.specs.Configurations.{Component, Data, Frame}
use Rattle.semantics.specs.Creating.{new_component, new_members}
use Rattle.semantics.specs.Items.{Target}
use Rattle.semantics.specs.Snapshots.{Test}
use Rattle.semantics.specs.Statements as said
use Rattle.semantics.specs.Storing.{in_frame, store, with_values}
use Rattle.semantics.specs.Entries.{put}
use Rattle.value_types.specs.Outcomes.{Fails, Outcome, Yields, dynamic_error, outcome_map}
use Rattle.value_types.specs.declared.value.ComponentId.{ComponentId}
use Rattle.value_types.specs.declared.value.Value.{Value}
use Rattle.value_types.specs.declared.value.Value.TheVariants as value

frame-children : (last : Bool) (change : Frame → Frame) (own : Data) → (in_frame last change own).children ≡ own.children
frame-children true change own = refl
frame-children false change own = refl

stored-by : (target : Target) (o : Outcome Value) (own new : Data)
    → outcome_map (λ v. in_frame target.own (λ frame. with_values (put target.reference.name v frame.values) frame) own) o ≡ Yields new → new.children ≡ own.children
stored-by target (Yields v) own new is =
    let change : Frame → Frame = λ frame. with_values (put target.reference.name v frame.values) frame in
    let same : in_frame target.own change own ≡ new = cc in
    ap (λ (d : Data). d.children) (sym same) ∙ frame-children target.own change own
stored-by target (Fails why) own new is = absurd (let bad = is in cc)

-- a value that is stored creates no component
pub stored-children : (test : Test) (target : Target) (v : Value) (own new : Data) → store test target v own ≡ Yields new → new.children ≡ own.children
stored-children test target v own new is =
    stored-by target _ own new is

room-left : (n : ℕ) → n < said.most → nat_lt n said.most ≡ true
room-left n below = lt-ltb n said.most below

-- a new component, where each part is there
pub created-as : (stand : said.Stand) (target : Target) (own : Data) (id copy : ComponentId) (members : Frame) (stored counted : Data) (new : Component)
    → own.children < said.most → new_members stand.test id stand.snapshot ≡ Yields members → copy ≡ id → store stand.test target (value.Component copy) own ≡ Yields stored
    → counted ≡ said.with_child stored → new ≡ new_component stand.test id members → said.create stand target own id ≡ said.Requests (said.Creates new) counted
created-as stand target own id copy members stored counted new room made same kept one is =
    let finish : Frame → said.Act = λ m. said.acting (λ changed. said.Requests (said.Creates (new_component stand.test id m)) (said.with_child changed)) (store stand.test target (value.Component id) own) in
    ap (λ b. said.acting finish (if b then new_members stand.test id stand.snapshot else dynamic_error)) (room-left own.children room)
    ∙ ap (said.acting finish) made
    ∙ ap (λ (i : ComponentId). said.acting (λ changed. said.Requests (said.Creates (new_component stand.test id members)) (said.with_child changed)) (store stand.test target (value.Component i) own)) (sym same)
    ∙ ap (said.acting (λ changed. said.Requests (said.Creates (new_component stand.test id members)) (said.with_child changed))) kept
    ∙ ap (λ (d : Data). said.Requests (said.Creates (new_component stand.test id members)) d) (sym one)
    ∙ ap (λ (n : Component). said.Requests (said.Creates n) counted) (sym is)
