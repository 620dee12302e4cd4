-- Frames of which the last one is of a behaviour, and what changes leave of it.
use Rattle.std.proofs.Common.{◌≡◌, ℕ, Bool, true, false, not, List, [], ◌∷◌, ◌++◌, bytes_eq, Option, Some, option_map, refl, subst, if◌then◌else◌}
use Rattle.std.specs.List.{All, find}
use Rattle.std.specs.Ordering.{match_ordering}
use Rattle.std.specs.declared.cmp.Ordering.{Ordering}
use Rattle.std.specs.declared.cmp.Ordering.TheVariants.{Less, Equal, Greater}
use Rattle.std.proofs.lemmas.List.Elements.{All-append, All-cons, All-filter, All-head, All-nil, All-tail}
use Rattle.ttcn_syntax.specs.declared.tree.definition.Definition.{Definition}
use Rattle.laws_sites.proofs.Sites.{own-free}
use Rattle.laws_sites.proofs.Ways.{IsLastSite}
use Rattle.laws_sites.specs.Standing.{IsFineFrame, IsFineItem, IsFineSite, IsFrameOf, IsFree}
use Rattle.laws_statements.proofs.Naming.{same-name}
use Rattle.laws_steps.proofs.Outcomes.{any-yields, map-yields, then-yields}
use Rattle.semantics.specs.Configurations.{Data, Frame}
use Rattle.semantics.specs.Entries.{Entries, name_cmp, put, without}
use Rattle.semantics.specs.Events.{Effect, Elapses, Plain, Receives, Redirect}
use Rattle.semantics.specs.Items.{Item, Target}
use Rattle.semantics.specs.Sites.{Site, is_own}
use Rattle.semantics.specs.Snapshots.{Test}
use Rattle.semantics.specs.Storing.{declare, declare_timer, forget, in_frame, in_last, set_timer, store, target_meant, values_in, with_remaining, with_timers, with_values}
use Rattle.semantics.specs.Taking.{effected, store_all}
use Rattle.value_assignment.specs.Assignment.{assigned}
use Rattle.check_rules.specs.Rules.{AreWellTyped}
use Rattle.value_types.specs.Frames.{entry}
use Rattle.value_types.specs.Outcomes.{IfYields}
use Rattle.value_types.specs.declared.frame.TimerState.{TimerState}
use Rattle.value_types.specs.declared.frame.TimerState.TheVariants as timer
use Rattle.value_types.specs.declared.value.Value.{Value}

-- ---- timers

put-each-at : {A : Type 0} (P : List ℕ → Type 0) (name : List ℕ) (a : A) (e : List ℕ × A) (entries behind : Entries A) (o : Ordering) → P name → P e.0 → All (λ e. P e.0) entries → All (λ e. P e.0) behind
    → All (λ e. P e.0) (match_ordering o ((name, a) ∷ e ∷ entries) ((name, a) ∷ entries) (e ∷ behind))
put-each-at {A} P name a e entries behind Less is first all others =
    All-cons (λ (x : List ℕ × A). P x.0) (name, a) (e ∷ entries) is (All-cons (λ (x : List ℕ × A). P x.0) e entries first all)
put-each-at {A} P name a e entries behind Equal is first all others = All-cons (λ (x : List ℕ × A). P x.0) (name, a) entries is all
put-each-at {A} P name a e entries behind Greater is first all others = All-cons (λ (x : List ℕ × A). P x.0) e behind first others

pub put-each : {A : Type 0} (P : List ℕ → Type 0) (name : List ℕ) (a : A) (entries : Entries A) → P name → All (λ e. P e.0) entries → All (λ e. P e.0) (put name a entries)
put-each {A} P name a [] is all = All-cons (λ (x : List ℕ × A). P x.0) (name, a) [] is all
put-each {A} P name a (e ∷ entries) is all =
    let first : P e.0 = All-head (λ (x : List ℕ × A). P x.0) e entries all in
    let behind : All (λ (x : List ℕ × A). P x.0) entries = All-tail (λ (x : List ℕ × A). P x.0) e entries all in
    put-each-at P name a e entries (put name a entries) (name_cmp name e.0) is first behind (put-each P name a entries is behind)

-- what holds of each name holds of one that has an entry
entry-named-at : {A : Type 0} (P : List ℕ → Type 0) (name : List ℕ) (a : A) (e : List ℕ × A) (b : Bool) (others : Option (List ℕ × A)) → bytes_eq e.0 name ≡ b → P e.0 → (option_map (λ e. e.1) others ≡ Some a → P name)
    → option_map (λ e. e.1) (if b then Some e else others) ≡ Some a → P name
entry-named-at P name a e true others same is rest found = subst P (same-name e.0 name same) is
entry-named-at P name a e false others same is rest found = rest found

pub entry-named : {A : Type 0} (P : List ℕ → Type 0) (name : List ℕ) (entries : Entries A) (a : A) → All (λ e. P e.0) entries → entry entries name ≡ Some a → P name
entry-named P name [] a all found = absurd (let e = found in cc)
entry-named {A} P name (e ∷ entries) a all found =
    entry-named-at P name a e (bytes_eq e.0 name) (find (λ e. bytes_eq e.0 name) entries) refl (All-head (λ (x : List ℕ × A). P x.0) e entries all)
    (entry-named P name entries a (All-tail (λ (x : List ℕ × A). P x.0) e entries all)) found

-- ---- frames of a behaviour

abbrev pub KeepsFrame : List Definition → ℕ → (Frame → Frame) → Type 0
KeepsFrame definitions at change = (frame : Frame) → IsFrameOf definitions at frame → IsFrameOf definitions at (change frame)

pub values-kept : (definitions : List Definition) (at : ℕ) (name : List ℕ) (v : Value) → KeepsFrame definitions at (λ frame. with_values (put name v frame.values) frame)
values-kept definitions at name v frame is = record { items = is.items; timers = is.timers }

pub timer-kept : (definitions : List Definition) (at : ℕ) (name : List ℕ) (state : TimerState) → IsFree definitions at name → KeepsFrame definitions at (λ frame. with_timers (put name state frame.timers) frame)
timer-kept definitions at name state free frame is = record { items = is.items; timers = put-each (IsFree definitions at) name state frame.timers free is.timers }

without-each : (definitions : List Definition) (at : ℕ) (name : List ℕ) (timers : Entries TimerState) → All (λ e. IsFree definitions at e.0) timers → All (λ e. IsFree definitions at e.0) (without name timers)
without-each definitions at name timers all = All-filter (λ e. not (bytes_eq e.0 name)) (λ (e : List ℕ × TimerState). IsFree definitions at e.0) timers all

pub forget-kept : (definitions : List Definition) (at : ℕ) (name : List ℕ) → KeepsFrame definitions at (forget name)
forget-kept definitions at name frame is = record { items = is.items; timers = without-each definitions at name frame.timers is.timers }

pub declare-kept : (definitions : List Definition) (at : ℕ) (name : List ℕ) (v : Value) → KeepsFrame definitions at (declare name v)
declare-kept definitions at name v frame is = record { items = is.items; timers = without-each definitions at name frame.timers is.timers }

pub declare-timer-kept : (definitions : List Definition) (at : ℕ) (name : List ℕ) → IsFree definitions at name → KeepsFrame definitions at (declare_timer name)
declare-timer-kept definitions at name free frame is = record { items = is.items; timers = put-each (IsFree definitions at) name timer.Inactive frame.timers free is.timers }

-- ---- frames, the last one of a behaviour

-- whatever remains in the last one
abbrev pub AreOpen : List Definition → ℕ → List Frame → Type 0
AreOpen definitions at [] = Unit {0}
AreOpen definitions at (frame ∷ frames) = All (λ e. IsFree definitions at e.0) frame.timers × All (IsFineFrame definitions) frames

abbrev pub AreIn : List Definition → ℕ → List Frame → Type 0
AreIn definitions at [] = Unit {0}
AreIn definitions at (frame ∷ frames) = IsFrameOf definitions at frame × All (IsFineFrame definitions) frames

pub open-in : (definitions : List Definition) (at : ℕ) (calls : List Frame) → AreIn definitions at calls → AreOpen definitions at calls
open-in definitions at [] is = tt
open-in definitions at (frame ∷ frames) is = let first : IsFrameOf definitions at frame = is.0 in (first.timers, is.1)

pub all-in : (definitions : List Definition) (at : ℕ) (calls : List Frame) → AreIn definitions at calls → All (IsFineFrame definitions) calls
all-in definitions at [] is = All-nil (IsFineFrame definitions)
all-in definitions at (frame ∷ frames) is = All-cons (IsFineFrame definitions) frame frames (at, is.0) is.1

pub last-remaining : (definitions : List Definition) (at : ℕ) (items : List Item) (calls : List Frame) → AreOpen definitions at calls → All (IsFineItem definitions at) items
    → AreIn definitions at (in_last (with_remaining items) calls)
last-remaining definitions at items [] is all = tt
last-remaining definitions at items (frame ∷ frames) is all = (record { items = all; timers = is.0 }, is.1)

pub last-kept : (definitions : List Definition) (at : ℕ) (change : Frame → Frame) → KeepsFrame definitions at change → (calls : List Frame) → AreIn definitions at calls → AreIn definitions at (in_last change calls)
last-kept definitions at change keeps [] is = tt
last-kept definitions at change keeps (frame ∷ frames) is = (keeps frame is.0, is.1)

-- ---- data

abbrev pub IsDataIn : List Definition → ℕ → Data → Type 0
IsDataIn definitions at own = AreIn definitions at own.calls

abbrev pub IsFineData : List Definition → Data → Type 0
IsFineData definitions own = All (IsFineFrame definitions) own.calls

-- a change of the last frame, or of frame 0
pub frame-kept : (definitions : List Definition) (at : ℕ) (last : Bool) (change : Frame → Frame) → (last ≡ true → KeepsFrame definitions at change) → (own : Data) → IsDataIn definitions at own
    → IsDataIn definitions at (in_frame last change own)
frame-kept definitions at true change keeps own is = last-kept definitions at change (keeps refl) own.calls is
frame-kept definitions at false change keeps own is = is

pub store-kept : (definitions : List Definition) (at : ℕ) (test : Test) (target : Target) (v : Value) (own : Data) → IsDataIn definitions at own → IfYields (store test target v own) (IsDataIn definitions at)
store-kept definitions at test target v own is =
    map-yields (λ new. Unit {0}) (IsDataIn definitions at) (λ new. in_frame target.own (λ frame. with_values (put target.reference.name new frame.values) frame) own)
    (assigned test.definitions target.data_type (entry (values_in target.own own) target.reference.name) target.reference.fields v)
    (λ new any. frame-kept definitions at target.own (λ frame. with_values (put target.reference.name new frame.values) frame) (λ e. values-kept definitions at target.reference.name new) own is)
    (any-yields (assigned test.definitions target.data_type (entry (values_in target.own own) target.reference.name) target.reference.fields v))

-- a timer that is set at a site of the last frame
pub set-timer-kept : (test : Test) → AreWellTyped test.definitions → (at : ℕ) (site : Site) (name : List ℕ) (state : TimerState) (own : Data) → IsFineSite test.definitions at site
    → IsDataIn test.definitions at own → IsDataIn test.definitions at (set_timer test site name state own)
set-timer-kept test well at site name state own fine is =
    frame-kept test.definitions at (is_own test.definitions site name) (λ frame. with_timers (put name state frame.timers) frame)
    (λ e. timer-kept test.definitions at name state (own-free test.definitions well at site name fine e)) own is

-- ---- taking a branch

all-stored : (definitions : List Definition) (at : ℕ) (test : Test) (site : Site) (redirects : List Redirect) (own : Data) → IsDataIn definitions at own → IfYields (store_all test site redirects own) (IsDataIn definitions at)
all-stored definitions at test site [] own is = is
all-stored definitions at test site (redirect ∷ redirects) own is =
    then-yields (IsDataIn definitions at) (IsDataIn definitions at) (store_all test site redirects) (store test (target_meant test site redirect.reference) redirect.value own)
    (λ next also. all-stored definitions at test site redirects next also) (store-kept definitions at test (target_meant test site redirect.reference) redirect.value own is)

pub effect-kept : (test : Test) → AreWellTyped test.definitions → (at : ℕ) (site : Site) (effect : Effect) (own : Data) → IsFineSite test.definitions at site → IsDataIn test.definitions at own
    → IfYields (effected test site effect own) (IsDataIn test.definitions at)
effect-kept test well at site Plain own fine is = is
effect-kept test well at site (Receives port redirects) own fine is = all-stored test.definitions at test site redirects own is
effect-kept test well at site (Elapses name) own fine is = set-timer-kept test well at site name timer.Inactive own fine is

-- the behaviour of the last frame, where the frames of a branch come on top
pub entered-in : (definitions : List Definition) (at : ℕ) (site : Site) (frames below : List Frame) → IsLastSite definitions at site frames → All (IsFineFrame definitions) frames → AreIn definitions at below
    → (last : ℕ) × IsFineSite definitions last site × AreIn definitions last (frames ++ below)
entered-in definitions at site [] below is all under = (at, is, under)
entered-in definitions at site (frame ∷ frames) below is all under =
    (is.0, is.1, (is.2, All-append (IsFineFrame definitions) frames below (All-tail (IsFineFrame definitions) frame frames all) (all-in definitions at below under)))
