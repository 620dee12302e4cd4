-- An expiry as a change of one frame, and that taking a branch is the same before an expiry and behind it.
use Rattle.std.proofs.Common.{◌≡◌, ℕ, ◌+◌, ◌≤◌, Bool, true, false, List, [], ◌∷◌, ◌++◌, length, Option, Some, None, bytes_eq, nat_eq, nat_lt, option_map, refl, sym, ap, ◌∙◌, arith, if◌then◌else◌}
use Rattle.std.proofs.lemmas.Bool.Decides.{Decides-eqb}
use Rattle.std.proofs.lemmas.List.{length-append}
use Rattle.std.proofs.lemmas.Slice.Eq.{bytes_eq-Decides}
use Rattle.ttcn_syntax.specs.declared.tree.statement.Statement.{Statement}
use Rattle.value_assignment.specs.Assignment.{assigned}
use Rattle.laws_fine.proofs.Puts.{put-swap}
use Rattle.laws_steps.proofs.Entries.{put-other}
use Rattle.semantics.specs.Branches.{Chance, Way}
use Rattle.semantics.specs.Configurations.{Data, Frame}
use Rattle.semantics.specs.Entries.{put}
use Rattle.semantics.specs.Events.{Effect, Elapses, Plain, Receives, Redirect}
use Rattle.semantics.specs.Items.{Item, Target}
use Rattle.semantics.specs.Sites.{Site, is_own}
use Rattle.semantics.specs.Snapshots.{Test}
use Rattle.semantics.specs.Statements.{most, with_frames}
use Rattle.semantics.specs.Steps.{expire_in, expired, expired_call, expired_frame}
use Rattle.semantics.specs.Storing.{in_frame, in_last, last_values, store, target_meant, values_in, with_calls, with_members, with_remaining, with_timers, with_values}
use Rattle.semantics.specs.Taking.{effected, entered, marked, store_all, uncovered, without_marks}
use Rattle.value_types.specs.Frames.{entry}
use Rattle.value_types.specs.Outcomes.{Fails, IfYields, Outcome, Yields, dynamic_error, outcome_and_then, outcome_map}
use Rattle.value_types.specs.declared.frame.TimerState.{TimerState}
use Rattle.value_types.specs.declared.frame.TimerState.TheVariants as timer
use Rattle.value_types.specs.declared.value.Value.{Value}

-- ---- an expiry

-- a frame in which a timer has expired
abbrev pub lapse : List ℕ → Frame → Frame
lapse x frame = with_timers (put x timer.Expired frame.timers) frame

-- a change of the frame of a number: frames are counted from 1, the last one first in the list
abbrev pub at_call : ℕ → (Frame → Frame) → List Frame → List Frame
at_call n change [] = []
at_call n change (frame ∷ frames) = if nat_eq n (length frames + 1) then change frame ∷ frames else frame ∷ at_call n change frames

-- frame 0 is the component's own
abbrev pub at_frame : ℕ → (Frame → Frame) → Data → Data
at_frame n change own = record {
  members = if nat_eq n 0 then change own.members else own.members;
  calls = at_call n change own.calls;
  defaults = own.defaults;
  activations = own.activations;
  children = own.children;
}

-- data in which a timer has expired
abbrev pub lapsed : ℕ → List ℕ → Data → Data
lapsed n x own = at_frame n (lapse x) own

-- the timer of a name in the frame of a number
abbrev pub timer_in_call : ℕ → List ℕ → List Frame → Option TimerState
timer_in_call n x [] = None
timer_in_call n x (frame ∷ frames) = if nat_eq n (length frames + 1) then entry frame.timers x else timer_in_call n x frames

abbrev pub timer_in : ℕ → List ℕ → Data → Option TimerState
timer_in n x own = if nat_eq n 0 then entry own.members.timers x else timer_in_call n x own.calls

-- what is there where a timer of this state may expire
abbrev pub expiring : {A : Type 0} → Option TimerState → A → Option A
expiring (Some timer.Running) a = Some a
expiring (Some timer.Inactive) a = None
expiring (Some timer.Expired) a = None
expiring None a = None

expiring-map : {A B : Type 0} (f : A → B) (o : Option TimerState) (a : A) → option_map f (expiring o a) ≡ expiring o (f a)
expiring-map f (Some timer.Running) a = refl
expiring-map f (Some timer.Inactive) a = refl
expiring-map f (Some timer.Expired) a = refl
expiring-map f None a = refl

frame-told : (x : List ℕ) (frame : Frame) (o : Option TimerState) → option_map (λ timers. with_timers timers frame) (expire_in frame.timers x o) ≡ expiring o (lapse x frame)
frame-told x frame (Some timer.Running) = refl
frame-told x frame (Some timer.Inactive) = refl
frame-told x frame (Some timer.Expired) = refl
frame-told x frame None = refl

frame-is : (x : List ℕ) (frame : Frame) → expired_frame x frame ≡ expiring (entry frame.timers x) (lapse x frame)
frame-is x frame = frame-told x frame (entry frame.timers x)

call-told : (n : ℕ) (x : List ℕ) (frame : Frame) (frames : List Frame) (b : Bool) → expired_call n x frames ≡ expiring (timer_in_call n x frames) (at_call n (lapse x) frames)
    → (if b then option_map (λ changed. changed ∷ frames) (expired_frame x frame) else option_map (λ changed. frame ∷ changed) (expired_call n x frames))
    ≡ expiring (if b then entry frame.timers x else timer_in_call n x frames) (if b then lapse x frame ∷ frames else frame ∷ at_call n (lapse x) frames)
call-told n x frame frames true rest =
    ap (option_map (λ changed. changed ∷ frames)) (frame-is x frame) ∙ expiring-map (λ changed. changed ∷ frames) (entry frame.timers x) (lapse x frame)
call-told n x frame frames false rest =
    ap (option_map (λ changed. frame ∷ changed)) rest ∙ expiring-map (λ changed. frame ∷ changed) (timer_in_call n x frames) (at_call n (lapse x) frames)

call-is : (n : ℕ) (x : List ℕ) (frames : List Frame) → expired_call n x frames ≡ expiring (timer_in_call n x frames) (at_call n (lapse x) frames)
call-is n x [] = refl
call-is n x (frame ∷ frames) = call-told n x frame frames (nat_eq n (length frames + 1)) (call-is n x frames)

zero-not : (n m : ℕ) → nat_eq n 0 ≡ true → nat_eq n (m + 1) ≡ true → ⊥
zero-not n m is also = let one = (Decides-eqb n 0).0 is in let other = (Decides-eqb n (m + 1)).0 also in omega (arith, one, other)

call-zero-told : (n : ℕ) (change : Frame → Frame) (frame : Frame) (frames : List Frame) (b : Bool) → nat_eq n 0 ≡ true → nat_eq n (length frames + 1) ≡ b → at_call n change frames ≡ frames
    → (if b then change frame ∷ frames else frame ∷ at_call n change frames) ≡ frame ∷ frames
call-zero-told n change frame frames true is also rest = absurd (zero-not n (length frames) is also)
call-zero-told n change frame frames false is also rest = ap (λ more. frame ∷ more) rest

-- no other frame is frame 0
call-zero : (n : ℕ) (change : Frame → Frame) → nat_eq n 0 ≡ true → (frames : List Frame) → at_call n change frames ≡ frames
call-zero n change is [] = refl
call-zero n change is (frame ∷ frames) = call-zero-told n change frame frames (nat_eq n (length frames + 1)) is refl (call-zero n change is frames)

abbrev data_of : Data → Frame → List Frame → Data
data_of own members calls = record { members = members; calls = calls; defaults = own.defaults; activations = own.activations; children = own.children }

data-told : (n : ℕ) (x : List ℕ) (own : Data) (b : Bool) → nat_eq n 0 ≡ b
    → (if b then option_map (λ members. with_members members own) (expired_frame x own.members) else option_map (λ calls. with_calls calls own) (expired_call n x own.calls))
    ≡ expiring (if b then entry own.members.timers x else timer_in_call n x own.calls) (data_of own (if b then lapse x own.members else own.members) (at_call n (lapse x) own.calls))
data-told n x own true is =
    ap (option_map (λ members. with_members members own)) (frame-is x own.members)
    ∙ expiring-map (λ members. with_members members own) (entry own.members.timers x) (lapse x own.members)
    ∙ ap (λ calls. expiring (entry own.members.timers x) (data_of own (lapse x own.members) calls)) (sym (call-zero n (lapse x) is own.calls))
data-told n x own false is =
    ap (option_map (λ calls. with_calls calls own)) (call-is n x own.calls)
    ∙ expiring-map (λ calls. with_calls calls own) (timer_in_call n x own.calls) (at_call n (lapse x) own.calls)

-- a running timer expires, and no other
pub expired-is : (n : ℕ) (x : List ℕ) (own : Data) → expired n x own ≡ expiring (timer_in n x own) (lapsed n x own)
expired-is n x own = data-told n x own (nat_eq n 0) refl

-- ---- changes of the last frame

-- of the last frame and those below, if there is one
abbrev pub IfLast : (Frame → List Frame → Type 0) → List Frame → Type 0
IfLast P [] = Unit {0}
IfLast P (frame ∷ frames) = P frame frames

-- a change of a frame that an expiry in it doesn't mind
pub record Bears (x : List ℕ) (change : Frame → Frame) (frame : Frame) : Type 0 where
  pub lapses : change (lapse x frame) ≡ lapse x (change frame)
  pub timer : entry (change frame).timers x ≡ entry frame.timers x

abbrev pub BearsIn : ℕ → List ℕ → (Frame → Frame) → List Frame → Type 0
BearsIn n x change calls = IfLast (λ frame frames. nat_eq n (length frames + 1) ≡ true → Bears x change frame) calls

last-told : (n : ℕ) (x : List ℕ) (change : Frame → Frame) (frame : Frame) (frames : List Frame) (b : Bool) → (b ≡ true → Bears x change frame)
    → in_last change (if b then lapse x frame ∷ frames else frame ∷ at_call n (lapse x) frames) ≡ (if b then lapse x (change frame) ∷ frames else change frame ∷ at_call n (lapse x) frames)
last-told n x change frame frames true bears = let is : Bears x change frame = bears refl in ap (λ f. f ∷ frames) is.lapses
last-told n x change frame frames false bears = refl

last-lapses : (n : ℕ) (x : List ℕ) (change : Frame → Frame) (calls : List Frame) → BearsIn n x change calls → in_last change (at_call n (lapse x) calls) ≡ at_call n (lapse x) (in_last change calls)
last-lapses n x change [] bears = refl
last-lapses n x change (frame ∷ frames) bears = last-told n x change frame frames (nat_eq n (length frames + 1)) bears

last-timer-told : (n : ℕ) (x : List ℕ) (change : Frame → Frame) (frame : Frame) (frames : List Frame) (b : Bool) → (b ≡ true → Bears x change frame)
    → (if b then entry (change frame).timers x else timer_in_call n x frames) ≡ (if b then entry frame.timers x else timer_in_call n x frames)
last-timer-told n x change frame frames true bears = let is : Bears x change frame = bears refl in is.timer
last-timer-told n x change frame frames false bears = refl

last-timer : (n : ℕ) (x : List ℕ) (change : Frame → Frame) (calls : List Frame) → BearsIn n x change calls → timer_in_call n x (in_last change calls) ≡ timer_in_call n x calls
last-timer n x change [] bears = refl
last-timer n x change (frame ∷ frames) bears = last-timer-told n x change frame frames (nat_eq n (length frames + 1)) bears

-- a change that no frame minds
always : (n : ℕ) (x : List ℕ) (change : Frame → Frame) → ((frame : Frame) → Bears x change frame) → (calls : List Frame) → BearsIn n x change calls
always n x change bears [] = tt
always n x change bears (frame ∷ frames) = λ is. bears frame

-- ---- frames on top

top-not : (n : ℕ) (ws calls : List Frame) → n ≤ length calls → nat_eq n (length (ws ++ calls) + 1) ≡ true → ⊥
top-not n ws calls within is = let same = (Decides-eqb n (length (ws ++ calls) + 1)).0 is in let long = length-append ws calls in omega (arith, within, same, long)

top-told : (n : ℕ) (change : Frame → Frame) (w : Frame) (ws calls : List Frame) (b : Bool) → n ≤ length calls → nat_eq n (length (ws ++ calls) + 1) ≡ b → at_call n change (ws ++ calls) ≡ ws ++ at_call n change calls
    → (if b then change w ∷ (ws ++ calls) else w ∷ at_call n change (ws ++ calls)) ≡ w ∷ (ws ++ at_call n change calls)
top-told n change w ws calls true within is rest = absurd (top-not n ws calls within is)
top-told n change w ws calls false within is rest = ap (λ more. w ∷ more) rest

top-lapses : (n : ℕ) (change : Frame → Frame) (ws calls : List Frame) → n ≤ length calls → at_call n change (ws ++ calls) ≡ ws ++ at_call n change calls
top-lapses n change [] calls within = refl
top-lapses n change (w ∷ ws) calls within = top-told n change w ws calls (nat_eq n (length (ws ++ calls) + 1)) within refl (top-lapses n change ws calls within)

top-timer-told : (n : ℕ) (x : List ℕ) (w : Frame) (ws calls : List Frame) (b : Bool) → n ≤ length calls → nat_eq n (length (ws ++ calls) + 1) ≡ b → timer_in_call n x (ws ++ calls) ≡ timer_in_call n x calls
    → (if b then entry w.timers x else timer_in_call n x (ws ++ calls)) ≡ timer_in_call n x calls
top-timer-told n x w ws calls true within is rest = absurd (top-not n ws calls within is)
top-timer-told n x w ws calls false within is rest = rest

top-timer : (n : ℕ) (x : List ℕ) (ws calls : List Frame) → n ≤ length calls → timer_in_call n x (ws ++ calls) ≡ timer_in_call n x calls
top-timer n x [] calls within = refl
top-timer n x (w ∷ ws) calls within = top-timer-told n x w ws calls (nat_eq n (length (ws ++ calls) + 1)) within refl (top-timer n x ws calls within)

long-told : (n : ℕ) (change : Frame → Frame) (frame : Frame) (frames : List Frame) (b : Bool) → length (at_call n change frames) ≡ length frames
    → length (if b then change frame ∷ frames else frame ∷ at_call n change frames) ≡ length (frame ∷ frames)
long-told n change frame frames true rest = refl
long-told n change frame frames false rest = omega (arith, rest)

pub call-long : (n : ℕ) (change : Frame → Frame) (frames : List Frame) → length (at_call n change frames) ≡ length frames
call-long n change [] = refl
call-long n change (frame ∷ frames) = long-told n change frame frames (nat_eq n (length frames + 1)) (call-long n change frames)

last-long : (change : Frame → Frame) (calls : List Frame) → length (in_last change calls) ≡ length calls
last-long change [] = refl
last-long change (frame ∷ frames) = refl

within-told : (n : ℕ) (x : List ℕ) (s : TimerState) (frame : Frame) (frames : List Frame) (b : Bool) → nat_eq n (length frames + 1) ≡ b → (timer_in_call n x frames ≡ Some s → n ≤ length frames)
    → (if b then entry frame.timers x else timer_in_call n x frames) ≡ Some s → n ≤ length (frame ∷ frames)
within-told n x s frame frames true is rest e = let same = (Decides-eqb n (length frames + 1)).0 is in omega (arith, same)
within-told n x s frame frames false is rest e = let less = rest e in omega (arith, less)

call-within : (n : ℕ) (x : List ℕ) (s : TimerState) (frames : List Frame) → timer_in_call n x frames ≡ Some s → n ≤ length frames
call-within n x s [] e = absurd (let found = e in cc)
call-within n x s (frame ∷ frames) e = within-told n x s frame frames (nat_eq n (length frames + 1)) refl (call-within n x s frames) e

data-within : (n : ℕ) (x : List ℕ) (s : TimerState) (own : Data) (b : Bool) → nat_eq n 0 ≡ b → (if b then entry own.members.timers x else timer_in_call n x own.calls) ≡ Some s → n ≤ length own.calls
data-within n x s own true is e = let same = (Decides-eqb n 0).0 is in omega (arith, same)
data-within n x s own false is e = call-within n x s own.calls e

-- a timer stands in one of the frames
pub timer-within : (n : ℕ) (x : List ℕ) (s : TimerState) (own : Data) → timer_in n x own ≡ Some s → n ≤ length own.calls
timer-within n x s own e = data-within n x s own (nat_eq n 0) refl e

-- ---- changes of data

-- what is made of data before an expiry, and of the same data behind it
pub record Same (n : ℕ) (x : List ℕ) (own : Data) (made also : Outcome Data) : Type 0 where
  pub lapses : also ≡ outcome_map (lapsed n x) made
  pub timer : IfYields made (λ d. timer_in n x d ≡ timer_in n x own)

calls-same : (n : ℕ) (x : List ℕ) (own : Data) (calls also : List Frame) → also ≡ at_call n (lapse x) calls → with_calls also (lapsed n x own) ≡ lapsed n x (with_calls calls own)
calls-same n x own calls also e = ap (λ cs. data_of own (if nat_eq n 0 then lapse x own.members else own.members) cs) e

calls-timer : (n : ℕ) (x : List ℕ) (own : Data) (calls : List Frame) → timer_in_call n x calls ≡ timer_in_call n x own.calls → timer_in n x (with_calls calls own) ≡ timer_in n x own
calls-timer n x own calls e = ap (λ t. if nat_eq n 0 then entry own.members.timers x else t) e

-- a change of the last frame or of frame 0, which the expiry there doesn't mind
abbrev pub BearsFrame : ℕ → List ℕ → Bool → (Frame → Frame) → Data → Type 0
BearsFrame n x true change own = BearsIn n x change own.calls
BearsFrame n x false change own = nat_eq n 0 ≡ true → Bears x change own.members

members-told : (x : List ℕ) (change : Frame → Frame) (members : Frame) (b : Bool) → (b ≡ true → Bears x change members)
    → change (if b then lapse x members else members) ≡ (if b then lapse x (change members) else change members)
members-told x change members true bears = let is : Bears x change members = bears refl in is.lapses
members-told x change members false bears = refl

frame-lapses : (n : ℕ) (x : List ℕ) (last : Bool) (change : Frame → Frame) (own : Data) → BearsFrame n x last change own → in_frame last change (lapsed n x own) ≡ lapsed n x (in_frame last change own)
frame-lapses n x true change own bears = calls-same n x own (in_last change own.calls) (in_last change (at_call n (lapse x) own.calls)) (last-lapses n x change own.calls bears)
frame-lapses n x false change own bears = ap (λ members. data_of own members (at_call n (lapse x) own.calls)) (members-told x change own.members (nat_eq n 0) bears)

members-timer-told : (n : ℕ) (x : List ℕ) (change : Frame → Frame) (own : Data) (b : Bool) → (b ≡ true → Bears x change own.members)
    → (if b then entry (change own.members).timers x else timer_in_call n x own.calls) ≡ (if b then entry own.members.timers x else timer_in_call n x own.calls)
members-timer-told n x change own true bears = let is : Bears x change own.members = bears refl in is.timer
members-timer-told n x change own false bears = refl

frame-timer : (n : ℕ) (x : List ℕ) (last : Bool) (change : Frame → Frame) (own : Data) → BearsFrame n x last change own → timer_in n x (in_frame last change own) ≡ timer_in n x own
frame-timer n x true change own bears = calls-timer n x own (in_last change own.calls) (last-timer n x change own.calls bears)
frame-timer n x false change own bears = members-timer-told n x change own (nat_eq n 0) bears

value-bears : (x : List ℕ) (name : List ℕ) (v : Value) (frame : Frame) → Bears x (λ f. with_values (put name v f.values) f) frame
value-bears x name v frame = record { lapses = refl; timer = refl }

value-in : (n : ℕ) (x : List ℕ) (last : Bool) (name : List ℕ) (v : Value) (own : Data) → BearsFrame n x last (λ f. with_values (put name v f.values) f) own
value-in n x true name v own = always n x (λ f. with_values (put name v f.values) f) (value-bears x name v) own.calls
value-in n x false name v own = λ is. value-bears x name v own.members

-- ---- storing

last-values-told : (x : List ℕ) (n : ℕ) (frame : Frame) (frames : List Frame) (b : Bool) → last_values (if b then lapse x frame ∷ frames else frame ∷ at_call n (lapse x) frames) ≡ frame.values
last-values-told x n frame frames true = refl
last-values-told x n frame frames false = refl

last-values : (n : ℕ) (x : List ℕ) (calls : List Frame) → last_values (at_call n (lapse x) calls) ≡ last_values calls
last-values n x [] = refl
last-values n x (frame ∷ frames) = last-values-told x n frame frames (nat_eq n (length frames + 1))

pub members-values : (x : List ℕ) (members : Frame) (b : Bool) → (if b then lapse x members else members).values ≡ members.values
members-values x members true = refl
members-values x members false = refl

values-same : (n : ℕ) (x : List ℕ) (last : Bool) (own : Data) → values_in last (lapsed n x own) ≡ values_in last own
values-same n x true own = last-values n x own.calls
values-same n x false own = members-values x own.members (nat_eq n 0)

map-lapses : {A : Type 0} (n : ℕ) (x : List ℕ) (f g : A → Data) → ((a : A) → g a ≡ lapsed n x (f a)) → (o : Outcome A) → outcome_map g o ≡ outcome_map (lapsed n x) (outcome_map f o)
map-lapses n x f g same (Yields a) = ap Yields (same a)
map-lapses n x f g same (Fails why) = refl

map-timer : {A : Type 0} (n : ℕ) (x : List ℕ) (own : Data) (f : A → Data) → ((a : A) → timer_in n x (f a) ≡ timer_in n x own) → (o : Outcome A) → IfYields (outcome_map f o) (λ d. timer_in n x d ≡ timer_in n x own)
map-timer n x own f same (Yields a) = same a
map-timer n x own f same (Fails why) = tt

store-same : (n : ℕ) (x : List ℕ) (test : Test) (target : Target) (v : Value) (own : Data) → Same n x own (store test target v own) (store test target v (lapsed n x own))
store-same n x test target v own = record {
  lapses =
      ap (λ values. outcome_map (λ new. in_frame target.own (λ f. with_values (put target.reference.name new f.values) f) (lapsed n x own)) (assigned test.definitions target.data_type (entry values target.reference.name) target.reference.fields v))
      (values-same n x target.own own)
      ∙ map-lapses n x (λ new. in_frame target.own (λ f. with_values (put target.reference.name new f.values) f) own) (λ new. in_frame target.own (λ f. with_values (put target.reference.name new f.values) f) (lapsed n x own))
      (λ new. frame-lapses n x target.own (λ f. with_values (put target.reference.name new f.values) f) own (value-in n x target.own target.reference.name new own))
      (assigned test.definitions target.data_type (entry (values_in target.own own) target.reference.name) target.reference.fields v);
  timer = map-timer n x own (λ new. in_frame target.own (λ f. with_values (put target.reference.name new f.values) f) own)
      (λ new. frame-timer n x target.own (λ f. with_values (put target.reference.name new f.values) f) own (value-in n x target.own target.reference.name new own))
      (assigned test.definitions target.data_type (entry (values_in target.own own) target.reference.name) target.reference.fields v);
}

-- one change after another
then-told : (n : ℕ) (x : List ℕ) (own : Data) (f : Data → Outcome Data) (o also : Outcome Data) → Same n x own o also → ((d : Data) → timer_in n x d ≡ timer_in n x own → Same n x d (f d) (f (lapsed n x d)))
    → Same n x own (outcome_and_then f o) (outcome_and_then f also)
then-told n x own f (Yields d) also same more =
    let next : Same n x d (f d) (f (lapsed n x d)) = more d same.timer in
    record { lapses = ap (outcome_and_then f) same.lapses ∙ next.lapses; timer = timer-then n x own d (f d) same.timer next.timer }
  where
    timer-then : (n : ℕ) (x : List ℕ) (own d : Data) (o : Outcome Data) → timer_in n x d ≡ timer_in n x own → IfYields o (λ e. timer_in n x e ≡ timer_in n x d) → IfYields o (λ e. timer_in n x e ≡ timer_in n x own)
    timer-then n x own d (Yields e) one other = other ∙ one
    timer-then n x own d (Fails why) one other = tt
then-told n x own f (Fails why) also same more = record { lapses = ap (outcome_and_then f) same.lapses; timer = tt }

all-same : (n : ℕ) (x : List ℕ) (test : Test) (site : Site) (redirects : List Redirect) (own : Data) → Same n x own (store_all test site redirects own) (store_all test site redirects (lapsed n x own))
all-same n x test site [] own = record { lapses = refl; timer = refl }
all-same n x test site (redirect ∷ redirects) own =
    then-told n x own (store_all test site redirects) (store test (target_meant test site redirect.reference) redirect.value own) (store test (target_meant test site redirect.reference) redirect.value (lapsed n x own))
    (store-same n x test (target_meant test site redirect.reference) redirect.value own) (λ d timer. all-same n x test site redirects d)

-- ---- timers

-- the timer of a name in the last frame
abbrev pub last_timer : List Frame → List ℕ → Option TimerState
last_timer [] name = None
last_timer (frame ∷ frames) name = entry frame.timers name

-- the timer of a name in the last frame or in frame 0
abbrev pub timer_to_set : Bool → List ℕ → Data → Option TimerState
timer_to_set true name own = last_timer own.calls name
timer_to_set false name own = entry own.members.timers name

set-bears : (x name : List ℕ) (state : TimerState) (frame : Frame) → bytes_eq name x ≡ false → Bears x (λ f. with_timers (put name state f.timers) f) frame
set-bears x name state frame differs = record {
  lapses = ap (λ timers. with_timers timers frame) (put-swap name x differs state timer.Expired frame.timers);
  timer = put-other name x state differs frame.timers;
}

-- a timer that runs isn't one that doesn't
differ-told : (x name : List ℕ) (b : Bool) (o : List ℕ → Option TimerState) → bytes_eq name x ≡ b → (o name ≡ Some timer.Running → ⊥) → o x ≡ Some timer.Running → bytes_eq name x ≡ false
differ-told x name false o is not runs = is
differ-told x name true o is not runs = absurd (not (ap o ((bytes_eq-Decides name x).0 is) ∙ runs))

differ : (x name : List ℕ) (o : List ℕ → Option TimerState) → (o name ≡ Some timer.Running → ⊥) → o x ≡ Some timer.Running → bytes_eq name x ≡ false
differ x name o not runs = differ-told x name (bytes_eq name x) o refl not runs

pub call-runs : (n : ℕ) (x : List ℕ) (members frame : Frame) (frames : List Frame) (b c : Bool) → nat_eq n 0 ≡ b → nat_eq n (length frames + 1) ≡ c → nat_eq n (length frames + 1) ≡ true
    → (if b then entry members.timers x else (if c then entry frame.timers x else timer_in_call n x frames)) ≡ Some timer.Running → entry frame.timers x ≡ Some timer.Running
call-runs n x members frame frames true c zero top is runs = absurd (zero-not n (length frames) zero is)
call-runs n x members frame frames false true zero top is runs = runs
call-runs n x members frame frames false false zero top is runs = absurd (let no : true ≡ false = sym is ∙ top in cc)

set-last : (n : ℕ) (x name : List ℕ) (state : TimerState) (members : Frame) (calls : List Frame) → (if nat_eq n 0 then entry members.timers x else timer_in_call n x calls) ≡ Some timer.Running
    → (last_timer calls name ≡ Some timer.Running → ⊥) → BearsIn n x (λ f. with_timers (put name state f.timers) f) calls
set-last n x name state members [] runs not = tt
set-last n x name state members (frame ∷ frames) runs not =
    λ is. set-bears x name state frame (differ x name (entry frame.timers) not (call-runs n x members frame frames (nat_eq n 0) (nat_eq n (length frames + 1)) refl refl is runs))

pub zero-runs : (n : ℕ) (x : List ℕ) (own : Data) (b : Bool) → nat_eq n 0 ≡ b → nat_eq n 0 ≡ true → (if b then entry own.members.timers x else timer_in_call n x own.calls) ≡ Some timer.Running → entry own.members.timers x ≡ Some timer.Running
zero-runs n x own true zero is runs = runs
zero-runs n x own false zero is runs = absurd (let no : true ≡ false = sym is ∙ zero in cc)

set-frame : (n : ℕ) (x name : List ℕ) (state : TimerState) (last : Bool) (own : Data) → timer_in n x own ≡ Some timer.Running → (timer_to_set last name own ≡ Some timer.Running → ⊥)
    → BearsFrame n x last (λ f. with_timers (put name state f.timers) f) own
set-frame n x name state true own runs not = set-last n x name state own.members own.calls runs not
set-frame n x name state false own runs not = λ is. set-bears x name state own.members (differ x name (entry own.members.timers) not (zero-runs n x own (nat_eq n 0) refl is runs))

-- ---- the effect of a branch

-- the timer that it makes inactive doesn't run
abbrev pub IsSafe : Test → Site → Effect → Data → Type 0
IsSafe test site Plain own = Unit {0}
IsSafe test site (Receives port redirects) own = Unit {0}
IsSafe test site (Elapses name) own = timer_to_set (is_own test.definitions site name) name own ≡ Some timer.Running → ⊥

effected-same : (n : ℕ) (x : List ℕ) (test : Test) (site : Site) (effect : Effect) (own : Data) → timer_in n x own ≡ Some timer.Running → IsSafe test site effect own
    → Same n x own (effected test site effect own) (effected test site effect (lapsed n x own))
effected-same n x test site Plain own runs safe = record { lapses = refl; timer = refl }
effected-same n x test site (Receives port redirects) own runs safe = all-same n x test site redirects own
effected-same n x test site (Elapses name) own runs safe =
    let bears = set-frame n x name timer.Inactive (is_own test.definitions site name) own runs safe in
    record {
      lapses = ap Yields (frame-lapses n x (is_own test.definitions site name) (λ f. with_timers (put name timer.Inactive f.timers) f) own bears);
      timer = frame-timer n x (is_own test.definitions site name) (λ f. with_timers (put name timer.Inactive f.timers) f) own bears;
    }

remaining-bears : (x : List ℕ) (items : List Item) (frame : Frame) → Bears x (with_remaining items) frame
remaining-bears x items frame = record { lapses = refl; timer = refl }

entered-lapses : (n : ℕ) (x : List ℕ) (site : Site) (s : Statement) (rest : List Item) (way : Way) (calls : List Frame) → n ≤ length calls
    → entered site s rest way (at_call n (lapse x) calls) ≡ at_call n (lapse x) (entered site s rest way calls)
entered-lapses n x site s rest way calls within =
    ap (λ more. way.frames ++ more) (last-lapses n x (with_remaining (marked site s rest way)) calls (always n x (with_remaining (marked site s rest way)) (remaining-bears x (marked site s rest way)) calls))
    ∙ sym (top-lapses n (lapse x) way.frames (in_last (with_remaining (marked site s rest way)) calls) (let long = last-long (with_remaining (marked site s rest way)) calls in omega (arith, long, within)))

entered-timer : (n : ℕ) (x : List ℕ) (site : Site) (s : Statement) (rest : List Item) (way : Way) (calls : List Frame) → n ≤ length calls
    → timer_in_call n x (entered site s rest way calls) ≡ timer_in_call n x calls
entered-timer n x site s rest way calls within =
    top-timer n x way.frames (in_last (with_remaining (marked site s rest way)) calls) (let long = last-long (with_remaining (marked site s rest way)) calls in omega (arith, long, within))
    ∙ last-timer n x (with_remaining (marked site s rest way)) calls (always n x (with_remaining (marked site s rest way)) (remaining-bears x (marked site s rest way)) calls)

-- data with the frames of a branch
abbrev pub with_way : Site → Statement → List Item → Way → Data → Data
with_way site s rest way own = with_calls (entered site s rest way own.calls) own

frames-told : (n : ℕ) (x : List ℕ) (d : Data) (b : Bool) → Same n x d (if b then Yields d else dynamic_error) (if b then Yields (lapsed n x d) else dynamic_error)
frames-told n x d true = record { lapses = refl; timer = refl }
frames-told n x d false = record { lapses = refl; timer = tt }

frames-same : (n : ℕ) (x : List ℕ) (d : Data) → Same n x d (with_frames d.calls d) (with_frames (lapsed n x d).calls (lapsed n x d))
frames-same n x d =
    let told : Same n x d (if nat_lt (length d.calls) most then Yields d else dynamic_error) (if nat_lt (length d.calls) most then Yields (lapsed n x d) else dynamic_error) = frames-told n x d (nat_lt (length d.calls) most) in
    record { lapses = ap (λ k. if nat_lt k most then Yields (lapsed n x d) else dynamic_error) (call-long n (lapse x) d.calls) ∙ told.lapses; timer = told.timer }

-- what is left of a component's data where a branch is taken, before an expiry and behind it
pub taken-same : (n : ℕ) (x : List ℕ) (test : Test) (site : Site) (s : Statement) (rest : List Item) (chance : Chance) (effect : Effect) (own : Data) → timer_in n x own ≡ Some timer.Running
    → IsSafe test chance.judge.site effect (with_way site s rest chance.way own)
    → Same n x own (outcome_and_then (λ d. with_frames d.calls d) (effected test chance.judge.site effect (with_way site s rest chance.way own)))
    (outcome_and_then (λ d. with_frames d.calls d) (effected test chance.judge.site effect (with_way site s rest chance.way (lapsed n x own))))
taken-same n x test site s rest chance effect own runs safe =
    then-told n x own (λ d. with_frames d.calls d) (effected test chance.judge.site effect with-frames) (effected test chance.judge.site effect (with_way site s rest chance.way (lapsed n x own))) first
    (λ d timer. frames-same n x d)
  where
    within : n ≤ length own.calls
    within = timer-within n x timer.Running own runs

    with-frames : Data
    with-frames = with_way site s rest chance.way own

    same-timer : timer_in n x with-frames ≡ timer_in n x own
    same-timer = calls-timer n x own (entered site s rest chance.way own.calls) (entered-timer n x site s rest chance.way own.calls within)

    effect-same : Same n x with-frames (effected test chance.judge.site effect with-frames) (effected test chance.judge.site effect (lapsed n x with-frames))
    effect-same = effected-same n x test chance.judge.site effect with-frames (same-timer ∙ runs) safe

    moved : (o : Outcome Data) → IfYields o (λ d. timer_in n x d ≡ timer_in n x with-frames) → IfYields o (λ d. timer_in n x d ≡ timer_in n x own)
    moved (Yields d) e = e ∙ same-timer
    moved (Fails why) e = tt

    first : Same n x own (effected test chance.judge.site effect with-frames) (effected test chance.judge.site effect (with_way site s rest chance.way (lapsed n x own)))
    first = record {
      lapses = ap (effected test chance.judge.site effect)
          (calls-same n x own (entered site s rest chance.way own.calls) (entered site s rest chance.way (at_call n (lapse x) own.calls)) (entered-lapses n x site s rest chance.way own.calls within))
          ∙ effect-same.lapses;
      timer = moved (effected test chance.judge.site effect with-frames) effect-same.timer;
    }

-- marks go before an expiry and behind it
pub uncovered-lapses : (n : ℕ) (x : List ℕ) (own : Data) → uncovered (lapsed n x own) ≡ lapsed n x (uncovered own)
uncovered-lapses n x own =
    calls-same n x own (in_last (λ f. with_remaining (without_marks f.remaining) f) own.calls) (in_last (λ f. with_remaining (without_marks f.remaining) f) (at_call n (lapse x) own.calls))
    (last-lapses n x (λ f. with_remaining (without_marks f.remaining) f) own.calls (always n x (λ f. with_remaining (without_marks f.remaining) f) (λ f. record { lapses = refl; timer = refl }) own.calls))

pub uncovered-timer : (n : ℕ) (x : List ℕ) (own : Data) → timer_in n x (uncovered own) ≡ timer_in n x own
uncovered-timer n x own =
    calls-timer n x own (in_last (λ f. with_remaining (without_marks f.remaining) f) own.calls)
    (last-timer n x (λ f. with_remaining (without_marks f.remaining) f) own.calls (always n x (λ f. with_remaining (without_marks f.remaining) f) (λ f. record { lapses = refl; timer = refl }) own.calls))
