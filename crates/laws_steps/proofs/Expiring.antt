-- A timer that expires changes one frame, in which other states of its timers stand.
use Rattle.std.proofs.Common.{◌≡◌, ℕ, ◌+◌, Bool, true, false, List, [], ◌∷◌, map, length, Option, Some, None, IfSome, nat_eq, option_map, refl, ap, if◌then◌else◌}
use Rattle.std.specs.List.{All}
use Rattle.std.proofs.lemmas.List.Elements.{All-cons, All-head, All-tail}
use Rattle.laws_steps.proofs.Found.{some-of}
use Rattle.semantics.specs.Configurations.{Data, Frame}
use Rattle.semantics.specs.Entries.{Entries}
use Rattle.semantics.specs.Steps.{expire_in, expired, expired_call, expired_frame}
use Rattle.semantics.specs.Storing.{with_calls, with_members, with_timers}
use Rattle.value_types.specs.Frames.{entry}
use Rattle.value_types.specs.declared.frame.TimerState.{TimerState}

-- what a law says of the frames of a component stays when timers of theirs expire
abbrev pub KeepsTimers : (Frame → Type 0) → Type 0
KeepsTimers Is = (name : List ℕ) (frame : Frame) (timers : Entries TimerState) → expire_in frame.timers name (entry frame.timers name) ≡ Some timers → Is frame → Is (with_timers timers frame)

module _ (Is : Frame → Type 0) (keeps : KeepsTimers Is) where
  with-timers-is : (name : List ℕ) (frame : Frame) (o : Option (Entries TimerState)) → expire_in frame.timers name (entry frame.timers name) ≡ o → Is frame → IfSome (option_map (λ timers. with_timers timers frame) o) Is
  with-timers-is name frame None e is = tt
  with-timers-is name frame (Some timers) e is = keeps name frame timers e is

  pub frame-expires : (name : List ℕ) (frame : Frame) → Is frame → IfSome (expired_frame name frame) Is
  frame-expires name frame is = with-timers-is name frame (expire_in frame.timers name (entry frame.timers name)) refl is

  first-expires : (frames : List Frame) (o : Option Frame) → All Is frames → IfSome o Is → IfSome (option_map (λ changed. changed ∷ frames) o) (All Is)
  first-expires frames None all found = tt
  first-expires frames (Some changed) all found = All-cons Is changed frames found all

  rest-expires : (frame : Frame) (o : Option (List Frame)) → Is frame → IfSome o (All Is) → IfSome (option_map (λ changed. frame ∷ changed) o) (All Is)
  rest-expires frame None is found = tt
  rest-expires frame (Some changed) is found = All-cons Is frame changed is found

  call-expires : (name : List ℕ) (frame : Frame) (frames : List Frame) (b : Bool) (others : Option (List Frame)) → All Is (frame ∷ frames) → IfSome others (All Is)
      → IfSome (if b then option_map (λ changed. changed ∷ frames) (expired_frame name frame) else option_map (λ changed. frame ∷ changed) others) (All Is)
  call-expires name frame frames true others all found = first-expires frames (expired_frame name frame) (All-tail Is frame frames all) (frame-expires name frame (All-head Is frame frames all))
  call-expires name frame frames false others all found = rest-expires frame others (All-head Is frame frames all) found

  pub calls-expire : (number : ℕ) (name : List ℕ) (calls : List Frame) → All Is calls → IfSome (expired_call number name calls) (All Is)
  calls-expire number name [] all = tt
  calls-expire number name (frame ∷ frames) all =
      call-expires name frame frames (nat_eq number (length frames + 1)) (expired_call number name frames) all (calls-expire number name frames (All-tail Is frame frames all))

-- ---- data

-- What a law says of data stays where one frame of them has other timers.
pub data-expires : (Has : Data → Type 0) (number : ℕ) (name : List ℕ) (own : Data) → ((members : Frame) → expired_frame name own.members ≡ Some members → Has (with_members members own))
    → ((calls : List Frame) → expired_call number name own.calls ≡ Some calls → Has (with_calls calls own)) → IfSome (expired number name own) Has
data-expires Has number name own in-members in-calls = by (nat_eq number 0)
  where
    of-members : (o : Option Frame) → expired_frame name own.members ≡ o → IfSome (option_map (λ members. with_members members own) o) Has
    of-members None e = tt
    of-members (Some members) e = in-members members e

    of-calls : (o : Option (List Frame)) → expired_call number name own.calls ≡ o → IfSome (option_map (λ calls. with_calls calls own) o) Has
    of-calls None e = tt
    of-calls (Some calls) e = in-calls calls e

    by : (b : Bool) → IfSome (if b then option_map (λ members. with_members members own) (expired_frame name own.members) else option_map (λ calls. with_calls calls own) (expired_call number name own.calls)) Has
    by true = of-members (expired_frame name own.members) refl
    by false = of-calls (expired_call number name own.calls) refl

-- ---- what remains

-- the same remains in each frame
abbrev pub RemainsSame : List Frame → List Frame → Type 0
RemainsSame calls new = map (λ frame. frame.remaining) new ≡ map (λ frame. frame.remaining) calls

timers-remain : (frame : Frame) (frames : List Frame) (o : Option (Entries TimerState)) → IfSome (option_map (λ changed. changed ∷ frames) (option_map (λ timers. with_timers timers frame) o)) (RemainsSame (frame ∷ frames))
timers-remain frame frames None = tt
timers-remain frame frames (Some timers) = refl

rest-remains : (frame : Frame) (frames : List Frame) (o : Option (List Frame)) → IfSome o (RemainsSame frames) → IfSome (option_map (λ changed. frame ∷ changed) o) (RemainsSame (frame ∷ frames))
rest-remains frame frames None is = tt
rest-remains frame frames (Some changed) is = ap (λ others. frame.remaining ∷ others) is

call-remains : (name : List ℕ) (frame : Frame) (frames : List Frame) (b : Bool) (others : Option (List Frame)) → IfSome others (RemainsSame frames)
    → IfSome (if b then option_map (λ changed. changed ∷ frames) (expired_frame name frame) else option_map (λ changed. frame ∷ changed) others) (RemainsSame (frame ∷ frames))
call-remains name frame frames true others is = timers-remain frame frames (expire_in frame.timers name (entry frame.timers name))
call-remains name frame frames false others is = rest-remains frame frames others is

calls-remain : (number : ℕ) (name : List ℕ) (calls : List Frame) → IfSome (expired_call number name calls) (RemainsSame calls)
calls-remain number name [] = tt
calls-remain number name (frame ∷ frames) = call-remains name frame frames (nat_eq number (length frames + 1)) (expired_call number name frames) (calls-remain number name frames)

pub remains-expired : (number : ℕ) (name : List ℕ) (calls new : List Frame) → expired_call number name calls ≡ Some new → RemainsSame calls new
remains-expired number name calls new e = some-of (RemainsSame calls) (expired_call number name calls) new e (calls-remain number name calls)
