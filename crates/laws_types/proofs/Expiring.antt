-- A timer that expires leaves all values as they are, and each frame the timers that it has.
use Rattle.std.proofs.Common.{◌≡◌, ℕ, ◌+◌, Bool, true, false, List, [], ◌∷◌, length, nat_eq, Option, Some, None, IfSome, is_some, option_map, refl, sym, ap, subst, ◌∙◌, if◌then◌else◌}
use Rattle.std.specs.List.{All}
use Rattle.ttcn_syntax.specs.declared.tree.definition.Definition.{Definition}
use Rattle.check_scope.specs.Names.{Entry, Names, names_on}
use Rattle.check_scope.specs.declared.types.DataType.{DataType}
use Rattle.laws_evaluation.specs.Types.{names_timer}
use Rattle.semantics.proofs.Pairs.{All-more}
use Rattle.semantics.specs.Configurations.{Component, Data, Frame, Going, is_running_state, path_of, same_path}
use Rattle.semantics.specs.Entries.{Entries, put}
use Rattle.semantics.specs.Sites.{Site, scope_at}
use Rattle.semantics.specs.Steps.{exchanged, expire_in, expired, expired_call, expired_frame, touch}
use Rattle.semantics.specs.Storing.{with_calls, with_members, with_timers}
use Rattle.value_types.specs.Frames.{entry}
use Rattle.value_types.specs.declared.frame.TimerState.{TimerState}
use Rattle.value_types.specs.declared.frame.TimerState.TheVariants as timer
use Rattle.value_types.specs.declared.path.Path.{Path}
use Rattle.laws_types.proofs.Changes.{KeepsAt, touched}
use Rattle.laws_types.proofs.Declared.{by-name}
use Rattle.laws_steps.proofs.Entries.{put-other, put-own}
use Rattle.laws_types.specs.internal.Asked.{AreOfType}
use Rattle.laws_types.specs.Fitting.{FitsNames, FitsSite, IsMemberValue, IsValueOf, view_of}
use Rattle.laws_types.specs.Typed.{Awaits, FitBelow, FitCalls, FitsComponent, FitsDefault, FitsFrame, FitsOwn, HasFrames, Nest, result_of, site_of}

-- ---- frames that differ in the states of timers alone

pub record Like (frame next : Frame) : Type 0 where
  pub remaining : next.remaining ≡ frame.remaining
  pub values : next.values ≡ frame.values
  pub timers : (name : List ℕ) → is_some (entry next.timers name) ≡ is_some (entry frame.timers name)

abbrev AllLike : List Frame → List Frame → Type 0
AllLike [] [] = Unit {0}
AllLike [] (g ∷ gs) = ⊥
AllLike (f ∷ fs) [] = ⊥
AllLike (f ∷ fs) (g ∷ gs) = Like f g × AllLike fs gs

pub record LikeOwn (own next : Data) : Type 0 where
  pub members : Like own.members next.members
  pub calls : AllLike own.calls next.calls
  pub defaults : next.defaults ≡ own.defaults

like-itself : (frame : Frame) → Like frame frame
like-itself frame = record { remaining = refl; values = refl; timers = λ name. refl }

all-like : (frames : List Frame) → AllLike frames frames
all-like [] = tt
all-like (frame ∷ frames) = (like-itself frame, all-like frames)

-- ---- expiries

put-alike : (timers : Entries TimerState) (name : List ℕ) (old new : TimerState) → entry timers name ≡ Some old → (x : List ℕ) → is_some (entry (put name new timers) x) ≡ is_some (entry timers x)
put-alike timers name old new is x =
    by-name (λ x. is_some (entry (put name new timers) x) ≡ is_some (entry timers x)) name x (ap is_some (put-own name new timers) ∙ sym (ap is_some is)) (λ differs. ap is_some (put-other name x new differs timers))

state-expires : (name : List ℕ) (frame : Frame) (o : Option TimerState) → entry frame.timers name ≡ o → IfSome (option_map (λ timers. with_timers timers frame) (expire_in frame.timers name o)) (Like frame)
state-expires name frame (Some timer.Running) is = record { remaining = refl; values = refl; timers = put-alike frame.timers name timer.Running timer.Expired is }
state-expires name frame (Some timer.Inactive) is = tt
state-expires name frame (Some timer.Expired) is = tt
state-expires name frame None is = tt

frame-expires : (name : List ℕ) (frame : Frame) → IfSome (expired_frame name frame) (Like frame)
frame-expires name frame = state-expires name frame (entry frame.timers name) refl

first-expires : (frame : Frame) (frames : List Frame) (o : Option Frame) → IfSome o (Like frame) → IfSome (option_map (λ changed. changed ∷ frames) o) (AllLike (frame ∷ frames))
first-expires frame frames None like = tt
first-expires frame frames (Some changed) like = (like, all-like frames)

rest-expires : (frame : Frame) (frames : List Frame) (o : Option (List Frame)) → IfSome o (AllLike frames) → IfSome (option_map (λ changed. frame ∷ changed) o) (AllLike (frame ∷ frames))
rest-expires frame frames None like = tt
rest-expires frame frames (Some changed) like = (like-itself frame, like)

either-expires : (b : Bool) (frame : Frame) (frames : List Frame) (one other : Option (List Frame)) → IfSome one (AllLike (frame ∷ frames)) → IfSome other (AllLike (frame ∷ frames)) → IfSome (if b then one else other) (AllLike (frame ∷ frames))
either-expires true frame frames one other first next = first
either-expires false frame frames one other first next = next

call-expires : (number : ℕ) (name : List ℕ) (frames : List Frame) → IfSome (expired_call number name frames) (AllLike frames)
call-expires number name [] = tt
call-expires number name (frame ∷ frames) =
    either-expires (nat_eq number (length frames + 1)) frame frames (option_map (λ changed. changed ∷ frames) (expired_frame name frame)) (option_map (λ changed. frame ∷ changed) (expired_call number name frames))
    (first-expires frame frames (expired_frame name frame) (frame-expires name frame)) (rest-expires frame frames (expired_call number name frames) (call-expires number name frames))

members-expire : (own : Data) (o : Option Frame) → IfSome o (Like own.members) → IfSome (option_map (λ members. with_members members own) o) (LikeOwn own)
members-expire own None like = tt
members-expire own (Some members) like = record { members = like; calls = all-like own.calls; defaults = refl }

calls-expire : (own : Data) (o : Option (List Frame)) → IfSome o (AllLike own.calls) → IfSome (option_map (λ calls. with_calls calls own) o) (LikeOwn own)
calls-expire own None like = tt
calls-expire own (Some calls) like = record { members = like-itself own.members; calls = like; defaults = refl }

own-if : (b : Bool) (own : Data) (one other : Option Data) → IfSome one (LikeOwn own) → IfSome other (LikeOwn own) → IfSome (if b then one else other) (LikeOwn own)
own-if true own one other first next = first
own-if false own one other first next = next

pub own-expires : (number : ℕ) (name : List ℕ) (own : Data) → IfSome (expired number name own) (LikeOwn own)
own-expires number name own =
    own-if (nat_eq number 0) own (option_map (λ members. with_members members own) (expired_frame name own.members)) (option_map (λ calls. with_calls calls own) (expired_call number name own.calls))
    (members-expire own (expired_frame name own.members) (frame-expires name own.members)) (calls-expire own (expired_call number name own.calls) (call-expires number name own.calls))

-- ---- what fits

module _ (definitions : List Definition) (component_type : ℕ) where
  seen-like : (site : Site) (frame next : Frame) → Like frame next → FitsSite definitions site (view_of frame) → FitsSite definitions site (view_of next)
  seen-like site frame next like fits = record {
    values = λ name. subst (λ values. IfSome (entry values name) (IsValueOf definitions ((scope_at definitions site).names name))) (sym like.values) (fits.values name);
    timers = λ name free. subst (λ b. IfSome ((scope_at definitions site).names name) (λ m. b ≡ names_timer (Some m))) (sym (like.timers name)) (fits.timers name free);
    timer_names = λ name there. fits.timer_names name (sym (like.timers name) ∙ there);
  }

  names-like : (names : Names) (frame next : Frame) → Like frame next → FitsNames definitions names (view_of frame) → FitsNames definitions names (view_of next)
  names-like names frame next like fits = record {
    values = λ name. subst (λ values. IfSome (entry values name) (IsMemberValue definitions (names name))) (sym like.values) (fits.values name);
    timers = λ name. like.timers name ∙ fits.timers name;
  }

  frame-like : (at : ℕ) (declared : List Entry) (frame next : Frame) → Like frame next → FitsFrame definitions component_type at declared frame → FitsFrame definitions component_type at declared next
  frame-like at declared frame next like fits = record { on = fits.on; names = fits.names; seen = seen-like (site_of at declared) frame next like fits.seen }

  below-like : (result : Option DataType) (frames more : List Frame) → AllLike frames more → FitBelow definitions component_type result frames → FitBelow definitions component_type result more
  below-like result [] [] like fits = tt
  below-like result [] (g ∷ gs) like fits = absurd like
  below-like result (f ∷ fs) [] like fits = absurd like
  below-like result (f ∷ fs) (g ∷ gs) like fits =
      (fits.0, fits.1, frame-like fits.0 fits.1 f g like.0 fits.2, subst (Awaits definitions fits.0 result fits.1) (sym like.0.remaining) fits.3, below-like (result_of definitions fits.0) fs gs like.1 fits.4)

  calls-like : (frames more : List Frame) → AllLike frames more → FitCalls definitions component_type frames → FitCalls definitions component_type more
  calls-like [] [] like fits = tt
  calls-like [] (g ∷ gs) like fits = absurd like
  calls-like (f ∷ fs) [] like fits = absurd like
  calls-like (f ∷ fs) (g ∷ gs) like fits =
      (fits.0, fits.1, frame-like fits.0 fits.1 f g like.0 fits.2, subst (Nest definitions fits.0 fits.1) (sym like.0.remaining) fits.3, below-like (result_of definitions fits.0) fs gs like.1 fits.4)

  frames-like : (frames more : List Frame) → AllLike frames more → HasFrames frames → HasFrames more
  frames-like [] [] like has = has
  frames-like [] (g ∷ gs) like has = absurd has
  frames-like (f ∷ fs) [] like has = absurd like
  frames-like (f ∷ fs) (g ∷ gs) like has = tt

  own-like : (own next : Data) → LikeOwn own next → FitsOwn definitions component_type own → FitsOwn definitions component_type next
  own-like own next like fits = record {
    members = names-like (names_on definitions component_type) own.members next.members like.members fits.members;
    calls = calls-like own.calls next.calls like.calls fits.calls;
    defaults = subst (All (FitsDefault definitions component_type)) (sym like.defaults) fits.defaults;
  }

-- a component with such data
pub exchanged-fits : (definitions : List Definition) (c : Going) (path : Path) (x : Component) (own : Data) → AreOfType path x.itself.component_type c → FitsComponent definitions x → LikeOwn x.own own
    → All (FitsComponent definitions) c.components → (is_running_state x.state ≡ true) → All (FitsComponent definitions) (touch c path (exchanged own)).components
exchanged-fits definitions c path x own types here like all runs =
    touched definitions c path (exchanged own)
    (All-more (λ y. same_path (path_of y) path ≡ true → y.itself.component_type ≡ x.itself.component_type) (KeepsAt definitions path (exchanged own))
    (λ y of same fits. record {
      own = subst (λ n. FitsOwn definitions n own) (sym (of same)) (own-like definitions x.itself.component_type x.own own like here.own);
      running = λ any. frames-like definitions x.itself.component_type x.own.calls own.calls like.calls (here.running runs);
      queues = fits.queues;
    }) c.components types) all
