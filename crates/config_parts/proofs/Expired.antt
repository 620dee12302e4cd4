-- What expires by slots expires by the names.
use Rattle.std.proofs.Common.{◌≡◌, ℕ, zero, suc, ◌+◌, ◌-◌, ◌<◌, ◌≤◌, Bool, true, false, ◌&&◌, List, [], ◌∷◌, map, length, Option, None, Some, Result, Ok, Err, cond, nat_eq, bytes_eq, get_or, refl, sym, ap, arith, ◌∙◌, if◌then◌else◌}
use Rattle.std.specs.List.{find}
use Rattle.std.specs.Option.{SomeIff, option_and_then, option_map}
use Rattle.std.proofs.lemmas.Bool.{eqb-false, eqb-true, ne_eqb}
use Rattle.semantics.specs.Configurations as rules
use Rattle.semantics.specs.Entries.{Entries}
use Rattle.semantics.specs.Entries as entries
use Rattle.semantics.specs.Snapshots.{Test}
use Rattle.semantics.specs.Steps as steps
use Rattle.semantics.specs.Storing as storing
use Rattle.config_parts.specs.Acts.{DoesStep, HasPathsInOrder}
use Rattle.config_parts.specs.Legend.{IsLegend, Legend, component_by, data_by, entries_by, frame_by, going_by, state_by}
use Rattle.config_parts.specs.internal.Changes as kept
use Rattle.config_parts.specs.internal.Expiries.{DoesOrNot, expired_above, expired_at, expired_found, expired_of, is_of_slot, is_running_state, may_expire, place_above, runs_above, runs_found, runs_in, runs_of, with_expired}
use Rattle.config_parts.specs.internal.Stored.{with_members, with_timer}
use Rattle.config_parts.specs.declared.component.Component.{Component}
use Rattle.config_parts.specs.declared.component.State.{State}
use Rattle.config_parts.specs.declared.component.State.TheVariants as state
use Rattle.config_parts.specs.declared.config.Going.{Going}
use Rattle.config_parts.specs.declared.frame.Cells.{Cells}
use Rattle.config_parts.specs.declared.frame.Data.{Data}
use Rattle.config_parts.specs.declared.frame.Frame.{Frame}
use Rattle.config_parts.proofs.Applied.{find-by, touch-by}
use Rattle.config_parts.proofs.Named.{same-name}
use Rattle.config_parts.proofs.Stored.{timer-alike}
use Rattle.config_parts.proofs.Touching.{path-is}
use Rattle.value_types.specs.Frames.{entry, is_running}
use Rattle.value_types.specs.Outcomes.{Outcome, Yields}
use Rattle.value_types.specs.declared.frame.TimerState.{TimerState}
use Rattle.value_types.specs.declared.frame.TimerState.TheVariants as timer
use Rattle.value_types.specs.declared.path.Path.{Path}

-- ---- places of frames

place-first : (b : Bool) (n : ℕ) (frame : Frame) (frames : List Frame) (k : ℕ) → nat_eq n (length frames + 1) ≡ b → length (frame ∷ frames) ≡ k + n
    → ((m : ℕ) → length frames ≡ m + n → place_above n frames ≡ Some m)
    → (if b then Some 0 else option_map suc (place_above n frames)) ≡ Some k
place-first true n frame frames zero is e below = refl
place-first true n frame frames (suc k) is e below = absurd (omega (arith, eqb-true n (length frames + 1) is, e))
place-first false n frame frames zero is e below = absurd (omega (arith, eqb-false n (length frames + 1) is, e))
place-first false n frame frames (suc k) is e below = ap (option_map suc) (below k (omega (arith, e)))

pub place-found : (n : ℕ) (frames : List Frame) (k : ℕ) → 0 < n → length frames ≡ k + n → place_above n frames ≡ Some k
place-found n [] k some e = absurd (omega (arith, some, e))
place-found n (frame ∷ frames) k some e =
    place-first (nat_eq n (length frames + 1)) n frame frames k refl e (λ m is. place-found n frames m some is)

none-first : (b : Bool) (n : ℕ) (frame : Frame) (frames : List Frame) → nat_eq n (length frames + 1) ≡ b → length (frame ∷ frames) < n
    → place_above n frames ≡ None → (if b then Some 0 else option_map suc (place_above n frames)) ≡ None
none-first true n frame frames is less below = absurd (omega (arith, eqb-true n (length frames + 1) is, less))
none-first false n frame frames is less below = ap (option_map suc) below

pub place-beyond : (n : ℕ) (frames : List Frame) → length frames < n → place_above n frames ≡ None
place-beyond n [] less = refl
place-beyond n (frame ∷ frames) less = none-first (nat_eq n (length frames + 1)) n frame frames refl less (place-beyond n frames (omega (arith, less)))

zero-first : (b : Bool) (frame : Frame) (frames : List Frame) → nat_eq 0 (length frames + 1) ≡ b → place_above 0 frames ≡ None
    → (if b then Some 0 else option_map suc (place_above 0 frames)) ≡ None
zero-first true frame frames is below = absurd (omega (arith, eqb-true 0 (length frames + 1) is))
zero-first false frame frames is below = ap (option_map suc) below

pub place-zero : (frames : List Frame) → place_above 0 frames ≡ None
place-zero [] = refl
place-zero (frame ∷ frames) = zero-first (nat_eq 0 (length frames + 1)) frame frames refl (place-zero frames)

pub is-place : (n : ℕ) (frames : List Frame) (o : Option ℕ) → (n ≡ 0 → ⊥) → SomeIff o (n ≤ length frames) (length frames - n) → o ≡ place_above n frames
is-place n frames (Some k) some is = sym (place-found n frames k (omega (arith, some)) (omega (arith, is.0, is.1)))
is-place n frames None some is = sym (place-beyond n frames (omega (arith, is)))

-- ---- what stands there

runs-first : (b : Bool) (n slot : ℕ) (frame : Frame) (frames : List Frame) (found : Option ℕ) (at : ℕ) (d : Frame)
    → (if b then Some 0 else option_map suc found) ≡ Some at
    → ((m : ℕ) → found ≡ Some m → runs_above n slot frames ≡ runs_in slot (get_or frames m d).cells.timers)
    → (if b then runs_in slot frame.cells.timers else runs_above n slot frames) ≡ runs_in slot (get_or (frame ∷ frames) at d).cells.timers
runs-first true n slot frame frames found zero d f below = refl
runs-first true n slot frame frames found (suc at) d f below = absurd (let bad = f in cc)
runs-first false n slot frame frames None at d f below = absurd (let bad = f in cc)
runs-first false n slot frame frames (Some m) zero d f below = absurd (let bad = f in cc)
runs-first false n slot frame frames (Some m) (suc at) d f below = below at (let good = f in cc)

pub runs-at : (n slot : ℕ) (frames : List Frame) (at : ℕ) (d : Frame) → place_above n frames ≡ Some at → runs_above n slot frames ≡ runs_in slot (get_or frames at d).cells.timers
runs-at n slot [] at d f = absurd (let bad = f in cc)
runs-at n slot (frame ∷ frames) at d f =
    runs-first (nat_eq n (length frames + 1)) n slot frame frames (place_above n frames) at d f (λ m found. runs-at n slot frames m d found)

rests-first : (b : Bool) (n slot : ℕ) (frame : Frame) (frames : List Frame) (found : Option ℕ)
    → (if b then Some 0 else option_map suc found) ≡ None → (found ≡ None → runs_above n slot frames ≡ false)
    → (if b then runs_in slot frame.cells.timers else runs_above n slot frames) ≡ false
rests-first true n slot frame frames found f below = absurd (let bad = f in cc)
rests-first false n slot frame frames None f below = below refl
rests-first false n slot frame frames (Some m) f below = absurd (let bad = f in cc)

pub runs-nowhere : (n slot : ℕ) (frames : List Frame) → place_above n frames ≡ None → runs_above n slot frames ≡ false
runs-nowhere n slot [] f = refl
runs-nowhere n slot (frame ∷ frames) f = rests-first (nat_eq n (length frames + 1)) n slot frame frames (place_above n frames) f (runs-nowhere n slot frames)

expired-first : (b : Bool) (n slot : ℕ) (frame : Frame) (frames : List Frame) (found : Option ℕ) (at : ℕ)
    → (if b then Some 0 else option_map suc found) ≡ Some at
    → ((m : ℕ) → found ≡ Some m → kept.changed_at frames m (with_expired slot) ≡ expired_above n slot frames)
    → kept.changed_at (frame ∷ frames) at (with_expired slot) ≡ (if b then with_expired slot frame ∷ frames else frame ∷ expired_above n slot frames)
expired-first true n slot frame frames found zero f below = refl
expired-first true n slot frame frames found (suc at) f below = absurd (let bad = f in cc)
expired-first false n slot frame frames None at f below = absurd (let bad = f in cc)
expired-first false n slot frame frames (Some m) zero f below = absurd (let bad = f in cc)
expired-first false n slot frame frames (Some m) (suc at) f below = ap (λ fs. frame ∷ fs) (below at (let good = f in cc))

pub expired-there : (n slot : ℕ) (frames : List Frame) (at : ℕ) → place_above n frames ≡ Some at → kept.changed_at frames at (with_expired slot) ≡ expired_above n slot frames
expired-there n slot [] at f = absurd (let bad = f in cc)
expired-there n slot (frame ∷ frames) at f =
    expired-first (nat_eq n (length frames + 1)) n slot frame frames (place_above n frames) at f (λ m found. expired-there n slot frames m found)

kept-first : (b : Bool) (n slot : ℕ) (frame : Frame) (frames : List Frame) (found : Option ℕ)
    → (if b then Some 0 else option_map suc found) ≡ None → (found ≡ None → frames ≡ expired_above n slot frames)
    → frame ∷ frames ≡ (if b then with_expired slot frame ∷ frames else frame ∷ expired_above n slot frames)
kept-first true n slot frame frames found f below = absurd (let bad = f in cc)
kept-first false n slot frame frames None f below = ap (λ fs. frame ∷ fs) (below refl)
kept-first false n slot frame frames (Some m) f below = absurd (let bad = f in cc)

pub expired-nowhere : (n slot : ℕ) (frames : List Frame) → place_above n frames ≡ None → frames ≡ expired_above n slot frames
expired-nowhere n slot [] f = refl
expired-nowhere n slot (frame ∷ frames) f = kept-first (nat_eq n (length frames + 1)) n slot frame frames (place_above n frames) f (expired-nowhere n slot frames)

-- ---- timers by their names

entry-first : (legend : Legend) (b : Bool) (e : ℕ × TimerState) (es : List (ℕ × TimerState)) (slot : ℕ) (found : Option TimerState)
    → found ≡ option_map (λ e. e.1) (find (is_of_slot slot) es)
    → cond b (Some e.1) found ≡ option_map (λ e. e.1) (cond b (Some e) (find (is_of_slot slot) es))
entry-first legend true e es slot found is = refl
entry-first legend false e es slot found is = is

cond-map : {A B : Type 0} (f : A → B) (b : Bool) (a : A) (o : Option A) → option_map f (cond b (Some a) o) ≡ cond b (Some (f a)) (option_map f o)
cond-map f true a o = refl
cond-map f false a o = refl

entry-by : (legend : Legend) → IsLegend legend → (slot : ℕ) (es : List (ℕ × TimerState)) → entry (entries_by legend es) (legend.names slot) ≡ option_map (λ e. e.1) (find (is_of_slot slot) es)
entry-by legend is slot [] = refl
entry-by legend is slot (e ∷ es) =
    ap (λ b. option_map (λ x. x.1) (cond b (Some (legend.names e.0, e.1)) (find (λ x. bytes_eq x.0 (legend.names slot)) (entries_by legend es)))) (same-name legend is e.0 slot)
    ∙ cond-map (λ x. x.1) (nat_eq e.0 slot) (legend.names e.0, e.1) (find (λ x. bytes_eq x.0 (legend.names slot)) (entries_by legend es))
    ∙ entry-first legend (nat_eq e.0 slot) e es slot (entry (entries_by legend es) (legend.names slot)) (entry-by legend is slot es)

-- a step of something, if it is enabled
abbrev enabled : {A : Type 0} → Bool → A → Option A
enabled b a = if b then Some a else None

expire-state : (timers : Entries TimerState) (name : List ℕ) (s : TimerState) → steps.expire_in timers name (Some s) ≡ enabled (is_running s) (entries.put name timer.Expired timers)
expire-state timers name timer.Inactive = refl
expire-state timers name timer.Running = refl
expire-state timers name timer.Expired = refl

expire-found : (timers : Entries TimerState) (name : List ℕ) (o : Option (ℕ × TimerState))
    → steps.expire_in timers name (option_map (λ e. e.1) o) ≡ enabled (runs_found o) (entries.put name timer.Expired timers)
expire-found timers name None = refl
expire-found timers name (Some e) = expire-state timers name e.1

map-enabled : {A B : Type 0} (f : A → B) (b : Bool) (a : A) → option_map f (enabled b a) ≡ enabled b (f a)
map-enabled f true a = refl
map-enabled f false a = refl

frame-expired : (legend : Legend) → IsLegend legend → (slot : ℕ) (frame : rules.Frame) (cells : Cells) → frame.timers ≡ entries_by legend cells.timers
    → steps.expired_frame (legend.names slot) frame
    ≡ enabled (runs_in slot cells.timers) (storing.with_timers (entries.put (legend.names slot) timer.Expired frame.timers) frame)
frame-expired legend is slot frame cells e =
    ap (λ o. option_map (λ timers. storing.with_timers timers frame) (steps.expire_in frame.timers (legend.names slot) o))
    (ap (λ timers. entry timers (legend.names slot)) e ∙ entry-by legend is slot cells.timers)
    ∙ ap (option_map (λ timers. storing.with_timers timers frame)) (expire-found frame.timers (legend.names slot) (find (is_of_slot slot) cells.timers))
    ∙ map-enabled (λ timers. storing.with_timers timers frame) (runs_in slot cells.timers) (entries.put (legend.names slot) timer.Expired frame.timers)

pub runs-other : (n slot : ℕ) (own : Data) → (n ≡ 0 → ⊥) → runs_above n slot own.calls ≡ runs_of n slot own
runs-other n slot own some = ap (λ b. if b then runs_in slot own.members.timers else runs_above n slot own.calls) (sym (ne_eqb n 0 some))

pub expired-other : (n slot : ℕ) (own : Data) → (n ≡ 0 → ⊥) → kept.with_calls (expired_above n slot own.calls) own ≡ expired_of n slot own
expired-other n slot own some =
    ap (λ b. if b then with_members (with_timer slot timer.Expired own.members) own else kept.with_calls (expired_above n slot own.calls) own) (sym (ne_eqb n 0 some))

-- ---- frames by their numbers

length-map : {A B : Type 0} (f : A → B) (xs : List A) → length (map f xs) ≡ length xs
length-map f [] = refl
length-map f (x ∷ xs) = ap (λ n. suc n) (length-map f xs)

above-first : (legend : Legend) → IsLegend legend → (b : Bool) (n slot : ℕ) (frame : Frame) (frames : List Frame)
    → steps.expired_call n (legend.names slot) (map (frame_by legend) frames) ≡ enabled (runs_above n slot frames) (map (frame_by legend) (expired_above n slot frames))
    → (if b then option_map (λ changed. changed ∷ map (frame_by legend) frames) (steps.expired_frame (legend.names slot) (frame_by legend frame))
    else option_map (λ changed. frame_by legend frame ∷ changed) (steps.expired_call n (legend.names slot) (map (frame_by legend) frames)))
    ≡ enabled (if b then runs_in slot frame.cells.timers else runs_above n slot frames) (map (frame_by legend) (if b then with_expired slot frame ∷ frames else frame ∷ expired_above n slot frames))
above-first legend is true n slot frame frames below =
    ap (option_map (λ changed. changed ∷ map (frame_by legend) frames)) (frame-expired legend is slot (frame_by legend frame) frame.cells refl)
    ∙ map-enabled (λ changed. changed ∷ map (frame_by legend) frames) (runs_in slot frame.cells.timers) _
    ∙ ap (λ f. enabled (runs_in slot frame.cells.timers) (f ∷ map (frame_by legend) frames))
    (sym (timer-alike legend is slot timer.Expired (legend.lists frame.remaining) frame.cells))
above-first legend is false n slot frame frames below =
    ap (option_map (λ changed. frame_by legend frame ∷ changed)) below
    ∙ map-enabled (λ changed. frame_by legend frame ∷ changed) (runs_above n slot frames) (map (frame_by legend) (expired_above n slot frames))

above-by : (legend : Legend) → IsLegend legend → (n slot : ℕ) (frames : List Frame)
    → steps.expired_call n (legend.names slot) (map (frame_by legend) frames) ≡ enabled (runs_above n slot frames) (map (frame_by legend) (expired_above n slot frames))
above-by legend is n slot [] = refl
above-by legend is n slot (frame ∷ frames) =
    ap (λ k. if nat_eq n (k + 1) then option_map (λ changed. changed ∷ map (frame_by legend) frames) (steps.expired_frame (legend.names slot) (frame_by legend frame))
    else option_map (λ changed. frame_by legend frame ∷ changed) (steps.expired_call n (legend.names slot) (map (frame_by legend) frames)))
    (length-map (frame_by legend) frames)
    ∙ above-first legend is (nat_eq n (length frames + 1)) n slot frame frames (above-by legend is n slot frames)

own-first : (legend : Legend) → IsLegend legend → (b : Bool) (n slot : ℕ) (own : Data)
    → (if b then option_map (λ members. storing.with_members members (data_by legend own)) (steps.expired_frame (legend.names slot) (data_by legend own).members)
    else option_map (λ calls. storing.with_calls calls (data_by legend own)) (steps.expired_call n (legend.names slot) (data_by legend own).calls))
    ≡ enabled (if b then runs_in slot own.members.timers else runs_above n slot own.calls)
    (data_by legend (if b then record { members = with_timer slot timer.Expired own.members; calls = own.calls; defaults = own.defaults; activations = own.activations; children = own.children }
    else kept.with_calls (expired_above n slot own.calls) own))
own-first legend is true n slot own =
    ap (option_map (λ members. storing.with_members members (data_by legend own))) (frame-expired legend is slot (data_by legend own).members own.members refl)
    ∙ map-enabled (λ members. storing.with_members members (data_by legend own)) (runs_in slot own.members.timers) _
    ∙ ap (λ f. enabled (runs_in slot own.members.timers) (storing.with_members f (data_by legend own))) (sym (timer-alike legend is slot timer.Expired [] own.members))
own-first legend is false n slot own =
    ap (option_map (λ calls. storing.with_calls calls (data_by legend own))) (above-by legend is n slot own.calls)
    ∙ map-enabled (λ calls. storing.with_calls calls (data_by legend own)) (runs_above n slot own.calls) (map (frame_by legend) (expired_above n slot own.calls))

own-by : (legend : Legend) → IsLegend legend → (n slot : ℕ) (own : Data)
    → steps.expired n (legend.names slot) (data_by legend own) ≡ enabled (runs_of n slot own) (data_by legend (expired_of n slot own))
own-by legend is n slot own = own-first legend is (nat_eq n 0) n slot own

-- ---- components

pub running-lives : (s : State) → is_running_state s ≡ true → kept.is_terminated s ≡ false
running-lives state.Created e = absurd (let bad = e in cc)
running-lives state.Running e = refl
running-lives state.Terminated e = absurd (let bad = e in cc)

pub running-first : (s : State) → rules.is_running_state (state_by s) ≡ is_running_state s
running-first state.Created = refl
running-first state.Running = refl
running-first state.Terminated = refl

abbrev with_components : List Component → Going → Going
with_components cs going = record { components = cs; links = going.links; forgotten = going.forgotten }

-- the configuration that is left
abbrev left : Legend → Going → List Component → Outcome rules.Configuration
left legend going cs = Yields (rules.Goes (going_by legend (with_components cs going)))

and-enabled : {A : Type 0} (b c : Bool) (a : A) → (if b then enabled c a else None) ≡ enabled (b && c) a
and-enabled true c a = refl
and-enabled false c a = refl

-- what is found is of the kind
found-first : {A : Type 0} (is : A → Bool) (b : Bool) (x : A) (o : Option A) (y : A) → is x ≡ b → cond b (Some x) o ≡ Some y → (o ≡ Some y → is y ≡ true) → is y ≡ true
found-first is true x o y e f below = ap is (sym (let same : x ≡ y = (let found = f in cc) in same)) ∙ e
found-first is false x o y e f below = below f

found-is : {A : Type 0} (is : A → Bool) (xs : List A) (y : A) → find is xs ≡ Some y → is y ≡ true
found-is is [] y f = absurd (let bad = f in cc)
found-is is (x ∷ xs) y f = found-first is (is x) x (find is xs) y refl f (found-is is xs y)

step-found : (legend : Legend) → IsLegend legend → (going : Going) → HasPathsInOrder going → (p : Path) (n slot : ℕ) (o : Option Component) → find (kept.is_of p) going.components ≡ o
    → option_and_then (steps.expiry_step (going_by legend going) n (legend.names slot)) (option_map (component_by legend) o)
    ≡ option_map (left legend going) (expired_found going.components p n slot o)
step-found legend is going ascend p n slot None e = refl
step-found legend is going ascend p n slot (Some c) e =
    ap (λ b. if b then option_map (λ own. Yields (rules.Goes (steps.touch (going_by legend going) c.itself.path (steps.exchanged own)))) (steps.expired n (legend.names slot) (data_by legend c.own)) else None)
    (running-first c.state)
    ∙ ap (λ o. if is_running_state c.state then option_map (λ own. Yields (rules.Goes (steps.touch (going_by legend going) c.itself.path (steps.exchanged own)))) o else None)
    (own-by legend is n slot c.own)
    ∙ ap (λ o. if is_running_state c.state then o else None)
    (map-enabled (λ own. Yields (rules.Goes (steps.touch (going_by legend going) c.itself.path (steps.exchanged own)))) (runs_of n slot c.own) (data_by legend (expired_of n slot c.own)))
    ∙ and-enabled (is_running_state c.state) (runs_of n slot c.own) _
    ∙ ap (λ q. enabled (may_expire n slot c) (Yields (rules.Goes (steps.touch (going_by legend going) q (steps.exchanged (data_by legend (expired_of n slot c.own)))))))
    (path-is c.itself.path p (found-is (kept.is_of p) going.components c e))
    ∙ ap (λ g. enabled (may_expire n slot c) (Yields (rules.Goes g)))
    (sym (touch-by legend (kept.with_own (expired_of n slot c.own)) (steps.exchanged (data_by legend (expired_of n slot c.own))) (λ x. refl) going p ascend))
    ∙ sym (map-enabled (left legend going) (may_expire n slot c) (kept.touch going.components p (kept.with_own (expired_of n slot c.own))))

step-by : (legend : Legend) → IsLegend legend → (test : Test) (going : Going) → HasPathsInOrder going → (p : Path) (n slot : ℕ)
    → steps.step_in test (going_by legend going) (steps.Expiry p n (legend.names slot)) ≡ option_map (left legend going) (expired_at going.components p n slot)
step-by legend is test going ascend p n slot =
    ap (option_and_then (steps.expiry_step (going_by legend going) n (legend.names slot))) (find-by legend p going.components)
    ∙ step-found legend is going ascend p n slot (find (kept.is_of p) going.components) refl

does-step : {E : Type 0} (legend : Legend) (going : Going) (step : Option (Outcome rules.Configuration)) (wanted : Option (List Component)) (cs : List Component) (result : Result Bool E)
    → step ≡ option_map (left legend going) wanted → DoesOrNot wanted cs result → DoesStep legend step (with_components cs going) result
does-step legend going step wanted cs (Ok true) e does = e ∙ ap (option_map (left legend going)) does
does-step legend going step wanted cs (Ok false) e does = e ∙ ap (option_map (left legend going)) does
does-step legend going step wanted cs (Err refused) e does = does

pub expired-by : {E : Type 0} (legend : Legend) → IsLegend legend → (test : Test) (going : Going) → HasPathsInOrder going → (p : Path) (n slot : ℕ) (cs : List Component) (result : Result Bool E)
    → DoesOrNot (expired_at going.components p n slot) cs result
    → DoesStep legend (steps.step_in test (going_by legend going) (steps.Expiry p n (legend.names slot))) (with_components cs going) result
expired-by legend is test going ascend p n slot cs result does =
    does-step legend going (steps.step_in test (going_by legend going) (steps.Expiry p n (legend.names slot))) (expired_at going.components p n slot) cs result
    (step-by legend is test going ascend p n slot) does
