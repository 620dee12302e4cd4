-- Where a step leads by which a component ends.
use Rattle.std.proofs.Common.{◌≡◌, ℕ, zero, suc, Bool, true, false, ◌&&◌, not, List, [], ◌∷◌, map, Option, Some, None, option_map, refl, sym, ap, ◌∙◌, if◌then◌else◌}
use Rattle.std.specs.List.{filter, find, fold}
use Rattle.std.specs.Prelude.{slice_get}
use Rattle.ttcn_syntax.specs.declared.tree.statement.Verdict.{Verdict}
use Rattle.semantics.proofs.LiveSteps.{by-state, is_over, live-over, over_in, path-is}
use Rattle.semantics.proofs.Verdicts.{worse-none}
use Rattle.semantics.specs.Configurations.{Component, Data, Ended, Goes, Going, State, Terminated, is_running_state, is_terminated_state, overall, path_of, same_path, worse}
use Rattle.semantics.specs.LiveParts.{forget_verdict, husk, is_live, live_component, live_going, live_part}
use Rattle.semantics.specs.Runs.{option_elim}
use Rattle.semantics.specs.Snapshots.{Test, mtc_of, snapshot_of}
use Rattle.semantics.specs.Statements.{Act, Connects, Continues, Creates, Errs, Maps, Removes, Requests, Sends, Starts, Stops, Unmaps, Waits, Worsens, act}
use Rattle.semantics.specs.Steps.{Delivery, Expiry, Label, Statement, is_terminated_component, next, settle, stop, terminate, with_data, with_mappings, with_state, without_component}
use Rattle.semantics.specs.Telling.{request_in}
use Rattle.laws_local.proofs.Seeing.{acts-alike}
use Rattle.laws_local.proofs.Sending.{step-leads}
use Rattle.laws_local.proofs.Stepping.{data-mild, found-list, goes-is, none-some, running-lives, some-is}
use Rattle.laws_local.proofs.Touching.{filter-alike, head-is, tail-is, touch-twice, touch_by_place}
use Rattle.laws_local.specs.Alone.{AllAlike, EndsAlone, IsLive, IsOf, LookAlike, SeeAlike, ends_itself, exchanged_at, is_stop_of, joined_with, outside_of, with_component_at}
use Rattle.value_types.specs.declared.path.Path.{Path}
use Rattle.value_types.specs.declared.value.ComponentId.{ComponentId}

-- ---- what is asked for

-- a component asks to stop the one with a path, and goes on with these data
record AsksToStop (path : Path) (a : Act) : Type 0 where
  own : Data
  is : a ≡ Requests (Stops path) own

asks-to-stop : (path : Path) (a : Act) → option_elim false (is_stop_of path) (request_in a) ≡ true → AsksToStop path a
asks-to-stop path Waits is = absurd (let no = is in cc)
asks-to-stop path (Errs why) is = absurd (let no = is in cc)
asks-to-stop path (Requests Continues own) is = absurd (let no = is in cc)
asks-to-stop path (Requests (Worsens v) own) is = absurd (let no = is in cc)
asks-to-stop path (Requests (Removes port) own) is = absurd (let no = is in cc)
asks-to-stop path (Requests (Sends port to v) own) is = absurd (let no = is in cc)
asks-to-stop path (Requests (Creates new) own) is = absurd (let no = is in cc)
asks-to-stop path (Requests (Starts of frame) own) is = absurd (let no = is in cc)
asks-to-stop path (Requests (Stops of) own) is = record { own = own; is = ap (λ p. Requests (Stops p) own) (path-is of path is) }
asks-to-stop path (Requests (Connects d e) own) is = absurd (let no = is in cc)
asks-to-stop path (Requests (Maps e q) own) is = absurd (let no = is in cc)
asks-to-stop path (Requests (Unmaps e q) own) is = absurd (let no = is in cc)

running-stops : (path : Path) (runs : Bool) (a : Act) → option_elim false (is_stop_of path) (if runs then request_in a else None) ≡ true → (runs ≡ true) × AsksToStop path a
running-stops path true a is = (refl, asks-to-stop path a is)
running-stops path false a is = absurd (let no = is in cc)

-- ---- the step

stop-leads : (test : Test) (d : Going) (y : Component) (at : ℕ) (path : Path) (own : Data) → IsLive d → slice_get d.components at ≡ Some y → path ≡ path_of y → is_running_state y.state ≡ true
    → act test (snapshot_of d y) y.own ≡ Requests (Stops (path_of y)) own → next test (Goes d) (Statement path) ≡ Some (stop test (settle d (path_of y) own) (path_of y))
stop-leads test d y at path own live here of runs is =
    step-leads test d y path (Requests (Stops (path_of y)) own) (stop test (settle d (path_of y) own) (path_of y)) (found-list y at d.components live.ordered here) of runs is refl

-- where the test case goes on, it wasn't the main component that stopped
goes-on : (main : Bool) (v : Verdict) (g e : Going) → Some (live_part (if main then Ended v else Goes g)) ≡ Some (Goes e) → (main ≡ false) × (live_going g ≡ e)
goes-on true v g e is = absurd (let no = is in cc)
goes-on false v g e is = (refl, goes-is (some-is is))

-- a component that ends, with its last data
abbrev stopped : Data → Component → Component
stopped own x = with_state Terminated (with_data own x)

-- a test case in which the component at a place ends
abbrev behind : ℕ → Data → Component → Going → Going
behind at own x c = with_mappings (without_component (path_of x) c.mappings) (with_component_at at (stopped own x) c)

terminates : (own : Data) (y : Component) (at : ℕ) (d : Going) → IsLive d → slice_get d.components at ≡ Some y → is_over y ≡ false → terminate (path_of y) (settle d (path_of y) own) ≡ behind at own y d
terminates own y at d live here alive =
    ap (with_mappings (without_component (path_of y) d.mappings))
    (touch-twice (path_of y) (with_data own) (with_state Terminated) (data-mild own) d ∙ touch_by_place (stopped own) y at d live.ordered here alive)

-- ---- who is terminated

exchanged-map : {A B : Type 0} (f : A → B) (at : ℕ) (z : A) (xs : List A) → map f (exchanged_at at z xs) ≡ exchanged_at at (f z) (map f xs)
exchanged-map f at z [] = refl
exchanged-map f zero z (x ∷ xs) = refl
exchanged-map f (suc at) z (x ∷ xs) = ap (λ ys. f x ∷ ys) (exchanged-map f at z xs)

-- whether a component with a path is terminated, by what others see
abbrev over-seen : Path → List (ComponentId × State) → Bool
over-seen p [] = false
over-seen p (o ∷ os) = if same_path o.0.path p then is_terminated_state o.1 else over-seen p os

over-first : (here : Bool) (x : Component) (o : Option Component) (rest : Bool) → is_terminated_component o ≡ rest → is_terminated_component (if here then Some x else o) ≡ (if here then is_over x else rest)
over-first true x o rest same = refl
over-first false x o rest same = same

over-in-seen : (p : Path) (xs : List Component) → over_in xs p ≡ over-seen p (map outside_of xs)
over-in-seen p [] = refl
over-in-seen p (x ∷ xs) = over-first (same_path (path_of x) p) x (find (λ y. same_path (path_of y) p) xs) (over-seen p (map outside_of xs)) (over-in-seen p xs)

pub over-alike : (p : Path) (xs ys : List Component) → map outside_of xs ≡ map outside_of ys → over_in xs p ≡ over_in ys p
over-alike p xs ys look = over-in-seen p xs ∙ ap (over-seen p) look ∙ sym (over-in-seen p ys)

-- where components look alike, the same connections are live
connections-alike : (c d : Going) → LookAlike c d → c.connections ≡ d.connections → filter (is_live c) c.connections ≡ filter (is_live d) d.connections
connections-alike c d look same =
    filter-alike (is_live c) (is_live d)
    (λ k. ap (λ b. not (b && over_in c.components k.other.component)) (over-alike k.one.component c.components d.components look)
    ∙ ap (λ b. not (over_in d.components k.one.component && b)) (over-alike k.other.component c.components d.components look))
    c.connections
    ∙ ap (filter (is_live d)) same

-- ---- what is forgotten

forget-none : (v : Verdict) (x : Component) → live_component x ≡ x → forget_verdict v x ≡ v
forget-none v x = by-state (λ y. live_component y ≡ y → forget_verdict v y ≡ v) x
    (λ over live. ap (forget_verdict v) (sym live ∙ live-over x over) ∙ worse-none v)
    (λ alive live. ap (λ b. if b then worse v x.verdict else v) alive)

forget-live : (v : Verdict) (xs : List Component) → map live_component xs ≡ xs → fold forget_verdict v xs ≡ v
forget-live v [] live = refl
forget-live v (x ∷ xs) live =
    ap (λ w. fold forget_verdict w xs) (forget-none v x (head-is (live_component x) x (map live_component xs) xs live))
    ∙ forget-live v xs (tail-is (live_component x) x (map live_component xs) xs live)

-- of live parts with another component at a place only that one's verdict is forgotten
forget-exchanged : (v : Verdict) (at : ℕ) (y z : Component) (xs : List Component) → map live_component xs ≡ xs → slice_get xs at ≡ Some y → fold forget_verdict v (exchanged_at at z xs) ≡ forget_verdict v z
forget-exchanged v at y z [] live found = absurd (none-some found)
forget-exchanged v zero y z (x ∷ xs) live found = forget-live (forget_verdict v z) xs (tail-is (live_component x) x (map live_component xs) xs live)
forget-exchanged v (suc at) y z (x ∷ xs) live found =
    ap (λ w. fold forget_verdict w (exchanged_at at z xs)) (forget-none v x (head-is (live_component x) x (map live_component xs) xs live))
    ∙ forget-exchanged v at y z xs (tail-is (live_component x) x (map live_component xs) xs live) found

-- ---- the live part behind the step

live-components : (c : Going) → IsLive c → map live_component c.components ≡ c.components
live-components c live = ap (λ (d : Going). d.components) live.live

ends-alike : (c d : Going) (x y : Component) (at : ℕ) (own : Data) → LookAlike c d → AllAlike c d → SeeAlike x y → IsLive c → IsLive d → slice_get c.components at ≡ Some x → slice_get d.components at ≡ Some y
    → live_going (behind at own y d) ≡ joined_with at (husk (path_of x)) (live_going (behind at own x c)) d
ends-alike c d x y at own look all see live living here there =
    λ i. record { components = components i; connections = connections i; mappings = mappings i; delivered = sym all.delivered i; forgotten = forgotten i }
  where
    same-path : path_of y ≡ path_of x
    same-path = ap (λ (o : ComponentId). o.path) (sym see.itself)

    components : map live_component (exchanged_at at (stopped own y) d.components) ≡ exchanged_at at (husk (path_of x)) d.components
    components =
        exchanged-map live_component at (stopped own y) d.components
        ∙ ap (exchanged_at at (husk (path_of y))) (live-components d living)
        ∙ ap (λ p. exchanged_at at (husk p) d.components) same-path

    looks : map outside_of (exchanged_at at (stopped own y) d.components) ≡ map outside_of (exchanged_at at (stopped own x) c.components)
    looks =
        exchanged-map outside_of at (stopped own y) d.components
        ∙ ap (exchanged_at at (outside_of (stopped own y))) (sym look)
        ∙ ap (λ (o : ComponentId). exchanged_at at (o, Terminated) (map outside_of c.components)) (sym see.itself)
        ∙ sym (exchanged-map outside_of at (stopped own x) c.components)

    connections : filter (is_live (behind at own y d)) d.connections ≡ filter (is_live (behind at own x c)) c.connections
    connections = connections-alike (behind at own y d) (behind at own x c) looks (sym all.connections)

    mappings : without_component (path_of y) d.mappings ≡ without_component (path_of x) c.mappings
    mappings = ap (λ p. without_component p d.mappings) same-path ∙ ap (without_component (path_of x)) (sym all.mappings)

    forgotten : fold forget_verdict d.forgotten (exchanged_at at (stopped own y) d.components) ≡ fold forget_verdict c.forgotten (exchanged_at at (stopped own x) c.components)
    forgotten =
        forget-exchanged d.forgotten at y (stopped own y) d.components (live-components d living) there
        ∙ ap (worse d.forgotten) (sym see.verdict)
        ∙ ap (λ v. worse v x.verdict) (sym all.forgotten)
        ∙ sym (forget-exchanged c.forgotten at x (stopped own x) c.components (live-components c live) here)

-- ---- wherever it sees the same

-- where the step leads, and that it leads there wherever the component sees the same
record Ends (test : Test) (c : Going) (x : Component) (path : Path) (at : ℕ) (e : Going) : Type 0 where
  own : Data
  leads : e ≡ live_going (behind at own x c)
  alone : EndsAlone test c x (Statement path) at e

ends : (test : Test) (c : Going) (x : Component) (at : ℕ) (path : Path) (e : Going) → IsLive c → slice_get c.components at ≡ Some x → path ≡ path_of x → ends_itself test c x (Statement path) ≡ true
    → option_map live_part (next test (Goes c) (Statement path)) ≡ Some (Goes e) → Ends test c x path at e
ends test c x at path e live here of stops leads = record { own = own; leads = is; alone = alone }
  where
    told : (is_running_state x.state ≡ true) × AsksToStop (path_of x) (act test (snapshot_of c x) x.own)
    told = running-stops (path_of x) (is_running_state x.state) (act test (snapshot_of c x) x.own) stops

    own : Data
    own = told.1.own

    on : (same_path (path_of x) (mtc_of test).path ≡ false) × (live_going (terminate (path_of x) (settle c (path_of x) own)) ≡ e)
    on = goes-on (same_path (path_of x) (mtc_of test).path) (overall (settle c (path_of x) own)) (terminate (path_of x) (settle c (path_of x) own)) e
        (sym (ap (option_map live_part) (stop-leads test c x at path own live here of told.0 told.1.is)) ∙ leads)

    is : e ≡ live_going (behind at own x c)
    is = sym on.1 ∙ ap live_going (terminates own x at c live here (running-lives x.state told.0))

    alone : EndsAlone test c x (Statement path) at e
    alone d y look all see living there =
        ap (option_map live_part) (stop-leads test d y at path own living there (of ∙ same-path) runs
        (sym (acts-alike test c d x y look see) ∙ told.1.is ∙ ap (λ p. Requests (Stops p) own) same-path))
        ∙ ap (λ b. Some (live_part (if b then Ended (overall (settle d (path_of y) own)) else Goes (terminate (path_of y) (settle d (path_of y) own))))) (ap (λ p. same_path p (mtc_of test).path) (sym same-path) ∙ on.0)
        ∙ ap (λ (g : Going). Some (Goes (live_going g))) (terminates own y at d living there (running-lives y.state runs))
        ∙ ap (λ (g : Going). Some (Goes g)) (ends-alike c d x y at own look all see live living here there ∙ ap (λ (g : Going). joined_with at (husk (path_of x)) g d) (sym is))
      where
        same-path : path_of x ≡ path_of y
        same-path = ap (λ (o : ComponentId). o.path) see.itself

        runs : is_running_state y.state ≡ true
        runs = ap is_running_state (sym see.state) ∙ told.0

-- what a step makes of a test case by which a component ends it makes wherever the component sees the same, and all else is alike
pub end_alone : (test : Test) (c : Going) (x : Component) (at : ℕ) (label : Label) (e : Going) → IsLive c → slice_get c.components at ≡ Some x → IsOf x label → ends_itself test c x label ≡ true
    → option_map live_part (next test (Goes c) label) ≡ Some (Goes e) → EndsAlone test c x label at e
end_alone test c x at (Statement path) e live here of stops leads = (ends test c x at path e live here of stops leads).alone
end_alone test c x at (Expiry path number name) e live here of stops leads = absurd (let no = stops in cc)
end_alone test c x at (Delivery system_port) e live here of stops leads = absurd of

-- behind the step the component is a husk, and the other components are those that were there
pub end_itself : (test : Test) (c : Going) (x : Component) (at : ℕ) (label : Label) (e : Going) → IsLive c → slice_get c.components at ≡ Some x → IsOf x label → ends_itself test c x label ≡ true
    → option_map live_part (next test (Goes c) label) ≡ Some (Goes e) → e ≡ joined_with at (husk (path_of x)) e c
end_itself test c x at label e live here of stops leads =
    goes-is (some-is (sym leads
    ∙ end_alone test c x at label e live here of stops leads c x refl (record { connections = refl; mappings = refl; delivered = refl; forgotten = refl })
    (record { itself = refl; own = refl; state = refl; verdict = refl; fronts = refl }) live here))
