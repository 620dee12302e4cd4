-- What a component does is the same wherever it sees the same.
use Rattle.std.proofs.Common.{◌≡◌, Bool, true, false, ◌&&◌, List, [], ◌∷◌, ◌++◌, map, Option, None, is_some, option_map, refl, sym, ap, ◌∙◌, if◌then◌else◌}
use Rattle.semantics.proofs.LiveSteps.{map-twice}
use Rattle.semantics.specs.Configurations.{Component, Data, Going, State, is_running_state, path_of}
use Rattle.semantics.specs.Labels.{call_expiries, frame_expiries, labels_of_component}
use Rattle.semantics.specs.Places.{branch_of_component, place_in_frames, unless_fault}
use Rattle.semantics.specs.Snapshots.{Test, snapshot_of, timers_of}
use Rattle.semantics.specs.Statements.{Act, Errs, Requests, Waits, act}
use Rattle.semantics.specs.Steps.{Delivery, Expiry, Label, Statement, apply, exchanged, expired}
use Rattle.semantics.specs.Telling.{request_in, request_of_component}
use Rattle.laws_local.specs.Alone.{LookAlike, SeeAlike, change_alone, change_by, outside_of, removed_at, removed_by}
use Rattle.value_types.specs.declared.path.Path.{Path}
use Rattle.value_types.specs.declared.value.ComponentId.{ComponentId}

abbrev seen : Component → Path × State
seen other = (path_of other, other.state)

abbrev shown : ComponentId × State → Path × State
shown o = (o.0.path, o.1)

states-alike : (c d : Going) → LookAlike c d → map seen c.components ≡ map seen d.components
states-alike c d look =
    sym (map-twice shown outside_of seen (λ x. refl) c.components)
    ∙ ap (map shown) look
    ∙ map-twice shown outside_of seen (λ x. refl) d.components

pub snapshots-alike : (c d : Going) (x y : Component) → LookAlike c d → SeeAlike x y → snapshot_of c x ≡ snapshot_of d y
snapshots-alike c d x y look see =
    λ i. record {
      itself = see.itself i;
      fronts = see.fronts i;
      timers = timers_of (see.own i).calls;
      member_timers = (see.own i).members.timers;
      states = states-alike c d look i;
    }

pub acts-alike : (test : Test) (c d : Going) (x y : Component) → LookAlike c d → SeeAlike x y → act test (snapshot_of c x) x.own ≡ act test (snapshot_of d y) y.own
acts-alike test c d x y look see = λ i. act test (snapshots-alike c d x y look see i) (see.own i)

-- ---- labels

asks : Act → Bool
asks Waits = false
asks (Errs why) = true
asks (Requests request own) = true

apply-asks : (test : Test) (c : Going) (itself : ComponentId) (a : Act) → is_some (apply test c itself a) ≡ asks a
unfolding asks
apply-asks test c itself Waits = refl
apply-asks test c itself (Errs why) = refl
apply-asks test c itself (Requests request own) = refl

running-some : {A : Type 0} (b : Bool) (o : Option A) (asked : Bool) → is_some o ≡ asked → is_some (if b then o else None) ≡ (b && asked)
running-some true o asked e = e
running-some false o asked e = refl

abbrev labels-by : Bool → Bool → Path → Data → List Label
labels-by runs steps path own =
    if runs then ((if steps then Statement path ∷ [] else []) ++ (frame_expiries path 0 own.members ++ call_expiries path own.calls)) else []

labels-said : (test : Test) (c : Going) (x : Component)
    → labels_of_component test c x ≡ labels-by (is_running_state x.state) (is_running_state x.state && asks (act test (snapshot_of c x) x.own)) (path_of x) x.own
labels-said test c x =
    ap (λ b. labels-by (is_running_state x.state) b (path_of x) x.own)
    (running-some (is_running_state x.state) (apply test c x.itself (act test (snapshot_of c x) x.own)) (asks (act test (snapshot_of c x) x.own)) (apply-asks test c x.itself (act test (snapshot_of c x) x.own)))

pub labels_alike : (test : Test) (c d : Going) (x y : Component) → LookAlike c d → SeeAlike x y → labels_of_component test c x ≡ labels_of_component test d y
labels_alike test c d x y look see =
    labels-said test c x
    ∙ (λ i. labels-by (is_running_state (see.state i)) (is_running_state (see.state i) && asks (acts-alike test c d x y look see i)) (see.itself i).path (see.own i))
    ∙ sym (labels-said test d y)

-- ---- branches, requests and changes

pub branches_alike : (test : Test) (c d : Going) (x y : Component) → LookAlike c d → SeeAlike x y → branch_of_component test c x ≡ branch_of_component test d y
branches_alike test c d x y look see =
    λ i. if is_running_state (see.state i) then
    unless_fault (acts-alike test c d x y look see i) (place_in_frames test (snapshots-alike c d x y look see i) (see.own i) (see.own i).calls)
    else None

pub requests_alike : (test : Test) (c d : Going) (x y : Component) → LookAlike c d → SeeAlike x y → request_of_component test c x ≡ request_of_component test d y
requests_alike test c d x y look see = λ i. if is_running_state (see.state i) then request_in (acts-alike test c d x y look see i) else None

pub changes_alike : (test : Test) (c d : Going) (x y : Component) (label : Label) → LookAlike c d → SeeAlike x y → change_alone test c x label ≡ change_alone test d y label
changes_alike test c d x y (Statement path) look see = λ i. if is_running_state (see.state i) then change_by (acts-alike test c d x y look see i) else None
changes_alike test c d x y (Expiry path number name) look see = λ i. if is_running_state (see.state i) then option_map exchanged (expired number name (see.own i)) else None
changes_alike test c d x y (Delivery system_port) look see = refl

pub removed_alike : (test : Test) (c d : Going) (x y : Component) (label : Label) → LookAlike c d → SeeAlike x y → removed_at test c x label ≡ removed_at test d y label
removed_alike test c d x y (Statement path) look see = ap removed_by (requests_alike test c d x y look see)
removed_alike test c d x y (Expiry path number name) look see = refl
removed_alike test c d x y (Delivery system_port) look see = refl
