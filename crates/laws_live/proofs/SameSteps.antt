-- Configurations with one live part go on alike.
use Rattle.std.proofs.Common.{◌≡◌, true, false, List, [], ◌∷◌, ◌++◌, map, None, option_map, refl, sym, ap, ◌∙◌, if◌then◌else◌}
use Rattle.std.specs.List.{flat_map}
use Rattle.laws_live.specs.Same.{AreSame}
use Rattle.semantics.proofs.LiveSteps.{by-state, live-alive, live-over}
use Rattle.semantics.proofs.LiveTheorem.{blocked_live, branch_live, labels_live, mark_live, next_live, steps_live}
use Rattle.semantics.specs.Configurations.{Component, Configuration, Created, Ended, Goes, Going, Running, State, Terminated, is_running_state, is_terminated_state}
use Rattle.semantics.specs.Labels.{labels}
use Rattle.semantics.specs.LiveParts.{live_component, live_going, live_part}
use Rattle.semantics.specs.Places.{blocked, branch_of, place_of, place_of_frames, standings, with_place}
use Rattle.semantics.specs.Runs.{mark_of}
use Rattle.semantics.specs.Snapshots.{Test}
use Rattle.semantics.specs.Steps.{Label, next, step}
use Rattle.step_labels.specs.declared.standing.Standing.{Standing}
use Rattle.value_types.specs.Outcomes.{outcome_map}

-- what is seen alike from each live part is seen alike from configurations with one live part
alike : {A : Type 0} (f : Configuration → A) → ((c : Configuration) → f (live_part c) ≡ f c) → (c d : Configuration) → AreSame c d → f c ≡ f d
alike f live c d same = sym (live c) ∙ ap f same ∙ live d

pub same_labels : (test : Test) (c d : Configuration) → AreSame c d → labels test c ≡ labels test d
same_labels test = alike (labels test) (labels_live test)

pub same_steps : (test : Test) (c d : Configuration) (label : Label) → AreSame c d → option_map (outcome_map live_part) (step test c label) ≡ option_map (outcome_map live_part) (step test d label)
same_steps test c d label = alike (λ x. option_map (outcome_map live_part) (step test x label)) (λ x. steps_live test x label) c d

pub same_next : (test : Test) (c d : Configuration) (label : Label) → AreSame c d → option_map live_part (next test c label) ≡ option_map live_part (next test d label)
same_next test c d label = alike (λ x. option_map live_part (next test x label)) (λ x. next_live test x label) c d

pub same_mark : (c d : Configuration) → AreSame c d → mark_of c ≡ mark_of d
same_mark = alike mark_of mark_live

pub same_branch : (test : Test) (c d : Configuration) (label : Label) → AreSame c d → branch_of test c label ≡ branch_of test d label
same_branch test c d label = alike (λ x. branch_of test x label) (λ x. branch_live test x label) c d

pub same_blocked : (test : Test) (c d : Configuration) → AreSame c d → blocked test c ≡ blocked test d
same_blocked test = alike (blocked test) (blocked_live test)

-- ---- where components stand

rests : (s : State) → is_terminated_state s ≡ true → is_running_state s ≡ false
rests Created e = refl
rests Running e = absurd (let no = e in cc)
rests Terminated e = refl

place-live : (x : Component) → with_place (live_component x) (place_of (live_component x)) ≡ with_place x (place_of x)
place-live x = by-state (λ y. with_place (live_component y) (place_of (live_component y)) ≡ with_place y (place_of y)) x
    (λ e. ap (λ y. with_place y (place_of y)) (live-over x e) ∙ sym (ap (λ b. with_place x (if b then place_of_frames x.own.calls else None)) (rests x.state e)))
    (λ e. ap (λ y. with_place y (place_of y)) (live-alive x e))

places-live : (xs : List Component) → flat_map (λ x. with_place x (place_of x)) (map live_component xs) ≡ flat_map (λ x. with_place x (place_of x)) xs
places-live [] = refl
places-live (x ∷ xs) =
    ap (λ ps. ps ++ flat_map (λ y. with_place y (place_of y)) (map live_component xs)) (place-live x) ∙ ap (λ ps. with_place x (place_of x) ++ ps) (places-live xs)

pub standings-live : (c : Going) → standings (live_going c) ≡ standings c
standings-live c = places-live c.components

standing-of : Configuration → List Standing
standing-of (Goes c) = standings c
standing-of (Ended v) = []

standing-live : (c : Configuration) → standing-of (live_part c) ≡ standing-of c
unfolding standing-of
standing-live (Goes c) = standings-live c
standing-live (Ended v) = refl

pub same_standing : (c d : Going) → AreSame (Goes c) (Goes d) → standings c ≡ standings d
unfolding standing-of
same_standing c d = alike standing-of standing-live (Goes c) (Goes d)
