-- Places of steps and blocks are seen of live parts, so the least runs to them over live parts are the least runs.
use Rattle.std.proofs.Common.{◌≡◌, ℕ, true, false, List, [], ◌∷◌, Option, None, Some, refl, sym, ap, ◌∙◌, if◌then◌else◌}
use Rattle.std.specs.Option.{option_and_then, option_map}
use Rattle.std.specs.List.{AllZip}
use Rattle.std.specs.declared.cmp.Ordering.{Ordering}
use Rattle.explore.specs.Sightings.{AreSighted, HasShown, IsLeastShowing, shown_at_end, shown_by_step}
use Rattle.explore.specs.declared.sightings.Sighting.{Sighting}
use Rattle.laws_live.proofs.SameRuns.{same-runs}
use Rattle.semantics.proofs.CanonicalRuns.{ends_live}
use Rattle.semantics.proofs.LiveSteps.{by-state, component-live, live-alive, live-over}
use Rattle.semantics.proofs.LiveTheorem.{blocked_live, branch_live, sent_live}
use Rattle.semantics.specs.Canonical.{canonical_graph}
use Rattle.semantics.specs.Configurations.{Component, Configuration, Created, Ended, Goes, Running, State, Terminated, component_at, is_running_state, is_terminated_state}
use Rattle.semantics.specs.LiveParts.{live_component, live_part}
use Rattle.semantics.specs.Places.{place_of, place_of_frames}
use Rattle.semantics.specs.Runs.{graph_of}
use Rattle.semantics.specs.Snapshots.{Test}
use Rattle.semantics.specs.Steps.{Delivery, Expiry, Label, Statement}
use Rattle.semantics.specs.Telling.{Sent, place_of_step}
use Rattle.summary.specs.Run.{Run, Start, Then, end_of, labels_of}
use Rattle.ttcn_syntax.specs.declared.place.Span.{Span}
use Rattle.ttcnx_runs.specs.Sights.{block_in, either_of, if_some, is_lost, place_in_text, step_place}
use Rattle.ttcnx_runs.specs.declared.step_place.StepPlace.{StepPlace}

rests : (s : State) → is_terminated_state s ≡ true → is_running_state s ≡ false
rests Created e = refl
rests Running e = absurd (let no = e in cc)
rests Terminated e = refl

place-live : (x : Component) → place_of (live_component x) ≡ place_of x
place-live x = by-state (λ y. place_of (live_component y) ≡ place_of y) x
    (λ e. ap place_of (live-over x e) ∙ sym (ap (λ b. if b then place_of_frames x.own.calls else None) (rests x.state e)))
    (λ e. ap place_of (live-alive x e))

place-told : (o : Option Component) → option_and_then place_of (option_map live_component o) ≡ option_and_then place_of o
place-told None = refl
place-told (Some x) = place-live x

step-live : (c : Configuration) (label : Label) → place_of_step (live_part c) label ≡ place_of_step c label
step-live (Ended v) label = refl
step-live (Goes c) (Statement path) = ap (option_and_then place_of) (component-live c path) ∙ place-told (component_at c path)
step-live (Goes c) (Expiry path number name) = refl
step-live (Goes c) (Delivery name) = refl

place-in-text-live : (test : Test) (c : Configuration) (label : Label) → place_in_text test (live_part c) label ≡ place_in_text test c label
place-in-text-live test c label = λ i. either_of (branch_live test c label i) (step-live c label i)

abbrev placed : Option Sent → Span → StepPlace
placed sent place = record { place = place; lost = is_lost sent }

step-place-live : (test : Test) (c : Configuration) (label : Label) → step_place test (live_part c) label ≡ step_place test c label
step-place-live test c label = λ i. option_map (placed (sent_live test c label i)) (place-in-text-live test c label i)

block-live : (test : Test) (c : Configuration) → block_in test (live_part c) ≡ block_in test c
block-live test c = ap if_some (blocked_live test c)

module _ (test : Test) where
  pub places-alike : (run : Run Label) → shown_by_step (canonical_graph test) (step_place test) run ≡ shown_by_step (graph_of test) (step_place test) run
  places-alike Start = refl
  places-alike (Then run label) = ap (λ c. step_place test c label) (ends_live test run) ∙ step-place-live test (end_of (graph_of test) run) label

  pub blocks-alike : (run : Run Label) → shown_at_end (canonical_graph test) (block_in test) run ≡ shown_at_end (graph_of test) (block_in test) run
  blocks-alike run = ap (block_in test) (ends_live test run) ∙ block-live test (end_of (graph_of test) run)

  module _ {E : Type 0} (cmp : Label → Label → Ordering) (n : ℕ) (over all : Run Label → Option E) (same : (run : Run Label) → over run ≡ all run) where
    to-all : (e : E) (run : Run Label) → HasShown (canonical_graph test) n over e run → HasShown (graph_of test) n all e run
    to-all e run has = record { is_run = (same-runs test run).0 has.is_run; short = has.short; shows = sym (same run) ∙ has.shows }

    to-live : (e : E) (run : Run Label) → HasShown (graph_of test) n all e run → HasShown (canonical_graph test) n over e run
    to-live e run has = record { is_run = (same-runs test run).1 has.is_run; short = has.short; shows = same run ∙ has.shows }

    least-alike : (e : E) (run : Run Label) → IsLeastShowing (canonical_graph test) cmp n over e run → IsLeastShowing (graph_of test) cmp n all e run
    least-alike e run least = record { has = to-all e run least.has; least = λ other has. least.least other (to-live e other has) }

    leasts-alike : (ss : List (Sighting E Label)) (runs : List (Run Label))
        → AllZip (λ s run. IsLeastShowing (canonical_graph test) cmp n over s.event run × (s.run.items ≡ labels_of run)) ss runs
        → AllZip (λ s run. IsLeastShowing (graph_of test) cmp n all s.event run × (s.run.items ≡ labels_of run)) ss runs
    leasts-alike [] [] z = tt
    leasts-alike [] (r ∷ rs) z = absurd z
    leasts-alike (s ∷ ss) [] z = absurd z
    leasts-alike (s ∷ ss) (r ∷ rs) z = ((least-alike s.event r (z.0).0, (z.0).1), leasts-alike ss rs z.1)

    pub sighted-alike : (ss : List (Sighting E Label)) → AreSighted (canonical_graph test) cmp n over ss → AreSighted (graph_of test) cmp n all ss
    sighted-alike ss are = record {
      runs = are.runs;
      ordered = are.ordered;
      least = leasts-alike ss are.runs are.least;
      all = λ e run has. are.all e run (to-live e run has);
    }
