-- The least run to a place, whether a message is lost in its last step or not.
use Rattle.std.proofs.Common.{◌≡◌, ℕ, Bool, List, Option, None, Some, ap}
use Rattle.std.specs.Option.{option_map}
use Rattle.explore.specs.Sightings.{shown_by_step}
use Rattle.semantics.specs.Labels.{label_cmp}
use Rattle.semantics.specs.Runs.{graph_of}
use Rattle.semantics.specs.Snapshots.{Test}
use Rattle.semantics.specs.Steps.{Label}
use Rattle.semantics.specs.Telling.{sent_of}
use Rattle.summary.specs.Run.{Run, Start, Then, end_of}
use Rattle.ttcn_syntax.specs.declared.place.Span.{Span}
use Rattle.ttcnx_runs.specs.Aims.{Gets, IsLeastTo, is_at}
use Rattle.ttcnx_runs.specs.Sights.{is_lost, place_in_text, step_place}
use Rattle.ttcnx_runs.specs.declared.step_place.StepPlace.{StepPlace}

abbrev placed : Bool → Span → StepPlace
placed lost place = record { place = place; lost = lost }

was-there : (lost : Bool) (o : Option Span) (e : StepPlace) → option_map (placed lost) o ≡ Some e → o ≡ Some e.place
was-there lost None e h = absurd (let no = h in cc)
was-there lost (Some p) e h = let is : placed lost p ≡ e = (let same = h in cc) in ap (λ (x : StepPlace). Some x.place) is

module _ (test : Test) (n : ℕ) (place : Span) where
  abbrev GetsThere : Run Label → Type 0
  GetsThere run = Gets (graph_of test) n (shown_by_step (graph_of test) (place_in_text test)) (is_at place) run

  abbrev StepsThere : Run Label → Type 0
  StepsThere run = Gets (graph_of test) n (shown_by_step (graph_of test) (step_place test)) (λ (e : StepPlace). is_at place e.place) run

  steps-there : (run : Run Label) → GetsThere run → StepsThere run
  steps-there Start gets = absurd (let no = gets.shows in cc)
  steps-there (Then run label) gets =
      let lost = is_lost (sent_of test (end_of (graph_of test) run) label) in
      record {
        is_run = gets.is_run;
        short = gets.short;
        what = placed lost gets.what;
        shows = ap (option_map (placed lost)) gets.shows;
        is_of = gets.is_of;
      }

  gets-there : (run : Run Label) → StepsThere run → GetsThere run
  gets-there Start steps = absurd (let no = steps.shows in cc)
  gets-there (Then run label) steps =
      let lost = is_lost (sent_of test (end_of (graph_of test) run) label) in
      record {
        is_run = steps.is_run;
        short = steps.short;
        what = steps.what.place;
        shows = was-there lost (place_in_text test (end_of (graph_of test) run) label) steps.what steps.shows;
        is_of = steps.is_of;
      }

  pub least-there : (found : Option (List Label)) → IsLeastTo (graph_of test) label_cmp n (shown_by_step (graph_of test) (step_place test)) (λ (e : StepPlace). is_at place e.place) found
      → IsLeastTo (graph_of test) label_cmp n (shown_by_step (graph_of test) (place_in_text test)) (is_at place) found
  least-there None none = λ run gets. none run (steps-there run gets)
  least-there (Some labels) least = (least.0, gets-there least.0 least.1, λ other gets. least.2 other (steps-there other gets), least.3)
