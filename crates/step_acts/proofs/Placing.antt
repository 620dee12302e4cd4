-- The place of the branch that a step takes.
use Rattle.std.proofs.Common.{◌≡◌, List, ◌∷◌, map, refl, sym, ap, subst, ◌∙◌, Option, Some, None, Result, Ok}
use Rattle.ttcn_syntax.specs.declared.place.Span.{Span}
use Rattle.std.specs.Prelude.{IfOk}
use Rattle.step_acts.proofs.Choosing.{choice-there}
use Rattle.step_forms.specs.Asks.{Asks, IsFault}
use Rattle.step_forms.specs.internal.Places.{behind_first, list_at}
use Rattle.step_forms.specs.internal.Stands.{site_of, stand_by}
use Rattle.step_forms.specs.declared.stand.Stand.{Stand}
use Rattle.step_choice.specs.Choices.{choice_of}
use Rattle.semantics.specs.Events.{Choice}
use Rattle.semantics.specs.Items.{Item}
use Rattle.step_snapshot.specs.Seen.{own_by, seen_by}
use Rattle.step_snapshot.specs.Tests.{legend_by, test_by}
use Rattle.step_snapshot.specs.declared.snapshot.Snapshot.{Snapshot}
use Rattle.std.specs.declared.alloc.AllocError.{AllocError}
use Rattle.config_parts.specs.Legend.{frame_by}
use Rattle.config_parts.specs.declared.frame.Frame.{Frame}
use Rattle.semantics.specs.Places.{place_chosen, place_in_frames, place_in_list, unless_fault}
use Rattle.semantics.specs.Statements as said
use Rattle.config_parts.specs.Acts.{act_by}
use Rattle.config_parts.specs.Legend.{Legend}
use Rattle.config_parts.specs.declared.act.Act.{Act}

no-place : (asked : said.Act) → unless_fault asked None ≡ None
no-place said.Waits = refl
no-place (said.Errs why) = refl
no-place (said.Requests request own) = refl

act-place : (legend : Legend) (a : Act) (place : Option Span) → unless_fault (act_by legend a) place ≡ place
act-place legend act place = refl

-- where no branch is chosen, none is taken
pub none-taken : (asked : said.Act) (place : Option Span) → place ≡ None → None ≡ unless_fault asked place
none-taken asked place none = sym (ap (unless_fault asked) none ∙ no-place asked)

pub asked_place : (legend : Legend) (asked : said.Act) (answer : Option Act) (place : Option Span) → Asks legend asked (Ok answer) → place ≡ unless_fault asked place
asked_place legend asked None place asks = sym (ap (λ a. unless_fault a place) asks)
asked_place legend asked (Some a) place asks = sym (ap (λ b. unless_fault b place) asks ∙ act-place legend a place)

pub fault_place : (asked : said.Act) (place : Option Span) → IsFault asked → None ≡ unless_fault asked place
fault_place said.Waits place is = absurd is
fault_place (said.Errs why) place is = refl
fault_place (said.Requests request own) place is = absurd is

-- what is chosen in the words of choices is what is chosen in those of statements
pub chosen-place : (s : Stand) (r : Result (Option Span) AllocError)
    → IfOk r (λ place. place ≡ place_chosen (choice_of (test_by (s.snapshot.now).test.now) (seen_by s.snapshot.now) (own_by s.snapshot.now) (site_of s) s.statement.now))
    → IfOk r (λ place. place ≡ place_chosen (said.choice_at (stand_by s) (site_of s) s.statement.now))
chosen-place s r found = subst (λ (choice : Option Choice). IfOk r (λ place. place ≡ place_chosen choice)) (sym (choice-there s s.statement.now)) found

-- the last frame tells the place
pub place-first : (s : Snapshot) (frame : Frame) (last : (s.component.now).own.calls ≡ frame ∷ behind_first (s.component.now).own.calls) (r : Result (Option Span) AllocError)
    (remaining : List Item) → list_at s.test.now frame.remaining ≡ remaining
    → IfOk r (λ place. place ≡ place_in_list (test_by s.test.now) (seen_by s) (own_by s) (frame_by (legend_by s.test.now) frame) (map (frame_by (legend_by s.test.now)) (behind_first (s.component.now).own.calls)) remaining)
    → IfOk r (λ place. place ≡ place_in_frames (test_by s.test.now) (seen_by s) (own_by s) (own_by s).calls)
place-first s frame last r remaining is found =
    let t = s.test.now in
    let legend = legend_by t in
    let below = map (frame_by legend) (behind_first (s.component.now).own.calls) in
    subst (λ (calls : List Frame). IfOk r (λ place. place ≡ place_in_frames (test_by t) (seen_by s) (own_by s) (map (frame_by legend) calls))) (sym last)
    (subst (λ (items : List Item). IfOk r (λ place. place ≡ place_in_list (test_by t) (seen_by s) (own_by s) (frame_by legend frame) below items)) (sym is) found)
