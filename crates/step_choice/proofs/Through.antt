-- A branch that is taken of an altstep, from a call of the altstep.
use Rattle.std.proofs.Common.{◌≡◌, ℕ, List, [], ◌∷◌, ◌++◌, map, length, get_or, Some, refl, sym, ap, subst, ◌∙◌}
use Rattle.std.proofs.lemmas.List.{map-append}
use Rattle.std.proofs.lemmas.List.Elements.{All-push}
use Rattle.std.specs.List.{All, slice_get}
use Rattle.semantics.specs.Branches as branches
use Rattle.semantics.specs.Branches.{Chance, argument_values}
use Rattle.semantics.specs.Configurations as rules
use Rattle.semantics.specs.Entries.{Entries}
use Rattle.semantics.specs.Events.{Effect}
use Rattle.semantics.specs.Items.{Item}
use Rattle.semantics.specs.Snapshots.{View, view_of_arguments}
use Rattle.step_choice.specs.Choices.{IsTaken}
use Rattle.step_choice.specs.declared.taken.Taken.{Taken}
use Rattle.step_choice.specs.internal.Judged.{Is, IsAmong, test_of}
use Rattle.step_choice.specs.internal.Later.{chance_through}
use Rattle.step_snapshot.specs.Tests.{extent_of, legend_by}
use Rattle.step_snapshot.specs.declared.snapshot.Snapshot.{Snapshot}
use Rattle.config_parts.specs.Legend.{entries_by, frame_by}
use Rattle.config_parts.specs.Views.{HasSlotsWithin, IsFrameWithin, view_by}
use Rattle.config_parts.specs.declared.frame.Cells.{Cells}
use Rattle.config_parts.specs.declared.frame.Frame.{Frame}
use Rattle.ttcn_graph.specs.Graphs.{IsAt, beginnings_at}
use Rattle.value_types.specs.declared.frame.TimerState.{TimerState}
use Rattle.value_types.specs.declared.value.Value.{Value}

-- the frame of an altstep
abbrev frame-of : List Item → Entries Value → Entries TimerState → rules.Frame
frame-of items values timers = record { remaining = items; values = values; timers = timers }

abbrev frame-at : ℕ → Cells → Frame
frame-at remaining cells = record { remaining = remaining; cells = cells }

abbrev with-frames : Taken → ℕ → List Frame → Taken
with-frames taken way frames = record { place = taken.place; way = way; frames = frames; deed = taken.deed }

frame-by : (s : Snapshot) (at remaining : ℕ) (inner : Cells) (values : List Value) (items : List Item) → get_or (s.test.now).graphs.lists remaining [] ≡ items
    → view_by (legend_by s.test.now) inner ≡ view_of_arguments (argument_values (test_of s).definitions at values)
    → frame_by (legend_by s.test.now) (frame-at remaining inner) ≡ branches.frame_with (test_of s).definitions at values items
frame-by s at remaining inner values items there seen =
    ap (λ is. frame-of is (entries_by (legend_by s.test.now) inner.values) (entries_by (legend_by s.test.now) inner.timers)) there
    ∙ ap (λ (v : View). frame-of items v.values v.timers) seen

same-block : (s : Snapshot) (at remaining place : ℕ) (items : List Item) → IsAt (s.test.now).graphs remaining place (beginnings_at (s.test.now).graphs.definitions at)
    → slice_get (beginnings_at (test_of s).definitions at) place ≡ Some items → get_or (s.test.now).graphs.lists remaining [] ≡ items
same-block s at remaining place items is among =
    let both : Some (get_or (s.test.now).graphs.lists remaining []) ≡ Some items =
    sym is.stands ∙ ap (λ ds. slice_get (beginnings_at ds at) place) (s.test.now).same ∙ among in
    let same : get_or (s.test.now).graphs.lists remaining [] ≡ items = cc in same

pub taken-through : (s : Snapshot) (way at remaining : ℕ) (inner : Cells) (taken : Taken) (frames : List Frame) (chance : Chance) (effect : Effect) (values : List Value) (block : List Item)
    → HasSlotsWithin (length (s.test.now).names) inner → IsAt (s.test.now).graphs remaining taken.way (beginnings_at (s.test.now).graphs.definitions at)
    → frames ≡ taken.frames ++ frame-at remaining inner ∷ []
    → IsTaken s (IsAmong (beginnings_at (test_of s).definitions at)) chance effect taken
    → view_by (legend_by s.test.now) inner ≡ view_of_arguments (argument_values (test_of s).definitions at values)
    → IsTaken s (Is way block) (chance_through (test_of s) at values block chance) effect (with-frames taken way frames)
taken-through s way at remaining inner taken frames chance effect values block slots is more so seen =
    let legend = legend_by s.test.now in
    record {
      place = so.place;
      way = (refl, refl);
      frames = ap (map (frame_by legend)) more ∙ map-append (frame_by legend) taken.frames (frame-at remaining inner ∷ [])
          ∙ ap (λ fs. fs ++ frame_by legend (frame-at remaining inner) ∷ []) so.frames
          ∙ ap (λ f. chance.way.frames ++ f ∷ []) (frame-by s at remaining inner values chance.way.block (same-block s at remaining taken.way chance.way.block is so.way) seen);
      within = subst (All (IsFrameWithin (extent_of s.test.now))) (sym more) (All-push (IsFrameWithin (extent_of s.test.now)) taken.frames (frame-at remaining inner) so.within (record { remaining = is.within; cells = slots }));
      deed = so.deed;
    }
