-- What is known of a component's last frame where it stands.
use Rattle.std.proofs.Common.{◌≡◌, ap, sym, subst, List, length, map}
use Rattle.std.specs.List.{All}
use Rattle.std.proofs.lemmas.List.Elements.{All-head}
use Rattle.step_forms.specs.internal.Places.{behind_first}
use Rattle.step_forms.specs.internal.Stands.{legend_of, stand_by}
use Rattle.step_forms.specs.declared.stand.Stand.{Stand}
use Rattle.semantics.specs.Snapshots.{View, last_view, timers_of}
use Rattle.step_snapshot.specs.Tests.{extent_of}
use Rattle.config_parts.specs.Legend.{entries_by, frame_by}
use Rattle.config_parts.specs.Views.{HasSlotsWithin, IsFrameWithin, view_by}
use Rattle.config_parts.specs.declared.frame.Frame.{Frame}
use Rattle.value_types.specs.declared.frame.TimerState.{TimerState}
use Rattle.semantics.specs.Entries.{Entries}

-- the slots of the last frame have names
pub cells-within : (s : Stand) → HasSlotsWithin (length ((s.snapshot.now).test.now).names) (s.frame.now).cells
cells-within s =
    let size = extent_of (s.snapshot.now).test.now in
    (All-head (IsFrameWithin size) s.frame.now (behind_first ((s.snapshot.now).component.now).own.calls)
    (subst (λ calls. All (IsFrameWithin size) calls) s.last (s.snapshot.now).within.calls)).cells

-- what is seen of it
pub view-is : (s : Stand) → view_by (legend_of s) (s.frame.now).cells ≡ last_view (stand_by s).snapshot (stand_by s).frame
view-is s =
    let values = entries_by (legend_of s) ((s.frame.now).cells).values in
    let P : Entries TimerState → View = λ timers. record { values = values; timers = timers } in
    ap P (sym (ap (λ (calls : List Frame). timers_of (map (frame_by (legend_of s)) calls)) s.last))
