-- The step of a component with a last frame, by what remains in it.
use Rattle.std.proofs.Common.{◌≡◌, sym, subst, List, ◌∷◌, Option, Result, map}
use Rattle.step_forms.specs.Asks.{Asks}
use Rattle.step_forms.specs.internal.Places.{behind_first, list_at}
use Rattle.semantics.specs.Items.{Item}
use Rattle.semantics.specs.Statements as said
use Rattle.step_snapshot.specs.Seen.{own_by, seen_by}
use Rattle.step_snapshot.specs.Tests.{legend_by, test_by}
use Rattle.step_snapshot.specs.declared.snapshot.Snapshot.{Snapshot}
use Rattle.config_parts.specs.Legend.{frame_by}
use Rattle.config_parts.specs.declared.act.Act.{Act}
use Rattle.config_parts.specs.declared.frame.Frame.{Frame}
use Rattle.value_types.specs.declared.fault.Fault.{Fault}

module _ (s : Snapshot) (frame : Frame) (r : Result (Option Act) Fault) (last : (s.component.now).own.calls ≡ frame ∷ behind_first (s.component.now).own.calls) where
  pub first-asks : (remaining : List Item) → list_at s.test.now frame.remaining ≡ remaining
      → Asks (legend_by s.test.now)
      (said.act_first (test_by s.test.now) (seen_by s) (own_by s) (frame_by (legend_by s.test.now) frame) (map (frame_by (legend_by s.test.now)) (behind_first (s.component.now).own.calls)) remaining) r
      → Asks (legend_by s.test.now) (said.act (test_by s.test.now) (seen_by s) (own_by s)) r
  first-asks remaining is asks =
      let t = s.test.now in
      let legend = legend_by t in
      let below = map (frame_by legend) (behind_first (s.component.now).own.calls) in
      subst (λ (calls : List Frame). Asks legend (said.act_in (test_by t) (seen_by s) (own_by s) (map (frame_by legend) calls)) r) (sym last)
      (subst (λ (items : List Item). Asks legend (said.act_first (test_by t) (seen_by s) (own_by s) (frame_by legend frame) below items) r) (sym is) asks)
