-- Live parts keep the frame limit, and so canonical forms fit a machine.
use Rattle.std.proofs.Common.{◌≡◌, ◌<◌, Bool, true, false, List, [], ◌∷◌, map, sym, subst, if◌then◌else◌, arith}
use Rattle.std.specs.List.{All}
use Rattle.std.proofs.lemmas.List.Elements.{All-cons, All-head, All-nil, All-tail}
use Rattle.laws_order.proofs.Runs.{live_ordered}
use Rattle.laws_order.specs.Order.{StandsInOrder}
use Rattle.semantics.specs.Configurations.{Component, Configuration, Ended, Goes, is_terminated_state, path_of}
use Rattle.semantics.specs.LiveParts.{husk, live_component, live_part}
use Rattle.semantics.specs.Statements.{most}
use Rattle.config_parts.specs.Views.{IsConfigWithin}
use Rattle.config_parts.specs.declared.config.Config.{Config}
use Rattle.ttcn_step.specs.FrameLimit.{AllKeepFrameLimit, KeepsFrameLimit}
use Rattle.ttcn_step.specs.Machines.{Fits, Machine, extent, said}

component-frames : (x : Component) (b : Bool) → KeepsFrameLimit x.own → KeepsFrameLimit (if b then husk (path_of x) else x).own
component-frames x true keeps = some-room
  where
    some-room : 0 < most
    some-room = omega arith
component-frames x false keeps = keeps

components-frames : (xs : List Component) → All (λ x. KeepsFrameLimit x.own) xs → All (λ x. KeepsFrameLimit x.own) (map live_component xs)
components-frames [] all = All-nil (λ x. KeepsFrameLimit x.own)
components-frames (x ∷ xs) all =
    All-cons (λ y. KeepsFrameLimit y.own) (live_component x) (map live_component xs)
    (component-frames x (is_terminated_state x.state) (All-head (λ y. KeepsFrameLimit y.own) x xs all)) (components-frames xs (All-tail (λ y. KeepsFrameLimit y.own) x xs all))

pub limit-in-live-parts : (c : Configuration) → AllKeepFrameLimit c → AllKeepFrameLimit (live_part c)
limit-in-live-parts (Ended v) keeps = keeps
limit-in-live-parts (Goes c) keeps = components-frames c.components keeps

pub live_forms_fit : (machine : Machine) (config form : Config) → Fits machine config → IsConfigWithin (extent machine) form → said machine form ≡ live_part (said machine config) → Fits machine form
live_forms_fit machine config form fits within is = record {
  within = within;
  ordered = subst StandsInOrder (sym is) (live_ordered (said machine config) fits.ordered);
  frames = subst AllKeepFrameLimit (sym is) (limit-in-live-parts (said machine config) fits.frames);
}
