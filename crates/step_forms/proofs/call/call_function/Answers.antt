use Rattle.std.proofs.Common.{refl}
use Rattle.step_forms.proofs.Asking.{acting-fails, there}
use Rattle.step_forms.proofs.call.call_function.Goals as goal
use Rattle.step_forms.specs.internal.Places.{list_at}
use Rattle.step_forms.specs.internal.Stands.{legend_of, site_of, stand_by}
use Rattle.semantics.specs.Configurations.{Frame}
use Rattle.semantics.specs.Statements as said
use Rattle.step_snapshot.specs.Tests.{extent_of}
use Rattle.config_parts.specs.Legend.{data_by, frame_by}

pub returns-in_err-own-clause-asks : goal.returns-in_err-own-clause-asks
returns-in_err-own-clause-asks c =
    let s = c.args.stand.now in
    let legend = legend_of s in
    let own = data_by legend c.args.own in
    let items = list_at (s.snapshot.now).test.now c.args.position in
    let frame = frame_by legend c.in_ok-frame.frame in
    let part = said.enter own items frame in
    there legend (λ (f : Frame). said.continuing (said.enter own items f)) (said.frame_of_call (stand_by s) (site_of s) c.args.call.now) frame c.from_residual-in_err-own.result c.in_ok-frame.ensures.frame
    (acting-fails legend (data_by legend) (said.Requests said.Continues) part part c.in_err-own.field-0.0 c.from_residual-in_err-own.result refl (c.in_err-own.ensures.entered legend) c.from_residual-in_err-own.ensures.1)

pub returns-clause-within : goal.returns-clause-within
returns-clause-within c = (tt, c.in_ok-own.ensures.within (extent_of (c.args.stand.now).snapshot.now.test.now) c.requires.there c.requires.within c.in_ok-frame.ensures.within)
