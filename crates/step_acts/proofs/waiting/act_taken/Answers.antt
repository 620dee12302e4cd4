use Rattle.std.proofs.Common.{List, ap, map, ◌∙◌}
use Rattle.step_forms.proofs.Asking.{asked}
use Rattle.step_acts.proofs.Choosing.{way-leads}
use Rattle.step_acts.proofs.Takings.{takes}
use Rattle.step_acts.proofs.waiting.act_taken.Goals as goal
use Rattle.step_forms.specs.internal.Places.{list_at}
use Rattle.step_forms.specs.internal.Stands.{legend_of, site_of, stand_by}
use Rattle.step_acts.specs.internal.Takings.{effected_by}
use Rattle.step_choice.specs.Deeds.{deed_by}
use Rattle.step_data.specs.Frames.{entered_all}
use Rattle.semantics.specs.Events as events
use Rattle.semantics.specs.Statements as said
use Rattle.config_parts.specs.Legend.{data_by, frame_by}
use Rattle.config_parts.specs.declared.frame.Frame.{Frame}

pub returns-clause-asks : goal.returns-clause-asks
returns-clause-asks c chance effect is =
    let s = c.args.stand.now in
    let stand = stand_by s in
    let legend = legend_of s in
    let st = s.statement.now in
    let items = list_at (s.snapshot.now).test.now c.way-position.result in
    let frames = map (frame_by legend) c.args.taken.frames in
    asked legend (said.act_choice stand (site_of s) st (events.Taken chance effect)) (effected_by stand.test (deed_by legend c.args.taken.deed) (data_by legend c.in_ok-own-2.own)) c.do_deed.result
    (takes stand.test (site_of s) st stand.rest chance effect stand.own (data_by legend c.in_ok-own-2.own) (deed_by legend c.args.taken.deed) frames items is.deed is.frames
    (way-leads s c.requires.whole c.args.taken.way chance.way.block is.way items c.way-position.ensures.leads)
    (c.in_ok-own-2.ensures.entered legend ∙ ap (λ (fs : List Frame). entered_all (map (frame_by legend) fs) items (data_by legend c.in_ok-own.own)) c.into_vec.ensures ∙ ap (entered_all frames items) c.in_ok-own.ensures.own))
    c.do_deed.ensures.asks
