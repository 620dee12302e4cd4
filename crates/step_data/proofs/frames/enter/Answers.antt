use Rattle.std.proofs.Common.{ap, subst, ◌∙◌, map, ◌∷◌, [], ◌++◌}
use Rattle.step_data.specs.Frames.{entered_all}
use Rattle.semantics.specs.Configurations as rules
use Rattle.semantics.specs.Statements as said
use Rattle.config_parts.specs.Legend.{data_by, frame_by}
use Rattle.value_types.specs.Outcomes.{GivesBy}
use Rattle.step_data.proofs.frames.enter.Goals as goal

pub returns-clause-entered : goal.returns-clause-entered
returns-clause-entered c legend =
    let own : rules.Data = data_by legend c.args.own in
    let items = legend.lists c.args.position in
    let is = c.in_ok-own.ensures.entered legend ∙ ap (λ frames. entered_all (map (frame_by legend) frames) items own) (c.in_ok-push.ensures.items ∙ ap (λ frames. frames ++ c.args.frame ∷ []) c.new-frames.ensures.items) in
    subst (λ (d : rules.Data). GivesBy (data_by legend) (said.with_frames d.calls d) c.limit_frames.result) is (c.limit_frames.ensures.limited legend)
