use Rattle.std.proofs.Common.{List, ap, drop, map, subst, sym, ◌∙◌}
use Rattle.std.specs.List.{All}
use Rattle.step_forms.proofs.Marking.{all-drop, frames-drop}
use Rattle.step_forms.proofs.marks.without_frames.Goals as goal
use Rattle.semantics.specs.Configurations as rules
use Rattle.semantics.specs.Storing.{with_calls}
use Rattle.config_parts.specs.Legend.{data_by, frame_by}
use Rattle.config_parts.specs.Views.{IsFrameWithin}
use Rattle.config_parts.specs.declared.frame.Frame.{Frame}

pub returns-clause-calls : goal.returns-clause-calls
returns-clause-calls c legend =
    let own : rules.Data = data_by legend c.args.own in
    let left = c.from_vec.ensures ∙ c.in_ok-split_off.ensures.tail ∙ ap (λ (calls : List Frame). drop c.args.above calls) (c.into_vec-calls.ensures ∙ c.replace.ensures.value) in
    ap (λ (calls : List Frame). with_calls (map (frame_by legend) calls) own) left
    ∙ ap (λ frames. with_calls frames own) (frames-drop legend c.args.own.calls c.args.above)

pub returns-clause-within : goal.returns-clause-within
returns-clause-within c size all =
    let left = c.from_vec.ensures ∙ c.in_ok-split_off.ensures.tail ∙ ap (λ (calls : List Frame). drop c.args.above calls) (c.into_vec-calls.ensures ∙ c.replace.ensures.value) in
    record {
      members = all.members;
      calls = subst (λ (calls : List Frame). All (IsFrameWithin size) calls) (sym left) (all-drop (IsFrameWithin size) c.args.above c.args.own.calls all.calls);
    }
