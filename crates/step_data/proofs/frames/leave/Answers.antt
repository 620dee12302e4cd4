use Rattle.std.proofs.Common.{ap, sym, subst, ◌∙◌, List}
use Rattle.std.specs.List.{All, remove}
use Rattle.step_data.proofs.Changes.{all-remove}
use Rattle.config_parts.specs.Views.{IsFrameWithin}
use Rattle.config_parts.specs.declared.frame.Frame.{Frame}
use Rattle.step_data.proofs.frames.leave.Goals.{then-len-gt0, else-len-gt0}
use Rattle.step_data.proofs.frames.leave.Goals as goal

pub returns-clause-within : goal.returns-clause-within
returns-clause-within c size all = record {
  members = all.members;
  calls = subst (λ (calls : List Frame). All (IsFrameWithin size) calls) (sym c.from_vec.ensures)
      (elim c.if-len-gt0.branch [
        | then-len-gt0 w ↦ subst (λ (calls : List Frame). All (IsFrameWithin size) calls) (sym (ap (λ calls. calls.items) w.calls-is ∙ w.remove-last.ensures.items ∙ ap (λ calls. remove calls 0) (c.into_vec-calls.ensures ∙ c.replace.ensures.value)))
            (all-remove (IsFrameWithin size) c.args.own.calls all.calls)
        | else-len-gt0 w ↦ subst (λ (calls : List Frame). All (IsFrameWithin size) calls)
            (sym (ap (λ calls. calls.items) w.calls-is ∙ c.into_vec-calls.ensures ∙ c.replace.ensures.value)) all.calls
      ]);
}
