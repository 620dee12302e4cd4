use Rattle.std.proofs.Common.{ap, sym, subst, ◌∙◌, ◌++◌, List}
use Rattle.std.specs.List.{All}
use Rattle.step_data.proofs.Changes.{all-append}
use Rattle.config_parts.specs.Views.{IsFrameWithin}
use Rattle.config_parts.specs.declared.frame.Frame.{Frame}
use Rattle.step_data.proofs.frames.enter_all.Goals as goal

pub returns-clause-within : goal.returns-clause-within
returns-clause-within c size there all frames =
    let kept = c.go_on.ensures.within size there all in
    record {
      members = kept.members;
      calls = subst (λ (calls : List Frame). All (IsFrameWithin size) calls)
          (sym (c.from_vec.ensures ∙ c.in_ok-append.ensures.items ∙ ap (λ below. c.args.frames.items ++ below) (c.into_vec-below.ensures ∙ c.replace.ensures.value)))
          (all-append (IsFrameWithin size) c.args.frames.items c.go_on.new.self.calls frames kept.calls);
    }
