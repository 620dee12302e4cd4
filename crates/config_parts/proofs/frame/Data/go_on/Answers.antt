use Rattle.std.proofs.Common.{List, map, sym, ap, subst, ◌∙◌}
use Rattle.std.specs.List.{All}
use Rattle.semantics.specs.Storing as storing
use Rattle.config_parts.proofs.Stored.{last-position}
use Rattle.config_parts.proofs.Within.{position-within}
use Rattle.config_parts.specs.Legend.{data_by, frame_by}
use Rattle.config_parts.specs.Views.{IsFrameWithin}
use Rattle.config_parts.specs.declared.frame.Frame.{Frame}
use Rattle.config_parts.specs.internal.Stored.{in_last, with_position}
use Rattle.config_parts.proofs.frame.Data.go_on.Goals as goal

pub returns-clause-changed : goal.returns-clause-changed
returns-clause-changed c legend =
    ap (λ calls. storing.with_calls calls (data_by legend c.args.self.now))
    (ap (map (frame_by legend)) (c.with_position.ensures ∙ ap (in_last (with_position c.args.position)) c.replace-calls.ensures.value)
    ∙ last-position legend c.args.position c.args.self.now.calls)

pub returns-clause-within : goal.returns-clause-within
returns-clause-within c size there all = record {
  members = all.members;
  calls = subst (λ (calls : List Frame). All (IsFrameWithin size) calls)
      (sym (c.with_position.ensures ∙ ap (in_last (with_position c.args.position)) c.replace-calls.ensures.value))
      (position-within size c.args.position c.args.self.now.calls there all.calls);
}
