use Rattle.std.proofs.Common.{codes, refl}
use Rattle.std.proofs.lemmas.Result.{IfOk-weaker}
use Rattle.clap.specs.Words.{new_app}
use Rattle.ttcnx_command_line.proofs.Builds.{arg-added, fields-set}
use Rattle.ttcnx_command_line.proofs.definition.lint_command.Goals as goal

pub returns : goal.returns
returns c =
    let fresh = new_app (codes "lint") in
    let start = fields-set fresh fresh c.new.result c.about.result _ c.about.ensures (c.new.ensures.app, c.new.ensures.local) refl (λ e. e) in
    let ended = fields-set fresh fresh c.about.result c.after_help.result _ c.after_help.ensures start refl (λ e. e) in
    let one = arg-added _ _ _ _ _ c.in_ok-arg.ensures ended c.files.ensures.rule c.files.ensures.local in
    let names = c.lint_format.ensures.rule in
    record {
      app = IfOk-weaker c.arg-2.result _ _ (λ m h. (names.0, names.1, (arg-added _ _ _ _ m h one names.2 c.lint_format.ensures.local).0)) c.arg-2.ensures;
      local = IfOk-weaker c.arg-2.result _ _ (λ m h. (arg-added _ _ _ _ m h one names.2 c.lint_format.ensures.local).1) c.arg-2.ensures;
    }
