use Rattle.std.proofs.Common.{codes}
use Rattle.std.proofs.lemmas.Result.{IfOk-weaker}
use Rattle.ttcnx_command_line.specs.App.{run_file_app}
use Rattle.ttcnx_command_line.proofs.Builds.{IsApp, arg-added}
use Rattle.ttcnx_command_line.proofs.definition.explain_command.Goals as goal

pub returns : goal.returns
returns c =
    let start : IsApp (run_file_app (codes "explain")) _ = (c.in_ok-run_file_command.ensures.app, c.in_ok-run_file_command.ensures.local) in
    let names = c.format.ensures.rule.0 in
    let same = c.format.ensures.rule.1 in
    let rule = c.format.ensures.rule.2 in
    record {
      app = IfOk-weaker c.arg.result _ _ (λ m h. (names, same, (arg-added _ _ _ _ m h start rule c.format.ensures.local).0)) c.arg.ensures;
      local = IfOk-weaker c.arg.result _ _ (λ m h. (arg-added _ _ _ _ m h start rule c.format.ensures.local).1) c.arg.ensures;
    }
