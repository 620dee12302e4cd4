use Rattle.std.proofs.lemmas.Result.{IfOk-weaker}
use Rattle.ttcnx_command_line.specs.App.{plan_app}
use Rattle.ttcnx_command_line.proofs.Builds.{IsApp, arg-added}
use Rattle.ttcnx_command_line.proofs.definition.run_command.Goals as goal

pub returns : goal.returns
returns c =
    let start : IsApp plan_app _ = (c.in_ok-plan_command.ensures.app, c.in_ok-plan_command.ensures.local) in
    let one = arg-added _ _ _ _ _ c.in_ok-arg.ensures start c.range.ensures.rule c.range.ensures.local in
    let two = arg-added _ _ _ _ _ c.in_ok-arg-2.ensures one c.flag.ensures.rule c.flag.ensures.local in
    let three = arg-added _ _ _ _ _ c.in_ok-arg-3.ensures two c.flag-2.ensures.rule c.flag-2.ensures.local in
    let four = arg-added _ _ _ _ _ c.in_ok-arg-4.ensures three c.flag-3.ensures.rule c.flag-3.ensures.local in
    let names = c.verdict.ensures.rule in
    let five = arg-added _ _ _ _ _ c.in_ok-arg-5.ensures four names.2 c.verdict.ensures.local in
    let six = arg-added _ _ _ _ _ c.in_ok-arg-6.ensures five c.flag-4.ensures.rule c.flag-4.ensures.local in
    let seven = arg-added _ _ _ _ _ c.in_ok-arg-7.ensures six c.place.ensures.rule c.place.ensures.local in
    record {
      app = IfOk-weaker c.arg-8.result _ _ (λ m h. (names.0, names.1, (arg-added _ _ _ _ m h seven c.place-2.ensures.rule c.place-2.ensures.local).0)) c.arg-8.ensures;
      local = IfOk-weaker c.arg-8.result _ _ (λ m h. (arg-added _ _ _ _ m h seven c.place-2.ensures.rule c.place-2.ensures.local).1) c.arg-8.ensures;
    }
