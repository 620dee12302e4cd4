use Rattle.std.proofs.Common.{rules, ◌≡◌, refl, codes, false}
use Rattle.std.proofs.lemmas.Result.{IfOk-weaker}
use Rattle.clap.specs.Words.{new_app, rule_of}
use Rattle.ttcnx_command_line.specs.App.{needed_option}
use Rattle.ttcnx_command_line.proofs.Builds.{arg-added, fields-set}
use Rattle.ttcnx_command_line.proofs.definition.run_file_command.Goals as goal

pub returns : goal.returns
returns c =
    let run_is : rule_of c.help-run.result ≡ needed_option (codes "run") = search rules in
    let run_local : c.help-run.result.global ≡ false = search rules in
    let fresh = new_app c.args.name.now in
    let start = fields-set fresh fresh c.new-2.result c.about.result _ c.about.ensures (c.new-2.ensures.app, c.new-2.ensures.local) refl (λ e. e) in
    let ended = fields-set fresh fresh c.about.result c.after_help.result _ c.after_help.ensures start refl (λ e. e) in
    let one = arg-added _ _ _ _ _ c.in_ok-arg.ensures ended c.file.ensures.rule c.file.ensures.local in
    let two = arg-added _ _ _ _ _ c.in_ok-arg-2.ensures one c.testcase.ensures.rule c.testcase.ensures.local in
    let three = arg-added _ _ _ _ _ c.in_ok-arg-3.ensures two c.script.ensures.rule c.script.ensures.local in
    record {
      app = IfOk-weaker c.arg-4.result _ _ (λ m h. (arg-added _ _ _ _ m h three run_is run_local).0) c.arg-4.ensures;
      local = IfOk-weaker c.arg-4.result _ _ (λ m h. (arg-added _ _ _ _ m h three run_is run_local).1) c.arg-4.ensures;
    }
