use Rattle.std.proofs.Common.{◌≡◌, ◌∙◌, ap, refl, codes, false}
use Rattle.std.proofs.lemmas.Result.{IfOk-weaker}
use Rattle.clap.specs.Words.{new_app, rule_of}
use Rattle.clap.specs.declared.builder.arg.Arg.{Arg}
use Rattle.ttcnx_command_line.specs.App.{number_option}
use Rattle.ttcnx_command_line.proofs.Builds.{arg-added, fields-set}
use Rattle.ttcnx_command_line.proofs.definition.plan_command.Goals as goal

pub returns : goal.returns
returns c =
    let limit_is : rule_of c.help-limit.result ≡ number_option (codes "limit") 10000000 (codes "1000000") = ap rule_of c.help-limit.ensures ∙ c.number.ensures.rule in
    let workers_is : rule_of c.help-workers.result ≡ number_option (codes "workers") 64 (codes "1") = ap rule_of c.help-workers.ensures ∙ c.number-2.ensures.rule in
    let piece_is : rule_of c.help-piece.result ≡ number_option (codes "piece") 65536 (codes "256") = ap rule_of c.help-piece.ensures ∙ c.number-3.ensures.rule in
    let limit_local : c.help-limit.result.global ≡ false = ap (λ (x : Arg). x.global) c.help-limit.ensures ∙ c.number.ensures.local in
    let workers_local : c.help-workers.result.global ≡ false = ap (λ (x : Arg). x.global) c.help-workers.ensures ∙ c.number-2.ensures.local in
    let piece_local : c.help-piece.result.global ≡ false = ap (λ (x : Arg). x.global) c.help-piece.ensures ∙ c.number-3.ensures.local in
    let start = fields-set (new_app (codes "run")) (new_app (codes "run")) c.new.result c.about.result _ c.about.ensures (c.new.ensures.app, c.new.ensures.local) refl (λ e. e) in
    let called = fields-set (new_app (codes "run")) (new_app (codes "run")) c.about.result c.override_usage.result _ c.override_usage.ensures start refl (λ e. e) in
    let ended = fields-set (new_app (codes "run")) (new_app (codes "run")) c.override_usage.result c.after_help.result _ c.after_help.ensures called refl (λ e. e) in
    let one = arg-added _ _ _ _ _ c.in_ok-arg.ensures ended c.file.ensures.rule c.file.ensures.local in
    let two = arg-added _ _ _ _ _ c.in_ok-arg-2.ensures one c.testcase.ensures.rule c.testcase.ensures.local in
    let three = arg-added _ _ _ _ _ c.in_ok-arg-3.ensures two c.script.ensures.rule c.script.ensures.local in
    let four = arg-added _ _ _ _ _ c.in_ok-arg-4.ensures three c.range.ensures.rule c.range.ensures.local in
    let until = arg-added _ _ _ _ _ c.in_ok-arg-5.ensures four c.flag.ensures.rule c.flag.ensures.local in
    let five = arg-added _ _ _ _ _ c.in_ok-arg-6.ensures until limit_is limit_local in
    let six = arg-added _ _ _ _ _ c.in_ok-arg-7.ensures five workers_is workers_local in
    let seven = arg-added _ _ _ _ _ c.in_ok-arg-8.ensures six piece_is piece_local in
    let eight = arg-added _ _ _ _ _ c.in_ok-arg-9.ensures seven c.flag-2.ensures.rule c.flag-2.ensures.local in
    record {
      app = IfOk-weaker c.arg-10.result _ _ (λ m h. (arg-added _ _ _ _ m h eight c.flag-3.ensures.rule c.flag-3.ensures.local).0) c.arg-10.ensures;
      local = IfOk-weaker c.arg-10.result _ _ (λ m h. (arg-added _ _ _ _ m h eight c.flag-3.ensures.rule c.flag-3.ensures.local).1) c.arg-10.ensures;
    }
