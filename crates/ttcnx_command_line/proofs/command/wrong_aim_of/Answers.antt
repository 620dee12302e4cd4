use Rattle.std.proofs.Common.{◌≡◌, MatchOption, [], codes, is_some, subst, sym}
use Rattle.clap.specs.Kinds.{Kinds}
use Rattle.clap.specs.Words.{found_of, rows_of}
use Rattle.ttcnx_command_line.specs.internal.Answer.{HasRefusal}
use Rattle.ttcnx_command_line.proofs.Lines.{aim-is, value-is}
use Rattle.ttcnx_command_line.proofs.command.wrong_aim_of.Goals as goal

pub returns : goal.returns
returns c =
    let f = found_of c.args.given.now in
    let place = value-is f (codes "run-to") c.get_str.result c.is_some-to_place.result c.get_str.ensures c.is_some-to_place.ensures in
    let block = value-is f (codes "run-to-block") c.get_str-2.result c.is_some-to_block.result c.get_str-2.ensures c.is_some-to_block.ensures in
    let is = aim-is (rows_of f) c.is_some-to_place.result c.is_some-to_block.result (is_some c.about_report_of-about_report.result) place block (sym c.about_report_of-about_report.ensures) in
    subst (λ (faults : Kinds). MatchOption c.conflict_of.result (faults ≡ []) (λ wrong. HasRefusal faults)) (sym is) c.conflict_of.ensures
