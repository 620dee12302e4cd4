use Rattle.std.proofs.Common.{◌≡◌, MatchOption, [], is_some, subst, sym}
use Rattle.clap.specs.Kinds.{Kinds}
use Rattle.clap.specs.Words.{found_of}
use Rattle.ttcnx_command_line.specs.internal.Answer.{HasRefusal}
use Rattle.ttcnx_command_line.proofs.Lines.{explain-is}
use Rattle.ttcnx_command_line.proofs.command.wrong_explain_of.Goals as goal

pub returns : goal.returns
returns c =
    let f = found_of c.args.given.now in
    let is = explain-is f c.flag_of-explain.result (is_some c.about_expiries_of-about_expiries.result) c.flag_of-explain.ensures (sym c.about_expiries_of-about_expiries.ensures) in
    subst (λ (faults : Kinds). MatchOption c.explain_conflict_of.result (faults ≡ []) (λ wrong. HasRefusal faults)) (sym is) c.explain_conflict_of.ensures
