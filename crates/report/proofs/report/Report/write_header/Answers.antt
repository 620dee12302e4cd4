use Rattle.std.proofs.Common.{rules, arith, append_assoc}
use Rattle.std.proofs.lemmas.Grind.{common_steps}
use Rattle.std.proofs.Output.{has_written_append, has_written_of_eq}
use Rattle.report.proofs.report.Report.write_header.Goals as goal

pub returns : goal.returns
returns g c = λ plain ok.
    let one = c.writeln.ensures.writes plain (search rules) in
    let two = c.writeln-2.ensures.writes one.plain (search rules) in
    let three = c.writeln-3.ensures.writes two.plain (search rules) in
    let four = c.writeln-4.ensures.writes three.plain ok in
    let all = has_written_append _ _ _ _ _ _ (has_written_append _ _ _ _ _ _ (has_written_append _ _ _ _ _ _ one two) three) four in
    has_written_of_eq _ _ _ _ _ (grind (arith, common_steps, append_assoc)) all
