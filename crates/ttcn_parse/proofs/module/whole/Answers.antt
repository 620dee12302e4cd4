use Rattle.std.proofs.Common.{rules, arith}
use Rattle.std.proofs.lemmas.Grind.{common_steps}
use Rattle.ttcn_parse.proofs.Readers.{whole_split}
use Rattle.ttcn_parse.proofs.module.whole.Goals as goal

pub returns-in_err-name : goal.returns-in_err-name
returns-in_err-name c =
    let e = whole_split c.args.parser.now in
    first_of (search rules, grind (arith, common_steps))

pub returns-in_err-definitions : goal.returns-in_err-definitions
returns-in_err-definitions c =
    let e = whole_split c.args.parser.now in
    first_of (search rules, grind (arith, common_steps))

pub returns-in_err-module_end : goal.returns-in_err-module_end
returns-in_err-module_end c =
    let e = whole_split c.args.parser.now in
    first_of (search rules, grind (arith, common_steps))

pub returns : goal.returns
returns c =
    let e = whole_split c.args.parser.now in
    first_of (search rules, grind (arith, common_steps))
