use Rattle.std.proofs.Common.{rules, arith}
use Rattle.std.proofs.lemmas.Grind.{common_steps}
use Rattle.ttcn_parse.proofs.Readers.{testcase_split}
use Rattle.ttcn_parse.proofs.definition.testcase.Goals as goal

pub returns-in_err-name : goal.returns-in_err-name
returns-in_err-name c =
    let e = testcase_split c.args.parser.now in
    first_of (search rules, grind (arith, common_steps))

pub returns-in_err-runs_on : goal.returns-in_err-runs_on
returns-in_err-runs_on c =
    let e = testcase_split c.args.parser.now in
    first_of (search rules, grind (arith, common_steps))

pub returns-in_err-system : goal.returns-in_err-system
returns-in_err-system c =
    let e = testcase_split c.args.parser.now in
    first_of (search rules, grind (arith, common_steps))

pub returns-in_err-body : goal.returns-in_err-body
returns-in_err-body c =
    let e = testcase_split c.args.parser.now in
    first_of (search rules, grind (arith, common_steps))

pub returns : goal.returns
returns c =
    let e = testcase_split c.args.parser.now in
    first_of (search rules, grind (arith, common_steps))
