use Rattle.std.proofs.Common.{rules, arith}
use Rattle.std.proofs.lemmas.Grind.{common_steps}
use Rattle.parse_reader.specs.internal.Reading.{at_brace, ended, items_from}
use Rattle.parse_reader.specs.internal.Statements.{block_in, branch_by, conditional_by, else_ifs_from, statement_by, block_by, block_if_any}
use Rattle.parse_statements.proofs.Readers.{branch-split, item-turn, statement-split}
use Rattle.parse_reader.proofs.Turns.{last-turn, next-turn, positive}
use Rattle.parse_statements.proofs.statements.+statement.Goals as goal

pub statements-returns-then-is_at : goal.statements-returns-then-is_at
statements-returns-then-is_at t c =
    let e = item-turn (statement_by (block_in c.args.depth)) c.loop-turn.statements c.loop-turn.parser _ c.loop-turn._turn c.loop-turn-test.true c.loop-turn.invariant in
    first_of (search rules, grind (arith, common_steps))

pub statements-returns-in_err-statement : goal.statements-returns-in_err-statement
statements-returns-in_err-statement t c =
    let e = item-turn (statement_by (block_in c.args.depth)) c.loop-turn.statements c.loop-turn.parser _ c.loop-turn._turn c.loop-turn-test.true c.loop-turn.invariant in
    first_of (search rules, grind (arith, common_steps))

pub statements-returns-in_err-end_item : goal.statements-returns-in_err-end_item
statements-returns-in_err-end_item t c =
    let e = item-turn (statement_by (block_in c.args.depth)) c.loop-turn.statements c.loop-turn.parser _ c.loop-turn._turn c.loop-turn-test.true c.loop-turn.invariant in
    first_of (search rules, grind (arith, common_steps))

pub statements-loop-turn-preserved : goal.statements-loop-turn-preserved
statements-loop-turn-preserved t c =
    let e = item-turn (statement_by (block_in c.args.depth)) c.loop-turn.statements c.loop-turn.parser _ c.loop-turn._turn c.loop-turn-test.true c.loop-turn.invariant in
    first_of (search rules, grind (arith, common_steps))

pub statements-returns : goal.statements-returns
unfolding items_from
statements-returns t c =
    let e = last-turn (λ n. items_from at_brace (ended (statement_by (block_in c.args.depth))) n c.loop-turn.statements c.loop-turn.parser) _ c.loop-turn._turn c.loop-turn-test.false c.loop-turn.invariant in
    first_of (search rules, grind (arith, common_steps))

pub branch_items-returns-then-is_at : goal.branch_items-returns-then-is_at
branch_items-returns-then-is_at t c =
    let e = item-turn (branch_by (block_in c.args.depth)) c.loop-turn.branches c.loop-turn.parser _ c.loop-turn._turn c.loop-turn-test.true c.loop-turn.invariant in
    first_of (search rules, grind (arith, common_steps))

pub branch_items-returns-in_err-branch : goal.branch_items-returns-in_err-branch
branch_items-returns-in_err-branch t c =
    let e = item-turn (branch_by (block_in c.args.depth)) c.loop-turn.branches c.loop-turn.parser _ c.loop-turn._turn c.loop-turn-test.true c.loop-turn.invariant in
    first_of (search rules, grind (arith, common_steps))

pub branch_items-returns-in_err-end_item : goal.branch_items-returns-in_err-end_item
branch_items-returns-in_err-end_item t c =
    let e = item-turn (branch_by (block_in c.args.depth)) c.loop-turn.branches c.loop-turn.parser _ c.loop-turn._turn c.loop-turn-test.true c.loop-turn.invariant in
    first_of (search rules, grind (arith, common_steps))

pub branch_items-loop-turn-preserved : goal.branch_items-loop-turn-preserved
branch_items-loop-turn-preserved t c =
    let e = item-turn (branch_by (block_in c.args.depth)) c.loop-turn.branches c.loop-turn.parser _ c.loop-turn._turn c.loop-turn-test.true c.loop-turn.invariant in
    first_of (search rules, grind (arith, common_steps))

pub branch_items-returns : goal.branch_items-returns
unfolding items_from
branch_items-returns t c =
    let e = last-turn (λ n. items_from at_brace (ended (branch_by (block_in c.args.depth))) n c.loop-turn.branches c.loop-turn.parser) _ c.loop-turn._turn c.loop-turn-test.false c.loop-turn.invariant in
    first_of (search rules, grind (arith, common_steps))

pub else_ifs-returns-then-not-goes_on : goal.else_ifs-returns-then-not-goes_on
unfolding else_ifs_from
else_ifs-returns-then-not-goes_on t c =
    let e = next-turn (λ n. else_ifs_from (conditional_by (block_in c.args.depth)) n c.loop-turn.conditionals c.loop-turn.parser) _ c.loop-turn._turn c.loop-turn-test.true c.loop-turn.invariant in
    first_of (search rules, grind (arith, common_steps))

pub else_ifs-returns-in_err-conditional : goal.else_ifs-returns-in_err-conditional
unfolding else_ifs_from
else_ifs-returns-in_err-conditional t c =
    let e = next-turn (λ n. else_ifs_from (conditional_by (block_in c.args.depth)) n c.loop-turn.conditionals c.loop-turn.parser) _ c.loop-turn._turn c.loop-turn-test.true c.loop-turn.invariant in
    first_of (search rules, grind (arith, common_steps))

pub else_ifs-loop-turn-preserved : goal.else_ifs-loop-turn-preserved
unfolding else_ifs_from
else_ifs-loop-turn-preserved t c =
    let e = next-turn (λ n. else_ifs_from (conditional_by (block_in c.args.depth)) n c.loop-turn.conditionals c.loop-turn.parser) _ c.loop-turn._turn c.loop-turn-test.true c.loop-turn.invariant in
    first_of (search rules, grind (arith, common_steps))

pub else_ifs-returns : goal.else_ifs-returns
unfolding else_ifs_from
else_ifs-returns t c =
    let e = last-turn (λ n. else_ifs_from (conditional_by (block_in c.args.depth)) n c.loop-turn.conditionals c.loop-turn.parser) _ c.loop-turn._turn c.loop-turn-test.false c.loop-turn.invariant in
    first_of (search rules, grind (arith, common_steps))

pub block_in-returns-then-depth-eq0 : goal.block_in-returns-then-depth-eq0
unfolding block_in
block_in-returns-then-depth-eq0 t c = rw c.if-depth-eq0.true (search rules)

pub block_in-returns-in_err-symbol : goal.block_in-returns-in_err-symbol
unfolding block_in block_by
block_in-returns-in_err-symbol t c =
    let e = positive block_in c.args.depth (omega (arith, c.if-depth-eq0.false)) in
    first_of (search rules, grind (arith, common_steps))

pub block_in-returns-in_err-statements : goal.block_in-returns-in_err-statements
unfolding block_in block_by
block_in-returns-in_err-statements t c =
    let e = positive block_in c.args.depth (omega (arith, c.if-depth-eq0.false)) in
    first_of (search rules, grind (arith, common_steps))

pub block_in-returns-in_err-symbol-2 : goal.block_in-returns-in_err-symbol-2
unfolding block_in block_by
block_in-returns-in_err-symbol-2 t c =
    let e = positive block_in c.args.depth (omega (arith, c.if-depth-eq0.false)) in
    first_of (search rules, grind (arith, common_steps))

pub block_in-returns : goal.block_in-returns
unfolding block_in block_by
block_in-returns t c =
    let e = positive block_in c.args.depth (omega (arith, c.if-depth-eq0.false)) in
    first_of (search rules, grind (arith, common_steps))

pub statement-returns-in_err-place : goal.statement-returns-in_err-place
statement-returns-in_err-place t c =
    let e = statement-split (block_in c.args.depth) c.args.parser.now in
    first_of (search rules, grind (arith, common_steps))

pub statement-returns-in_err-head : goal.statement-returns-in_err-head
statement-returns-in_err-head t c =
    let e = statement-split (block_in c.args.depth) c.args.parser.now in
    first_of (search rules, grind (arith, common_steps))

pub statement-returns-in_err-action : goal.statement-returns-in_err-action
statement-returns-in_err-action t c =
    let e = statement-split (block_in c.args.depth) c.args.parser.now in
    first_of (search rules, grind (arith, common_steps))

pub statement-returns : goal.statement-returns
statement-returns t c =
    let e = statement-split (block_in c.args.depth) c.args.parser.now in
    first_of (search rules, grind (arith, common_steps))

pub branch-returns-in_err-place : goal.branch-returns-in_err-place
unfolding block_if_any
branch-returns-in_err-place t c =
    let e = branch-split c.args.depth c.args.parser.now in
    first_of (search rules, grind (arith, common_steps))

pub branch-returns-in_err-wait : goal.branch-returns-in_err-wait
unfolding block_if_any
branch-returns-in_err-wait t c =
    let e = branch-split c.args.depth c.args.parser.now in
    first_of (search rules, grind (arith, common_steps))

pub branch-returns-in_err-block_in : goal.branch-returns-in_err-block_in
unfolding block_if_any
branch-returns-in_err-block_in t c =
    let e = branch-split c.args.depth c.args.parser.now in
    first_of (search rules, grind (arith, common_steps))

pub branch-returns-in_err-alternative : goal.branch-returns-in_err-alternative
unfolding block_if_any
branch-returns-in_err-alternative t c =
    let e = branch-split c.args.depth c.args.parser.now in
    first_of (search rules, grind (arith, common_steps))

pub branch-returns : goal.branch-returns
unfolding block_if_any
branch-returns t c =
    let e = branch-split c.args.depth c.args.parser.now in
    first_of (search rules, grind (arith, common_steps))
