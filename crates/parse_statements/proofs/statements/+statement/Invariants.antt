use Rattle.std.proofs.Common.{◌≡◌, ◌+◌, ◌-◌, ◌*◌, [], length}
use Rattle.parse_reader.specs.internal.Reading.{at_brace, ended, items_from}
use Rattle.parse_reader.specs.internal.Statements.{block_in, branch_by, conditional_by, else_ifs_from, else_ifs_onto, statement_by}
use Rattle.parse_statements.proofs.statements.+statement.Given as goal

abbrev pub decreases-block_in : goal.decreases-block_in
decreases-block_in l = l.depth * 16

abbrev pub decreases-statements : goal.decreases-statements
decreases-statements l = l.depth * 16 + 15

abbrev pub decreases-statement : goal.decreases-statement
decreases-statement l = l.depth * 16 + 14

abbrev pub decreases-action_behind : goal.decreases-action_behind
decreases-action_behind l = l.depth * 16 + 13

abbrev pub decreases-if_chain : goal.decreases-if_chain
decreases-if_chain l = l.depth * 16 + 12

abbrev pub decreases-else_ifs : goal.decreases-else_ifs
decreases-else_ifs l = l.depth * 16 + 11

abbrev pub decreases-conditional : goal.decreases-conditional
decreases-conditional l = l.depth * 16 + 10

abbrev pub decreases-branches_in : goal.decreases-branches_in
decreases-branches_in l = l.depth * 16 + 9

abbrev pub decreases-branch_items : goal.decreases-branch_items
decreases-branch_items l = l.depth * 16 + 8

abbrev pub decreases-branch : goal.decreases-branch
decreases-branch l = l.depth * 16 + 7

-- what was read so far and what is left are those of the beginning
abbrev pub invariant-statements-loop-turn : goal.invariant-statements-loop-turn
invariant-statements-loop-turn l =
    items_from at_brace (ended (statement_by (block_in l.depth))) (length l.fn.parser) [] l.fn.parser
    ≡ items_from at_brace (ended (statement_by (block_in l.depth))) (l._turn-end - l._turn) l.statements l.parser

abbrev pub invariant-branch_items-loop-turn : goal.invariant-branch_items-loop-turn
invariant-branch_items-loop-turn l =
    items_from at_brace (ended (branch_by (block_in l.depth))) (length l.fn.parser) [] l.fn.parser
    ≡ items_from at_brace (ended (branch_by (block_in l.depth))) (l._turn-end - l._turn) l.branches l.parser

abbrev pub invariant-else_ifs-loop-turn : goal.invariant-else_ifs-loop-turn
invariant-else_ifs-loop-turn l =
    else_ifs_onto (conditional_by (block_in l.depth)) l.fn.found l.fn.parser
    ≡ else_ifs_from (conditional_by (block_in l.depth)) (l._turn-end - l._turn) l.conditionals l.parser
