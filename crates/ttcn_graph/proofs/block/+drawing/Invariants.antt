use Rattle.std.proofs.Common.{[], ◌+◌, ◌*◌, ◌++◌, get_or, map, take}
use Rattle.ttcn_graph.specs.Drafts.{AreDrawn}
use Rattle.ttcn_graph.specs.Ways.{items_of_branch}
use Rattle.ttcn_graph.proofs.Growing.{BlockLeft, ChainLeft}
use Rattle.ttcn_graph.proofs.block.+drawing.Given as goal

-- what is left of the tree, and how far its parts were handed on
abbrev pub decreases-draw_block : goal.decreases-draw_block
decreases-draw_block l = 8 * goal.size-draw_block l + 2

abbrev pub decreases-draw_block_if_any : goal.decreases-draw_block_if_any
decreases-draw_block_if_any l = 8 * goal.size-draw_block_if_any l + 3

abbrev pub decreases-draw_branch : goal.decreases-draw_branch
decreases-draw_branch l = 8 * goal.size-draw_branch l + 4

abbrev pub decreases-draw_branches : goal.decreases-draw_branches
decreases-draw_branches l = 8 * goal.size-draw_branches l + 5

abbrev pub decreases-draw_alt : goal.decreases-draw_alt
decreases-draw_alt l = 8 * goal.size-draw_alt l + 6

abbrev pub decreases-draw_condition : goal.decreases-draw_condition
decreases-draw_condition l = 8 * goal.size-draw_condition l + 3

abbrev pub decreases-draw_conditions : goal.decreases-draw_conditions
decreases-draw_conditions l = 8 * goal.size-draw_conditions l + 4

abbrev pub decreases-draw_while : goal.decreases-draw_while
decreases-draw_while l = 8 * goal.size-draw_while l + 3

abbrev pub decreases-draw_do_while : goal.decreases-draw_do_while
decreases-draw_do_while l = 8 * goal.size-draw_do_while l + 3

abbrev pub decreases-draw_loop : goal.decreases-draw_loop
decreases-draw_loop l = 8 * goal.size-draw_loop l + 3

abbrev pub decreases-draw_for : goal.decreases-draw_for
decreases-draw_for l = 8 * goal.size-draw_for l + 4

abbrev pub decreases-draw_whole : goal.decreases-draw_whole
decreases-draw_whole l = 8 * goal.size-draw_whole l

abbrev pub decreases-draw_statement : goal.decreases-draw_statement
decreases-draw_statement l = 8 * goal.size-draw_statement l + 1

abbrev pub invariant-draw_block-loop-place : goal.invariant-draw_block-loop-place
invariant-draw_block-loop-place l = BlockLeft l.fn.draft l.draft l.body (get_or l.fn.draft.lists l.rest []) l.at l.place

abbrev pub invariant-draw_branches-loop-branch : goal.invariant-draw_branches-loop-branch
invariant-draw_branches-loop-branch l =
    AreDrawn l.fn.draft l.draft l.ways (map (λ branch. items_of_branch l.fn.draft.definitions l.fn.draft.site branch ++ get_or l.fn.draft.lists l.rest []) (take l.branch-index l.branches))

abbrev pub invariant-draw_conditions-loop-place : goal.invariant-draw_conditions-loop-place
invariant-draw_conditions-loop-place l = ChainLeft l.fn.draft l.draft l.statement l.rest l.conditionals l.last l.failed l.place
