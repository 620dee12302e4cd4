use Rattle.std.proofs.Common.{◌+◌, ◌*◌}
use Rattle.chart_causes.proofs.scene.Scene.+judging.Given as goal

-- altsteps are left to go through, and functions to call until the next one
abbrev pub decreases-judge_branches : goal.decreases-judge_branches
decreases-judge_branches l = l.levels * 4 + 3

abbrev pub decreases-judge_branch : goal.decreases-judge_branch
decreases-judge_branch l = l.levels * 4 + 2

abbrev pub decreases-judge_call : goal.decreases-judge_call
decreases-judge_call l = l.levels * 4 + 1

abbrev pub decreases-judge_altstep : goal.decreases-judge_altstep
decreases-judge_altstep l = l.levels * 4
