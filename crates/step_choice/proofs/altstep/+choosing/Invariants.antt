use Rattle.std.proofs.Common.{◌≡◌, ◌+◌, ◌*◌, drop, map}
use Rattle.semantics.specs.Sites.{Site}
use Rattle.step_choice.proofs.Choosing.{first_of_branches}
use Rattle.step_choice.specs.internal.Judged.{test_of}
use Rattle.step_choice.proofs.altstep.+choosing.Given as goal
use Rattle.graph_sites.specs.Facts.{branch_facts, event_by}

-- altsteps are left to go through, and functions to call until the next one
abbrev pub decreases-choose_branches : goal.decreases-choose_branches
decreases-choose_branches l = l.levels * 8 + 5

abbrev pub decreases-choose_branch : goal.decreases-choose_branch
decreases-choose_branch l = l.levels * 8 + 4

abbrev pub decreases-choose_call : goal.decreases-choose_call
decreases-choose_call l = l.levels * 8 + 3

abbrev pub decreases-choose_called : goal.decreases-choose_called
decreases-choose_called l = l.levels * 8 + 2

abbrev pub decreases-choose_altstep : goal.decreases-choose_altstep
decreases-choose_altstep l = l.levels * 8 + 1

-- the choice among all branches is that among those to come
abbrev pub invariant-choose_branches-loop-way : goal.invariant-choose_branches-loop-way
invariant-choose_branches-loop-way l =
    (site : Site) → site.behaviour ≡ l.behaviour → map event_by l.facts ≡ map (branch_facts (test_of l.snapshot).definitions site) l.branches
    → first_of_branches l.snapshot l.levels site l.inner l.branches ≡ first_of_branches l.snapshot l.levels site l.inner (drop l.way l.branches)
