use Rattle.std.proofs.Common.{◌≡◌, map, take}
use Rattle.graph_sites.specs.Facts.{branch_facts, event_by}
use Rattle.graph_sites.proofs.facts_at.facts_of_branches.Given as goal

abbrev pub invariant-loop-branch : goal.invariant-loop-branch
invariant-loop-branch l = map event_by l.facts ≡ map (branch_facts l.here.0 l.here.1) (take l.branch-index l.branches)
