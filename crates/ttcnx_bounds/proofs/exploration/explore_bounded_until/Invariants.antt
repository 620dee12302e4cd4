use Rattle.ttcnx_bounds.proofs.exploration.explore_bounded_until.Given as goal

abbrev pub ghosts-explore_kept : goal.ghosts-explore_kept
ghosts-explore_kept g a = record { machine = a.machine.now }
