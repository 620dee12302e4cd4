use Rattle.ttcnx_runs.proofs.exploration.explore_runs_until.Given as goal

abbrev pub ghosts-explore_within : goal.ghosts-explore_within
ghosts-explore_within g a = record { machine = a.machine.now }
