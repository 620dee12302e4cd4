use Rattle.ttcnx_runs.proofs.sights.sight_runs.Given as goal

abbrev pub ghosts-sight_within : goal.ghosts-sight_within
ghosts-sight_within g a = record { machine = a.machine.now }
