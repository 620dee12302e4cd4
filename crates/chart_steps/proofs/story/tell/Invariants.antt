use Rattle.std.proofs.Common.{◌≡◌, ◌+◌, drop, take}
use Rattle.chart_steps.specs.Stories.{AreTold, last_of}
use Rattle.semantics.specs.Runs as runs
use Rattle.ttcn_step.specs.Machines.{Fits, said}
use Rattle.chart_steps.proofs.story.tell.Given as goal

-- the labels so far are told, and what is left of the run leads from where they lead to where the run leads
abbrev pub invariant-loop-place : goal.invariant-loop-place
invariant-loop-place l = record {
  start : said l.machine l.start ≡ runs.start l.machine.test;
  leads : runs.replay_from l.machine.test (drop l.place l.run) (l.place + 1) (said l.machine (last_of l.start l.steps.items)) ≡ runs.replay l.machine.test l.run;
  told : AreTold l.machine l.start (take l.place l.run) l.steps.items;
  fits : Fits l.machine (last_of l.start l.steps.items);
}
