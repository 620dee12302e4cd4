use Rattle.std.specs.List.{AllZip}
use Rattle.ttcnx.specs.Few.{IsFewestOutcome}
use Rattle.ttcnx.proofs.few.fewest_outcomes.Given as goal

abbrev pub invariant-loop-outcome : goal.invariant-loop-outcome
invariant-loop-outcome g l = AllZip (IsFewestOutcome l.machine.test l.patient l.plan.steps) l.yielded l.fewest.items
