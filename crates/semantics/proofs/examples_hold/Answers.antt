use Rattle.semantics.proofs.Examples.{awaits-done, takes-done}
use Rattle.semantics.proofs.examples_hold.Goals as goal

pub returns-clause-done : goal.returns-clause-done
returns-clause-done c = takes-done

pub returns-clause-done_awaited : goal.returns-clause-done_awaited
returns-clause-done_awaited c = awaits-done
