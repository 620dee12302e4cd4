use Rattle.step_snapshot.specs.Tests.{test_by}
use Rattle.ttcn_step.proofs.Doubling.{delivery-no-alt, expiry-no-alt}
use Rattle.ttcn_step.proofs.double.alt_of.Goals as goal
use Rattle.ttcn_step.specs.Machines.{machine_of, said}

pub returns-in-Expiry : goal.returns-in-Expiry
returns-in-Expiry c = expiry-no-alt (test_by c.args.test.now) (said (machine_of c.args.test.now) c.args.config.now) c.args.label.now _ _ _ c.in-Expiry.is

pub returns-in-Delivery : goal.returns-in-Delivery
returns-in-Delivery c = delivery-no-alt (test_by c.args.test.now) (said (machine_of c.args.test.now) c.args.config.now) c.args.label.now _ c.in-Delivery.is
