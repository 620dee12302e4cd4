use Rattle.std.proofs.Common.{ap, sym, option_map}
use Rattle.semantics.specs.Steps.{settled}
use Rattle.step_snapshot.specs.Tests.{legend_by, test_by}
use Rattle.step_arrivals.proofs.Delivering.{no-delivery}
use Rattle.step_arrivals.proofs.delivery.delivery_named.Goals as goal

pub returns-in-None-clause-behind : goal.returns-in-None-clause-behind
returns-in-None-clause-behind c =
    let t = c.args.test.now in
    sym (ap (option_map settled) (no-delivery (legend_by t) t.names c.args.system_port.now c.slots_are_ordered.ensures.names c.in-None.ensures.missing (test_by t) c.args.going.now c.requires.all.mappings))
