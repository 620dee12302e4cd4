use Rattle.std.proofs.Common.{ℕ, List, Option, ap, option_map}
use Rattle.step_snapshot.specs.Tests.{legend_by, test_by}
use Rattle.config_parts.specs.Legend.{going_by}
use Rattle.semantics.specs.Configurations as rules
use Rattle.step_arrivals.proofs.Delivering.{none-mapped}
use Rattle.ttcn_step.proofs.Told.{brings-unmapped}
use Rattle.ttcn_step.proofs.telling.sent_in.Goals as goal

pub returns-in-None : goal.returns-in-None
returns-in-None c =
    let t = c.args.test.now in
    let legend = legend_by t in
    brings-unmapped (test_by t) (going_by legend c.args.going.now) c.args.system_port.now
    (ap (λ (o : Option (List ℕ × rules.End)). option_map (λ m. m.1) o)
    (none-mapped legend t.names c.args.system_port.now c.slots_are_ordered.ensures.names c.in-None.ensures.missing c.args.going.now.links.mappings c.requires))
