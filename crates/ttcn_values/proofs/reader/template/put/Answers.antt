use Rattle.std.proofs.Common.{refl}
use Rattle.ttcn_values.proofs.Plans.{plain-step}
use Rattle.value_types.specs.Outcomes.{Yields}
use Rattle.value_types.specs.Templates.{plain}
use Rattle.ttcn_values.proofs.reader.template.put.Goals as goal

pub returns : goal.returns
returns c reading = plain-step reading c.args.steps.now.items c.push.new.self.items c.args.pattern (Yields (plain c.args.pattern)) c.in_ok-push.ensures.items refl
