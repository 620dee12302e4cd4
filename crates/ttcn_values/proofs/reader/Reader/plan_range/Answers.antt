use Rattle.ttcn_values.proofs.Plans.{plain-step}
use Rattle.ttcn_values.specs.internal.Readers.{read_by}
use Rattle.value_types.specs.Templates as spec
use Rattle.ttcn_values.proofs.reader.Reader.plan_range.Goals as goal

pub returns : goal.returns
returns c =
    plain-step (read_by c.args.self.now) c.args.steps.now.items c.push.new.self.items c.in_ok-range.range (spec.template_of_range (read_by c.args.self.now) c.args.low.now c.args.high.now) c.in_ok-push.ensures.items c.in_ok-range.ensures
