use Rattle.std.proofs.Common.{ap, sym, ◌∙◌}
use Rattle.ttcn_values.proofs.Plans.{plain-step, none-named}
use Rattle.ttcn_values.specs.internal.Readers.{read_by}
use Rattle.value_types.specs.Templates as spec
use Rattle.ttcn_values.proofs.reader.Reader.plan_expression.Goals as goal

pub returns : goal.returns
returns c =
    plain-step (read_by c.args.self.now) c.args.steps.now.items c.push.new.self.items c.in_ok-pattern.pattern (spec.template_of_expression (read_by c.args.self.now) c.args.expr.now (spec.template_named (read_by c.args.self.now) c.args.expr.now)) c.in_ok-push.ensures.items
    (ap (spec.template_of_expression (read_by c.args.self.now) c.args.expr.now) (sym c.template_named-named.ensures ∙ none-named c.template_named-named.result (sym c.if-is_some.ensures)) ∙ c.in_ok-pattern.ensures)
