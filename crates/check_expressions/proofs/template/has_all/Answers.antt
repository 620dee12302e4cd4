use Rattle.std.proofs.Common.{map}
use Rattle.ttcn_syntax.specs.declared.tree.template.FieldTemplate.{out-FieldTemplate}
use Rattle.check_expressions.proofs.Elements.{each-has}
use Rattle.check_expressions.proofs.template.has_all.Goals as goal

pub returns : goal.returns
returns c =
    rw c.in-Some.is (each-has c.in_ok-names.names c.in-Some.fields.now (map (λ part. (out-FieldTemplate part).name) c.args.parts.now) c.has_each.result c.has_each.ensures c.in_ok-names.ensures)
