use Rattle.std.proofs.Common.{ap, ◌∙◌, map, ◌||◌, bytes_eq}
use Rattle.std.specs.List.{list_any}
use Rattle.ttcn_syntax.specs.declared.tree.template.FieldTemplate.{out-FieldTemplate}
use Rattle.check_expressions.proofs.Elements.{met-end, met-next}
use Rattle.check_expressions.proofs.template.names_of.Goals as goal

pub loop-part-init : goal.loop-part-init
loop-part-init c name = ap (λ b. b || list_any (bytes_eq name) (map (λ part. (out-FieldTemplate part).name) c.args.parts.now)) (c.new-names.ensures name)

pub loop-part-preserved : goal.loop-part-preserved
loop-part-preserved c name =
    met-next (λ part. (out-FieldTemplate part).name) c.loop-part.names c.insert.new.self c.args.parts.now c.loop-part.part-index c.part-item.result c.loop-part-test.true c.part-item.is
    (rw c.as_bytes.ensures at c.in_ok-insert.ensures.behind) name
    ∙ c.loop-part.invariant name

pub returns : goal.returns
returns c name =
    met-end (λ part. (out-FieldTemplate part).name) c.loop-part.names c.args.parts.now c.loop-part.part-index c.loop-part-test.false name ∙ c.loop-part.invariant name
