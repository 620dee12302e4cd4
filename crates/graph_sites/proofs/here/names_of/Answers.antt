use Rattle.std.proofs.Common.{ap, ◌∙◌, true, bytes_eq, if◌then◌else◌}
use Rattle.check_scope.specs.internal.Tables.{has}
use Rattle.graph_sites.proofs.Sites.{names-end, names-next}
use Rattle.graph_sites.proofs.here.names_of.Goals as goal

pub loop-parameter-preserved : goal.loop-parameter-preserved
loop-parameter-preserved c =
    names-next (has c.loop-parameter.names) (has c.insert.new.self) c.args.parameters.now c.loop-parameter.parameter-index c.parameter-item.result
    c.loop-parameter-test.true c.parameter-item.is
    (λ other. c.in_ok-insert.ensures.behind other ∙ ap (λ n. if bytes_eq n other then true else has c.loop-parameter.names other) c.as_bytes.ensures)
    c.loop-parameter.invariant

pub returns : goal.returns
returns c = names-end (has c.loop-parameter.names) c.args.parameters.now c.loop-parameter.parameter-index c.loop-parameter-test.false c.loop-parameter.invariant
