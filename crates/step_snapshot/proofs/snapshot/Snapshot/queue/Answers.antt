use Rattle.std.proofs.Common.{ap, ◌∙◌}
use Rattle.std.specs.Prelude.{bytes_eq}
use Rattle.std.specs.List.{find}
use Rattle.step_snapshot.specs.Tests.{legend_by}
use Rattle.step_snapshot.proofs.Entries.{queue-by}
use Rattle.step_snapshot.proofs.snapshot.Snapshot.queue.Goals as goal

pub returns : goal.returns
returns c =
    let legend = legend_by c.args.self.now.test.now in
    let name = c.args.name.now in
    queue-by legend name c.args.self.now.component.now.queues c.queue_named.result
    (c.queue_named.ensures ∙ ap (find (λ q. bytes_eq (legend.names q.port) name)) (c.as_slice.ensures ∙ c.deref.ensures))
