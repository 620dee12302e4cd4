use Rattle.std.proofs.Common.{ap, ◌∙◌, ◌+◌}
use Rattle.graph_numbers.proofs.Cells.{count-lists}
use Rattle.graph_numbers.proofs.lists.Lists.len.Goals as goal

pub returns : goal.returns
returns g c = ap (λ n. n + 1) c.len.ensures.len ∙ count-lists c.args.self.now.cells.keys
