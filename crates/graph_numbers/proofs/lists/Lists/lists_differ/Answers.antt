use Rattle.graph_numbers.proofs.Cells.{cell-itself, differ}
use Rattle.graph_numbers.proofs.lists.Lists.lists_differ.Goals as goal

pub returns : goal.returns
returns g c = differ _ (cell-itself g.I.PartialEq.eq g.met.I.Eq.laws.refl) c.args.self.now.cells.keys c.args.self.now.rests c.len.ensures.unique
