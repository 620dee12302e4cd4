use Rattle.std.proofs.Common.{arith}
use Rattle.graph_numbers.proofs.Cells.{count-lists}
use Rattle.graph_numbers.proofs.fixed.Fixed.len.Goals as goal

pub returns : goal.returns
returns g c =
    let all = count-lists c.args.self.now.cells.items in
    let len = c.len.ensures in
    let is = c.args.self.now.cells.ok in
    omega (arith, all, len, is)
