use Rattle.std.proofs.Common.{arith}
use Rattle.graph_numbers.proofs.Cells.{count-lists, empty-there}
use Rattle.graph_numbers.proofs.fixed.Fixed.empty.Goals as goal

pub returns-clause-within : goal.returns-clause-within
returns-clause-within g c = let all = count-lists c.args.self.now.cells.items in omega (arith, all)

pub returns-clause-empty : goal.returns-clause-empty
returns-clause-empty g c = empty-there c.args.self.now.cells.items
