use Rattle.std.proofs.Common.{◌≡◌, sym, subst, true≢false, get_or, []}
use Rattle.graph_numbers.specs.Lists.{lists_of}
use Rattle.graph_numbers.proofs.Cells.{at-cell, empty-there, has-cell}
use Rattle.graph_numbers.proofs.lists.Lists.first.Goals as goal

pub returns-then-at-eq0-clause-empty : goal.returns-then-at-eq0-clause-empty
returns-then-at-eq0-clause-empty g c = subst (λ n. get_or (lists_of c.args.self.now.cells.keys) n [] ≡ []) (sym c.if-at-eq0.true) (empty-there c.args.self.now.cells.keys)

pub returns-in-Some-clause-item : goal.returns-in-Some-clause-item
returns-in-Some-clause-item g c =
    at-cell c.args.self.now.cells.keys c.args.self.now.rests c.args.at c.if-at-eq0.false c.in-Some.cell.now (sym c.in-Some.ensures.key)

pub returns-in-None-clause-empty : goal.returns-in-None-clause-empty
returns-in-None-clause-empty g c =
    absurd (true≢false (sym (c.in-None.ensures.found.1 (has-cell c.args.self.now.cells.keys c.args.at c.if-at-eq0.false c.requires))))
