use Rattle.std.proofs.Common.{◌≡◌, ◌-◌, ◌∙◌, arith, ap, sym, subst, get_or, [], Some}
use Rattle.std.proofs.lemmas.Option.{slice_get-get_or}
use Rattle.graph_numbers.specs.Lists.{lists_of}
use Rattle.graph_numbers.proofs.Cells.{at-cell, empty-there, has-cell}
use Rattle.graph_numbers.proofs.fixed.Fixed.first.Goals as goal

pub returns-then-at-eq0-clause-empty : goal.returns-then-at-eq0-clause-empty
returns-then-at-eq0-clause-empty g c = subst (λ n. get_or (lists_of c.args.self.now.cells.items) n [] ≡ []) (sym c.if-at-eq0.true) (empty-there c.args.self.now.cells.items)

pub index-cell-requires : goal.index-cell-requires
index-cell-requires g c =
    let within = has-cell c.args.self.now.cells.items c.args.at c.if-at-eq0.false c.requires in
    let is = c.args.self.now.cells.ok in
    omega (arith, within, is)

pub returns-clause-item : goal.returns-clause-item
returns-clause-item g c =
    let cell = c.index-cell.result.now in
    let cells = c.args.self.now.cells.items in
    let place = c.args.at - 1 in
    let there = slice_get-get_or cells place cell (has-cell cells c.args.at c.if-at-eq0.false c.requires) ∙ ap Some (sym c.index-cell.ensures) in
    at-cell cells c.args.self.now.rests c.args.at c.if-at-eq0.false cell there

pub returns-clause-before : goal.returns-clause-before
returns-clause-before g c =
    let cell = c.index-cell.result.now in
    let cells = c.args.self.now.cells.items in
    let place = c.args.at - 1 in
    let within = has-cell cells c.args.at c.if-at-eq0.false c.requires in
    let there = slice_get-get_or cells place cell within ∙ ap Some (sym c.index-cell.ensures) in
    let behind = c.args.self.now.rests place cell there in
    let some = c.if-at-eq0.false in
    omega (arith, behind, some)
