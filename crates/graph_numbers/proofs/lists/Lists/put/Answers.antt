use Rattle.std.proofs.Common.{◌&&◌, nat_eq}
use Rattle.graph_numbers.specs.declared.lists.Cell.{Cell}
use Rattle.graph_numbers.proofs.Cells.{cell-is, cell-itself, is-put, rests-after}
use Rattle.graph_numbers.proofs.lists.Lists.put.Goals as goal

pub invariant_of-self : goal.invariant_of-self
invariant_of-self g c = record {
  rests = rests-after (λ a b. g.I.PartialEq.eq a.item b.item && nat_eq a.rest b.rest) c.args.self.now.cells.keys c.insert_full.new.self.keys
      (record { item = c.args.item; rest = c.args.rest }) c.insert_full.result c.args.self.now.rests c.requires c.insert_full.ensures.keys c.insert_full.ensures.err;
}

pub returns-clause-put : goal.returns-clause-put
returns-clause-put g c =
    let cell : Cell g.row.I.Denot = record { item = c.args.item; rest = c.args.rest } in
    let stored = c.in_ok-index.ensures.stored in
    let rests = rests-after (λ a b. g.I.PartialEq.eq a.item b.item && nat_eq a.rest b.rest) c.args.self.now.cells.keys c.insert_full.new.self.keys
    cell c.insert_full.result c.args.self.now.rests c.requires c.insert_full.ensures.keys c.insert_full.ensures.err in
    is-put (λ a b. g.I.PartialEq.eq a.item b.item && nat_eq a.rest b.rest) (cell-itself g.I.PartialEq.eq g.met.I.Eq.laws.refl) c.args.self.now.cells.keys c.insert_full.new.self.keys cell stored.0
    c.in_ok-index.index c.in_ok-index.ensures.keys rests c.requires stored.1 (cell-is g.I.PartialEq.eq g.met.I.Exact.exact cell stored.0 stored.2)
