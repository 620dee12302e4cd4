use Rattle.std.proofs.Common.{ap, length, ◌∙◌}
use Rattle.graph_numbers.specs.Lists.{lists_of}
use Rattle.ttcn_graph.proofs.ListsKept.{all-within-more, lists-kept, longer}
use Rattle.ttcn_graph.proofs.cells.Cells.declare.Goals as goal

pub invariant_of-self-2 : goal.invariant_of-self-2
invariant_of-self-2 c =
    let old = lists_of c.self.inside.sites.cells.keys in
    let new = lists_of c.put.new.self.cells.keys in
    all-within-more (length old) (length new) (longer old new c.in_ok-put.ensures.put.extended) (lists_of c.self.inside.items.cells.keys) c.self.invariant

pub returns-clause-lists : goal.returns-clause-lists
returns-clause-lists c =
    let old = lists_of c.self.inside.sites.cells.keys in
    let new = lists_of c.put.new.self.cells.keys in
    lists-kept old new c.in_ok-put.ensures.put.extended (lists_of c.self.inside.items.cells.keys) c.self.invariant ∙ ap (λ v. v.1) c.self.view_is
