use Rattle.std.proofs.Common.{sym, subst}
use Rattle.std.specs.List.{Contains}
use Rattle.graph_numbers.specs.Names.{AreInOrder}
use Rattle.graph_numbers.proofs.Ordered.{in-order}
use Rattle.graph_numbers.proofs.names.Names.of.Goals as goal

pub returns : goal.returns
returns c name has = subst (λ names. Contains names name) (sym c.in_ok-names.ensures) (c.in_ok-set.ensures name has)

pub invariant_of-result : goal.invariant_of-result
invariant_of-result c = subst AreInOrder (sym c.in_ok-names.ensures) (in-order c.in_ok-set.set.keys c.len-count.ensures.ordered)
