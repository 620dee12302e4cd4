use Rattle.std.proofs.Common.{sym, subst}
use Rattle.graph_numbers.specs.Lists.{AreDifferent, HaveRests, lists_of}
use Rattle.graph_numbers.proofs.lists.Lists.fix.Goals as goal

pub invariant_of-result : goal.invariant_of-result
invariant_of-result g c = record {
  rests = subst HaveRests (sym c.in_ok-cells.ensures) c.args.self.rests;
  differ = subst (λ cells. AreDifferent (lists_of cells)) (sym c.in_ok-cells.ensures) c.lists_differ.ensures;
}
