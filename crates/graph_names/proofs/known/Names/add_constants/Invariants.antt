use Rattle.std.proofs.Common.{◌≡◌, map, drop}
use Rattle.ttcn_syntax.specs.declared.tree.statement.Constant.{Constant}
use Rattle.graph_names.specs.internal.Learning.{with_names}
use Rattle.graph_names.proofs.known.Names.add_constants.Given as goal

abbrev pub invariant-loop-constant : goal.invariant-loop-constant
invariant-loop-constant l = with_names l.self (map (λ (c : Constant). c.name) (drop l.constant-index l.constants)) ≡ with_names l.fn.self (map (λ (c : Constant). c.name) l.fn.constants)
