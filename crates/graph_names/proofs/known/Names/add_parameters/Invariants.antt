use Rattle.std.proofs.Common.{◌≡◌, map, drop}
use Rattle.ttcn_syntax.specs.declared.tree.definition.Parameter.{Parameter}
use Rattle.graph_names.specs.internal.Learning.{with_names}
use Rattle.graph_names.proofs.known.Names.add_parameters.Given as goal

abbrev pub invariant-loop-parameter : goal.invariant-loop-parameter
invariant-loop-parameter l = with_names l.self (map (λ (p : Parameter). p.name) (drop l.parameter-index l.parameters)) ≡ with_names l.fn.self (map (λ (p : Parameter). p.name) l.fn.parameters)
