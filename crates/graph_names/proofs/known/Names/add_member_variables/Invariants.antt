use Rattle.std.proofs.Common.{◌≡◌, map, drop}
use Rattle.ttcn_syntax.specs.declared.tree.definition.MemberVariable.{MemberVariable}
use Rattle.graph_names.specs.internal.Learning.{with_names}
use Rattle.graph_names.proofs.known.Names.add_member_variables.Given as goal

abbrev pub invariant-loop-variable : goal.invariant-loop-variable
invariant-loop-variable l = with_names l.self (map (λ (v : MemberVariable). v.name) (drop l.variable-index l.variables)) ≡ with_names l.fn.self (map (λ (v : MemberVariable). v.name) l.fn.variables)
