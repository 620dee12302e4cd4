use Rattle.std.proofs.Common.{List, Some, ap, map, subst, sym, ◌≡◌, ◌∙◌}
use Rattle.std.specs.List.{flat_map}
use Rattle.std.specs.Result.{OnOk}
use Rattle.ttcn_syntax.specs.declared.tree.definition.DefinitionKind.{DefinitionKind}
use Rattle.ttcn_syntax.specs.declared.tree.definition.Parameter.{Parameter}
use Rattle.ttcn_syntax.specs.declared.tree.statement.Branch.{Branch}
use Rattle.graph_names.specs.Known.{names_of_branch, names_of_kind}
use Rattle.graph_names.specs.internal.Learning.{with_names}
use Rattle.graph_names.proofs.Learned.{added-too}
use Rattle.graph_names.proofs.known.Names.add_kind.Goals as goal

pub returns-in_ok-add_parameters-in-Altstep : goal.returns-in_ok-add_parameters-in-Altstep
returns-in_ok-add_parameters-in-Altstep c =
    let names = c.args.self.now in
    let between = c.add_parameters-in-Altstep.new.self in
    let new = c.add_branches.new.self in
    let parameters = map (λ (p : Parameter). p.name) c.in-Altstep.altstep.parameters in
    let branches = flat_map names_of_branch c.in-Altstep.altstep.branches in
    subst (λ (kind : DefinitionKind). OnOk c.add_branches.result (new ≡ with_names names (names_of_kind (Some kind)))) (sym c.in-Altstep.is)
    (added-too c.add_branches.result names between new parameters branches
    (c.in_ok-add_parameters-in-Altstep.ensures ∙ ap (λ (ps : List Parameter). with_names names (map (λ p. p.name) ps)) c.as_slice-in-Altstep.ensures)
    (subst (λ (bs : List Branch). OnOk c.add_branches.result (new ≡ with_names between (flat_map names_of_branch bs))) c.as_slice-in-Altstep-2.ensures c.add_branches.ensures))
