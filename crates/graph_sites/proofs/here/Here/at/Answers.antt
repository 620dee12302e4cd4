use Rattle.std.proofs.Common.{◌≡◌, ap, sym, subst, ◌∙◌}
use Rattle.std.specs.Option.{option_map}
use Rattle.check_scope.specs.internal.Checking.{view}
use Rattle.check_scope.specs.internal.Tables.{has}
use Rattle.semantics.specs.Sites.{behaviour_scope}
use Rattle.graph_sites.specs.internal.OwnNames.{is_one_of, is_parameter}
use Rattle.graph_sites.proofs.Sites.{at-beginning}
use Rattle.graph_sites.proofs.here.Here.at.Goals as goal

pub invariant_of-result : goal.invariant_of-result
invariant_of-result c =
    let k = c.kind_at-kind in
    let all = at-beginning (view c.args.scope).definitions c.args.behaviour (option_map (λ kind. kind.now) k.result) (option_map (λ name. name.now) c.component_name.result) c.component_named-runs_on.result
    (view c.go_to_behaviour.new.self) (view c.declare_parameters.new.scope) c.parameters_of.result.now
    k.ensures c.component_name.ensures c.component_named-runs_on.ensures c.go_to_behaviour.ensures c.parameters_of.ensures c.in_ok-declare_parameters.ensures in
    subst (λ d. (view c.declare_parameters.new.scope ≡ behaviour_scope d c.args.behaviour) × (has c.in_ok-parameters.parameters ≡ is_parameter d c.args.behaviour)) (sym all.1)
    (all.0, c.in_ok-parameters.ensures ∙ ap is_one_of (c.parameters_of-2.ensures ∙ sym c.parameters_of.ensures ∙ all.2))

pub returns : goal.returns
returns c =
    let k = c.kind_at-kind in
    let all = at-beginning (view c.args.scope).definitions c.args.behaviour (option_map (λ kind. kind.now) k.result) (option_map (λ name. name.now) c.component_name.result) c.component_named-runs_on.result
    (view c.go_to_behaviour.new.self) (view c.declare_parameters.new.scope) c.parameters_of.result.now
    k.ensures c.component_name.ensures c.component_named-runs_on.ensures c.go_to_behaviour.ensures c.parameters_of.ensures c.in_ok-declare_parameters.ensures in
    λ i. (all.1 i, record { behaviour = c.args.behaviour; declared = c.new.ensures i })
