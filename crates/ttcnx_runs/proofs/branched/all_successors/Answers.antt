use Rattle.std.proofs.Common.{◌≡◌, List, IfOk, Option, ap, subst, sym, ◌∙◌}
use Rattle.config_packed.specs.Pieces.{AreParts}
use Rattle.config_parts.specs.declared.config.Config.{Config}
use Rattle.search_ordinals.specs.Ordinals.{with_branch}
use Rattle.semantics.specs.Canonical.{canonical_graph}
use Rattle.semantics.specs.Configurations.{Configuration}
use Rattle.semantics.specs.Places.{branch_of}
use Rattle.semantics.specs.Labels.{labels}
use Rattle.ttcn_step.specs.Machines.{said}
use Rattle.ttcn_syntax.specs.declared.place.Span.{Span}
use Rattle.ttcnx_runs.proofs.Recalled.{state-fits, steps-lead}
use Rattle.ttcnx_runs.proofs.branched.all_successors.Goals as goal
use Rattle.ttcnx_runs.specs.internal.Recalls.{FitsState}

pub returns : goal.returns
returns g c =
    let machine = g.K.Scheme.machine in
    let config : Config = c.in_ok-config.config in
    let state : said machine config ≡ c.args.state.now = ap (said machine) c.in_ok-config.ensures ∙ c.state.view_is in
    subst (λ (pairs : List (Option Span × Configuration)). IfOk c.pairs_of.result (λ found. found.items ≡ pairs))
    (steps-lead machine config c.in_ok-steps.steps.items c.in_ok-steps.ensures.each
    ∙ ap (with_branch (branch_of machine.test) (canonical_graph machine.test) (said machine config)) c.in_ok-steps.ensures.enabled
    ∙ ap (λ (s : Configuration). with_branch (branch_of machine.test) (canonical_graph machine.test) s (labels machine.test s)) state)
    c.pairs_of.ensures

pub steps_worked_out-requires-clause-fits : goal.steps_worked_out-requires-clause-fits
steps_worked_out-requires-clause-fits g c =
    let machine = g.K.Scheme.machine in
    subst (FitsState machine) (sym c.in_ok-config.ensures) (state-fits machine c.state.inside.packed c.args.state.now c.state.invariant.1 c.state.view_is c.requires)

pub steps_worked_out-requires-clause-parts : goal.steps_worked_out-requires-clause-parts
steps_worked_out-requires-clause-parts g c = subst (λ (w : Config). AreParts w c.in_ok-parts.parts) (sym c.in_ok-config.ensures) c.in_ok-parts.ensures
