use Rattle.std.proofs.Common.{map, ◌∙◌}
use Rattle.check_scope.specs.declared.names.Meaning.TheVariants as meaning
use Rattle.semantics.specs.Sites as sites
use Rattle.ttcn_graph.specs.Drafts.{at_site}
use Rattle.ttcn_graph.proofs.Growing.{declare-end, declare-next}
use Rattle.ttcn_graph.proofs.names.declare_variables.Goals as goal

pub loop-variable-preserved : goal.loop-variable-preserved
loop-variable-preserved c =
    declare-next (λ variable. (variable.name, meaning.Variable c.resolved-of.result)) c.loop-variable.draft c.declare.new.self (at_site (sites.site_behind c.args.draft.now.site (map (λ variable. (variable.name, meaning.Variable c.resolved-of.result)) c.as_slice-variable-items.result.now)) c.args.draft.now)
    c.as_slice-variable-items.result.now c.loop-variable.variable-index c.variable-item.result c.loop-variable-test.true c.variable-item.is c.in_ok-declare.ensures c.loop-variable.invariant

pub returns : goal.returns
returns c =
    declare-end (λ variable. (variable.name, meaning.Variable c.resolved-of.result)) c.loop-variable.draft (at_site (sites.site_behind c.args.draft.now.site (map (λ variable. (variable.name, meaning.Variable c.resolved-of.result)) c.as_slice-variable-items.result.now)) c.args.draft.now)
    c.as_slice-variable-items.result.now c.loop-variable.variable-index c.loop-variable-test.false c.loop-variable.invariant
    ∙ (λ i. at_site (sites.site_behind c.args.draft.now.site (map (λ variable. (variable.name, meaning.Variable (c.resolved-of.ensures i))) (c.as_slice-variable-items.ensures i))) c.args.draft.now)
