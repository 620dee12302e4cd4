use Rattle.std.proofs.Common.{map, ◌∙◌}
use Rattle.check_scope.specs.declared.names.Meaning.TheVariants as meaning
use Rattle.semantics.specs.Sites as sites
use Rattle.ttcn_graph.specs.Drafts.{at_site}
use Rattle.ttcn_graph.proofs.Growing.{declare-end, declare-next}
use Rattle.ttcn_graph.proofs.names.declare_constants.Goals as goal

pub loop-constant-preserved : goal.loop-constant-preserved
loop-constant-preserved c =
    declare-next (λ constant. (constant.name, meaning.Constant c.resolved-of.result)) c.loop-constant.draft c.declare.new.self (at_site (sites.site_behind c.args.draft.now.site (map (λ constant. (constant.name, meaning.Constant c.resolved-of.result)) c.as_slice-constant-items.result.now)) c.args.draft.now)
    c.as_slice-constant-items.result.now c.loop-constant.constant-index c.constant-item.result c.loop-constant-test.true c.constant-item.is c.in_ok-declare.ensures c.loop-constant.invariant

pub returns : goal.returns
returns c =
    declare-end (λ constant. (constant.name, meaning.Constant c.resolved-of.result)) c.loop-constant.draft (at_site (sites.site_behind c.args.draft.now.site (map (λ constant. (constant.name, meaning.Constant c.resolved-of.result)) c.as_slice-constant-items.result.now)) c.args.draft.now)
    c.as_slice-constant-items.result.now c.loop-constant.constant-index c.loop-constant-test.false c.loop-constant.invariant
    ∙ (λ i. at_site (sites.site_behind c.args.draft.now.site (map (λ constant. (constant.name, meaning.Constant (c.resolved-of.ensures i))) (c.as_slice-constant-items.ensures i))) c.args.draft.now)
