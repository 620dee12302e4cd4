use Rattle.std.proofs.Common.{◌≡◌, drop, map}
use Rattle.check_scope.specs.declared.names.Meaning.TheVariants as meaning
use Rattle.semantics.specs.Sites as sites
use Rattle.ttcn_graph.specs.Drafts.{at_site}
use Rattle.ttcn_graph.proofs.names.declare_constants.Given as goal

abbrev pub invariant-loop-constant : goal.invariant-loop-constant
invariant-loop-constant l =
    at_site (sites.site_behind l.draft.site (map (λ constant. (constant.name, meaning.Constant l.of)) (drop l.constant-index l.constant-items))) l.draft
    ≡ at_site (sites.site_behind l.fn.draft.site (map (λ constant. (constant.name, meaning.Constant l.of)) l.constant-items)) l.fn.draft
