use Rattle.std.proofs.Common.{◌≡◌, drop, map}
use Rattle.check_scope.specs.declared.names.Meaning.TheVariants as meaning
use Rattle.semantics.specs.Sites as sites
use Rattle.ttcn_graph.specs.Drafts.{at_site}
use Rattle.ttcn_graph.proofs.names.declare_variables.Given as goal

abbrev pub invariant-loop-variable : goal.invariant-loop-variable
invariant-loop-variable l =
    at_site (sites.site_behind l.draft.site (map (λ variable. (variable.name, meaning.Variable l.of)) (drop l.variable-index l.variable-items))) l.draft
    ≡ at_site (sites.site_behind l.fn.draft.site (map (λ variable. (variable.name, meaning.Variable l.of)) l.variable-items)) l.fn.draft
