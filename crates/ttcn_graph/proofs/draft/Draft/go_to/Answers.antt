use Rattle.std.proofs.Common.{List, ap, map, sym, ◌∙◌}
use Rattle.ttcn_syntax.specs.declared.tree.definition.Definition.{Definition}
use Rattle.semantics.specs.Sites.{Site}
use Rattle.graph_sites.specs.Facts.{facts_of}
use Rattle.ttcn_graph.proofs.draft.Draft.go_to.Goals as goal

pub invariant_of-result : goal.invariant_of-result
invariant_of-result c = (
  c.no_names-declared.ensures.within,
  c.no_names-declared.ensures.empty ∙ sym (ap (λ (h : List Definition × Site). h.1.declared) c.in_ok-here.ensures),
  c.self.invariant.2 ∙ sym (ap (λ (h : List Definition × Site). map (facts_of h.0) c.self.inside.cells.1) c.in_ok-here.ensures),
)
