use Rattle.std.proofs.Common.{List, ap, ◌∙◌}
use Rattle.ttcn_syntax.specs.declared.tree.definition.Definition.{Definition}
use Rattle.graph_sites.specs.Facts.{altstep_facts}
use Rattle.step_choice.proofs.altstep.altstep_facts.Goals as goal

pub returns : goal.returns
returns c = c.altstep_facts.ensures ∙ ap (λ (definitions : List Definition). altstep_facts definitions c.args.at) c.args.test.now.same
