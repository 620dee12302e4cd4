use Rattle.std.proofs.Common.{List, ap, ◌∙◌}
use Rattle.ttcn_syntax.specs.declared.tree.definition.Definition.{Definition}
use Rattle.check_scope.specs.Names.{Names, module_names}
use Rattle.check_rules.proofs.definition_table.Definitions.meaning.Goals as goal

pub returns : goal.returns
returns c =
    c.get.ensures
    ∙ ap (λ (names : Names). names c.args.name.now) c.self.invariant
    ∙ ap (λ (definitions : List Definition). module_names definitions c.args.name.now) c.self.view_is
