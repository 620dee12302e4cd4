use Rattle.std.proofs.Common.{◌∙◌, ap}
use Rattle.check_scope.specs.Names.{Names}
use Rattle.check_scope.proofs.scope.Scope.in_module.Goals as goal

pub returns : goal.returns
returns c = c.get.ensures ∙ ap (λ (names : Names). names c.args.name.now) c.args.self.now.is_whole
