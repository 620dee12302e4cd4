use Rattle.std.proofs.Common.{ap, sym, ◌∙◌, Some}
use Rattle.check_rules.specs.Expressions.{check_meaning}
use Rattle.check_scope.specs.Typings.{type_known}
use Rattle.check_scope.specs.declared.names.Meaning.TheVariants as meaning
use Rattle.semantics.specs.Sites.{scope_at}
use Rattle.graph_sites.proofs.Sites.{definitions-at, known-typed}
use Rattle.graph_sites.proofs.here.Here.type_of_name.Goals as goal

pub returns-in-Some-ModuleConstant : goal.returns-in-Some-ModuleConstant
returns-in-Some-ModuleConstant c =
    let scope = scope_at c.args.self.now.0 c.args.self.now.1 in
    let d = ap (λ v. v.0) c.self.view_is ∙ sym (definitions-at c.args.self.now.0 c.args.self.now.1) in
    let m = sym (ap Some c.in-Some-ModuleConstant.field-0-is) ∙ sym c.in-Some-ModuleConstant.is ∙ c.get.ensures in
    c.constants_type.ensures ∙ sym (known-typed _)
    ∙ ap (λ defs. type_known (check_meaning defs (Some (meaning.ModuleConstant c.in-Some-ModuleConstant.at c.in-Some-ModuleConstant.field-0-1))).typing) d
    ∙ ap (λ o. type_known (check_meaning scope.definitions o).typing) m
