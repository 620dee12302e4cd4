use Rattle.std.proofs.Common.{None, ap, if◌then◌else◌, sym, ◌∙◌}
use Rattle.check_scope.specs.Names.{module_names, port_type_meant}
use Rattle.graph_sites.proofs.MembersBehind.{type-behind}
use Rattle.graph_sites.proofs.ports.port_type_behind.Goals as goal

pub returns-then-any_declares : goal.returns-then-any_declares
returns-then-any_declares c =
    let names = module_names c.args.definitions.now in
    sym (type-behind names c.args.members.now c.args.name.now ∙ ap (λ b. if b then None else port_type_meant (names c.args.name.now)) (sym c.any_declares.ensures ∙ c.if-any_declares.true))

pub returns-else-any_declares : goal.returns-else-any_declares
returns-else-any_declares c =
    let names = module_names c.args.definitions.now in
    c.port_type_meant.ensures ∙ ap port_type_meant (c.meaning.ensures ∙ ap names c.as_bytes.ensures)
    ∙ sym (type-behind names c.args.members.now c.args.name.now ∙ ap (λ b. if b then None else port_type_meant (names c.args.name.now)) (sym c.any_declares.ensures ∙ c.if-any_declares.false))
