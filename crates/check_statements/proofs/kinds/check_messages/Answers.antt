use Rattle.std.proofs.Common.{sym, ◌∙◌}
use Rattle.check_rules.specs.Definitions.{check_part}
use Rattle.check_scope.specs.Names.{module_names}
use Rattle.check_statements.proofs.Insides.{parts-end, parts-next}
use Rattle.check_statements.proofs.kinds.check_messages.Goals as goal

pub loop-type_name-preserved : goal.loop-type_name-preserved
loop-type_name-preserved c =
    let inside = rw c.as_slice-type_name-items.ensures at c.loop-type_name-test.true in
    let item = rw c.as_slice-type_name-items.ensures at c.type_name-item.is in
    sym (parts-next (check_part (module_names c.args.scope.now.definitions.now)) c.args.messages.now.types c.loop-type_name.type_name-index c.type_name-item.result
    c.loop-type_name.broken c.check_part.result c.and-broken.result inside item c.check_part.ensures c.and-broken.ensures)
    ∙ c.loop-type_name.invariant

pub returns : goal.returns
returns c =
    let past = rw c.as_slice-type_name-items.ensures at c.loop-type_name-test.false in
    sym (parts-end (check_part (module_names c.args.scope.now.definitions.now)) c.args.messages.now.types c.loop-type_name.type_name-index c.loop-type_name.broken past)
    ∙ c.loop-type_name.invariant
