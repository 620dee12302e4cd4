use Rattle.check_scope.specs.Names.{module_names}
use Rattle.check_statements.proofs.Insides.{fielded-end, fielded-first, fielded-next}
use Rattle.check_statements.proofs.kinds.check_fields.Goals as goal

pub loop-field-init : goal.loop-field-init
loop-field-init c =
    fielded-first (module_names c.args.scope.now.definitions.now) c.new-names.result c.args.fields.now c.nothing-broken.result c.new-names.ensures c.nothing-broken.ensures

pub loop-field-preserved : goal.loop-field-preserved
loop-field-preserved c =
    fielded-next (module_names c.args.scope.now.definitions.now) c.loop-field.names c.insert.new.self c.args.fields.now c.loop-field.field-index c.field-item.result c.in_ok-is_new.is_new
    c.loop-field.broken c.unless-named.result c.check_part-part.result c.and-broken.result _
    c.loop-field-test.true c.field-item.is (rw c.as_bytes.ensures at c.in_ok-is_new.ensures.is_new) (rw c.as_bytes.ensures at c.in_ok-is_new.ensures.behind)
    c.unless-named.ensures c.check_part-part.ensures (rw c.and.ensures at c.and-broken.ensures) c.loop-field.invariant

pub returns : goal.returns
returns c =
    fielded-end (module_names c.args.scope.now.definitions.now) c.loop-field.names c.args.fields.now c.loop-field.field-index c.loop-field.broken _ c.loop-field-test.false c.loop-field.invariant
