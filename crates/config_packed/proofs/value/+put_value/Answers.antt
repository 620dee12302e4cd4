use Rattle.config_packed.proofs.Values.{record-put}
use Rattle.config_packed.proofs.value.+put_value.Goals as goal

pub returns-after-loop-field : goal.returns-after-loop-field
returns-after-loop-field t c =
    record-put c.args.value.now c.in-Record.at c.len.result c.in-Record.fields c.as_slice-field-items.result.now c.args.bytes.now.items c.push-in-Record.new.self.items c.put_long-in-Record.new.bytes.items c.put_long-in-Record-2.new.bytes.items c.loop-field.bytes.items c.loop-field.field-index
    c.in-Record.is
    c.in_ok-push-in-Record.ensures.items
    c.in_ok-put_long-in-Record.ensures
    c.len.ensures
    c.in_ok-put_long-in-Record-2.ensures
    c.as_slice-field-items.ensures
    c.loop-field-test.false
    c.loop-field.invariant
