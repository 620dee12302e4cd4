use Rattle.config_packed.proofs.Items.{names-put}
use Rattle.config_packed.proofs.whole.put_names.Goals as goal

pub returns : goal.returns
returns c =
    names-put c.args.components.now c.args.bytes.now.items c.put_long.new.bytes.items c.loop-component.bytes.items c.loop-component.component-index
    c.in_ok-put_long.ensures c.loop-component-test.false c.loop-component.invariant
