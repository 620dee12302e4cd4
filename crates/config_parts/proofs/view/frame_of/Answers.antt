use Rattle.config_parts.proofs.Viewed.{read-by}
use Rattle.config_parts.proofs.view.frame_of.Goals as goal

pub returns : goal.returns
returns c legend test snapshot are inner outer definitions mtc runs =
    read-by legend test snapshot
    (record {
      definitions = c.args.definitions;
      names = c.args.names;
      locals = c.as_slice.result;
      members = c.as_slice-2.result;
      local_timers = c.as_slice-3.result;
      member_timers = c.as_slice-4.result;
      running = c.args.running;
      itself = c.args.itself;
      mtc = c.args.mtc;
    })
    c.args.inner.now c.args.outer.now c.as_slice.ensures c.as_slice-2.ensures c.as_slice-3.ensures c.as_slice-4.ensures are inner outer definitions mtc runs
