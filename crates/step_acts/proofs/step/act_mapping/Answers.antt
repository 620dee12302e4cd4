use Rattle.std.proofs.Common.{[], ◌∷◌}
use Rattle.step_forms.proofs.Forms.{does-Map}
use Rattle.step_forms.proofs.Standing.{first-known, known-there, second-known}
use Rattle.step_acts.proofs.step.act_mapping.Goals as goal
use Rattle.semantics.specs.Items.{Whole}
use Rattle.ttcn_syntax.specs.declared.tree.statement.Action.TheOpen.{Action-F}

pub act_map-requires-clause-port : goal.act_map-requires-clause-port
act_map-requires-clause-port c =
    let m = c.args.mapping.now in
    let s = c.args.stand.now in
    first-known ((s.snapshot.now).test.now).names m.port.port (m.system_port ∷ []) (known-there s Whole (Action-F.Map m) c.requires.whole (does-Map c.args.stand.now.statement.now c.args.mapping.now c.requires.does))

pub act_map-requires-clause-system : goal.act_map-requires-clause-system
act_map-requires-clause-system c =
    let m = c.args.mapping.now in
    let s = c.args.stand.now in
    second-known ((s.snapshot.now).test.now).names m.port.port m.system_port [] (known-there s Whole (Action-F.Map m) c.requires.whole (does-Map c.args.stand.now.statement.now c.args.mapping.now c.requires.does))
