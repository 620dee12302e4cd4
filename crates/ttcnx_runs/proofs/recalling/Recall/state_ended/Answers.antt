use Rattle.std.proofs.Common.{◌≡◌, subst, sym}
use Rattle.config_packed.specs.Pieces.{joined_going}
use Rattle.config_parts.specs.Views.{IsConfigWithin}
use Rattle.config_parts.specs.declared.config.Config.TheVariants as config
use Rattle.config_parts.specs.declared.config.Going.{Going}
use Rattle.ttcn_step.specs.Machines.{extent, said}
use Rattle.ttcnx_runs.proofs.Parting.{can-join, not-known, within-joined}
use Rattle.ttcnx_runs.proofs.recalling.Recall.state_ended.Goals as goal
use Rattle.ttcnx_runs.specs.Schemes.{IsMachine}

pub invariant_of-result : goal.invariant_of-result
invariant_of-result g c =
    let machine = g.K.Scheme.machine in
    let is : IsMachine machine = subst IsMachine c.requires.is (record { lists = c.lists_and_names_differ.ensures.lists; names = c.lists_and_names_differ.ensures.names }) in
    let can = c.requires.can in
    let going = can.going in
    let at = c.args.at in
    let joins = can-join machine going at c.args.behind.now (c.requires.within going can.is) in
    let other : Going = joins.0 in
    let packed : c.in_ok-packed.packed ≡ config.Going (joined_going going at other) = c.in_ok-packed.ensures going other can.cut joins.1 joins.2 can.is in (
      is,
      subst (IsConfigWithin (extent machine)) (sym packed) (within-joined (extent machine) going at other (subst (IsConfigWithin (extent machine)) can.is can.state.within) joins.3),
      not-known machine.test (said machine c.in_ok-packed.packed),
      c.hash_of.ensures,
    )
