use Rattle.std.proofs.Common.{◌≡◌, ◌≤◌, ℕ, leb, subst, sym}
use Rattle.std.proofs.lemmas.Bool.{leb-true}
use Rattle.config_parts.proofs.Naming.{make_legend}
use Rattle.config_parts.specs.Views.{IsConfigWithin}
use Rattle.config_parts.specs.declared.config.Config.{Config}
use Rattle.config_parts.specs.declared.config.Config.TheVariants as config
use Rattle.ttcn_step.specs.Machines.{extent, said}
use Rattle.ttcnx_runs.proofs.Parting.{still-goes-on-sent, within-sent}
use Rattle.ttcnx_runs.proofs.recalling.Recall.state_sending.Goals as goal
use Rattle.ttcnx_runs.specs.Going.{GoesOn}
use Rattle.ttcnx_runs.specs.Remembered.{sent_going}
use Rattle.ttcnx_runs.specs.Schemes.{IsMachine}

pub invariant_of-result : goal.invariant_of-result
invariant_of-result g c =
    let machine = g.K.Scheme.machine in
    let is : IsMachine machine = subst IsMachine c.requires.is (record { lists = c.lists_and_names_differ.ensures.lists; names = c.lists_and_names_differ.ensures.names }) in
    let can = c.requires.can in
    let going = can.going in
    let here = c.requires.here going can.is in
    let at = c.args.at in
    let own = c.args.own.now in
    let sending = c.args.sending.now in
    let behind : Config = config.Going (sent_going going at own sending) in
    let packed : c.in_ok-packed.packed ≡ behind = c.in_ok-packed.ensures going here.0 can.cut here.1 can.is in (
      is,
      subst (IsConfigWithin (extent machine)) (sym packed)
          (within-sent (extent machine) going at own sending (subst (IsConfigWithin (extent machine)) can.is can.state.within) (c.requires.within going can.is)),
      subst (λ (p : Config). GoesOn machine.test (said machine p) (leb 3 c.args.self.now.active)) (sym packed)
          (still-goes-on-sent machine (make_legend machine.lists machine.names is.names) going at here.0 own sending (leb 3 c.args.self.now.active) here.1
          (λ known. subst (λ (n : ℕ). 3 ≤ n) can.counted (leb-true 3 c.args.self.now.active known))),
      c.hash_of.ensures,
    )
