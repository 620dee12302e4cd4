use Rattle.std.proofs.Common.{ap, sym, subst, ◌∙◌}
use Rattle.ttcnx_runs.proofs.GoingOn.{goes-on}
use Rattle.ttcnx_runs.proofs.runs.state_of.Goals as goal
use Rattle.ttcnx_runs.specs.Schemes.{IsMachine}
use Rattle.config_parts.specs.Views.{IsConfigWithin}
use Rattle.ttcn_step.specs.Machines.{Machine, extent, legend, said}

pub invariant_of-result : goal.invariant_of-result
invariant_of-result g c =
    let machine = g.K.Scheme.machine in (
      subst IsMachine c.requires.is (record { lists = c.lists_and_names_differ.ensures.lists; names = c.lists_and_names_differ.ensures.names }),
      subst (IsConfigWithin (extent machine)) (sym c.in_ok-packed.ensures)
          (c.in_ok-config.ensures.within (extent machine) (subst (λ (m : Machine). IsConfigWithin (extent m) c.args.config) c.requires.is (c.requires.fits).within)),
      goes-on c.args.machine.now machine c.requires.is c.args.config c.in_ok-packed.packed c.in_ok-goes_on.field-0 c.in_ok-goes_on.ensures
          (ap (said machine) c.in_ok-packed.ensures ∙ c.in_ok-config.ensures.live (legend machine)),
      c.hash_of.ensures,
    )
