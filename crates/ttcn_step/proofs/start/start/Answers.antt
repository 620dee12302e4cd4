use Rattle.std.proofs.Common.{◌≡◌}
use Rattle.semantics.specs.Runs as runs
use Rattle.step_snapshot.specs.Tests.{extent_of, test_by}
use Rattle.config_parts.specs.Views.{IsConfigWithin}
use Rattle.config_parts.specs.declared.config.Config.{Config}
use Rattle.ttcn_step.proofs.Following.{fits-start}
use Rattle.ttcn_step.proofs.Stepping.{ok-both}
use Rattle.ttcn_step.specs.Machines.{Fits, machine_of, said}
use Rattle.ttcn_step.proofs.start.start.Goals as goal

pub returns-clause-fits : goal.returns-clause-fits
returns-clause-fits c =
    let t = c.args.test.now in
    ok-both (λ (config : Config). said (machine_of t) config ≡ runs.start (test_by t)) (IsConfigWithin (extent_of t)) (Fits (machine_of t)) c.start.result
    (fits-start (machine_of t)) c.start.ensures.starts c.start.ensures.within
