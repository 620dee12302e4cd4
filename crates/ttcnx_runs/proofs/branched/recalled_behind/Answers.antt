use Rattle.std.proofs.Common.{IfOk, ap, subst, sym, ◌∙◌}
use Rattle.std.specs.List.{AllZip}
use Rattle.std.specs.Prelude.{IfSome}
use Rattle.config_parts.specs.declared.config.Config.{Config}
use Rattle.search_ordinals.specs.Sparing.{IsSparedAt}
use Rattle.search_ordinals.specs.Told.{IsNth}
use Rattle.semantics.specs.Canonical.{canonical_graph}
use Rattle.semantics.specs.Configurations as rules
use Rattle.semantics.specs.Labels.{labels}
use Rattle.semantics.specs.Places.{branch_of}
use Rattle.ttcn_step.specs.Machines.{said}
use Rattle.ttcnx_runs.proofs.Recalled.{state-fits}
use Rattle.ttcnx_runs.proofs.branched.recalled_behind.Goals as goal

pub returns : goal.returns
returns g c =
    let machine = g.K.Scheme.machine in
    let before : Config = c.before-2.inside.packed in
    subst (λ (s : rules.Configuration). IfOk c.recalled_pairs.result (λ found. IfSome found (λ pairs. AllZip (IsSparedAt (branch_of machine.test) (canonical_graph machine.test) s c.args.nth c.args.state.now) (labels machine.test c.args.state.now) pairs.items)))
    c.before-2.view_is
    (subst (λ (s : rules.Configuration). IfOk c.recalled_pairs.result (λ found. IfSome found (λ pairs. AllZip (IsSparedAt (branch_of machine.test) (canonical_graph machine.test) (said machine before) c.args.nth s) (labels machine.test s) pairs.items)))
    c.state.view_is c.recalled_pairs.ensures)

pub recalled_pairs-requires-clause-fits : goal.recalled_pairs-requires-clause-fits
recalled_pairs-requires-clause-fits g c = state-fits g.K.Scheme.machine c.state.inside.packed c.args.state.now c.state.invariant.1 c.state.view_is c.requires.fits.0

pub recalled_pairs-requires-clause-fits_before : goal.recalled_pairs-requires-clause-fits_before
recalled_pairs-requires-clause-fits_before g c = state-fits g.K.Scheme.machine c.before-2.inside.packed c.args.before.now c.before-2.invariant.1 c.before-2.view_is c.requires.fits.1

pub recalled_pairs-requires-clause-is : goal.recalled_pairs-requires-clause-is
recalled_pairs-requires-clause-is g c = c.args.runs.now.is

pub recalled_pairs-requires-clause-behind : goal.recalled_pairs-requires-clause-behind
recalled_pairs-requires-clause-behind g c =
    let machine = g.K.Scheme.machine in
    let behind = c.requires.behind in (
      behind.0,
      subst (λ (s : rules.Configuration). IsNth (labels machine.test s) c.args.nth behind.0) (sym c.before-2.view_is) behind.1,
      c.state.view_is ∙ behind.2 ∙ ap (λ (s : rules.Configuration). (canonical_graph machine.test).after s behind.0) (sym c.before-2.view_is),
    )
