use Rattle.std.proofs.Common.{◌≡◌, IfOk, subst}
use Rattle.semantics.specs.Canonical.{canonical_graph}
use Rattle.semantics.specs.Configurations as rules
use Rattle.ttcnx_runs.proofs.Recalled.{if-some, state-fits}
use Rattle.ttcnx_runs.proofs.branched.state_behind.Goals as goal

pub recalled_state-requires-clause-label : goal.recalled_state-requires-clause-label
recalled_state-requires-clause-label g c = (c.args.label.now, c.requires.nth)

pub next_state-requires-clause-is : goal.next_state-requires-clause-is
next_state-requires-clause-is g c = c.args.runs.now.is

pub next_state-requires-clause-fits : goal.next_state-requires-clause-fits
next_state-requires-clause-fits g c = state-fits g.K.Scheme.machine c.state.inside.packed c.args.state.now c.state.invariant.1 c.state.view_is c.requires.fits

pub returns-in-Some : goal.returns-in-Some
returns-in-Some g c =
    if-some c.in_ok-after.field-0 c.in-Some.after (λ after. after ≡ (canonical_graph g.K.Scheme.machine.test).after c.args.state.now c.args.label.now) (c.in_ok-after.ensures c.args.label.now c.requires.nth) c.in-Some.is

pub returns : goal.returns
returns g c =
    subst (λ (s : rules.Configuration). IfOk c.next_state.result (λ after. after ≡ (canonical_graph g.K.Scheme.machine.test).after s c.args.label.now)) c.state.view_is c.next_state.ensures
