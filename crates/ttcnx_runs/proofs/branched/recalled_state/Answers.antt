use Rattle.std.proofs.Common.{◌<◌, sym, subst}
use Rattle.std.specs.List.{AllZip}
use Rattle.config_parts.specs.declared.config.Config.{Config}
use Rattle.search_ordinals.specs.OrdinalLaws.{nth_below}
use Rattle.search_ordinals.specs.Sparing.{IsSparedAt}
use Rattle.search_ordinals.specs.Told.{IsNth}
use Rattle.semantics.specs.Canonical.{canonical_graph}
use Rattle.semantics.specs.Configurations as rules
use Rattle.semantics.specs.Labels.{labels}
use Rattle.semantics.specs.Places.{branch_of}
use Rattle.ttcn_step.specs.Machines.{said}
use Rattle.ttcnx_runs.proofs.Recalled.{if-some, state-fits}
use Rattle.ttcnx_runs.proofs.Zipped.{leads-at, zipped-long}
use Rattle.ttcnx_runs.proofs.branched.recalled_state.Goals as goal

pub recalled_states-requires-clause-is : goal.recalled_states-requires-clause-is
recalled_states-requires-clause-is g c = c.args.runs.now.is

pub recalled_states-requires-clause-fits : goal.recalled_states-requires-clause-fits
recalled_states-requires-clause-fits g c = state-fits g.K.Scheme.machine c.state.inside.packed c.args.state.now c.state.invariant.1 c.state.view_is c.requires.fits

pub nth_of-requires : goal.nth_of-requires
nth_of-requires g c =
    let machine = g.K.Scheme.machine in
    let state : Config = c.state.inside.packed in
    let zipped = if-some c.in_ok-found.found c.in-Some.pairs
    (λ pairs. AllZip (IsSparedAt (branch_of machine.test) (canonical_graph machine.test) (said machine state) 0 (said machine state)) (labels machine.test (said machine state)) pairs.items)
    c.in_ok-found.ensures c.in-Some.is in
    let label = c.requires.label in
    subst (λ n. c.args.nth < n) (zipped-long _ _ _ zipped)
    (nth_below (labels machine.test (said machine state)) c.args.nth label.0 (subst (λ (s : rules.Configuration). IsNth (labels machine.test s) c.args.nth label.0) (sym c.state.view_is) label.1))

pub returns-in-Some : goal.returns-in-Some
returns-in-Some g c label numbered =
    let machine = g.K.Scheme.machine in
    let state : Config = c.state.inside.packed in
    let zipped = if-some c.in_ok-found.found c.in-Some.pairs
    (λ pairs. AllZip (IsSparedAt (branch_of machine.test) (canonical_graph machine.test) (said machine state) 0 (said machine state)) (labels machine.test (said machine state)) pairs.items)
    c.in_ok-found.ensures c.in-Some.is in
    leads-at (branch_of machine.test) (canonical_graph machine.test) (said machine state) 0 c.args.state.now (labels machine.test c.args.state.now) c.in-Some.pairs.items c.args.nth label c.nth_of.result
    (subst (λ (s : rules.Configuration). AllZip (IsSparedAt (branch_of machine.test) (canonical_graph machine.test) (said machine state) 0 s) (labels machine.test s) c.in-Some.pairs.items) c.state.view_is zipped)
    numbered c.nth_of.ensures
