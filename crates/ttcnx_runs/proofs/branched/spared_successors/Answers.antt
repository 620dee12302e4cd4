use Rattle.std.proofs.Common.{Some, ap, map, subst, sym, ◌∙◌}
use Rattle.std.specs.List.{AllZip}
use Rattle.search_ordinals.specs.Sparing.{IsSparedAt}
use Rattle.semantics.specs.Canonical.{canonical_graph}
use Rattle.semantics.specs.Labels.{labels}
use Rattle.semantics.specs.Places.{branch_of}
use Rattle.ttcnx_runs.proofs.Parts.{if-ok}
use Rattle.ttcnx_runs.proofs.Zipped.{none-spared}
use Rattle.ttcnx_runs.proofs.branched.spared_successors.Goals as goal

pub returns : goal.returns
returns g c =
    let machine = g.K.Scheme.machine in
    if-ok c.with_all_states.result _
    (λ found. AllZip (IsSparedAt (branch_of machine.test) (canonical_graph machine.test) c.args.before.now c.args.nth c.args.state.now) (labels machine.test c.args.state.now) found.items) c.with_all_states.ensures
    (λ found is.
    subst (AllZip (IsSparedAt (branch_of machine.test) (canonical_graph machine.test) c.args.before.now c.args.nth c.args.state.now) (labels machine.test c.args.state.now))
    (sym (is ∙ ap (map (λ pair. (pair.0, Some pair.1))) c.in_ok-all_successors.ensures))
    (none-spared (branch_of machine.test) (canonical_graph machine.test) c.args.before.now c.args.nth c.args.state.now (labels machine.test c.args.state.now)))

pub all_successors-requires : goal.all_successors-requires
all_successors-requires g c = c.requires.fits.0
