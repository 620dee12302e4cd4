use Rattle.std.proofs.Common.{subst, sym}
use Rattle.semantics.specs.Steps.{Expiry}
use Rattle.step_snapshot.specs.Tests.{extent_of, legend_by, test_by}
use Rattle.config_parts.specs.Views.{IsGoingWithin}
use Rattle.config_parts.specs.declared.config.Going.{Going}
use Rattle.step_arrivals.proofs.Copied.{copy-expires, copy-rests, order-of-copy}
use Rattle.step_arrivals.proofs.expiry.expiry.Goals as goal

pub returns-then-branch-clause-behind : goal.returns-then-branch-clause-behind
returns-then-branch-clause-behind c =
    let legend = legend_by c.args.test.now in
    let test = test_by c.args.test.now in
    let copy = c.in_ok-copy.copy in
    let going = c.args.going.now in
    copy-expires legend test copy going c.in_ok-copy.ensures (Expiry c.args.path.now c.args.frame (legend.names c.args.timer)) c.expire.new.self c.in_ok-expire.field-0 c.if-branch.true
    (c.in_ok-expire.ensures.steps legend test c.slots_are_ordered.ensures.legend (order-of-copy legend test copy going c.in_ok-copy.ensures c.requires.ordered))

pub returns-then-branch-clause-within : goal.returns-then-branch-clause-within
returns-then-branch-clause-within c =
    let size = extent_of c.args.test.now in
    c.in_ok-expire.ensures.within size c.requires.within (let P : Going → Type 0 = λ g. IsGoingWithin size g in subst P (sym c.in_ok-copy.ensures) c.requires.all) c.if-branch.true

pub returns-else-branch-clause-behind : goal.returns-else-branch-clause-behind
returns-else-branch-clause-behind c =
    let legend = legend_by c.args.test.now in
    let test = test_by c.args.test.now in
    let copy = c.in_ok-copy.copy in
    let going = c.args.going.now in
    copy-rests legend test copy going c.in_ok-copy.ensures (Expiry c.args.path.now c.args.frame (legend.names c.args.timer)) c.expire.new.self c.in_ok-expire.field-0 c.if-branch.false
    (c.in_ok-expire.ensures.steps legend test c.slots_are_ordered.ensures.legend (order-of-copy legend test copy going c.in_ok-copy.ensures c.requires.ordered))
