use Rattle.std.proofs.Common.{◌∙◌, ap, sym}
use Rattle.check_scope.specs.internal.Listings.{lets_pass}
use Rattle.check_scope.proofs.PortTypes.{Lists, types-end, types-next, types_after}
use Rattle.check_scope.proofs.type_listing.TypeSet.of.Goals as goal

pub loop-other-init : goal.loop-other-init
loop-other-init c = ap (λ (now : Lists). types_after now c.args.types.now) c.new-set.ensures

pub loop-other-preserved : goal.loop-other-preserved
loop-other-preserved c =
    sym (types-next (lets_pass c.loop-other.set) (lets_pass c.add.new.self) c.args.types.now c.loop-other.other-index c.loop-other-test.true c.in_ok-add.ensures)
    ∙ c.loop-other.invariant

pub returns : goal.returns
returns c = sym (types-end (lets_pass c.loop-other.set) c.args.types.now c.loop-other.other-index c.loop-other-test.false) ∙ c.loop-other.invariant
