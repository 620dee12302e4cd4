use Rattle.std.proofs.Common.{◌∙◌, ap, reverse}
use Rattle.std.proofs.lemmas.Iterator.Adapters.{YieldsList-from_rev_slice}
use Rattle.std.proofs.lemmas.Iterator.Consumers.{YieldsList-end}
use Rattle.std.proofs.lemmas.List.{map-append, reverse-append, reverse-reverse}
use Rattle.parse_limits.proofs.Places.{finds-nothing, no-group-of-nothing, unopened-nothing}
use Rattle.parse_limits.proofs.limits.first_left_out.Goals as goal

pub loop-spanned-init : goal.loop-spanned-init
loop-spanned-init c = record { found = finds-nothing; unopened = rw c.new.ensures.items unopened-nothing; group = no-group-of-nothing }

pub loop-spanned-preserved : goal.loop-spanned-preserved
loop-spanned-preserved c = simp (map-append, reverse-append) (c.in_ok-step.ensures _ c.loop-spanned.invariant)

pub returns : goal.returns
returns c =
    let all = c.args.tokens.now in
    let gone_through = YieldsList-end (YieldsList-from_rev_slice all (cc)) c.loop-spanned.yielded _ c.loop-spanned.yielded_by _ _ c.in-None.is c.next.ensures.steps in
    rw (ap reverse gone_through.0 ∙ reverse-reverse all) at c.loop-spanned.invariant.found
