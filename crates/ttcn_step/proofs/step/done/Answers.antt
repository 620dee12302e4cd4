use Rattle.std.proofs.Common.{subst, sym}
use Rattle.config_parts.specs.Views.{IsGoingWithin}
use Rattle.config_parts.specs.declared.config.Going.{Going}
use Rattle.step_arrivals.proofs.Copied.{order-of-copy}
use Rattle.ttcn_step.proofs.Stepping.{copy-behind, copy-fails}
use Rattle.ttcn_step.proofs.step.done.Goals as goal

pub returns-in-Ok-clause-behind : goal.returns-in-Ok-clause-behind
returns-in-Ok-clause-behind c legend test is order gone =
    let copy = c.in_ok-copy.copy in
    let going = c.args.going.now in
    copy-behind legend test copy going c.in_ok-copy.ensures c.args.itself.now c.args.act c.in-Ok.after
    (c.in-Ok.ensures.leads legend test is (order-of-copy legend test copy going c.in_ok-copy.ensures order) gone)

pub returns-in-Ok-clause-within : goal.returns-in-Ok-clause-within
returns-in-Ok-clause-within c size all asked =
    c.in-Ok.ensures.within size (let P : Going → Type 0 = λ g. IsGoingWithin size g in subst P (sym c.in_ok-copy.ensures) all) asked

pub returns-in-Err-Dynamic-clause-behind : goal.returns-in-Err-Dynamic-clause-behind
returns-in-Err-Dynamic-clause-behind c legend test is order gone =
    let copy = c.in_ok-copy.copy in
    let going = c.args.going.now in
    copy-fails legend test copy going c.in_ok-copy.ensures c.args.itself.now c.args.act c.in-Err-Dynamic.field-0 c.in-Err-Dynamic.field-0-is
    (c.in-Err-Dynamic.ensures.leads legend test is (order-of-copy legend test copy going c.in_ok-copy.ensures order) gone)
