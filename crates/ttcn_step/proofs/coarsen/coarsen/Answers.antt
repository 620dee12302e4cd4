use Rattle.std.proofs.Common.{ap, map, subst, sym, ◌∙◌}
use Rattle.laws_fine.specs.Gathering.{gathered}
use Rattle.ttcn_step.proofs.Coarsening.{coarsens-ended, coarsens-err, coarsens-open}
use Rattle.ttcn_step.proofs.Doubling.{as-error}
use Rattle.ttcn_step.proofs.coarsen.coarsen.Goals as goal
use Rattle.ttcn_step.specs.FineAnswers.{Coarsens, HasEnded}
use Rattle.ttcn_step.specs.Machines.{machine_of, said}
use Rattle.step_coarse.specs.Fates.{told_by}
use Rattle.ttcn_step.specs.internal.Fine.{holding_of}

pub returns-in_err-fine : goal.returns-in_err-fine
returns-in_err-fine c =
    let machine = machine_of c.args.test.now in
    let labels = c.args.labels.now in
    as-error c.from_residual.result c.in_err-fine.field-0.0 (Coarsens machine labels) c.from_residual.ensures.0 c.from_residual.ensures.1
    (coarsens-err machine labels c.in_err-fine.field-0.0 c.breaks_no_rule.ensures c.in_err-fine.ensures)

pub returns-in-Ended : goal.returns-in-Ended
returns-in-Ended c =
    let machine = machine_of c.args.test.now in
    let fine = c.in_ok-fine.field-0.fine in
    let told = c.in_ok-fine.field-0.told in
    coarsens-ended machine c.args.labels.now c.in_ok-gather-in-Ended.field-0 (holding_of machine fine.now fine.stored.items) (map told_by told.items) c.breaks_no_rule.ensures c.in_ok-fine.ensures
    (subst (λ now. HasEnded (said machine now)) (sym c.in-Ended.is) tt)
    (c.in_ok-gather-in-Ended.ensures ∙ ap (λ ts. gathered (map told_by ts)) c.as_slice.ensures.value)

pub returns : goal.returns
returns c =
    let machine = machine_of c.args.test.now in
    let fine = c.in_ok-fine.field-0.fine in
    coarsens-open machine c.args.labels.now (holding_of machine fine.now fine.stored.items) (map told_by c.in_ok-fine.field-0.told.items) c.breaks_no_rule.ensures c.in_ok-fine.ensures
    (λ ended. subst (λ now. HasEnded (said machine now)) c.in-Going.is ended)
