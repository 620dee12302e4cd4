use Rattle.std.proofs.Common.{Some, IfSome, ap, option_map, refl, subst, sym, ◌∙◌}
use Rattle.step_snapshot.specs.Tests.{legend_by}
use Rattle.ttcn_step.proofs.FineLeads.{behind-is, plain-leads, well-behind}
use Rattle.ttcn_step.proofs.FineSteps.{taken-same}
use Rattle.ttcn_step.proofs.fine.step_plainly.Goals as goal
use Rattle.ttcn_step.specs.Machines.{Fits, machine_of, said}

pub returns-clause-leads : goal.returns-clause-leads
returns-clause-leads c =
    let t = c.args.test.now in
    let machine = machine_of t in (
      plain-leads machine c.args.going c.args.stored.items c.args.label.now c.in-Some.after c.in_ok-stored.stored.items (sym c.is_of_alt.ensures ∙ c.if-is_of_alt.false)
          (sym c.in_ok-after.ensures.behind ∙ ap (option_map (said machine)) c.in-Some.is) (c.in_ok-stored.ensures.noted (legend_by t))
          ∙ ap Some (behind-is machine c.in-Some.after c.behind.result.now _ c.behind.result.stored.items c.behind.ensures.now c.behind.ensures.stored),
      refl,
    )

pub returns-clause-well : goal.returns-clause-well
returns-clause-well c =
    let machine = machine_of c.args.test.now in
    well-behind machine c.in-Some.after c.behind.result.now c.in_ok-stored.stored.items c.behind.result.stored.items c.behind.ensures.now c.behind.ensures.stored
    (subst (λ o. IfSome o (Fits machine)) c.in-Some.is c.in_ok-after.ensures.fits)
    (taken-same machine c.args.stored.items c.in_ok-stored.stored.items c.in_ok-stored.ensures.taken c.requires.taken)
