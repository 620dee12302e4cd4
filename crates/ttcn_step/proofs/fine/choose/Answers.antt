use Rattle.std.proofs.Common.{Some, None, IfSome, ap, option_map, subst, sym, ◌∙◌}
use Rattle.ttcn_step.proofs.FineLeads.{behind-is, choose-fate, choose-leads, choose-missing, choose-unstored, entry-fits, entry-found, well-behind, well-without}
use Rattle.ttcn_step.proofs.Found.{searched}
use Rattle.ttcn_step.proofs.fine.choose.Goals as goal
use Rattle.ttcn_step.specs.Machines.{Fits, machine_of, said}

pub returns-in_default-clause-leads : goal.returns-in_default-clause-leads
returns-in_default-clause-leads c =
    choose-missing (machine_of c.args.test.now) c.args.going c.args.stored.items c.args.path.now
    (searched c.args.path.now.numbers c.as_slice.result.now c.args.going.components c.component_of.result None c.component_of.ensures c.as_slice.ensures c.in_default.is)

pub returns-in_default-stored_at-clause-leads : goal.returns-in_default-stored_at-clause-leads
returns-in_default-stored_at-clause-leads c =
    choose-unstored (machine_of c.args.test.now) c.args.going c.args.stored.items c.args.path.now c.in-Some.component.now
    (searched c.args.path.now.numbers c.as_slice.result.now c.args.going.components c.component_of.result (Some c.in-Some.component) c.component_of.ensures c.as_slice.ensures c.in-Some.is)
    (entry-found c.args.path.now.numbers c.as_slice-2.result.now c.args.stored.items c.stored_at.result None c.stored_at.ensures c.as_slice-2.ensures.value c.in_default-stored_at.is)

pub choice-requires-clause-taken : goal.choice-requires-clause-taken
choice-requires-clause-taken c =
    entry-fits (machine_of c.args.test.now) c.args.path.now.numbers c.args.stored.items c.in-Some-stored_at.entry.now c.requires.taken
    (entry-found c.args.path.now.numbers c.as_slice-2.result.now c.args.stored.items c.stored_at.result (Some c.in-Some-stored_at.entry) c.stored_at.ensures c.as_slice-2.ensures.value c.in-Some-stored_at.is)

pub returns-in-Some-after-clause-leads : goal.returns-in-Some-after-clause-leads
returns-in-Some-after-clause-leads c =
    let machine = machine_of c.args.test.now in
    let path = c.args.path.now in
    let stored = c.args.stored.items in
    let entry = c.in-Some-stored_at.entry.now in
    let has = entry-found path.numbers c.as_slice-2.result.now stored c.stored_at.result (Some c.in-Some-stored_at.entry) c.stored_at.ensures c.as_slice-2.ensures.value c.in-Some-stored_at.is in (
      choose-leads machine c.args.going stored path c.in-Some.component.now entry (Some c.in-Some-after.after) c.without-others.result.items
          (searched path.numbers c.as_slice.result.now c.args.going.components c.component_of.result (Some c.in-Some.component) c.component_of.ensures c.as_slice.ensures c.in-Some.is)
          has c.without-others.ensures
          (ap (option_map (said machine)) (sym c.in-Some-after.is) ∙ c.in_ok-after.ensures.after)
          ∙ ap Some (behind-is machine c.in-Some-after.after c.behind-fine.result.now _ c.behind-fine.result.stored.items c.behind-fine.ensures.now c.behind-fine.ensures.stored),
      c.in_ok-after.ensures.fate ∙ choose-fate machine c.args.going stored path entry has,
    )

pub returns-in-Some-after-clause-well : goal.returns-in-Some-after-clause-well
returns-in-Some-after-clause-well c =
    let machine = machine_of c.args.test.now in
    well-behind machine c.in-Some-after.after c.behind-fine.result.now c.without-others.result.items c.behind-fine.result.stored.items c.behind-fine.ensures.now c.behind-fine.ensures.stored
    (subst (λ o. IfSome o (Fits machine)) c.in-Some-after.is c.in_ok-after.ensures.fits)
    (well-without machine c.args.stored.items c.without-others.result.items c.args.path.now.numbers c.without-others.ensures c.requires.taken)

pub returns-in-None-clause-leads : goal.returns-in-None-clause-leads
returns-in-None-clause-leads c =
    let machine = machine_of c.args.test.now in
    let path = c.args.path.now in
    let stored = c.args.stored.items in
    let entry = c.in-Some-stored_at.entry.now in
    let has = entry-found path.numbers c.as_slice-2.result.now stored c.stored_at.result (Some c.in-Some-stored_at.entry) c.stored_at.ensures c.as_slice-2.ensures.value c.in-Some-stored_at.is in (
      choose-leads machine c.args.going stored path c.in-Some.component.now entry None c.without-others.result.items
          (searched path.numbers c.as_slice.result.now c.args.going.components c.component_of.result (Some c.in-Some.component) c.component_of.ensures c.as_slice.ensures c.in-Some.is)
          has c.without-others.ensures
          (ap (option_map (said machine)) (sym c.in-None.is) ∙ c.in_ok-after.ensures.after),
      c.in_ok-after.ensures.fate ∙ choose-fate machine c.args.going stored path entry has,
    )

pub returns-in-None-clause-well : goal.returns-in-None-clause-well
returns-in-None-clause-well c = record {
  now = c.requires.now;
  taken = well-without (machine_of c.args.test.now) c.args.stored.items c.without-others.result.items c.args.path.now.numbers c.without-others.ensures c.requires.taken;
}
