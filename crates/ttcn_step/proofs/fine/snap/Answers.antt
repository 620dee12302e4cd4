use Rattle.std.proofs.Common.{Some, None, ap, refl, sym, ◌∙◌}
use Rattle.ttcn_step.proofs.FineLeads.{entry-there, snap-again, snap-elsewhere, snap-leads, snap-missing, snapped-is, well-snapped}
use Rattle.ttcn_step.proofs.Found.{searched}
use Rattle.ttcn_step.proofs.fine.snap.Goals as goal
use Rattle.ttcn_step.specs.Machines.{machine_of}

pub returns-in_default-clause-leads : goal.returns-in_default-clause-leads
returns-in_default-clause-leads c =
    snap-missing (machine_of c.args.test.now) c.args.going c.args.stored.items c.args.path.now
    (searched c.args.path.now.numbers c.as_slice.result.now c.args.going.components c.component_of.result None c.component_of.ensures c.as_slice.ensures c.in_default.is)

pub returns-then-not-stands_at_alt-clause-leads : goal.returns-then-not-stands_at_alt-clause-leads
returns-then-not-stands_at_alt-clause-leads c =
    snap-elsewhere (machine_of c.args.test.now) c.args.going c.args.stored.items c.args.path.now c.in-Some.component.now
    (searched c.args.path.now.numbers c.as_slice.result.now c.args.going.components c.component_of.result (Some c.in-Some.component) c.component_of.ensures c.as_slice.ensures c.in-Some.is)
    (sym c.stands_at_alt.ensures ∙ c.if-not-stands_at_alt.true)

pub returns-then-is_some-clause-leads : goal.returns-then-is_some-clause-leads
returns-then-is_some-clause-leads c =
    snap-again (machine_of c.args.test.now) c.args.going c.args.stored.items c.args.path.now c.in-Some.component.now
    (searched c.args.path.now.numbers c.as_slice.result.now c.args.going.components c.component_of.result (Some c.in-Some.component) c.component_of.ensures c.as_slice.ensures c.in-Some.is)
    (entry-there c.args.path.now.numbers c.as_slice-2.result.now c.args.stored.items c.stored_at.result c.is_some.result c.stored_at.ensures c.as_slice-2.ensures.value c.is_some.ensures ∙ c.if-is_some.true)

pub returns-clause-leads : goal.returns-clause-leads
returns-clause-leads c = (
  snap-leads (machine_of c.args.test.now) c.args.going c.args.stored.items c.args.path.now c.in-Some.component.now
      (searched c.args.path.now.numbers c.as_slice.result.now c.args.going.components c.component_of.result (Some c.in-Some.component) c.component_of.ensures c.as_slice.ensures c.in-Some.is)
      (sym c.stands_at_alt.ensures ∙ c.if-not-stands_at_alt.false)
      (entry-there c.args.path.now.numbers c.as_slice-2.result.now c.args.stored.items c.stored_at.result c.is_some.result c.stored_at.ensures c.as_slice-2.ensures.value c.is_some.ensures ∙ c.if-is_some.false)
      ∙ ap Some
      (snapped-is (machine_of c.args.test.now) c.args.going c.args.stored.items c.insert.new.self.items c.args.path.now
      (record { path = c.in_ok-try_clone.field-0; taken = c.in_ok-taken.taken; since = c.new.result })
      c.in_ok-insert.ensures.items c.in_ok-try_clone.ensures c.in_ok-taken.ensures c.new.ensures.items),
  refl,
)

pub returns-clause-well : goal.returns-clause-well
returns-clause-well c =
    well-snapped (machine_of c.args.test.now) c.args.going c.args.stored.items c.insert.new.self.items
    (record { path = c.in_ok-try_clone.field-0; taken = c.in_ok-taken.taken; since = c.new.result })
    c.in_ok-insert.ensures.items c.in_ok-taken.ensures c.requires.now c.requires.taken
