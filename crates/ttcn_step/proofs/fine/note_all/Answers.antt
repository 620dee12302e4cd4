use Rattle.laws_fine.specs.Holding.{noted}
use Rattle.ttcn_step.proofs.Noted.{map-more, map-same-more}
use Rattle.ttcn_step.specs.declared.fine.Stored.{Stored}
use Rattle.ttcn_step.specs.internal.Fine.{held_by}
use Rattle.ttcn_step.proofs.fine.note_all.Goals as goal

pub loop-entry-preserved : goal.loop-entry-preserved
loop-entry-preserved c = record {
  noted = λ legend. map-more (held_by legend) (noted c.args.label.now) (held_by legend) c.loop-entry.all.items c.push.new.self.items c.loop-entry.yielded c.in_ok-note.field-0 c.in-Some.entry
      c.in_ok-push.ensures.items (c.in_ok-note.ensures.noted legend) (c.loop-entry.invariant.noted legend);
  taken = map-same-more (λ (entry : Stored). entry.taken) (λ (entry : Stored). entry.taken) c.loop-entry.all.items c.push.new.self.items c.loop-entry.yielded c.in_ok-note.field-0 c.in-Some.entry
      c.in_ok-push.ensures.items c.in_ok-note.ensures.taken c.loop-entry.invariant.taken;
}
