use Rattle.std.proofs.Common.{◌≡◌, map}
use Rattle.laws_fine.specs.Holding.{noted}
use Rattle.config_parts.specs.Legend.{Legend}
use Rattle.ttcn_step.specs.declared.fine.Stored.{Stored}
use Rattle.ttcn_step.specs.internal.Fine.{held_by}
use Rattle.ttcn_step.proofs.fine.note_all.Given as goal

-- the label is noted in those so far
abbrev pub invariant-loop-entry : goal.invariant-loop-entry
invariant-loop-entry l = record {
  noted : (legend : Legend) → map (held_by legend) l.all.items ≡ map (noted l.label) (map (held_by legend) l.yielded);
  taken : map (λ (entry : Stored). entry.taken) l.all.items ≡ map (λ (entry : Stored). entry.taken) l.yielded;
}
