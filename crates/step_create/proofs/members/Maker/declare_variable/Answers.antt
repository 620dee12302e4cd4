use Rattle.std.proofs.Common.{subst, sym, ap, ◌∙◌}
use Rattle.step_create.proofs.Declared.{forgotten}
use Rattle.step_create.proofs.members.Maker.declare_variable.Goals as goal
use Rattle.step_create.specs.Makers.{frame_for, legend_of, size_of}
use Rattle.semantics.specs.Creating as rules
use Rattle.step_snapshot.specs.Tests.{test_by}
use Rattle.config_parts.proofs.Naming.{make_legend}
use Rattle.config_parts.proofs.Within.{forget-keeps}
use Rattle.config_parts.specs.Views.{HasSlotsWithin}
use Rattle.config_parts.specs.declared.frame.Cells.{Cells}
use Rattle.value_types.specs.Outcomes.{Yields}

pub returns-in-None-clause-declared : goal.returns-in-None-clause-declared
returns-in-None-clause-declared c snapshot runs =
    let self = c.args.self.now in
    let t = self.test.now in
    ap (rules.declared_variable (test_by t) self.itself.now snapshot c.args.of (frame_for self c.args.cells) c.args.name.now) c.in-None.is
    ∙ ap Yields (forgotten (legend_of self) (make_legend t.graphs.lists t.names c.are_in_order.ensures) c.slot_of-slot.result c.args.cells c.forget.result c.args.name.now c.slot_of-slot.ensures.named c.forget.ensures)

pub returns-in-None-clause-within : goal.returns-in-None-clause-within
returns-in-None-clause-within c =
    let size = size_of c.args.self.now in
    subst (λ (cells : Cells). HasSlotsWithin size cells) (sym c.forget.ensures) (forget-keeps size c.slot_of-slot.result c.args.cells c.requires.within)
