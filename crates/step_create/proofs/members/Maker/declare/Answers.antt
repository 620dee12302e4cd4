use Rattle.std.proofs.Common.{subst, sym}
use Rattle.step_create.proofs.Declared.{declared-fails, declared-yields}
use Rattle.step_create.proofs.members.Maker.declare.Goals as goal
use Rattle.step_create.specs.Makers.{frame_for, legend_of, size_of}
use Rattle.semantics.specs.Creating as rules
use Rattle.step_snapshot.specs.Tests.{test_by}
use Rattle.config_parts.proofs.Naming.{make_legend}
use Rattle.config_parts.proofs.Within.{declare-keeps}
use Rattle.config_parts.specs.Views.{HasSlotsWithin}
use Rattle.config_parts.specs.declared.frame.Cells.{Cells}
use Rattle.value_types.proofs.Faults.{handed-on-by}
use Rattle.value_types.specs.Frames.{reading}
use Rattle.value_types.specs.Literals.{value_wanted}

pub returns-in_err-found-clause-declared : goal.returns-in_err-found-clause-declared
returns-in_err-found-clause-declared c snapshot runs =
    let self = c.args.self.now in
    let t = test_by self.test.now in
    handed-on-by (frame_for self) (value_wanted c.args.value.now (reading c.reads.result) c.args.of)
    (rules.declared_with t self.itself.now snapshot c.args.of (frame_for self c.args.cells) c.args.name.now c.args.value.now) c.in_err-found.field-0.0 c.from_residual.result c.from_residual.ensures.1 c.in_err-found.ensures
    (λ why fails. declared-fails t self.itself.now snapshot c.args.of (frame_for self c.args.cells) c.args.name.now c.args.value.now (reading c.reads.result) why (c.reads.ensures snapshot runs) fails)

pub returns-clause-declared : goal.returns-clause-declared
returns-clause-declared c snapshot runs =
    let self = c.args.self.now in
    let t = self.test.now in
    declared-yields (test_by t) self.itself.now snapshot c.args.of (legend_of self) (make_legend t.graphs.lists t.names c.are_in_order.ensures) c.slot_of-slot.result c.args.cells c.in_ok-declare.field-0 c.args.name.now c.args.value.now
    (reading c.reads.result) c.in_ok-found.found (c.reads.ensures snapshot runs) c.in_ok-found.ensures c.slot_of-slot.ensures.named c.in_ok-declare.ensures

pub returns-clause-within : goal.returns-clause-within
returns-clause-within c =
    let size = size_of c.args.self.now in
    subst (λ (cells : Cells). HasSlotsWithin size cells) (sym c.in_ok-declare.ensures)
    (declare-keeps size c.slot_of-slot.result c.in_ok-found.found c.slot_of-slot.ensures.within c.args.cells c.requires.within)
