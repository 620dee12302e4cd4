use Rattle.std.proofs.Common.{◌≡◌, subst, sym}
use Rattle.std.proofs.lemmas.Result.{IfOk-weaker}
use Rattle.step_create.proofs.Declared.{timer-added}
use Rattle.step_create.proofs.members.Maker.declare_timer.Goals as goal
use Rattle.step_create.specs.Makers.{frame_for, legend_of, size_of}
use Rattle.semantics.specs.Storing as storing
use Rattle.config_parts.proofs.Naming.{make_legend}
use Rattle.config_parts.proofs.Within.{timer-declared-keeps}
use Rattle.config_parts.specs.Views.{HasSlotsWithin}
use Rattle.config_parts.specs.declared.frame.Cells.{Cells}
use Rattle.config_parts.specs.internal.Stored as spec

pub returns-clause-declared : goal.returns-clause-declared
returns-clause-declared c =
    let self = c.args.self.now in
    let t = self.test.now in
    let slot = c.slot_of-slot.result in
    IfOk-weaker c.declare_timer.result (λ (new : Cells). new ≡ spec.declare_timer slot c.args.cells)
    (λ new. storing.declare_timer c.args.name.now (frame_for self c.args.cells) ≡ frame_for self new)
    (λ new done. timer-added (legend_of self) (make_legend t.graphs.lists t.names c.are_in_order.ensures) slot c.args.cells new c.args.name.now c.slot_of-slot.ensures.named done)
    c.declare_timer.ensures

pub returns-clause-within : goal.returns-clause-within
returns-clause-within c =
    let size = size_of c.args.self.now in
    let slot = c.slot_of-slot.result in
    IfOk-weaker c.declare_timer.result (λ (new : Cells). new ≡ spec.declare_timer slot c.args.cells) (HasSlotsWithin size)
    (λ new done. subst (λ (cells : Cells). HasSlotsWithin size cells) (sym done) (timer-declared-keeps size slot c.slot_of-slot.ensures.within c.args.cells c.requires.within))
    c.declare_timer.ensures
