use Rattle.std.proofs.Common.{true}
use Rattle.std.proofs.lemmas.Result.{on_ok_weaker}
use Rattle.config_parts.proofs.Stored.{stored, declare-alike}
use Rattle.config_parts.proofs.Within.{stored-within, declare-keeps}
use Rattle.config_parts.proofs.frame.Data.declare.Goals as goal

pub returns-clause-changed : goal.returns-clause-changed
returns-clause-changed c legend is =
    on_ok_weaker c.put_cells.result
    (stored legend _ _ (declare-alike legend is c.args.slot c.args.value) true c.args.self.now c.take_cells.new.self c.put_cells.new.self c.in_ok-taken.taken c.in_ok-cells.cells
    c.in_ok-taken.ensures.taken c.in_ok-taken.ensures.left c.in_ok-cells.ensures)
    c.put_cells.ensures

pub returns-clause-within : goal.returns-clause-within
returns-clause-within c size less all =
    on_ok_weaker c.put_cells.result
    (λ put. stored-within size _ (declare-keeps size.names c.args.slot c.args.value less) true c.args.self.now c.take_cells.new.self c.put_cells.new.self c.in_ok-taken.taken c.in_ok-cells.cells
    c.in_ok-taken.ensures.taken c.in_ok-taken.ensures.left c.in_ok-cells.ensures put all)
    c.put_cells.ensures
