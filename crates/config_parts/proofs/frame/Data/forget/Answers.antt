use Rattle.std.proofs.Common.{true}
use Rattle.std.proofs.lemmas.Result.{on_ok_weaker}
use Rattle.config_parts.proofs.Stored.{forget-alike, stored}
use Rattle.config_parts.proofs.Within.{stored-within, forget-keeps}
use Rattle.config_parts.proofs.frame.Data.forget.Goals as goal

pub returns-clause-changed : goal.returns-clause-changed
returns-clause-changed c legend is =
    on_ok_weaker c.put_cells.result
    (stored legend _ _ (forget-alike legend is c.args.slot) true c.args.self.now c.take_cells.new.self c.put_cells.new.self c.in_ok-taken.taken c.forget-cells.result
    c.in_ok-taken.ensures.taken c.in_ok-taken.ensures.left c.forget-cells.ensures)
    c.put_cells.ensures

pub returns-clause-within : goal.returns-clause-within
returns-clause-within c size all =
    on_ok_weaker c.put_cells.result
    (λ put. stored-within size _ (forget-keeps size.names c.args.slot) true c.args.self.now c.take_cells.new.self c.put_cells.new.self c.in_ok-taken.taken c.forget-cells.result
    c.in_ok-taken.ensures.taken c.in_ok-taken.ensures.left c.forget-cells.ensures put all)
    c.put_cells.ensures
