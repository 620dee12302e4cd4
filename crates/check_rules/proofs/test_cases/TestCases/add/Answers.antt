use mathlib.Core.Path.{fun_ext}
use Rattle.std.proofs.Common.{sym, ◌∙◌}
use Rattle.check_rules.proofs.ByBytes.{added-first, nothing}
use Rattle.check_rules.proofs.test_cases.TestCases.add.Goals as goal

pub returns-in_ok-insert : goal.returns-in_ok-insert
returns-in_ok-insert c = fun_ext (added-first (λ key. key.items) c.in_ok-key.key.items c.args.name.now c.args.self.now.positions c.insert.new.self c.args.at
    c.in_ok-insert.ensures.updates (c.in_ok-key.ensures.items ∙ c.as_bytes-then-is_none.ensures)
    (rw (c.as_bytes.ensures) at (sym c.get.ensures ∙ nothing c.get.result c.is_none.result c.is_none.ensures c.if-is_none.true)))
