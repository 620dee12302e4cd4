use Rattle.std.proofs.Common.{rules}
use Rattle.check_rules.specs.Targets.{check_timer_name, timer_entry}
use Rattle.check_statements.proofs.declaration.timers.Goals as goal

pub returns : goal.returns
returns c =
    let declared = c.declare_each.ensures check_timer_name timer_entry (λ before timer done after said. search rules) in
    record { broken = declared.0; view = declared.1; around = declared.2 }
