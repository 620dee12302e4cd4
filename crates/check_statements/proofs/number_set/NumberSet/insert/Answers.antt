use Rattle.std.proofs.Common.{Bool, true, if◌then◌else◌, ap, ◌∙◌}
use Rattle.check_statements.specs.internal.Places.{given, is_negative}
use Rattle.check_statements.proofs.Insides.{same-number-key}
use Rattle.check_statements.proofs.number_set.NumberSet.insert.Goals as goal

pub returns-clause-behind : goal.returns-clause-behind
returns-clause-behind c other =
    rw c.is_negative.ensures at c.in_ok-insert.ensures.updates.0 (is_negative other, other.magnitude)
    ∙ ap (λ (b : Bool). if b then true else given c.args.self.now other) (same-number-key c.args.number other)
