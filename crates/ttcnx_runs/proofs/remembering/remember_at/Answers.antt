use Rattle.std.proofs.Common.{subst, sym}
use Rattle.std.proofs.lemmas.Grind.{merely}
use Rattle.ttcnx_runs.proofs.remembering.remember_at.Goals as goal
use Rattle.ttcnx_runs.specs.Remembered.{AreOutcomes}

pub invariant_of-keep : goal.invariant_of-keep
invariant_of-keep g c =
    let h = c.requires.here in record {
      right = merely (subst (λ k. AreOutcomes g.K.Scheme.machine k c.in_ok-outcomes.outcomes.items) (sym (c.in_ok-key.ensures h.0 h.1 h.3 h.5)) (c.in_ok-outcomes.ensures h.0 h.1 h.2 h.4 h.5 h.6));
    }
