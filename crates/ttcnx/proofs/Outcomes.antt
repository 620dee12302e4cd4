-- The outcomes of a report, from the runs that a search has kept.
use Rattle.std.proofs.Common.{◌≡◌, List, [], ◌∷◌, length, refl, arith}
use Rattle.std.specs.Prelude.{Option, None, slice_index_or}
use Rattle.std.specs.List.{filter_map, zip}
use Rattle.std.specs.declared.alloc.Global.{Global}
use Rattle.std.specs.declared.vec.Vec.{Vec}
use Rattle.step_labels.specs.declared.label.Label.{Label}
use Rattle.semantics.specs.Configurations.{badness}
use Rattle.ttcn_syntax.specs.declared.tree.statement.Verdict.{Verdict}
use Rattle.ttcnx.specs.Tells.{all_verdicts, outcome_of, outcomes_of}

-- the run that is kept for a verdict
abbrev pub kept : List (Option (Vec Label Global)) → Verdict → Option (Vec Label Global)
kept best verdict = slice_index_or best (badness verdict) None

-- verdicts and kept runs side by side are the verdicts, each with its run
pub outcomes_of-kept : (best : List (Option (Vec Label Global))) → length best ≡ 8
    → filter_map (λ pair. outcome_of pair.0 pair.1) (zip all_verdicts best) ≡ outcomes_of (kept best)
outcomes_of-kept [] e = absurd (omega arith)
outcomes_of-kept (a ∷ []) e = absurd (omega arith)
outcomes_of-kept (a ∷ b ∷ []) e = absurd (omega arith)
outcomes_of-kept (a ∷ b ∷ c ∷ []) e = absurd (omega arith)
outcomes_of-kept (a ∷ b ∷ c ∷ d ∷ []) e = absurd (omega arith)
outcomes_of-kept (a ∷ b ∷ c ∷ d ∷ x ∷ rest) e = refl
