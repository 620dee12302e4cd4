use Rattle.semantics.proofs.CanonicalRuns.{sums_alike}
use Rattle.semantics.proofs.canonical_sums_stand_for_all.Goals as goal

-- src/lib.rt:95:1
pub returns : goal.returns
returns g c = λ test j r sees n. sums_alike test j r sees n
