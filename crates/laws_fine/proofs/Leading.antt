-- Where labels and fine labels lead.
use Rattle.std.proofs.Common.{◌≡◌, List, [], ◌∷◌, Option, Some, refl, sym, ap, ◌∙◌}
use Rattle.std.specs.Option.{option_and_then}
use Rattle.ttcn_syntax.specs.declared.tree.statement.Verdict.{Verdict}
use Rattle.laws_fine.specs.Fine.{Fine, FineLabel, Stored, fine_next, fine_step_of}
use Rattle.semantics.specs.Configurations.{Configuration, Ended}
use Rattle.semantics.specs.Snapshots.{Test}
use Rattle.semantics.specs.Steps.{Label, next}

-- where labels lead, if each is enabled
abbrev pub leads : Test → List Label → Configuration → Option Configuration
leads test [] c = Some c
leads test (label ∷ labels) c = option_and_then (leads test labels) (next test c label)

-- where fine labels lead, if each can follow
abbrev pub fine_run : Test → List FineLabel → Fine → Option Fine
fine_run test [] f = Some f
fine_run test (label ∷ labels) f = option_and_then (fine_run test labels) (fine_next test f label)

abbrev pub fine_of : Configuration → Stored → Fine
fine_of now stored = record { now = now; stored = stored }

-- a run that has ended has no more labels
pub ended-run : (test : Test) (labels : List FineLabel) (f g : Fine) (now : Configuration) (v : Verdict) → f.now ≡ now → now ≡ Ended v → fine_run test labels f ≡ Some g → labels ≡ []
ended-run test [] f g now v at ended e = refl
ended-run test (label ∷ labels) f g now v at ended e =
    absurd (let none = ap (λ n. option_and_then (fine_run test labels) (fine_step_of test n f.stored label)) (sym (at ∙ ended)) ∙ e in cc)
