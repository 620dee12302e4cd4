use Rattle.std.proofs.Common.{◌≡◌, ◌++◌, List, ℕ, ap, ◌∙◌}
use Rattle.config_packed.specs.Pieces.{spell_key}
use Rattle.ttcnx_runs.proofs.LastSteps.{some-as}
use Rattle.ttcnx_runs.proofs.recalling.recall_at.Goals as goal

pub returns : goal.returns
returns g c going component cut found =
    some-as c.find.result _ (λ one. one.now.key.items ≡ spell_key going c.args.at component)
    (λ one is. is ∙ c.as_slice.ensures.value ∙ c.in_ok-put_key.ensures going component cut found ∙ ap (λ (old : List ℕ). old ++ spell_key going c.args.at component) c.clear.ensures.items) c.find.ensures
