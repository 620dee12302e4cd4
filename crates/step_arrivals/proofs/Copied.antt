-- What expiries answer: they happen in a copy.
use Rattle.std.proofs.Common.{◌≡◌, ℕ, Bool, true, false, Option, Some, None, Ok, option_map, sym, ap, subst, ◌∙◌}
use Rattle.semantics.specs.Configurations as rules
use Rattle.semantics.specs.Snapshots.{Test}
use Rattle.semantics.specs.Steps.{Label, settled, step_in}
use Rattle.config_parts.specs.Acts.{DoesStep, HasPathsInOrder}
use Rattle.config_parts.specs.Legend.{Legend, going_by}
use Rattle.config_parts.specs.declared.config.Config.TheVariants as config
use Rattle.config_parts.specs.declared.config.Going.{Going}
use Rattle.step_arrivals.specs.Behind.{IsBehind}
use Rattle.value_types.specs.Outcomes.{Outcome, Yields}

module _ (legend : Legend) (test : Test) (copy going : Going) (same : copy ≡ going) where
  pub order-of-copy : HasPathsInOrder going → HasPathsInOrder copy
  order-of-copy order = subst HasPathsInOrder (sym same) order

  abbrev Expired : Going → Label → Option (Outcome rules.Configuration)
  Expired g label = step_in test (going_by legend g) label

  expires-with : (label : Label) (new : Going) (b : Bool) → b ≡ true → DoesStep {E = ℕ} legend (Expired copy label) new (Ok b) → Expired copy label ≡ Some (Yields (rules.Goes (going_by legend new)))
  expires-with label new true is does = does
  expires-with label new false is does = absurd (let no = is in cc)

  rests-with : (label : Label) (new : Going) (b : Bool) → b ≡ false → DoesStep {E = ℕ} legend (Expired copy label) new (Ok b) → Expired copy label ≡ None
  rests-with label new true is does = absurd (let no = is in cc)
  rests-with label new false is does = does

  pub copy-expires : (label : Label) (new : Going) (b : Bool) → b ≡ true → DoesStep {E = ℕ} legend (Expired copy label) new (Ok b) → IsBehind legend (Expired going label) (Some (config.Going new))
  copy-expires label new b is does =
      sym (ap (λ g. option_map settled (Expired g label)) (sym same) ∙ ap (option_map settled) (expires-with label new b is does))

  pub copy-rests : (label : Label) (new : Going) (b : Bool) → b ≡ false → DoesStep {E = ℕ} legend (Expired copy label) new (Ok b) → IsBehind legend (Expired going label) None
  copy-rests label new b is does = sym (ap (λ g. option_map settled (Expired g label)) (sym same) ∙ ap (option_map settled) (rests-with label new b is does))
