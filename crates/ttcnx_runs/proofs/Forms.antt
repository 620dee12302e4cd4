-- Canonical forms are equal exactly for equal live parts.
use Rattle.std.proofs.Common.{◌≡◌, ◌↔◌, ℕ, true, List, sym, subst, ◌∙◌}
use Rattle.ttcnx_runs.specs.CodeEquality.{equal_configs}
use Rattle.ttcnx_runs.specs.Codes.{size_of}
use Rattle.ttcnx_runs.specs.CodesBack.{eq_is_same}
use Rattle.ttcnx_runs.specs.SameConfigurations.{configuration_itself, configuration_one, same_configuration}
use Rattle.graph_numbers.specs.Lists.{AreDifferent}
use Rattle.semantics.specs.Configurations.{Configuration}
use Rattle.semantics.specs.Items.{Item}
use Rattle.semantics.specs.LiveParts.{live_part}
use Rattle.config_parts.specs.Legend.{config_by}
use Rattle.config_parts.specs.Names.{AreInOrder, legend_of}
use Rattle.config_parts.specs.Views.{IsConfigWithin}
use Rattle.config_parts.specs.declared.config.Config.{Config}

pub equal-forms : (lists : List (List Item)) (names : List (List ℕ)) → AreDifferent lists → AreInOrder names → (a b : Config) → IsConfigWithin (size_of lists names) a → IsConfigWithin (size_of lists names) b
    → (c d : Configuration) → config_by (legend_of lists names) a ≡ live_part c → config_by (legend_of lists names) b ≡ live_part d → (equal_configs a b ≡ true) ↔ (live_part c ≡ live_part d)
equal-forms lists names apart ordered a b within within' c d is is' =
    let said = eq_is_same lists names apart ordered a b within within' in (
      λ equal. sym is ∙ configuration_one (config_by (legend_of lists names) a) (config_by (legend_of lists names) b) (sym said ∙ equal) ∙ is',
      λ same. said ∙ subst (λ x. same_configuration (config_by (legend_of lists names) a) x ≡ true) (is ∙ same ∙ sym is') (configuration_itself (config_by (legend_of lists names) a)),
    )
