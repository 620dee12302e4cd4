-- The labels of a configuration that fits lead somewhere.
use Rattle.std.proofs.Common.{◌≡◌, true, Option, Some, None, is_some, option_map, refl, sym, arith, ◌∙◌, ◌↔◌}
use Rattle.std.specs.List.{AllPairs, Contains}
use Rattle.std.specs.declared.cmp.Ordering.TheVariants.{Less}
use Rattle.semantics.proofs.LabelOrder.{labels_ascend}
use Rattle.semantics.proofs.LabelsEnabled.{labels_enabled}
use Rattle.semantics.proofs.Pairs.{pairs-nil}
use Rattle.semantics.specs.Configurations as rules
use Rattle.semantics.specs.Labels.{label_cmp, labels}
use Rattle.semantics.specs.Snapshots.{Test}
use Rattle.semantics.specs.Steps.{Label, next, settled, step}
use Rattle.laws_order.specs.Order.{StandsInOrder}
use Rattle.config_parts.specs.declared.config.Config.{Config}
use Rattle.ttcn_step.specs.Machines.{Fits, Machine, said}

pub some-map : {A B : Type 0} (f : A → B) (o : Option A) → is_some (option_map f o) ≡ is_some o
some-map f None = refl
some-map f (Some a) = refl

pub lead-somewhere : (test : Test) (c : rules.Configuration) → StandsInOrder c → (label : Label) → Contains (labels test c) label ↔ (is_some (next test c label) ≡ true)
lead-somewhere test (rules.Ended v) ordered label = (λ (k, less, is). absurd (omega (arith, less)), λ e. absurd (let no = e in cc))
lead-somewhere test (rules.Goes c) ordered label =
    let law = labels_enabled test c ordered.ordered label in
    (λ h. some-map settled (step test (rules.Goes c) label) ∙ law.0 h, λ e. law.1 (sym (some-map settled (step test (rules.Goes c) label)) ∙ e))

ascending : (test : Test) (c : rules.Configuration) → StandsInOrder c → AllPairs (λ k l. label_cmp k l ≡ Less) (labels test c)
ascending test (rules.Ended v) ordered = pairs-nil (λ k l. label_cmp k l ≡ Less)
ascending test (rules.Goes c) ordered = labels_ascend test c ordered.ordered

-- ---- in the words of the laws

pub labels_lead : (machine : Machine) (config : Config) → Fits machine config → (label : Label) → Contains (labels machine.test (said machine config)) label ↔ (is_some (next machine.test (said machine config) label) ≡ true)
labels_lead machine config fits label = lead-somewhere machine.test (said machine config) fits.ordered label

pub labels_ascending : (machine : Machine) (config : Config) → Fits machine config → AllPairs (λ k l. label_cmp k l ≡ Less) (labels machine.test (said machine config))
labels_ascending machine config fits = ascending machine.test (said machine config) fits.ordered
