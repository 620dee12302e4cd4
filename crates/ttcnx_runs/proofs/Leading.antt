-- Labels with the live parts to which they lead.
use Rattle.std.proofs.Common.{◌≡◌, List, [], ◌∷◌, map, refl, sym, ap, subst, ◌∙◌}
use Rattle.std.specs.List.{All}
use Rattle.std.proofs.lemmas.List.Elements.{All-head, All-tail}
use Rattle.semantics.specs.Canonical.{canonical_graph}
use Rattle.semantics.specs.Configurations.{Configuration}
use Rattle.semantics.specs.Labels.{labels}
use Rattle.semantics.specs.LiveParts.{live_part}
use Rattle.semantics.specs.Runs.{option_elim}
use Rattle.summary.specs.Graph.{with_after}
use Rattle.config_parts.specs.declared.config.Config.{Config}
use Rattle.ttcn_step.specs.Answers.{IsSuccessor}
use Rattle.ttcn_step.specs.Machines.{Machine, said}
use Rattle.ttcn_step.specs.declared.successor.Successor.{Successor}

module _ (machine : Machine) (config : Config) where
  leads-on : (s : Successor) → IsSuccessor machine config s → live_part (said machine s.config) ≡ (canonical_graph machine.test).after (said machine config) s.label
  leads-on s is = sym (ap (λ o. live_part (option_elim (said machine config) (λ d. d) o)) is)

  pairs-lead : (found : List Successor) → All (IsSuccessor machine config) found
      → map (λ s. (s.label, live_part (said machine s.config))) found ≡ with_after (canonical_graph machine.test) (said machine config) (map (λ s. s.label) found)
  pairs-lead [] all = refl
  pairs-lead (s ∷ found) all = λ i.
      (s.label, leads-on s (All-head (IsSuccessor machine config) s found all) i) ∷ pairs-lead found (All-tail (IsSuccessor machine config) s found all) i

-- the enabled labels of a configuration, each with the live part to which it leads
pub successors-lead : (m machine : Machine) → m ≡ machine → (config : Config) (state : Configuration) → said machine config ≡ state → (found : List Successor)
    → map (λ s. s.label) found ≡ labels m.test (said m config) → All (IsSuccessor m config) found
    → map (λ s. (s.label, live_part (said machine s.config))) found ≡ with_after (canonical_graph machine.test) state (labels machine.test state)
successors-lead m machine same config state is found enabled leads =
    let all = subst (λ (n : Machine). All (IsSuccessor n config) found) same leads in
    let here = subst (λ (n : Machine). map (λ s. s.label) found ≡ labels n.test (said n config)) same enabled in
    pairs-lead machine config found all
    ∙ ap (with_after (canonical_graph machine.test) (said machine config)) here
    ∙ ap (λ s. with_after (canonical_graph machine.test) s (labels machine.test s)) is
