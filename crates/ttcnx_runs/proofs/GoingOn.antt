-- States in which some label is enabled.
use Rattle.std.specs.Prelude.{◌↔◌, IsTrue, not}
use Rattle.std.proofs.Common.{◌≡◌, Bool, true, true≢false, [], sym, ap, subst, ◌∙◌}
use Rattle.semantics.proofs.LiveTheorem.{labels_live}
use Rattle.semantics.specs.Labels.{labels}
use Rattle.semantics.specs.LiveParts.{live_part}
use Rattle.ttcnx_runs.specs.Going.{GoesOn}
use Rattle.config_parts.specs.declared.config.Config.{Config}
use Rattle.ttcn_step.specs.Machines.{Machine, said}

-- what isn't stuck has an enabled label, and its live part has the same
pub goes-on : (m machine : Machine) → m ≡ machine → (config live : Config) (stuck : Bool) → (IsTrue stuck ↔ (labels m.test (said m config) ≡ []))
    → said machine live ≡ live_part (said machine config) → GoesOn machine.test (said machine live) (not stuck)
goes-on m machine same config live stuck told is = record {
  some = λ known none.
      let here : labels machine.test (said machine config) ≡ [] = sym (labels_live machine.test (said machine config)) ∙ ap (labels machine.test) (sym is) ∙ none in
      let there : labels m.test (said m config) ≡ [] = subst (λ (n : Machine). labels n.test (said n config) ≡ []) (sym same) here in
      true≢false (sym (subst (λ (b : Bool). not b ≡ true) (told.1 there) known));
}
