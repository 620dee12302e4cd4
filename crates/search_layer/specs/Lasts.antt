-- What contracts see of the last steps to states.
use Rattle.std.specs.Prelude.{ℕ, List, Option}
use Rattle.std.specs.Coded.{Coded, coded_list, coded_option, coded_ℕ, coded×, code_by}
use Rattle.std.proofs.Common.{refl}
use Rattle.search_layer.specs.declared.visited.Step.{Step}

-- for each state its last step, if it has one
abbrev pub lasts_code : {L : Type 0} → Coded L → Coded (List (Option (Step L)))
lasts_code {L} c = coded_list (coded_option (code_by (ℕ × L) (coded× coded_ℕ c) (λ (s : Step L). (s.before, s.label)) (λ p. record { before = p.0; label = p.1 }) (λ _. refl)))
