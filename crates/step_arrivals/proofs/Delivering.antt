-- What deliveries answer.
use Rattle.std.proofs.Common.{◌≡◌, ℕ, ◌<◌, List, [], ◌∷◌, Option, Some, None, bytes_eq, get_or, length, map, option_map, refl, sym, ap, subst, ◌∙◌}
use Rattle.std.specs.List.{Contains, find, flat_map}
use Rattle.std.specs.Option.{option_and_then}
use Rattle.std.proofs.lemmas.List.Elements.{All-head, All-tail}
use Rattle.semantics.specs.Configurations as rules
use Rattle.semantics.specs.Labels.{delivery}
use Rattle.semantics.specs.Snapshots.{Test}
use Rattle.semantics.specs.Steps.{Label, come_in, delivery_step, next_message, settled}
use Rattle.config_parts.specs.Legend.{Legend, end_by, going_by, mapping_by}
use Rattle.config_parts.specs.Views.{AreNames, AreWithin}
use Rattle.config_parts.specs.declared.config.Config.TheVariants as config
use Rattle.config_parts.specs.declared.config.Going.{Going}
use Rattle.config_parts.specs.declared.connection.End.{End}
use Rattle.step_arrivals.proofs.Expiring.{first-other, other-name}
use Rattle.step_arrivals.specs.Behind.{IsBehind}
use Rattle.value_types.specs.Frames.{entry}
use Rattle.value_types.specs.Outcomes.{Yields}
use Rattle.value_types.specs.declared.value.Value.{Value}

-- a message comes in, in a copy
pub comes-in : (legend : Legend) (test : Test) (going copy after : Going) (name : List ℕ) (e : End) (v : Value)
    → entry (going_by legend going).mappings name ≡ Some (end_by legend e) → next_message test (going_by legend going) name ≡ Some v → copy ≡ going
    → going_by legend after ≡ come_in name (end_by legend e) v (going_by legend copy)
    → IsBehind legend (delivery_step test (going_by legend going) name) (Some (config.Going after))
comes-in legend test going copy after name e v mapped left same comes =
    let c = going_by legend going in
    let steps : option_map settled (delivery_step test c name) ≡ Some (rules.Goes (come_in name (end_by legend e) v c)) =
    (ap (λ (m : Option rules.End). option_map settled (option_and_then (λ d. option_map (λ w. Yields (rules.Goes (come_in name d w c))) (next_message test c name)) m)) mapped
    ∙ ap (λ (m : Option Value). option_map settled (option_map (λ w. Yields (rules.Goes (come_in name (end_by legend e) w c))) m)) left) in
    ap (λ g. Some (rules.Goes g)) (comes ∙ ap (λ (g : Going). come_in name (end_by legend e) v (going_by legend g)) same) ∙ sym steps

-- the deliveries at these mapped system ports
abbrev pub deliveries_by : Legend → Test → rules.Going → List (ℕ × End) → List Label
deliveries_by legend test c mappings = flat_map (delivery test c) (map (mapping_by legend) mappings)

-- one of the mappings has a slot within these
pub mapped-within : (size : ℕ) (items mappings : List (ℕ × End)) (i : ℕ) (m : ℕ × End) → items ≡ mappings → i < length items → m ≡ get_or items i m → AreWithin size mappings → m.0 < size
mapped-within size items mappings i m same less read all =
    subst (λ (n : ℕ × End). n.0 < size) (ap (λ (xs : List (ℕ × End)). get_or xs i m) (sym same) ∙ sym read)
    (all i m (subst (λ (xs : List (ℕ × End)). i < length xs) same less))

-- nothing comes in at a name that has no slot
module _ (legend : Legend) (names : List (List ℕ)) (name : List ℕ) (are : AreNames legend names) (missing : ¬ Contains names name) where
  pub none-mapped : (mappings : List (ℕ × End)) → AreWithin (length names) mappings → find (λ m. bytes_eq m.0 name) (map (mapping_by legend) mappings) ≡ None
  none-mapped [] within = refl
  none-mapped (m ∷ mappings) within =
      first-other legend names name are missing (mapping_by legend m) (find (λ m. bytes_eq m.0 name) (map (mapping_by legend) mappings)) (bytes_eq (legend.names m.0) name)
      (other-name legend names name are missing m.0 (All-head (λ (x : ℕ × End). x.0 < length names) m mappings within) (bytes_eq (legend.names m.0) name) refl)
      (none-mapped mappings (All-tail (λ (x : ℕ × End). x.0 < length names) m mappings within))

  pub no-delivery : (test : Test) (going : Going) → AreWithin (length names) going.links.mappings → delivery_step test (going_by legend going) name ≡ None
  no-delivery test going within =
      let c = going_by legend going in
      ap (λ (found : Option (List ℕ × rules.End)). option_and_then (λ e. option_map (λ v. Yields (rules.Goes (come_in name e v c))) (next_message test c name)) (option_map (λ m. m.1) found))
      (none-mapped going.links.mappings within)
