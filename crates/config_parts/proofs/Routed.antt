-- Where messages go by slots is where they go by names.
use Rattle.std.proofs.Common.{◌≡◌, ℕ, Bool, true, false, List, [], ◌∷◌, map, Option, None, Some, Result, Ok, Err, IfOk, option_map, cond, refl, sym, ap, ◌∙◌, if◌then◌else◌}
use Rattle.std.specs.List.{find}
use Rattle.std.specs.declared.alloc.AllocError.{AllocError}
use Rattle.semantics.specs.Configurations as rules
use Rattle.semantics.specs.Telling as telling
use Rattle.config_parts.specs.Legend.{IsLegend, Legend, end_by, going_by, mapping_by}
use Rattle.config_parts.specs.Ways.{way_by}
use Rattle.config_parts.specs.internal.Changes as kept
use Rattle.config_parts.specs.internal.Ends as ends
use Rattle.config_parts.specs.internal.Routes as routes
use Rattle.config_parts.specs.declared.config.Going.{Going}
use Rattle.config_parts.specs.declared.connection.End.{End}
use Rattle.config_parts.specs.declared.way.Way.{Way}
use Rattle.config_parts.specs.declared.way.Way.TheVariants as way
use Rattle.config_parts.proofs.Applied.{dead-by}
use Rattle.config_parts.proofs.Named.{peers-by, same-end-by}
use Rattle.value_types.specs.declared.path.Path.{Path}

-- ---- a port that a message is meant for

way-if : (legend : Legend) (b : Bool) (e : End)
    → way_by legend (if b then way.Lost e else way.Reaches e) ≡ (if b then telling.Lost (end_by legend e) else telling.Reaches (end_by legend e))
way-if legend true e = refl
way-if legend false e = refl

pub way_to_by : (legend : Legend) (going : Going) (e : End) → way_by legend (routes.way_to going.components e) ≡ telling.way_to (going_by legend going) (end_by legend e)
way_to_by legend going e =
    way-if legend (kept.is_terminated_at going.components e.component) e
    ∙ sym (ap (λ b. if b then telling.Lost (end_by legend e) else telling.Reaches (end_by legend e)) (dead-by legend going e.component))

-- ---- the system port to which a port is mapped

found-if : (legend : Legend) (b : Bool) (m : ℕ × End) (o : Option (ℕ × End)) (found : Option (List ℕ × rules.End)) → found ≡ option_map (mapping_by legend) o
    → cond b (Some (mapping_by legend m)) found ≡ option_map (mapping_by legend) (cond b (Some m) o)
found-if legend true m o found is = refl
found-if legend false m o found is = is

mapping-found : (legend : Legend) → IsLegend legend → (d : End) (ms : List (ℕ × End))
    → find (λ m. rules.same_end (end_by legend d) m.1) (map (mapping_by legend) ms) ≡ option_map (mapping_by legend) (find (λ m. ends.same_end d m.1) ms)
mapping-found legend is d [] = refl
mapping-found legend is d (m ∷ ms) =
    ap (λ b. cond b (Some (mapping_by legend m)) (find (λ m. rules.same_end (end_by legend d) m.1) (map (mapping_by legend) ms))) (same-end-by legend is d m.1)
    ∙ found-if legend (ends.same_end d m.1) m (find (λ m. ends.same_end d m.1) ms) (find (λ m. rules.same_end (end_by legend d) m.1) (map (mapping_by legend) ms)) (mapping-found legend is d ms)

named : (legend : Legend) (o : Option (ℕ × End)) → option_map (λ (m : List ℕ × rules.End). m.0) (option_map (mapping_by legend) o) ≡ option_map legend.names (option_map (λ (m : ℕ × End). m.0) o)
named legend None = refl
named legend (Some m) = refl

mapped-to-by : (legend : Legend) → IsLegend legend → (going : Going) (d : End)
    → telling.mapped_to (going_by legend going) (end_by legend d) ≡ option_map legend.names (routes.mapped_to going.links.mappings d)
mapped-to-by legend is going d =
    ap (option_map (λ m. m.0)) (mapping-found legend is d going.links.mappings) ∙ named legend (find (λ m. ends.same_end d m.1) going.links.mappings)

-- ---- the port to which a port is connected

lone-by : (legend : Legend) (es : List End) → telling.lone (map (end_by legend) es) ≡ option_map (end_by legend) (ends.lone es)
lone-by legend [] = refl
lone-by legend (e ∷ []) = refl
lone-by legend (d ∷ e ∷ es) = refl

only-by : (legend : Legend) → IsLegend legend → (going : Going) (d : End) (to : Option Path)
    → telling.only_peer (going_by legend going) (end_by legend d) to ≡ option_map (end_by legend) (ends.peer going.links.connections d to)
only-by legend is going d to = ap telling.lone (peers-by legend is going.links.connections d to) ∙ lone-by legend (ends.peers going.links.connections d to)

-- ---- ways

ways-by : (legend : Legend) (going : Going) (o : Option End)
    → option_map (way_by legend) (option_map (routes.way_to going.components) o) ≡ option_map (telling.way_to (going_by legend going)) (option_map (end_by legend) o)
ways-by legend going None = refl
ways-by legend going (Some e) = ap Some (way_to_by legend going e)

out-by : (legend : Legend) (system_port : ℕ) (to : Option Path) → option_map (way_by legend) (routes.way_out system_port to) ≡ telling.way_out (legend.names system_port) to
out-by legend system_port None = refl
out-by legend system_port (Some path) = refl

mapped-by : (legend : Legend) → IsLegend legend → (going : Going) (d : End) (to : Option Path) (o : Option ℕ)
    → option_map (way_by legend) (routes.way_mapped going d to o) ≡ telling.way_mapped (going_by legend going) (end_by legend d) to (option_map legend.names o)
mapped-by legend is going d to (Some system_port) = out-by legend system_port to
mapped-by legend is going d to None =
    ways-by legend going (ends.peer going.links.connections d to)
    ∙ sym (ap (option_map (telling.way_to (going_by legend going))) (only-by legend is going d to))

-- where a message goes from a port
pub way-from-by : (legend : Legend) → IsLegend legend → (going : Going) (d : End) (to : Option Path)
    → option_map (way_by legend) (routes.way_from going d to) ≡ telling.way_from (going_by legend going) (end_by legend d) to
way-from-by legend is going d to =
    mapped-by legend is going d to (routes.mapped_to going.links.mappings d)
    ∙ sym (ap (telling.way_mapped (going_by legend going) (end_by legend d) to) (mapped-to-by legend is going d))

-- what a call answers by slots, it answers by names
pub answered : (legend : Legend) (r : Result (Option Way) AllocError) (found : Option Way) (said : Option telling.Way) → option_map (way_by legend) found ≡ said → IfOk r (λ w. w ≡ found)
    → IfOk r (λ w. option_map (way_by legend) w ≡ said)
answered legend (Ok w) found said is e = ap (option_map (way_by legend)) e ∙ is
answered legend (Err e) found said is t = tt
