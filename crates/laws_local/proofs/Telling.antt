-- What is told of a component's step is the same wherever the component sees the same.
use Rattle.std.proofs.Common.{◌≡◌, List, Option, Some, None, option_map, refl, ap, ◌∙◌, if◌then◌else◌}
use Rattle.std.specs.List.{filter, find, flat_map}
use Rattle.std.specs.Option.{option_and_then}
use Rattle.semantics.specs.Configurations.{Component, Connection, End, Going, is_running_state, same_end}
use Rattle.semantics.specs.Entries.{Identifier}
use Rattle.semantics.specs.Places.{place_of, place_of_frames}
use Rattle.semantics.specs.Snapshots.{Test}
use Rattle.semantics.specs.Statements.{Connects, Continues, Creates, Maps, Removes, Request, Sends, Starts, Stops, Unmaps, Worsens}
use Rattle.semantics.specs.Steps.{addressed, opposite}
use Rattle.semantics.specs.Telling.{Lost, Reaches, lone, mapped_to, only_peer, request_of_component, sent_by, sent_of_component, way_from, way_mapped, way_to}
use Rattle.laws_local.proofs.Ending.{over-alike}
use Rattle.laws_local.proofs.Seeing.{requests_alike}
use Rattle.laws_local.specs.Alone.{LinkAlike, LookAlike, SeeAlike}
use Rattle.value_types.specs.declared.path.Path.{Path}
use Rattle.value_types.specs.declared.value.ComponentId.{ComponentId}

-- ---- the statement that it begins with

pub places_alike : (x y : Component) → SeeAlike x y → place_of x ≡ place_of y
places_alike x y see = λ i. if is_running_state (see.state i) then place_of_frames (see.own i).calls else None

-- ---- the message that it sends

module _ (c d : Going) (look : LookAlike c d) (link : LinkAlike c d) where
  reaching-alike : (o : Option End) → option_map (way_to c) o ≡ option_map (way_to d) o
  reaching-alike None = refl
  reaching-alike (Some e) = ap (λ over. Some (if over then Lost e else Reaches e)) (over-alike e.component c.components d.components look)

  mapped-alike : (from : End) (to : Option Path) (o : Option Identifier) → way_mapped c from to o ≡ way_mapped d from to o
  mapped-alike from to None =
      ap (λ (ks : List Connection). option_map (way_to c) (lone (filter (addressed to) (flat_map (opposite from) ks)))) link.connections
      ∙ reaching-alike (only_peer d from to)
  mapped-alike from to (Some system_port) = refl

  ways-alike : (from : End) (to : Option Path) → way_from c from to ≡ way_from d from to
  ways-alike from to =
      ap (λ ms. way_mapped c from to (option_map (λ m. m.0) (find (λ m. same_end from m.1) ms))) link.mappings
      ∙ mapped-alike from to (mapped_to d from)

  asked-alike : (itself : ComponentId) (request : Request) → sent_by c itself request ≡ sent_by d itself request
  asked-alike itself (Sends port to v) =
      let from : End = record { component = itself.path; port = port } in
      ap (option_map (λ way. record { from = Some from; value = v; way = way })) (ways-alike from to)
  asked-alike itself Continues = refl
  asked-alike itself (Worsens v) = refl
  asked-alike itself (Removes port) = refl
  asked-alike itself (Creates new) = refl
  asked-alike itself (Starts path frame) = refl
  asked-alike itself (Stops path) = refl
  asked-alike itself (Connects e f) = refl
  asked-alike itself (Maps e system_port) = refl
  asked-alike itself (Unmaps e system_port) = refl

  told-alike : (itself : ComponentId) (o : Option Request) → option_and_then (sent_by c itself) o ≡ option_and_then (sent_by d itself) o
  told-alike itself None = refl
  told-alike itself (Some request) = asked-alike itself request

pub sent_alike : (test : Test) (c d : Going) (x y : Component) → LookAlike c d → LinkAlike c d → SeeAlike x y → sent_of_component test c x ≡ sent_of_component test d y
sent_alike test c d x y look link see =
    ap (option_and_then (sent_by c x.itself)) (requests_alike test c d x y look see)
    ∙ told-alike c d look link x.itself (request_of_component test d y)
    ∙ ap (λ (itself : ComponentId). option_and_then (sent_by d itself) (request_of_component test d y)) see.itself
