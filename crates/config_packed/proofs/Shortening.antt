-- The bytes of a configuration in whose queues only the messages in front are left.
use Rattle.std.proofs.Common.{◌≡◌, ℕ, List, [], ◌∷◌, ◌++◌, length, map, refl, sym, ap, ◌∙◌}
use Rattle.std.proofs.lemmas.List.{length-map}
use Rattle.std.proofs.lemmas.List.Folds.{flat_map-map}
use Rattle.std.specs.List.{flat_map}
use Rattle.config_packed.specs.internal.Cuts.{joined, shortened_parts}
use Rattle.config_packed.specs.Pieces.{IsCut, bytes_of, front_at, shortened_component, shortened_going, shortened_queue, spell_front, spelled_parts}
use Rattle.config_packed.specs.Spelling.{going_code, name_of, spell_config, spell_content, spell_contents, spell_head, spell_links, spell_list, spell_long, spell_name, spell_outline, spell_own, spell_queue, spell_sized, spell_verdict}
use Rattle.config_packed.specs.declared.pieces.ComponentBytes.{ComponentBytes}
use Rattle.config_packed.specs.declared.pieces.ConfigBytes.{ConfigBytes}
use Rattle.config_packed.proofs.Cutting.{fronts-back}
use Rattle.value_types.specs.declared.value.ComponentId.{ComponentId}
use Rattle.config_parts.specs.declared.component.Component.{Component}
use Rattle.config_parts.specs.declared.component.Queue.{Queue}
use Rattle.config_parts.specs.declared.component.State.{State}
use Rattle.config_parts.specs.declared.config.Config.TheVariants as config
use Rattle.config_parts.specs.declared.config.Going.{Going}

-- ---- queues

front-items : (qs : List Queue) → flat_map spell_front (map front_at qs) ≡ flat_map spell_queue (map shortened_queue qs)
unfolding spell_front
front-items [] = refl
front-items (q ∷ qs) = ap (λ (rest : List ℕ). spell_queue (shortened_queue q) ++ rest) (front-items qs)

queues-shortened : (qs : List Queue) → spell_list spell_front (map front_at qs) ≡ spell_list spell_queue (map shortened_queue qs)
unfolding spell_list
queues-shortened qs =
    let counts : length (map front_at qs) ≡ length (map shortened_queue qs) = length-map qs front_at ∙ sym (length-map qs shortened_queue) in
    λ i. spell_long (counts i) ++ front-items qs i

-- ---- components

content-shortened : (c : Component) → joined (shortened_parts (spelled_parts c)) ≡ spell_content (shortened_component c)
unfolding spell_content
content-shortened c =
    ap (λ (queues : List ℕ). spell_sized (spell_own c.verdict c.own) ++ spell_sized queues) (fronts-back c.queues ∙ queues-shortened c.queues)

contents-shortened : (cs : List Component) → flat_map (λ parts. joined (shortened_parts parts)) (map spelled_parts cs) ≡ spell_contents (map shortened_component cs)
contents-shortened [] = refl
contents-shortened (c ∷ cs) = λ i. content-shortened c i ++ contents-shortened cs i

-- ---- configurations

names-kept : (cs : List Component) → map name_of (map shortened_component cs) ≡ map name_of cs
names-kept [] = refl
names-kept (c ∷ cs) = ap (λ (names : List (ComponentId × State)). name_of c ∷ names) (names-kept cs)

outline-kept : (going : Going) → spell_outline (shortened_going going) ≡ spell_outline going
unfolding spell_outline
outline-kept going =
    ap (λ (names : List (ComponentId × State)). spell_verdict going.forgotten ++ spell_links going.links ++ spell_list spell_name names) (names-kept going.components)

head-kept : (going : Going) → spell_head (shortened_going going) ≡ spell_head going
unfolding spell_head
head-kept going = λ i. going_code going.links ∷ (spell_long (length-map going.components shortened_component i) ++ spell_sized (outline-kept going i))

-- the bytes that are put are those of the shortened configuration
pub shortened-spelled : (going : Going) (parts : ConfigBytes) (started whole : List ℕ) → IsCut going parts
    → started ≡ parts.head.now → whole ≡ started ++ flat_map (λ (component : ComponentBytes). joined (shortened_parts (bytes_of component))) parts.components.items
    → whole ≡ spell_config (config.Going (shortened_going going))
unfolding spell_config
shortened-spelled going parts started whole cut head put =
    let components : flat_map (λ (component : ComponentBytes). joined (shortened_parts (bytes_of component))) parts.components.items ≡ spell_contents (map shortened_component going.components) =
    sym (flat_map-map (λ (p : List ℕ × List ℕ). joined (shortened_parts p)) bytes_of parts.components.items)
    ∙ ap (flat_map (λ (p : List ℕ × List ℕ). joined (shortened_parts p))) cut.components
    ∙ contents-shortened going.components in
    put ∙ (λ i. (head ∙ cut.head ∙ sym (head-kept going)) i ++ components i)
