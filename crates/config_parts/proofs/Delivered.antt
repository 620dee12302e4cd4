-- What comes in at system ports by slots comes in by their names.
use Rattle.std.proofs.Common.{◌≡◌, ℕ, ◌+◌, Bor, Bool, true, false, List, [], ◌∷◌, ◌++◌, Option, None, Some, option_map, cond, bytes_eq, nat_eq, refl, sym, ap, ◌∙◌, if◌then◌else◌}
use Rattle.std.specs.List.{find}
use Rattle.std.specs.Option.{unwrap_or}
use Rattle.semantics.specs.Configurations as rules
use Rattle.semantics.specs.Entries.{Entries, Identifier, put}
use Rattle.semantics.specs.Steps as steps
use Rattle.config_parts.specs.Acts.{HasPathsInOrder}
use Rattle.config_parts.specs.Legend.{IsLegend, Legend, end_by, entries_by, going_by, message_by}
use Rattle.config_parts.specs.internal.Changes as kept
use Rattle.config_parts.specs.internal.Done as done
use Rattle.config_parts.specs.internal.Expiries.{is_of_slot}
use Rattle.config_parts.specs.internal.Mappings.{count_at, with_delivery}
use Rattle.config_parts.specs.declared.component.Message.{Message}
use Rattle.config_parts.specs.declared.config.Going.{Going}
use Rattle.config_parts.specs.declared.connection.End.{End}
use Rattle.config_parts.proofs.Applied.{map-more, queues-alike, touch-by, with_components}
use Rattle.config_parts.proofs.Named.{same-name}
use Rattle.config_parts.proofs.Stored.{entries-of, put-by}
use Rattle.value_types.specs.Frames.{entry}
use Rattle.value_types.specs.declared.value.Value.{Value}

-- ---- entries by their names

found-first : {A B : Type 0} (f : A → B) (legend : Legend) (b : Bool) (e : ℕ × A) (o : Option (ℕ × A)) (found : Option (Identifier × B)) → found ≡ option_map (λ x. (legend.names x.0, f x.1)) o
    → cond b (Some (legend.names e.0, f e.1)) found ≡ option_map (λ x. (legend.names x.0, f x.1)) (cond b (Some e) o)
found-first f legend true e o found is = refl
found-first f legend false e o found is = is

find-of : {A B : Type 0} (f : A → B) (legend : Legend) → IsLegend legend → (slot : ℕ) (es : List (ℕ × A))
    → find (λ e. bytes_eq e.0 (legend.names slot)) (entries-of f legend es) ≡ option_map (λ e. (legend.names e.0, f e.1)) (find (is_of_slot slot) es)
find-of f legend is slot [] = refl
find-of f legend is slot (e ∷ es) =
    ap (λ b. cond b (Some (legend.names e.0, f e.1)) (find (λ x. bytes_eq x.0 (legend.names slot)) (entries-of f legend es))) (same-name legend is e.0 slot)
    ∙ found-first f legend (nat_eq e.0 slot) e (find (is_of_slot slot) es) (find (λ x. bytes_eq x.0 (legend.names slot)) (entries-of f legend es)) (find-of f legend is slot es)

second-of : {A B : Type 0} (f : A → B) (legend : Legend) (o : Option (ℕ × A)) → option_map (λ (e : Identifier × B). e.1) (option_map (λ (e : ℕ × A). (legend.names e.0, f e.1)) o) ≡ option_map f (option_map (λ (e : ℕ × A). e.1) o)
second-of f legend None = refl
second-of f legend (Some e) = refl

-- what an entry of a slot has, by its name
pub entry-of : {A B : Type 0} (f : A → B) (legend : Legend) → IsLegend legend → (slot : ℕ) (es : List (ℕ × A))
    → entry (entries-of f legend es) (legend.names slot) ≡ option_map f (option_map (λ e. e.1) (find (is_of_slot slot) es))
entry-of f legend is slot es = ap (option_map (λ e. e.1)) (find-of f legend is slot es) ∙ second-of f legend (find (is_of_slot slot) es)

itself-of : {A : Type 0} (o : Option A) → option_map (λ a. a) o ≡ o
itself-of None = refl
itself-of (Some a) = refl

-- how many messages came in
pub count-by : (legend : Legend) → IsLegend legend → (going : Going) (slot : ℕ) → count_at going.links.delivered slot ≡ steps.delivered_at (going_by legend going).delivered (legend.names slot)
count-by legend is going slot =
    sym (ap (λ o. unwrap_or o 0) (entry-of (λ n. n) legend is slot going.links.delivered ∙ itself-of (option_map (λ e. e.1) (find (is_of_slot slot) going.links.delivered))))

now-of : (legend : Legend) (o : Option (Bor End)) → option_map (λ end. end_by legend end.now) o ≡ option_map (end_by legend) (option_map (λ end. end.now) o)
now-of legend None = refl
now-of legend (Some end) = refl

-- the port that is mapped to a system port
pub mapping-by : (legend : Legend) → IsLegend legend → (going : Going) (slot : ℕ) (o : Option (Bor End)) → option_map (λ end. end.now) o ≡ option_map (λ e. e.1) (find (is_of_slot slot) going.links.mappings)
    → option_map (λ end. end_by legend end.now) o ≡ entry (going_by legend going).mappings (legend.names slot)
mapping-by legend is going slot o found =
    now-of legend o ∙ ap (option_map (end_by legend)) found ∙ sym (entry-of (end_by legend) legend is slot going.links.mappings)

-- ---- a message comes in

-- a test case in which so many messages came in
abbrev with-delivered : Entries ℕ → rules.Going → rules.Going
with-delivered delivered c = record { components = c.components; connections = c.connections; mappings = c.mappings; delivered = delivered; forgotten = c.forgotten }

-- a message without sender
abbrev pub unsent : Value → Message
unsent v = record { value = v; sender = None }

behind-by : (legend : Legend) → IsLegend legend → (going : Going) → HasPathsInOrder going → (e : End) (v : Value)
    → going_by legend (with_components (done.deliver going.components e (unsent v)) going) ≡ steps.put_behind (record { value = v; sender = None }) (end_by legend e) (going_by legend going)
behind-by legend is going ascend e v =
    touch-by legend (kept.with_queues (kept.with_message e.port (unsent v))) (steps.at_queue (legend.names e.port) (λ messages. messages ++ message_by (unsent v) ∷ []))
    (queues-alike legend is e.port (λ messages. messages ++ unsent v ∷ []) (λ messages. messages ++ message_by (unsent v) ∷ []) (λ ms. map-more ms (unsent v)))
    going e.component ascend

pub came-by : (legend : Legend) → IsLegend legend → (going : Going) → HasPathsInOrder going → (slot : ℕ) (e : End) (v : Value)
    → going_by legend (record { components = done.deliver going.components e (unsent v); links = with_delivery slot going.links; forgotten = going.forgotten })
    ≡ steps.come_in (legend.names slot) (end_by legend e) v (going_by legend going)
came-by legend is going ascend slot e v =
    ap (with-delivered (entries_by legend (with_delivery slot going.links).delivered)) (behind-by legend is going ascend e v)
    ∙ ap (λ delivered. with-delivered delivered (steps.put_behind (record { value = v; sender = None }) (end_by legend e) (going_by legend going)))
    (put-by legend is slot (count_at going.links.delivered slot + 1) going.links.delivered
    ∙ ap (λ n. put (legend.names slot) (n + 1) (entries_by legend going.links.delivered)) (count-by legend is going slot))
