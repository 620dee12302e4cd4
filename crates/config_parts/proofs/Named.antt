-- Slots are compared as their names are.
use Rattle.std.proofs.Common.{◌≡◌, ℕ, Bool, true, false, List, [], ◌∷◌, ◌++◌, map, Option, None, Some, nat_eq, bytes_eq, ◌&&◌, refl, sym, ap, ◌∙◌, if◌then◌else◌}
use Rattle.std.specs.List.{filter, flat_map}
use Rattle.std.specs.Ordering.{is_eq, match_ordering, nat_cmp, ordering_then}
use Rattle.std.specs.declared.cmp.Ordering.{Ordering}
use Rattle.std.specs.declared.cmp.Ordering.TheVariants.{Less, Equal, Greater}
use Rattle.std.proofs.lemmas.Map.Text.{is_eq-slice_cmp}
use Rattle.semantics.specs.Configurations as rules
use Rattle.semantics.specs.Configurations.{path_cmp, same_path}
use Rattle.semantics.specs.Steps as steps
use Rattle.config_parts.specs.Legend.{IsLegend, Legend, connection_by, end_by, message_by, queue_by}
use Rattle.config_parts.specs.internal.Changes as kept
use Rattle.config_parts.specs.internal.Ends as ends
use Rattle.config_parts.specs.declared.component.Message.{Message}
use Rattle.config_parts.specs.declared.component.Queue.{Queue}
use Rattle.config_parts.specs.declared.connection.Connection.{Connection}
use Rattle.config_parts.specs.declared.connection.End.{End}
use Rattle.value_types.specs.declared.path.Path.{Path}

equal-then : (o : Ordering) → is_eq (ordering_then o Equal) ≡ is_eq o
equal-then Less = refl
equal-then Equal = refl
equal-then Greater = refl

and-true : (b : Bool) → (b && true) ≡ b
and-true true = refl
and-true false = refl

pub equal-numbers : (a b : ℕ) → is_eq (nat_cmp a b) ≡ nat_eq a b
equal-numbers a b = sym (equal-then (nat_cmp a b)) ∙ is_eq-slice_cmp (a ∷ []) (b ∷ []) ∙ and-true (nat_eq a b)

-- two slots have one name where they are one
pub same-name : (legend : Legend) → IsLegend legend → (slot other : ℕ) → bytes_eq (legend.names slot) (legend.names other) ≡ nat_eq slot other
same-name legend is slot other =
    sym (is_eq-slice_cmp (legend.names slot) (legend.names other)) ∙ ap is_eq (is.ordered slot other) ∙ equal-numbers slot other

-- ---- queues

queue-first : (legend : Legend) (f : List Message → List Message) (g : List rules.Message → List rules.Message) → ((ms : List Message) → map message_by (f ms) ≡ g (map message_by ms))
    → (b : Bool) (q : Queue) (qs : List Queue) (rest : List rules.Queue) (said : List Queue) → map (queue_by legend) said ≡ rest
    → map (queue_by legend) (if b then record { port = q.port; messages = f q.messages } ∷ qs else q ∷ said)
    ≡ (if b then ((queue_by legend q).0, g (queue_by legend q).1) ∷ map (queue_by legend) qs else queue_by legend q ∷ rest)
queue-first legend f g alike true q qs rest said e = ap (λ ms. (legend.names q.port, ms) ∷ map (queue_by legend) qs) (alike q.messages)
queue-first legend f g alike false q qs rest said e = ap (λ xs. queue_by legend q ∷ xs) e

pub queues-by : (legend : Legend) → IsLegend legend → (port : ℕ) (f : List Message → List Message) (g : List rules.Message → List rules.Message)
    → ((ms : List Message) → map message_by (f ms) ≡ g (map message_by ms))
    → (qs : List Queue) → map (queue_by legend) (kept.change_queue port f qs) ≡ steps.change_queue (legend.names port) g (map (queue_by legend) qs)
queues-by legend is port f g alike [] = refl
queues-by legend is port f g alike (q ∷ qs) =
    queue-first legend f g alike (nat_eq q.port port) q qs (steps.change_queue (legend.names port) g (map (queue_by legend) qs)) (kept.change_queue port f qs)
    (queues-by legend is port f g alike qs)
    ∙ ap (λ b. if b then ((queue_by legend q).0, g (queue_by legend q).1) ∷ map (queue_by legend) qs else queue_by legend q ∷ steps.change_queue (legend.names port) g (map (queue_by legend) qs))
    (sym (same-name legend is q.port port))

-- ---- ends

pub same-end-by : (legend : Legend) → IsLegend legend → (d e : End) → rules.same_end (end_by legend d) (end_by legend e) ≡ ends.same_end d e
same-end-by legend is d e = ap (λ b. same_path d.component e.component && b) (same-name legend is d.port e.port)

pub end-cmp-by : (legend : Legend) → IsLegend legend → (d e : End) → rules.end_cmp (end_by legend d) (end_by legend e) ≡ ends.end_cmp d e
end-cmp-by legend is d e = ap (λ o. match_ordering (path_cmp d.component e.component) Less o Greater) (is.ordered d.port e.port)

ordered-by : (legend : Legend) (o : Ordering) (a b c : Connection) → connection_by legend (match_ordering o a b c) ≡ match_ordering o (connection_by legend a) (connection_by legend b) (connection_by legend c)
ordered-by legend Less a b c = refl
ordered-by legend Equal a b c = refl
ordered-by legend Greater a b c = refl

pub connection-by : (legend : Legend) → IsLegend legend → (d e : End) → connection_by legend (ends.connection d e) ≡ steps.connection (end_by legend d) (end_by legend e)
connection-by legend is d e =
    ordered-by legend (ends.end_cmp d e) (record { one = d; other = e }) (record { one = d; other = e }) (record { one = e; other = d })
    ∙ ap (λ o. match_ordering o (connection_by legend (record { one = d; other = e })) (connection_by legend (record { one = d; other = e })) (connection_by legend (record { one = e; other = d })))
    (sym (end-cmp-by legend is d e))

pub connection-cmp-by : (legend : Legend) → IsLegend legend → (k l : Connection) → steps.connection_cmp (connection_by legend k) (connection_by legend l) ≡ ends.connection_cmp k l
connection-cmp-by legend is k l =
    ap (λ o. match_ordering o Less (rules.end_cmp (end_by legend k.other) (end_by legend l.other)) Greater) (end-cmp-by legend is k.one l.one)
    ∙ ap (λ o. match_ordering (ends.end_cmp k.one l.one) Less o Greater) (end-cmp-by legend is k.other l.other)

-- ---- peers

abbrev pub option-list : {A : Type 0} → Option A → List A
option-list None = []
option-list (Some a) = a ∷ []

opposite-first : (legend : Legend) (b c : Bool) (one other : End)
    → (if b then end_by legend other ∷ [] else if c then end_by legend one ∷ [] else []) ≡ map (end_by legend) (option-list (if b then Some other else if c then Some one else None))
opposite-first legend true c one other = refl
opposite-first legend false true one other = refl
opposite-first legend false false one other = refl

pub opposite-by : (legend : Legend) → IsLegend legend → (d : End) (k : Connection) → steps.opposite (end_by legend d) (connection_by legend k) ≡ map (end_by legend) (option-list (ends.opposite d k))
opposite-by legend is d k =
    ap (λ b. if b then end_by legend k.other ∷ [] else if rules.same_end (end_by legend d) (end_by legend k.other) then end_by legend k.one ∷ [] else []) (same-end-by legend is d k.one)
    ∙ ap (λ b. if ends.same_end d k.one then end_by legend k.other ∷ [] else if b then end_by legend k.one ∷ [] else []) (same-end-by legend is d k.other)
    ∙ opposite-first legend (ends.same_end d k.one) (ends.same_end d k.other) k.one k.other

addressed-by : (legend : Legend) (to : Option Path) (e : End) → steps.addressed to (end_by legend e) ≡ ends.addressed to e
addressed-by legend None e = refl
addressed-by legend (Some path) e = refl

addressed-first : (legend : Legend) (b : Bool) (e : End) (rest : List rules.End) → (if b then end_by legend e ∷ rest else rest) ≡ map (end_by legend) (if b then e ∷ [] else []) ++ rest
addressed-first legend true e rest = refl
addressed-first legend false e rest = refl

filter-option : (legend : Legend) (to : Option Path) (o : Option End) (others : List rules.End)
    → filter (steps.addressed to) (map (end_by legend) (option-list o) ++ others) ≡ map (end_by legend) (ends.if_addressed to o) ++ filter (steps.addressed to) others
filter-option legend to None others = refl
filter-option legend to (Some e) others =
    ap (λ b. if b then end_by legend e ∷ filter (steps.addressed to) others else filter (steps.addressed to) others) (addressed-by legend to e)
    ∙ addressed-first legend (ends.addressed to e) e (filter (steps.addressed to) others)

map-both : (legend : Legend) (ds es : List End) → map (end_by legend) (ds ++ es) ≡ map (end_by legend) ds ++ map (end_by legend) es
map-both legend [] es = refl
map-both legend (d ∷ ds) es = ap (λ xs. end_by legend d ∷ xs) (map-both legend ds es)

pub peers-by : (legend : Legend) → IsLegend legend → (ks : List Connection) (from : End) (to : Option Path)
    → filter (steps.addressed to) (flat_map (steps.opposite (end_by legend from)) (map (connection_by legend) ks)) ≡ map (end_by legend) (ends.peers ks from to)
peers-by legend is [] from to = refl
peers-by legend is (k ∷ ks) from to =
    ap (λ ds. filter (steps.addressed to) (ds ++ flat_map (steps.opposite (end_by legend from)) (map (connection_by legend) ks))) (opposite-by legend is from k)
    ∙ filter-option legend to (ends.opposite from k) (flat_map (steps.opposite (end_by legend from)) (map (connection_by legend) ks))
    ∙ ap (λ es. map (end_by legend) (ends.if_addressed to (ends.opposite from k)) ++ es) (peers-by legend is ks from to)
    ∙ sym (map-both legend (ends.if_addressed to (ends.opposite from k)) (ends.peers ks from to))
