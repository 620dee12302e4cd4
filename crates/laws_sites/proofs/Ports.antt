-- The ports of a component type have names of their own.
use Rattle.std.proofs.Common.{◌≡◌, ℕ, Bool, true, false, List, [], ◌∷◌, ◌++◌, map, bytes_eq, Option, Some, None, is_some, refl, ap, ◌∙◌, if◌then◌else◌}
use Rattle.std.specs.List.{All, AllPairs, find, flat_map}
use Rattle.std.specs.Option.{option_or}
use Rattle.std.proofs.lemmas.List.Elements.{All-append, All-cons, All-head, All-nil, All-tail}
use Rattle.std.proofs.lemmas.List.Kept.{AllPairs-cons}
use Rattle.std.proofs.lemmas.Slice.Eq.{bytes_eq-Decides}
use Rattle.ttcn_syntax.specs.declared.tree.definition.Definition.{Definition}
use Rattle.ttcn_syntax.specs.declared.tree.definition.DefinitionKind.{DefinitionKind}
use Rattle.ttcn_syntax.specs.declared.tree.definition.DefinitionKind.TheVariants as kind
use Rattle.ttcn_syntax.specs.declared.tree.definition.Member.{Member}
use Rattle.ttcn_syntax.specs.declared.tree.definition.Member.TheVariants as member
use Rattle.check_rules.specs.Declarations.{one_by_one}
use Rattle.check_scope.specs.Names.{Entry, Scope, declaring, kind_at, listed, member_entries, members_of, port_type_meant}
use Rattle.check_scope.specs.Scopes.{component_scope}
use Rattle.check_scope.specs.Typings.{unless}
use Rattle.check_scope.specs.declared.names.Meaning.{Meaning}
use Rattle.check_scope.specs.declared.names.Meaning.TheVariants as meaning
use Rattle.check_scope.specs.declared.rule.Rule.TheVariants as rule
use Rattle.check_rules.specs.Definitions.{check_member, check_members, check_port_name, port_entry}
use Rattle.laws_checker.proofs.Nothing.{nothing-first, nothing-rest}
use Rattle.laws_checker.proofs.Whole.{definition_is_fine}
use Rattle.laws_sites.proofs.Outside.{each-unseen}
use Rattle.laws_sites.specs.Standing.{HasQueuesByName}
use Rattle.laws_statements.proofs.Growing.{new-unseen, or-unseen}
use Rattle.semantics.proofs.Pairs.{All-both, All-more, pairs-append, pairs-head, pairs-map, pairs-nil, pairs-tail}
use Rattle.semantics.specs.Configurations.{Message, Queue}
use Rattle.semantics.specs.Creating.{empty_queues, ports_of}
use Rattle.semantics.specs.Steps.{change_queue}
use Rattle.check_rules.specs.Rules.{AreWellTyped}

abbrev Differ : List ℕ → List ℕ → Type 0
Differ p q = bytes_eq p q ≡ false

-- a name that isn't visible behind entries is that of none of them
either-other : (b : Bool) (m : Meaning) (later before : Option Meaning) → option_or (option_or later (if b then Some m else None)) before ≡ None → b ≡ false
either-other false m later before unseen = refl
either-other true m None before unseen = absurd (let e = unseen in cc)
either-other true m (Some k) before unseen = absurd (let e = unseen in cc)

later-unseen : (o : Option Meaning) (later before : Option Meaning) → option_or (option_or later o) before ≡ None → option_or later before ≡ None
later-unseen o None before unseen = or-unseen o before unseen
later-unseen o (Some k) before unseen = absurd (let e = unseen in cc)

others-unseen : (m : Meaning) (names : List (List ℕ)) (q : List ℕ) (before : Option Meaning) → option_or (listed (map (λ (n : List ℕ). (n, m)) names) q) before ≡ None → All (λ p. Differ p q) names
others-unseen m [] q before unseen = All-nil (λ p. Differ p q)
others-unseen m (p ∷ names) q before unseen =
    let later = listed (map (λ (n : List ℕ). (n, m)) names) q in
    All-cons (λ p. Differ p q) p names (either-other (bytes_eq p q) m later before unseen)
    (others-unseen m names q before (later-unseen (if bytes_eq p q then Some m else None) later before unseen))

-- ---- the ports of one declaration

ports-differ : (of : Option ℕ) (scope : Scope) (ports : List (List ℕ)) → one_by_one check_port_name (port_entry of) scope ports ≡ [] → AllPairs Differ ports
ports-differ of scope [] nothing = pairs-nil Differ
ports-differ of scope (p ∷ ports) nothing =
    let next : Scope = declaring scope (port_entry of scope p ∷ []) in
    let others : one_by_one check_port_name (port_entry of) next ports ≡ [] = nothing-rest (check_port_name scope p) (one_by_one check_port_name (port_entry of) next ports) nothing in
    AllPairs-cons Differ p ports
    (All-more (λ q. next.names q ≡ None) (Differ p) (λ q unseen. either-other (bytes_eq p q) (meaning.Port of) None (scope.names q) unseen) ports
    (each-unseen check_port_name (port_entry of) (λ (q : List ℕ). q) (λ s q fine. new-unseen s.names q fine) next ports others))
    (ports-differ of next ports others)

-- ---- all ports

-- ports with names that differ, none of which is visible in front of them
record AreNewPorts (scope : Scope) (ports : List (List ℕ)) : Type 0 where
  differ : AllPairs Differ ports
  unseen : All (λ q. scope.names q ≡ None) ports

no-ports : (scope : Scope) → AreNewPorts scope []
no-ports scope = record { differ = pairs-nil Differ; unseen = All-nil (λ q. scope.names q ≡ None) }

-- all that are behind some declarations are in front of them
ports-before : (scope : Scope) (entries : List Entry) (ports : List (List ℕ)) → AreNewPorts (declaring scope entries) ports → AreNewPorts scope ports
ports-before scope entries ports new = record {
  differ = new.differ;
  unseen = All-more (λ q. (declaring scope entries).names q ≡ None) (λ q. scope.names q ≡ None) (λ q unseen. or-unseen (listed entries q) (scope.names q) unseen) ports new.unseen;
}

-- of each of one list a fact with each of another, turned round
turned : (ports others : List (List ℕ)) → All (λ q. All (λ p. Differ p q) ports) others → All (λ p. All (Differ p) others) ports
turned ports others all i d lt j e within = all j e within i d lt

members-new : (scope : Scope) (members : List Member) → check_members scope members ≡ [] → AreNewPorts scope (flat_map ports_of members)
members-new scope [] nothing = no-ports scope
members-new scope (m ∷ members) nothing =
    let next : Scope = declaring scope (member_entries scope.names m) in
    by m (nothing-first (check_member scope m) (check_members next members) nothing)
    (members-new next members (nothing-rest (check_member scope m) (check_members next members) nothing))
  where
    by : (m : Member) → check_member scope m ≡ [] → AreNewPorts (declaring scope (member_entries scope.names m)) (flat_map ports_of members) → AreNewPorts scope (ports_of m ++ flat_map ports_of members)
    by (member.Constants cs) fine new = ports-before scope (member_entries scope.names (member.Constants cs)) (flat_map ports_of members) new
    by (member.Variables of variables) fine new = ports-before scope (member_entries scope.names (member.Variables of variables)) (flat_map ports_of members) new
    by (member.Timers timers) fine new = ports-before scope (member_entries scope.names (member.Timers timers)) (flat_map ports_of members) new
    by (member.Ports port_type ports) fine new =
        let of = port_type_meant (scope.names port_type) in
        let others = flat_map ports_of members in
        let each : one_by_one check_port_name (port_entry of) scope ports ≡ [] = nothing-rest (unless (is_some of) rule.UnknownName) (one_by_one check_port_name (port_entry of) scope ports) fine in
        let behind : AreNewPorts scope others = ports-before scope (member_entries scope.names (member.Ports port_type ports)) others new in
        record {
          differ = pairs-append Differ ports others (ports-differ of scope ports each) new.differ
              (turned ports others (All-more (λ q. (declaring scope (member_entries scope.names (member.Ports port_type ports))).names q ≡ None) (λ q. All (λ p. Differ p q) ports)
              (λ q unseen. others-unseen (meaning.Port of) ports q (scope.names q) unseen) others new.unseen));
          unseen = All-append (λ q. scope.names q ≡ None) ports others
              (each-unseen check_port_name (port_entry of) (λ (q : List ℕ). q) (λ s q fine. new-unseen s.names q fine) scope ports each) behind.unseen;
        }

module _ (definitions : List Definition) (well : AreWellTyped definitions) where
  kind-differ : (at : ℕ) (k : Option DefinitionKind) → kind_at definitions at ≡ k → AllPairs Differ (flat_map ports_of (members_of k))
  kind-differ at (Some (kind.Component c)) is =
      let new : AreNewPorts (component_scope definitions at) (flat_map ports_of c.members) = members-new (component_scope definitions at) c.members (definition_is_fine definitions well at (kind.Component c) is) in new.differ
  kind-differ at (Some (kind.Record r)) is = pairs-nil Differ
  kind-differ at (Some (kind.Enumerated e)) is = pairs-nil Differ
  kind-differ at (Some (kind.Port p)) is = pairs-nil Differ
  kind-differ at (Some (kind.Constants cs)) is = pairs-nil Differ
  kind-differ at (Some (kind.Template t)) is = pairs-nil Differ
  kind-differ at (Some (kind.Function f)) is = pairs-nil Differ
  kind-differ at (Some (kind.Altstep a)) is = pairs-nil Differ
  kind-differ at (Some (kind.Testcase t)) is = pairs-nil Differ
  kind-differ at None is = pairs-nil Differ

  -- the queues of a new component
  pub new-queues : (at : ℕ) → HasQueuesByName (empty_queues definitions at)
  new-queues at =
      pairs-map (λ (q r : Queue). Differ q.0 r.0) (λ (name : List ℕ). (name, [])) (flat_map ports_of (members_of (kind_at definitions at))) (kind-differ at (kind_at definitions at) refl)

-- ---- changes of queues

abbrev DiffersFrom : Queue → Queue → Type 0
DiffersFrom q r = bytes_eq q.0 r.0 ≡ false

each-other-if : (q r : Queue) (change : List Message → List Message) (rs changed : List Queue) (b : Bool) → DiffersFrom q r → All (DiffersFrom q) rs → All (DiffersFrom q) changed
    → All (DiffersFrom q) (if b then (r.0, change r.1) ∷ rs else r ∷ changed)
each-other-if q r change rs changed true other others all = All-cons (DiffersFrom q) (r.0, change r.1) rs other others
each-other-if q r change rs changed false other others all = All-cons (DiffersFrom q) r changed other all

each-other : (q : Queue) (port : List ℕ) (change : List Message → List Message) (rs : List Queue) → All (DiffersFrom q) rs → All (DiffersFrom q) (change_queue port change rs)
each-other q port change [] all = all
each-other q port change (r ∷ rs) all =
    each-other-if q r change rs (change_queue port change rs) (bytes_eq r.0 port) (All-head (DiffersFrom q) r rs all) (All-tail (DiffersFrom q) r rs all)
    (each-other q port change rs (All-tail (DiffersFrom q) r rs all))

changed-differ-if : (q : Queue) (change : List Message → List Message) (qs changed : List Queue) (b : Bool) → All (DiffersFrom q) qs → HasQueuesByName qs → All (DiffersFrom q) changed → HasQueuesByName changed
    → HasQueuesByName (if b then (q.0, change q.1) ∷ qs else q ∷ changed)
changed-differ-if q change qs changed true others pairs all also = AllPairs-cons DiffersFrom (q.0, change q.1) qs others pairs
changed-differ-if q change qs changed false others pairs all also = AllPairs-cons DiffersFrom q changed all also

pub changed-differ : (port : List ℕ) (change : List Message → List Message) (qs : List Queue) → HasQueuesByName qs → HasQueuesByName (change_queue port change qs)
changed-differ port change [] pairs = pairs
changed-differ port change (q ∷ qs) pairs =
    changed-differ-if q change qs (change_queue port change qs) (bytes_eq q.0 port) (pairs-head DiffersFrom q qs pairs) (pairs-tail DiffersFrom q qs pairs)
    (each-other q port change qs (pairs-head DiffersFrom q qs pairs)) (changed-differ port change qs (pairs-tail DiffersFrom q qs pairs))

pub no-queues : HasQueuesByName []
no-queues = pairs-nil DiffersFrom

-- ---- the queue of a name

pub queues-found : (qs : List Queue) → HasQueuesByName qs → All (λ q. find (λ r. bytes_eq r.0 q.0) qs ≡ Some q) qs
queues-found [] pairs = All-nil (λ (q : Queue). find (λ (r : Queue). bytes_eq r.0 q.0) [] ≡ Some q)
queues-found (q ∷ qs) pairs =
    All-cons (λ (r : Queue). find (λ (p : Queue). bytes_eq p.0 r.0) (q ∷ qs) ≡ Some r) q qs
    (ap (λ b. if b then Some q else find (λ (p : Queue). bytes_eq p.0 q.0) qs) ((bytes_eq-Decides q.0 q.0).1 refl))
    (All-both (DiffersFrom q) (λ (r : Queue). find (λ (p : Queue). bytes_eq p.0 r.0) qs ≡ Some r) (λ (r : Queue). find (λ (p : Queue). bytes_eq p.0 r.0) (q ∷ qs) ≡ Some r)
    (λ r differs found. ap (λ b. if b then Some q else find (λ (p : Queue). bytes_eq p.0 r.0) qs) differs ∙ found) qs
    (pairs-head DiffersFrom q qs pairs) (queues-found qs (pairs-tail DiffersFrom q qs pairs)))
