-- In live parts each component that is referred to is there, or what is left of it.
use Rattle.std.proofs.Common.{◌≡◌, ℕ, Bool, true, false, List, [], ◌∷◌, map, bytes_eq, Option, Some, None, IsSomeAnd, inl, inr, is_some, option_map, ◌⊎◌, refl, sym, ap, subst, ◌∙◌, if◌then◌else◌}
use Rattle.std.specs.List.{find}
use Rattle.std.proofs.lemmas.List.Elements.{All-filter, All-map, All-nil}
use Rattle.laws_references.proofs.More.{component-more}
use Rattle.laws_references.proofs.Runs.{ends-stand}
use Rattle.laws_references.proofs.There.{there-is}
use Rattle.laws_steps.proofs.Finding.{found-first, found-path}
use Rattle.laws_references.specs.References.{ComponentRefersTo, DefaultRefersTo, FrameRefersTo, QueueRefersTo, RefersTo}
use Rattle.laws_references.specs.There.{HasAllLeft, HasAllReferred, IsBetweenPorts, IsLeft, IsOfPort, IsPortLeft, IsPortThere, IsThere, ScriptRefersToNone, StandsWithAllLeft, StandsWithAllReferred}
use Rattle.laws_order.proofs.Runs.{live-path}
use Rattle.semantics.proofs.CanonicalRuns.{ends_live}
use Rattle.semantics.proofs.Pairs.{All-more}
use Rattle.semantics.specs.Canonical.{canonical_graph}
use Rattle.semantics.specs.Configurations.{Component, Configuration, End, Ended, Goes, Going, component_at, is_terminated_state, path_of, same_path}
use Rattle.semantics.specs.LiveParts.{husk, is_live, live_component, live_going, live_part}
use Rattle.semantics.specs.Runs.{graph_of}
use Rattle.semantics.specs.Snapshots.{Test}
use Rattle.semantics.specs.Steps.{Label}
use Rattle.summary.specs.Run.{Run, end_of}
use Rattle.value_types.specs.declared.path.Path.{Path}
use Rattle.value_types.specs.declared.value.ComponentId.{ComponentId}

-- what is found in the live part
live-found : (p : Path) (xs : List Component) → find (λ x. same_path (path_of x) p) (map live_component xs) ≡ option_map live_component (find (λ x. same_path (path_of x) p) xs)
live-found p [] = refl
live-found p (x ∷ xs) =
    ap (λ q. if same_path q p then Some (live_component x) else find (λ y. same_path (path_of y) p) (map live_component xs)) (live-path (is_terminated_state x.state) x)
    ∙ found-first live_component (same_path (path_of x) p) x (find (λ y. same_path (path_of y) p) (map live_component xs)) (find (λ y. same_path (path_of y) p) xs) (live-found p xs)

-- it is the same component, or nothing but its path is left
kept-or-left-if : (b : Bool) (x : Component) → (let y : Component = if b then husk (path_of x) else x in (y ≡ x) ⊎ (y ≡ husk (path_of x)))
kept-or-left-if true x = inr refl
kept-or-left-if false x = inl refl

kept-or-left : (x : Component) → (live_component x ≡ x) ⊎ (live_component x ≡ husk (path_of x))
kept-or-left x = kept-or-left-if (is_terminated_state x.state) x

-- what is found in a live part of a component that is found
found-left : (Q R : Component → Type 0) (c : Going) (p : Path) (x : Component) → component_at c p ≡ Some x → Q (live_component x) ⊎ R (live_component x) → IsSomeAnd (component_at (live_going c) p) (λ y. Q y ⊎ R y)
found-left Q R c p x found is = subst (λ o. IsSomeAnd o (λ y. Q y ⊎ R y)) (sym (live-found p c.components ∙ ap (option_map live_component) found)) is

component-left : (c : Going) (id : ComponentId) → IsThere c id → IsLeft (live_going c) id
component-left c id is =
    let x = there-is c id is in
    found-left (λ y. y.itself ≡ id) (λ y. y ≡ husk id.path) c id.path x.0 x.1 (by x.0 x.2 (kept-or-left x.0))
  where
    by : (x : Component) → x.itself ≡ id → (live_component x ≡ x) ⊎ (live_component x ≡ husk (path_of x)) → ((live_component x).itself ≡ id) ⊎ (live_component x ≡ husk id.path)
    by x same (inl kept) = inl (ap (λ (y : Component). y.itself) kept ∙ same)
    by x same (inr left) = inr (left ∙ ap (λ (i : ComponentId). husk i.path) same)

abbrev HasQueue : List ℕ → Component → Type 0
HasQueue port x = is_some (find (λ queue. bytes_eq queue.0 port) x.queues) ≡ true

port-left-in : (c : Going) (e : End) (o : Option Component) → component_at c e.component ≡ o → IsSomeAnd o (HasQueue e.port) → IsPortLeft (live_going c) e
port-left-in c e None found is = absurd is
port-left-in c e (Some x) found is = found-left (HasQueue e.port) (λ y. y ≡ husk e.component) c e.component x found (by (kept-or-left x))
  where
    by : (live_component x ≡ x) ⊎ (live_component x ≡ husk (path_of x)) → HasQueue e.port (live_component x) ⊎ (live_component x ≡ husk e.component)
    by (inl kept) = inl (subst (HasQueue e.port) (sym kept) is)
    by (inr left) = inr (left ∙ ap husk (found-path c e.component x found))

port-left : (c : Going) (e : End) → IsPortThere c e → IsPortLeft (live_going c) e
port-left c e is = port-left-in c e (component_at c e.component) refl is

live-if : (P : ComponentId → Type 0) (b : Bool) (x : Component) → ComponentRefersTo P x → ComponentRefersTo P (if b then husk (path_of x) else x)
live-if P true x is = record {
  own = record { members = All-nil (λ e. RefersTo P e.1); calls = All-nil (FrameRefersTo P); defaults = All-nil (DefaultRefersTo P) };
  queues = All-nil (QueueRefersTo P);
}
live-if P false x is = is

live-going : (test : Test) (c : Going) → HasAllReferred test c → HasAllLeft (live_going c)
live-going test c is = record {
  components = All-map (ComponentRefersTo (IsLeft (live_going c))) live_component c.components
      (All-more (ComponentRefersTo (IsThere c)) (λ x. ComponentRefersTo (IsLeft (live_going c)) (live_component x))
      (λ x refers. live-if (IsLeft (live_going c)) (is_terminated_state x.state) x (component-more (IsThere c) (IsLeft (live_going c)) (component-left c) x refers)) c.components is.components);
  connections = All-filter (is_live c) (λ k. IsPortLeft (live_going c) k.one × IsPortLeft (live_going c) k.other) c.connections
      (All-more (IsBetweenPorts c) (λ k. IsPortLeft (live_going c) k.one × IsPortLeft (live_going c) k.other) (λ k ends. (port-left c k.one ends.0, port-left c k.other ends.1)) c.connections is.connections);
  mappings = All-more (IsOfPort c) (λ m. IsPortLeft (live_going c) m.1) (λ m port. port-left c m.1 port) c.mappings is.mappings;
}

pub live-left : (test : Test) (c : Configuration) → StandsWithAllReferred test c → StandsWithAllLeft (live_part c)
live-left test (Ended v) is = tt
live-left test (Goes c) is = live-going test c is

pub ends-left : (test : Test) (run : Run Label) → ScriptRefersToNone test → StandsWithAllLeft (end_of (canonical_graph test) run)
ends-left test run script = subst StandsWithAllLeft (sym (ends_live test run)) (live-left test (end_of (graph_of test) run) (ends-stand test run script))
