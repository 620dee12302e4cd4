-- Components of runs are created one by one, each with a path that no other has.
use Rattle.std.proofs.Common.{◌≡◌, ℕ, ◌+◌, ◌<◌, ◌≤◌, Bool, true, false, List, [], ◌∷◌, ◌++◌, map, length, Option, Some, None, Ok, IfSome, is_some, option_map, ◌⊎◌, inl, inr, refl, sym, ap, subst, ◌∙◌, arith, if◌then◌else◌}
use Rattle.std.proofs.lemmas.List.{length_push}
use Rattle.std.proofs.lemmas.List.Elements.{All-cons, All-map, All-nil}
use Rattle.ttcn_syntax.specs.declared.tree.statement.Statement as tree
use Rattle.ttcn_syntax.specs.declared.tree.statement.Verdict.TheVariants as verdict
use Rattle.laws_order.proofs.Asked.{IsAskedInOrder, asked-ordered}
use Rattle.laws_order.proofs.Changes.{AreDataExpired, IsComponentInOrder, IsGoingInOrder, component-ordered, expired-ordered, if-path, steps-ordered, unless-path}
use Rattle.laws_order.proofs.Runs.{first-ordered}
use Rattle.laws_steps.proofs.Applying.{Anyhow, Applies, IfGoes, applied, both-lead}
use Rattle.laws_steps.proofs.Finding.{found-map, found-path, insert-found, path-is, path-same, some-is}
use Rattle.laws_steps.proofs.Found.{found-each, insert-each, some-of}
use Rattle.laws_steps.proofs.Outcomes.{yields-is}
use Rattle.laws_steps.proofs.Running.{Steps, next-leads, replay-holds, start-leads}
use Rattle.laws_order.proofs.Members.{members-ordered}
use Rattle.laws_order.proofs.Stored.{IsDataInOrder, IsFrameInOrder}
use Rattle.laws_order.specs.Families.{IsChild, IsFamily, StandsInFamily}
use Rattle.semantics.proofs.Pairs.{All-more}
use Rattle.semantics.specs.Configurations.{Component, Configuration, Connection, Created, Data, End, Ended, Frame, Goes, Going, Running, State, Terminated, component_at, is_running_state, is_terminated_state, path_of, same_path}
use Rattle.semantics.specs.Creating.{child_of, new_members}
use Rattle.semantics.specs.Entries.{Entries, put}
use Rattle.semantics.specs.Runs.{first_snapshot, mtc_with, replay, start}
use Rattle.semantics.specs.Snapshots.{Test, mtc_of, snapshot_of}
use Rattle.semantics.specs.Statements.{Creates, Requests, act}
use Rattle.semantics.specs.Steps.{Label, apply, at_queue, begin, come_in, connection, exchanged, expired, insert, put_behind, settle, touch, unless_terminated, unmap_port, with_connection, with_data, with_new, with_state, with_verdict, without_component, without_first}
use Rattle.value_types.specs.declared.path.Path.{Path}
use Rattle.value_types.specs.declared.value.Value.{Value}

-- ---- changes

abbrev HasOrigin : Going → Component → Type 0
HasOrigin c component = ((path_of component).numbers ≡ []) ⊎ IsChild c component

abbrev changed : (Component → Component) → Going → Going
changed g c = record { components = map g c.components; connections = c.connections; mappings = c.mappings; delivered = c.delivered; forgotten = c.forgotten }

-- a change that keeps paths, and by which no component has fewer children
record IsGrowing (c : Going) (g : Component → Component) : Type 0 where
  path : (x : Component) → path_of (g x) ≡ path_of x
  grows : (q : Path) (x : Component) → component_at c q ≡ Some x → x.own.children ≤ (g x).own.children

child-changed : (c : Going) (g : Component → Component) → IsGrowing c g → (x : Component) → IsChild c x → IsChild (changed g c) (g x)
child-changed c g growing x is = record {
  parent = g is.parent;
  there = ap (component_at (changed g c)) (growing.path is.parent) ∙ found-map g growing.path (path_of is.parent) c.components ∙ ap (option_map g) is.there;
  number = is.number;
  created = let more = growing.grows (path_of is.parent) is.parent is.there in let less = is.created in omega (arith, more, less);
  path = growing.path x ∙ is.path ∙ ap (λ (p : Path). record { numbers = p.numbers ++ (is.number + 1) ∷ [] }) (sym (growing.path is.parent));
}

origin-changed : (c : Going) (g : Component → Component) → IsGrowing c g → (x : Component) → HasOrigin c x → HasOrigin (changed g c) (g x)
origin-changed c g growing x (inl first) = inl (ap (λ (p : Path). p.numbers) (growing.path x) ∙ first)
origin-changed c g growing x (inr child) = inr (child-changed c g growing x child)

family-changed : (c : Going) (g : Component → Component) → IsGrowing c g → IsFamily c → IsFamily (changed g c)
family-changed c g growing family =
    All-map (HasOrigin (changed g c)) g c.components (All-more (HasOrigin c) (λ x. HasOrigin (changed g c) (g x)) (origin-changed c g growing) c.components family)

le-refl : (n : ℕ) → n ≤ n
le-refl n = omega arith

unless-grows : (b : Bool) (change : Component → Component) (x : Component) → x.own.children ≤ (change x).own.children → x.own.children ≤ (if b then x else change x).own.children
unless-grows true change x le = le-refl x.own.children
unless-grows false change x le = le

if-grows : (b : Bool) (change : Component → Component) (x : Component) → (b ≡ true → x.own.children ≤ (change x).own.children) → x.own.children ≤ (if b then change x else x).own.children
if-grows true change x le = le refl
if-grows false change x le = le-refl x.own.children

-- a change of the component at a path
family-touched : (c : Going) (p : Path) (change : Component → Component) → ((x : Component) → path_of (change x) ≡ path_of x)
    → ((x : Component) → component_at c p ≡ Some x → x.own.children ≤ (change x).own.children) → IsFamily c → IsFamily (touch c p change)
family-touched c p change paths grows family =
    family-changed c (λ component. if same_path (path_of component) p then unless_terminated change component else component) (record {
      path = λ x. if-path (same_path (path_of x) p) (unless_terminated change) x (unless-path (is_terminated_state x.state) change x (paths x));
      grows = λ q x found. if-grows (same_path (path_of x) p) (unless_terminated change) x
          (λ same. unless-grows (is_terminated_state x.state) change x (grows x (ap (component_at c) (sym (path-is (path_of x) p same) ∙ found-path c q x found) ∙ found)));
    }) family

-- a change that leaves the count of children
family-steady : (c : Going) (p : Path) (change : Component → Component) → ((x : Component) → path_of (change x) ≡ path_of x) → ((x : Component) → (change x).own.children ≡ x.own.children)
    → IsFamily c → IsFamily (touch c p change)
family-steady c p change paths same family = family-touched c p change paths (λ x found. let e = same x in omega (arith, e)) family

-- a component is found where it is
abbrev IsFound : Going → Component → Type 0
IsFound c component = component_at c (path_of component) ≡ Some component

-- its data are others, with at least as many children
family-data : (c : Going) (component : Component) (own : Data) → IsFound c component → component.own.children ≤ own.children → IsFamily c → IsFamily (settle c (path_of component) own)
family-data c component own there le family =
    family-touched c (path_of component) (with_data own) (λ x. refl)
    (λ x found. subst (λ (y : Component). y.own.children ≤ own.children) (some-is component x (sym there ∙ found)) le) family

-- ---- new components

abbrev going-with : Going → List Component → Going
going-with c xs = record { components = xs; connections = c.connections; mappings = c.mappings; delivered = c.delivered; forgotten = c.forgotten }

other-path : (c : Going) (new x : Component) (p : Path) (b : Bool) → same_path (path_of new) p ≡ b → is_some (component_at c (path_of new)) ≡ false → component_at c p ≡ Some x → same_path (path_of new) p ≡ false
other-path c new x p false is none found = is
other-path c new x p true is none found =
    absurd (let e : true ≡ false = sym (ap is_some found) ∙ ap (λ q. is_some (component_at c q)) (sym (path-is (path_of new) p is)) ∙ none in cc)

child-beside : (c : Going) (new : Component) → is_some (component_at c (path_of new)) ≡ false → (x : Component) → IsChild c x → IsChild (going-with c (insert new c.components)) x
child-beside c new none x is = record {
  parent = is.parent;
  there = insert-found (path_of is.parent) new (other-path c new is.parent (path_of is.parent) (same_path (path_of new) (path_of is.parent)) refl none is.there) c.components ∙ is.there;
  number = is.number;
  created = is.created;
  path = is.path;
}

origin-beside : (c : Going) (new : Component) → is_some (component_at c (path_of new)) ≡ false → (x : Component) → HasOrigin c x → HasOrigin (going-with c (insert new c.components)) x
origin-beside c new none x (inl first) = inl first
origin-beside c new none x (inr child) = inr (child-beside c new none x child)

family-inserted : (c : Going) (new : Component) (b : Bool) → is_some (component_at c (path_of new)) ≡ b → IsChild c new → IsFamily c → IsFamily (going-with c (if b then c.components else insert new c.components))
family-inserted c new true is child family = family
family-inserted c new false is child family =
    insert-each (HasOrigin (going-with c (insert new c.components))) new (inr (child-beside c new is new child)) c.components
    (All-more (HasOrigin c) (HasOrigin (going-with c (insert new c.components))) (origin-beside c new is) c.components family)

family-new : (c : Going) (new : Component) → IsChild c new → IsFamily c → IsFamily (with_new new c)
family-new c new child family = family-inserted c new (is_some (component_at c (path_of new))) refl child family

alive : (state : State) → is_running_state state ≡ true → is_terminated_state state ≡ false
alive Created e = refl
alive Running e = refl
alive Terminated e = absurd (let no = e in cc)

-- the component that took the step, with its data behind it
settled-found : (c : Going) (component : Component) (own : Data) → IsFound c component → is_running_state component.state ≡ true
    → component_at (settle c (path_of component) own) (path_of component) ≡ Some (with_data own component)
settled-found c component own there runs =
    found-map (λ x. if same_path (path_of x) (path_of component) then unless_terminated (with_data own) x else x)
    (λ x. if-path (same_path (path_of x) (path_of component)) (unless_terminated (with_data own)) x (unless-path (is_terminated_state x.state) (with_data own) x refl))
    (path_of component) c.components
    ∙ ap (option_map (λ (x : Component). if same_path (path_of x) (path_of component) then unless_terminated (with_data own) x else x)) there
    ∙ ap (λ b. Some (if b then unless_terminated (with_data own) component else component)) (path-same (path_of component))
    ∙ ap (λ b. Some (if b then component else with_data own component)) (alive component.state runs)

child-created : (c : Going) (component new : Component) (own : Data) → IsFound c component → is_running_state component.state ≡ true
    → path_of new ≡ child_of component.itself component.own.children → own.children ≡ component.own.children + 1 → IsChild (settle c (path_of component) own) new
child-created c component new own there runs path count = record {
  parent = with_data own component;
  there = settled-found c component own there runs;
  number = component.own.children;
  created = omega (arith, count);
  path = path;
}

-- ---- what a component asks for

-- connections, mappings and what came in have no part in it
child-connected : (c : Going) (ks : List Connection) (ms : Entries End) (ds : Entries ℕ) (x : Component) → IsChild c x → IsChild (record { components = c.components; connections = ks; mappings = ms; delivered = ds; forgotten = c.forgotten }) x
child-connected c ks ms ds x is = record { parent = is.parent; there = is.there; number = is.number; created = is.created; path = is.path }

origin-connected : (c : Going) (ks : List Connection) (ms : Entries End) (ds : Entries ℕ) (x : Component) → HasOrigin c x → HasOrigin (record { components = c.components; connections = ks; mappings = ms; delivered = ds; forgotten = c.forgotten }) x
origin-connected c ks ms ds x (inl first) = inl first
origin-connected c ks ms ds x (inr child) = inr (child-connected c ks ms ds x child)

family-connected : (c : Going) (ks : List Connection) (ms : Entries End) (ds : Entries ℕ) → IsFamily c → IsFamily (record { components = c.components; connections = ks; mappings = ms; delivered = ds; forgotten = c.forgotten })
family-connected c ks ms ds family =
    All-more (HasOrigin c) (HasOrigin (record { components = c.components; connections = ks; mappings = ms; delivered = ds; forgotten = c.forgotten })) (origin-connected c ks ms ds) c.components family

module _ (c : Going) (component : Component) (there : IsFound c component) (runs : is_running_state component.state ≡ true) (family : IsFamily c) where
  same-count : (own : Data) → IsDataInOrder component.own.children own → IsFamily (settle c (path_of component) own)
  same-count own is = family-data c component own there (let e = is.count in omega (arith, e)) family

  -- a change that leaves the counts of children, behind the component's own
  steady : (own : Data) (p : Path) (change : Component → Component) → ((x : Component) → path_of (change x) ≡ path_of x) → ((x : Component) → (change x).own.children ≡ x.own.children)
      → IsDataInOrder component.own.children own → IsFamily (touch (settle c (path_of component) own) p change)
  steady own p change paths same is = family-steady (settle c (path_of component) own) p change paths same (same-count own is)

  family-applies : Applies Anyhow (IsAskedInOrder component.itself component.own.children) IsFamily c component.itself
  family-applies = record {
    fails = λ why asks. tt;
    errs = tt;
    continues = λ own asks. same-count own asks;
    worsens = λ v own asks. steady own (path_of component) (with_verdict v) (λ x. refl) (λ x. refl) asks;
    removes = λ port own asks. steady own (path_of component) (at_queue port without_first) (λ x. refl) (λ x. refl) asks;
    delivers = λ port to v own e asks. steady own e.component (at_queue e.port (λ messages. messages ++ record { value = v; sender = Some component.itself } ∷ [])) (λ x. refl) (λ x. refl) asks;
    sends_out = λ port to v own asks. same-count own asks;
    creates = λ new own asks. family-new (settle c (path_of component) own) new (child-created c component new own there runs asks.0 asks.4.count)
        (family-data c component own there (let e = asks.4.count in omega (arith, e)) family);
    starts = λ path frame own asks. steady own path (begin frame) (λ x. refl) (λ x. refl) asks.2;
    lacks = λ path frame own asks found. tt;
    stops = λ path own asks.
        family-connected (touch (settle c (path_of component) own) path (with_state Terminated)) c.connections (without_component path c.mappings) c.delivered
        (steady own path (with_state Terminated) (λ x. refl) (λ x. refl) asks);
    connects = λ d e own asks. family-connected (settle c (path_of component) own) (with_connection (connection d e) (settle c (path_of component) own)).connections c.mappings c.delivered (same-count own asks);
    maps = λ d system_port own asks. family-connected (settle c (path_of component) own) c.connections (put system_port d c.mappings) c.delivered (same-count own asks);
    unmaps = λ d system_port own asks. family-connected (settle c (path_of component) own) c.connections (unmap_port (settle c (path_of component) own) d system_port).mappings c.delivered (same-count own asks);
  }

  family-expired : (own : Data) → AreDataExpired component.own.children own → IsFamily (touch c (path_of component) (exchanged own))
  family-expired own is =
      family-touched c (path_of component) (exchanged own) (λ x. refl)
      (λ x also. subst (λ (y : Component). y.own.children ≤ own.children) (some-is component x (sym there ∙ also)) (let e = is.own.count in omega (arith, e))) family

-- a message that comes in
family-come : (c : Going) (system_port : List ℕ) (e : End) (v : Value) → IsFamily c → IsFamily (come_in system_port e v c)
family-come c system_port e v family =
    family-connected (put_behind (record { value = v; sender = None }) e c) c.connections c.mappings (come_in system_port e v c).delivered
    (family-steady c e.component (at_queue e.port (λ messages. messages ++ record { value = v; sender = None } ∷ [])) (λ x. refl) (λ x. refl) family)

-- ---- runs

-- both invariants
pub record StandsWell (c : Going) : Type 0 where
  pub order : IsGoingInOrder c
  pub family : IsFamily c

found-itself : (c : Going) (p : Path) (component : Component) → component_at c p ≡ Some component → IsFound c component
found-itself c p component found = ap (component_at c) (found-path c p component found) ∙ found

steps-well : (test : Test) (c : Going) → StandsWell c → Steps test Anyhow StandsWell c
steps-well test c is = record {
  asked = λ p x found runs.
      let fine : IsComponentInOrder x = component-ordered c p x is.order found in
      both-lead Anyhow IsGoingInOrder IsFamily StandsWell (λ d order family. record { order = order; family = family }) (apply test c x.itself (act test (snapshot_of c x) x.own))
      ((steps-ordered test c is.order).asked p x found runs)
      (applied test Anyhow (IsAskedInOrder x.itself x.own.children) IsFamily c x.itself (family-applies c x (found-itself c p x found) runs is.family) (act test (snapshot_of c x) x.own)
      (asked-ordered x.own.children test (snapshot_of c x) x.own fine.own));
  expires = λ p x number name own found runs changed.
      let fine : IsComponentInOrder x = component-ordered c p x is.order found in
      record {
        order = (steps-ordered test c is.order).expires p x number name own found runs changed;
        family = family-expired c x (found-itself c p x found) runs is.family own
            (some-of (AreDataExpired x.own.children) (expired number name x.own) own changed (expired-ordered x.own.children number name x.own fine.own fine.marks));
      };
  comes = λ system_port e v mapped found. record { order = (steps-ordered test c is.order).comes system_port e v mapped found; family = family-come c system_port e v is.family };
}

family-first : (test : Test) (body : List tree.Statement) (members : Frame) → IsFamily (record { components = mtc_with test body members ∷ []; connections = []; mappings = []; delivered = []; forgotten = verdict.None })
family-first test body members =
    All-cons (HasOrigin (record { components = mtc_with test body members ∷ []; connections = []; mappings = []; delivered = []; forgotten = verdict.None })) (mtc_with test body members) [] (inl refl)
    (All-nil (HasOrigin (record { components = mtc_with test body members ∷ []; connections = []; mappings = []; delivered = []; forgotten = verdict.None })))

start-well : (test : Test) → IfGoes StandsWell (start test)
start-well test =
    start-leads test Anyhow StandsWell
    (λ body members is made. record {
      order = first-ordered test body members (yields-is IsFrameInOrder (new_members test (mtc_of test) (first_snapshot test)) members made (members-ordered test (mtc_of test) (first_snapshot test)));
      family = family-first test body members;
    })

replay-well : (test : Test) (run : List Label) (c : Configuration) → replay test run ≡ Ok c → IfGoes StandsWell c
replay-well test run c e = replay-holds test (IfGoes StandsWell) (start-well test) (next-leads test Anyhow StandsWell (steps-well test)) run c e

said-family : (c : Configuration) → IfGoes StandsWell c → StandsInFamily c
said-family (Ended v) is = tt
said-family (Goes c) is = is.family

pub replay_family : (test : Test) (run : List Label) (c : Configuration) → replay test run ≡ Ok c → StandsInFamily c
replay_family test run c e = said-family c (replay-well test run c e)

-- ---- new paths

snoc-nil : (xs : List ℕ) (a : ℕ) → xs ++ a ∷ [] ≡ [] → ⊥
snoc-nil xs a e = let long = length_push xs a in let none = ap length e in omega (arith, long, none)

snoc-is : (xs ys : List ℕ) (a b : ℕ) → xs ++ a ∷ [] ≡ ys ++ b ∷ [] → (xs ≡ ys) × (a ≡ b)
snoc-is [] [] a b e = (refl, let found = e in cc)
snoc-is [] (y ∷ ys) a b e = absurd (snoc-nil ys b (let found = e in cc))
snoc-is (x ∷ xs) [] a b e = absurd (snoc-nil xs a (let found = e in cc))
snoc-is (x ∷ xs) (y ∷ ys) a b e =
    let rest = snoc-is xs ys a b (let found = e in cc) in
    let first : x ≡ y = let found = e in cc in
    (ap (λ z. z ∷ xs) first ∙ ap (λ zs. y ∷ zs) rest.0, rest.1)

-- no component has the path of the next child
no-such-child : (c : Going) (component d : Component) → IsFound c component → path_of d ≡ child_of component.itself component.own.children → HasOrigin c d → ⊥
no-such-child c component d there path (inl first) =
    snoc-nil (path_of component).numbers (component.own.children + 1) (sym (ap (λ (p : Path). p.numbers) path) ∙ first)
no-such-child c component d there path (inr child) =
    let same = snoc-is (path_of child.parent).numbers (path_of component).numbers (child.number + 1) (component.own.children + 1) (ap (λ (p : Path). p.numbers) (sym child.path ∙ path)) in
    let parent : child.parent ≡ component = some-is child.parent component (sym child.there ∙ ap (λ n. component_at c (record { numbers = n })) same.0 ∙ there) in
    let less : child.number < component.own.children = subst (λ (x : Component). child.number < x.own.children) parent child.created in
    let number = same.1 in
    omega (arith, less, number)

new-in : (c : Going) (component : Component) (p : Path) (o : Option Component) → component_at c p ≡ o → IsFamily c → IsFound c component → p ≡ child_of component.itself component.own.children → component_at c p ≡ None
new-in c component p None found family there path = found
new-in c component p (Some d) found family there path =
    absurd (no-such-child c component d there (found-path c p d found ∙ path)
    (subst (λ o. IfSome o (HasOrigin c)) found (found-each (HasOrigin c) (λ x. same_path (path_of x) p) c.components family)))

pub child-new : (c : Going) (component : Component) (p : Path) → IsFamily c → component_at c (path_of component) ≡ Some component → p ≡ child_of component.itself component.own.children → component_at c p ≡ None
child-new c component p family there path = new-in c component p (component_at c p) refl family there path

pub new-path : (test : Test) (run : List Label) (c : Going) (component new : Component) (own : Data) → replay test run ≡ Ok (Goes c) → component_at c (path_of component) ≡ Some component
    → act test (snapshot_of c component) component.own ≡ Requests (Creates new) own → component_at c (path_of new) ≡ None
new-path test run c component new own e there asks =
    let is : StandsWell c = replay-well test run (Goes c) e in
    let fine = component-ordered c (path_of component) component is.order there in
    let asked : IsAskedInOrder component.itself component.own.children (Requests (Creates new) own) =
    subst (IsAskedInOrder component.itself component.own.children) asks (asked-ordered component.own.children test (snapshot_of c component) component.own fine.own) in
    new-in c component (path_of new) (component_at c (path_of new)) refl is.family there asked.0

-- so it is inserted
pub new-inserted : (test : Test) (run : List Label) (c : Going) (component new : Component) (own : Data) → replay test run ≡ Ok (Goes c) → component_at c (path_of component) ≡ Some component
    → act test (snapshot_of c component) component.own ≡ Requests (Creates new) own
    → (with_new new (settle c (path_of component) own)).components ≡ insert new (settle c (path_of component) own).components
new-inserted test run c component new own e there asks =
    ap (λ o. if is_some o then (settle c (path_of component) own).components else insert new (settle c (path_of component) own).components)
    (found-map (λ x. if same_path (path_of x) (path_of component) then unless_terminated (with_data own) x else x)
    (λ x. if-path (same_path (path_of x) (path_of component)) (unless_terminated (with_data own)) x (unless-path (is_terminated_state x.state) (with_data own) x refl))
    (path_of new) c.components
    ∙ ap (option_map (λ (x : Component). if same_path (path_of x) (path_of component) then unless_terminated (with_data own) x else x)) (new-path test run c component new own e there asks))
