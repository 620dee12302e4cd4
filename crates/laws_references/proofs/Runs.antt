-- In the configurations of runs each component that is referred to is there.
use Rattle.std.proofs.Common.{◌≡◌, ℕ, ◌+◌, List, [], ◌∷◌, ◌++◌, Option, Some, None, Result, Ok, Err, IfSome, bytes_eq, map, option_map, refl, sym, ap, subst, ◌∙◌, if◌then◌else◌}
use Rattle.std.specs.List.{All, find, flat_map}
use Rattle.std.specs.Option.{unwrap_or}
use Rattle.std.proofs.lemmas.List.Elements.{All-cons, All-head, All-map, All-nil}
use Rattle.ttcn_syntax.specs.declared.tree.statement.Statement as tree
use Rattle.ttcn_syntax.specs.declared.tree.statement.Verdict.TheVariants as verdict
use Rattle.check_scope.specs.Names.{kind_at, members_of}
use Rattle.laws_references.proofs.Asked.{IsAsked, IsEndOf, asked-refers}
use Rattle.laws_references.proofs.Changes.{applies, come-follows, exchanged-gentle, expired-refers, followed, itself-follows, said, told, touch-follows}
use Rattle.laws_references.proofs.Members.{members-refer}
use Rattle.laws_references.proofs.Ports.{empty-named}
use Rattle.laws_references.proofs.There.{found-itself, found-there, there-by}
use Rattle.laws_steps.proofs.Finding.{path-same}
use Rattle.laws_references.proofs.Values.{all-of}
use Rattle.laws_references.specs.References.{ComponentRefersTo, DataReferTo, DefaultRefersTo, FrameRefersTo, MessageRefersTo, QueueRefersTo, RefersTo, RefersToNone, SnapshotRefersTo}
use Rattle.laws_references.specs.There.{HasAllReferred, HasItsPorts, IsThere, ScriptRefersToNone, StandsWithAllReferred}
use Rattle.laws_order.proofs.Families.{replay_family}
use Rattle.laws_order.specs.Families.{IsFamily, StandsInFamily}
use Rattle.laws_steps.proofs.Applying.{Anyhow, IfGoes, Leads, applied}
use Rattle.laws_steps.proofs.Found.{found-each, get-each, some-of}
use Rattle.laws_steps.proofs.Outcomes.{yields-is}
use Rattle.laws_steps.proofs.Running.{Steps, end-holds, replay-holds, settled-leads, start-leads, step-leads}
use Rattle.semantics.proofs.Pairs.{All-more}
use Rattle.semantics.specs.Configurations.{Component, Configuration, Data, End, Ended, Frame, Goes, Going, Message, component_at, path_of, same_path}
use Rattle.semantics.specs.Creating.{new_members, ports_of}
use Rattle.semantics.specs.Runs.{body_frame, first_snapshot, graph_of, mtc_with, option_elim, replay, replay_from, start}
use Rattle.semantics.specs.Snapshots.{Script, Snapshot, Test, front_at, front_of, mtc_of, snapshot_of}
use Rattle.semantics.specs.Statements.{act}
use Rattle.semantics.specs.Steps.{Label, apply, come_in, delivered_at, exchanged, expired, messages_at, next, next_message, settled, step_in, touch}
use Rattle.summary.specs.Run.{Run, end_of}
use Rattle.value_types.specs.Outcomes.{Fails, Outcome, Yields}
use Rattle.value_types.specs.declared.path.Path.{Path}
use Rattle.value_types.specs.declared.value.ComponentId.{ComponentId}
use Rattle.value_types.specs.declared.value.Value.{Value}

-- ---- steps

-- in the words of the law
told-by : (test : Test) (c : Configuration) → IfGoes (HasAllReferred test) c → StandsWithAllReferred test c
told-by test (Ended v) is = tt
told-by test (Goes c) is = is

out-stands : (test : Test) (o : Option (Outcome Configuration)) → Leads Anyhow (IfGoes (HasAllReferred test)) o → IfSome o (λ out. StandsWithAllReferred test (settled out))
out-stands test None is = tt
out-stands test (Some (Yields c)) is = told-by test c is
out-stands test (Some (Fails why)) is = tt

-- the component that is found
pub found-refers : (test : Test) (c : Going) (p : Path) (x : Component) → HasAllReferred test c → component_at c p ≡ Some x → ComponentRefersTo (IsThere c) x
found-refers test c p x is found =
    subst (λ o. IfSome o (ComponentRefersTo (IsThere c))) found (found-each (ComponentRefersTo (IsThere c)) (λ y. same_path (path_of y) p) c.components is.components)

-- what it asks for, whatever it saw
pub asked-in : (test : Test) (snapshot : Snapshot) (c : Going) (p : Path) (x : Component) → HasAllReferred test c → component_at c p ≡ Some x → snapshot.itself ≡ x.itself → SnapshotRefersTo (IsThere c) snapshot
    → IsAsked (IsThere c) test.definitions x.itself x.own.children (act test snapshot x.own)
asked-in test snapshot c p x is found same fronts =
    let refers : ComponentRefersTo (IsThere c) x = found-refers test c p x is found in
    subst (λ id. IsAsked (IsThere c) test.definitions id x.own.children (act test snapshot x.own)) same
    (asked-refers (IsThere c) test snapshot x.own (subst (IsThere c) (sym same) (found-there c p x found)) is.mtc fronts refers.own)

leads : (test : Test) (snapshot : Snapshot) (c : Going) (p : Path) (x : Component) → IsFamily c → HasAllReferred test c → component_at c p ≡ Some x → snapshot.itself ≡ x.itself → SnapshotRefersTo (IsThere c) snapshot
    → Leads Anyhow (IfGoes (HasAllReferred test)) (apply test c x.itself (act test snapshot x.own))
leads test snapshot c p x family is found same fronts =
    applied test Anyhow (IsAsked (IsThere c) test.definitions x.itself x.own.children) (HasAllReferred test) c x.itself
    (applies test c is x (found-itself c p x found) family (found-there c p x found)) (act test snapshot x.own) (asked-in test snapshot c p x is found same fronts)

pub apply_stands : (test : Test) (snapshot : Snapshot) (c : Going) (p : Path) (x : Component) → StandsInFamily (Goes c) → StandsWithAllReferred test (Goes c) → component_at c p ≡ Some x → snapshot.itself ≡ x.itself
    → SnapshotRefersTo (IsThere c) snapshot → IfSome (apply test c x.itself (act test snapshot x.own)) (λ out. StandsWithAllReferred test (settled out))
apply_stands test snapshot c p x family is found same fronts = out-stands test (apply test c x.itself (act test snapshot x.own)) (leads test snapshot c p x family is found same fronts)

-- the snapshot of the component as it is
front-refers : (P : ComponentId → Type 0) (messages : List Message) → All (MessageRefersTo P) messages → IfSome (front_of messages) (MessageRefersTo P)
front-refers P [] all = tt
front-refers P (message ∷ messages) all = All-head (MessageRefersTo P) message messages all

pub snapshot-refers : (test : Test) (c : Going) (p : Path) (x : Component) → StandsWithAllReferred test (Goes c) → component_at c p ≡ Some x → SnapshotRefersTo (IsThere c) (snapshot_of c x)
snapshot-refers test c p x is found =
    let refers : ComponentRefersTo (IsThere c) x = found-refers test c p x is found in
    All-map (λ (front : List ℕ × Option Message). IfSome front.1 (MessageRefersTo (IsThere c))) front_at x.queues
    (All-more (QueueRefersTo (IsThere c)) (λ queue. IfSome (front_of queue.1) (MessageRefersTo (IsThere c))) (λ queue all. front-refers (IsThere c) queue.1 all) x.queues refers.queues)

-- the expiry of a timer
pub expiry-stands : (test : Test) (c : Going) (p : Path) (x : Component) (number : ℕ) (name : List ℕ) (own : Data) → StandsWithAllReferred test (Goes c) → component_at c p ≡ Some x → expired number name x.own ≡ Some own
    → StandsWithAllReferred test (Goes (touch c (path_of x) (exchanged own)))
expiry-stands test c p x number name own is found expires =
    let refers : ComponentRefersTo (IsThere c) x = found-refers test c p x is found in
    let fine : DataReferTo (IsThere c) own = subst (λ o. IfSome o (DataReferTo (IsThere c))) expires (expired-refers (IsThere c) test.definitions number name x.own refers.own) in
    followed test c is (touch c (path_of x) (exchanged own)) (touch-follows (IsThere c) test.definitions c c (path_of x) (exchanged own) (exchanged-gentle (IsThere c) test.definitions own fine) (itself-follows (IsThere c) test.definitions c (told test c is)))

-- what holds of each message of a script holds of the one that comes in
module _ (P : Value → Type 0) where
  named-each : (script : Script) (name : List ℕ) → All (λ e. All P e.1) script → All P (messages_at script name)
  named-each script name all = by (find (λ e. bytes_eq e.0 name) script) (found-each (λ e. All P e.1) (λ e. bytes_eq e.0 name) script all)
    where
      by : (o : Option (List ℕ × List Value)) → IfSome o (λ e. All P e.1) → All P (unwrap_or (option_map (λ e. e.1) o) [])
      by None is = All-nil P
      by (Some e) is = is

  pub next-each : (test : Test) (c : Going) (system_port : List ℕ) → All (λ e. All P e.1) test.script → IfSome (next_message test c system_port) P
  next-each test c system_port all = get-each P (messages_at test.script system_port) (delivered_at c.delivered system_port) (named-each test.script system_port all)

-- a message that comes in
come-stands : (test : Test) (c : Going) (system_port : List ℕ) (e : End) (v : Value) → ScriptRefersToNone test → HasAllReferred test c → next_message test c system_port ≡ Some v → HasAllReferred test (come_in system_port e v c)
come-stands test c system_port e v script is found =
    let none : RefersToNone v = some-of RefersToNone (next_message test c system_port) v found (next-each RefersToNone test c system_port script) in
    followed test c is (come_in system_port e v c) (come-follows (IsThere c) test.definitions c system_port e v none (told test c is))

steps-stand : (test : Test) (c : Going) → ScriptRefersToNone test → IsFamily c → HasAllReferred test c → Steps test Anyhow (HasAllReferred test) c
steps-stand test c script family is = record {
  asked = λ p x found runs. leads test (snapshot_of c x) c p x family is found refl (snapshot-refers test c p x is found);
  expires = λ p x number name own found runs changed. expiry-stands test c p x number name own is found changed;
  comes = λ system_port e v mapped found. come-stands test c system_port e v script is found;
}

next-going : (test : Test) (c : Configuration) (label : Label) → ScriptRefersToNone test → StandsInFamily c → StandsWithAllReferred test c → IfSome (next test c label) (IfGoes (HasAllReferred test))
next-going test (Ended v) label script family is = tt
next-going test (Goes c) label script family is = settled-leads test Anyhow (HasAllReferred test) (step_in test c label) (step-leads test Anyhow (HasAllReferred test) c (steps-stand test c script family is) label)

pub next_stands : (test : Test) (c d : Configuration) (label : Label) → ScriptRefersToNone test → StandsInFamily c → StandsWithAllReferred test c → next test c label ≡ Some d → StandsWithAllReferred test d
next_stands test c d label script family is e = told-by test d (some-of (IfGoes (HasAllReferred test)) (next test c label) d e (next-going test c label script family is))

-- ---- the start

-- no message waits
empty-refer : (P : ComponentId → Type 0) (names : List (List ℕ)) → All (QueueRefersTo P) (map (λ name. (name, [])) names)
empty-refer P names = All-map (QueueRefersTo P) (λ (name : List ℕ). (name, [])) names (all-of (λ name. QueueRefersTo P (name, [])) (λ name. All-nil (MessageRefersTo P)) names)

-- at the start there is no other component
abbrev IsMtc : Test → ComponentId → Type 0
IsMtc test id = id ≡ mtc_of test

abbrev first-going : Test → List tree.Statement → Frame → Going
first-going test body members = record { components = mtc_with test body members ∷ []; connections = []; mappings = []; delivered = []; forgotten = verdict.None }

mtc-there : (test : Test) (body : List tree.Statement) (members : Frame) → IsThere (first-going test body members) (mtc_of test)
mtc-there test body members =
    there-by (first-going test body members) (mtc_of test) (Some (mtc_with test body members))
    (ap (λ b. if b then Some (mtc_with test body members) else None) (path-same (mtc_of test).path)) refl

mtc-refers : (test : Test) (body : List tree.Statement) (members : Frame) → FrameRefersTo (IsMtc test) members → ComponentRefersTo (IsMtc test) (mtc_with test body members)
mtc-refers test body members all = record {
  own = record {
    members = all;
    calls = All-cons (FrameRefersTo (IsMtc test)) (body_frame test body) [] (All-nil (λ e. RefersTo (IsMtc test) e.1)) (All-nil (FrameRefersTo (IsMtc test)));
    defaults = All-nil (DefaultRefersTo (IsMtc test));
  };
  queues = empty-refer (IsMtc test) (flat_map ports_of (members_of (kind_at test.definitions (mtc_of test).component_type)));
}

first-stands : (test : Test) (body : List tree.Statement) (members : Frame) → FrameRefersTo (IsMtc test) members → HasAllReferred test (first-going test body members)
first-stands test body members all =
    said test (IsMtc test) (first-going test body members) (λ id e. subst (IsThere (first-going test body members)) (sym e) (mtc-there test body members)) refl
    (record {
      components = All-cons (ComponentRefersTo (IsMtc test)) (mtc_with test body members) [] (mtc-refers test body members all) (All-nil (ComponentRefersTo (IsMtc test)));
      ports = All-cons (HasItsPorts test.definitions) (mtc_with test body members) [] (empty-named test.definitions (mtc_of test).component_type) (All-nil (HasItsPorts test.definitions));
      connections = All-nil (λ k. IsEndOf (IsMtc test) test.definitions k.one × IsEndOf (IsMtc test) test.definitions k.other);
      mappings = All-nil (λ (m : List ℕ × End). IsEndOf (IsMtc test) test.definitions m.1);
    })

pub start_stands : (test : Test) → StandsWithAllReferred test (start test)
start_stands test =
    told-by test (start test) (start-leads test Anyhow (HasAllReferred test)
    (λ body members is made. first-stands test body members
    (yields-is (FrameRefersTo (IsMtc test)) (new_members test (mtc_of test) (first_snapshot test)) members made (members-refer (IsMtc test) test (first_snapshot test) refl (mtc_of test) refl))))

-- ---- runs

-- a run leads to a configuration
abbrev IsReached : Test → Configuration → Type 0
IsReached test c = (run : List Label) × (replay test run ≡ Ok c)

reached-family : (test : Test) (c : Configuration) → IsReached test c → StandsInFamily c
reached-family test c is = replay_family test is.0 c is.1

-- one label more
elim-more : (number : ℕ) (f g : Configuration → Result Configuration ℕ) (o : Option Configuration) (c d : Configuration) → ((e : Configuration) → f e ≡ Ok c → g e ≡ Ok d)
    → option_elim (Err number) f o ≡ Ok c → option_elim (Err number) g o ≡ Ok d
elim-more number f g None c d more e = absurd (let no = e in cc)
elim-more number f g (Some x) c d more e = more x e

-- the configuration that a run leads to
abbrev led-to : Configuration → Result Configuration ℕ → Configuration
led-to c (Ok d) = d
led-to c (Err number) = c

more-from : (test : Test) (run : List Label) (label : Label) (number : ℕ) (first c d : Configuration) → next test c label ≡ Some d → replay_from test run number first ≡ Ok c → replay_from test (run ++ label ∷ []) number first ≡ Ok d
more-from test [] label number first c d goes e =
    ap (option_elim (Err number) (replay_from test [] (number + 1))) (ap (λ x. next test x label) (ap (led-to first) e) ∙ goes)
more-from test (l ∷ run) label number first c d goes e =
    elim-more number (replay_from test run (number + 1)) (replay_from test (run ++ label ∷ []) (number + 1)) (next test first l) c d
    (λ x found. more-from test run label (number + 1) x c d goes found) e

reached-next : (test : Test) (label : Label) (c d : Configuration) → IsReached test c → next test c label ≡ Some d → IsReached test d
reached-next test label c d is goes = (is.0 ++ label ∷ [], more-from test is.0 label 1 (start test) c d goes is.1)

-- both
abbrev pub ReachedStands : Test → Configuration → Type 0
ReachedStands test c = IsReached test c × StandsWithAllReferred test c

pub start-both : (test : Test) → ReachedStands test (start test)
start-both test = (([], refl), start_stands test)

pub next-both : (test : Test) (c : Configuration) (label : Label) (o : Option Configuration) → ScriptRefersToNone test → next test c label ≡ o → ReachedStands test c → IfSome o (ReachedStands test)
next-both test c label None script e is = tt
next-both test c label (Some d) script e is = (reached-next test label c d is.0 e, next_stands test c d label script (reached-family test c is.0) is.1 e)

pub replay_stands : (test : Test) (run : List Label) (c : Configuration) → ScriptRefersToNone test → replay test run ≡ Ok c → StandsWithAllReferred test c
replay_stands test run c script e = (replay-holds test (ReachedStands test) (start-both test) (λ c label is. next-both test c label (next test c label) script refl is) run c e).1

pub ends-stand : (test : Test) (run : Run Label) → ScriptRefersToNone test → StandsWithAllReferred test (end_of (graph_of test) run)
ends-stand test run script = (end-holds test (ReachedStands test) (start-both test) (λ c label is. next-both test c label (next test c label) script refl is) run).1
