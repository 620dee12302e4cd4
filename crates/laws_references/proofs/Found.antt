-- What is referred to is found.
use Rattle.std.proofs.Common.{◌≡◌, Bool, true, false, [], ◌∷◌, Option, Some, None, is_some, refl, subst, sym, if◌then◌else◌}
use Rattle.std.specs.List.{All}
use Rattle.std.proofs.lemmas.List.Elements.{All-cons, All-nil}
use Rattle.ttcn_syntax.specs.declared.tree.expression.ComponentRef.{ComponentRef}
use Rattle.ttcn_syntax.specs.declared.tree.value.Value as written
use Rattle.check_scope.specs.declared.types.DataType.{DataType}
use Rattle.laws_references.proofs.Asked.{act-refers}
use Rattle.laws_references.proofs.Expressions.{referred-is}
use Rattle.laws_references.proofs.Literals.{value-gives}
use Rattle.laws_references.proofs.Members.{reading-refers}
use Rattle.laws_references.proofs.Runs.{asked-in, found-refers}
use Rattle.laws_references.proofs.There.{found-there, stay-touched, there-path}
use Rattle.laws_references.specs.Acts.{ActRefersTo, IsPathOf}
use Rattle.laws_references.specs.References.{ComponentRefersTo, EntriesReferTo, ReadingRefersTo, RefersTo, SnapshotRefersTo}
use Rattle.laws_references.specs.There.{HasAllReferred, IsBetweenPorts, IsPortThere, IsThere, StandsWithAllReferred}
use Rattle.semantics.proofs.Pairs.{All-flat, All-more}
use Rattle.semantics.specs.Configurations.{Component, Connection, Created, Data, End, Frame, Goes, Going, Running, State, Terminated, component_at, path_of, same_end}
use Rattle.semantics.specs.Sites.{Site}
use Rattle.semantics.specs.Snapshots.{Snapshot, Test, View, reading_in}
use Rattle.semantics.specs.Statements.{Requests, Starts, act}
use Rattle.semantics.specs.Steps.{opposite, peers, settle, start_component, start_created, start_in, with_data}
use Rattle.value_types.specs.Literals.{value_wanted}
use Rattle.value_types.specs.Outcomes.{IfYields, IsMet}
use Rattle.value_types.specs.Readings.{component_referred}
use Rattle.value_types.specs.declared.path.Path.{Path}

-- ---- what evaluation gives

pub reading-in-refers : (test : Test) (snapshot : Snapshot) (c : Going) (p : Path) (x : Component) (site : Site) (view : View) → StandsWithAllReferred test (Goes c) → component_at c p ≡ Some x → snapshot.itself ≡ x.itself
    → EntriesReferTo (IsThere c) view.values → ReadingRefersTo (IsThere c) (reading_in test snapshot x.own site view)
reading-in-refers test snapshot c p x site view is found same seen =
    let all : HasAllReferred test c = is in
    let refers : ComponentRefersTo (IsThere c) x = found-refers test c p x is found in
    reading-refers (IsThere c) test snapshot all.mtc x.own site view (subst (IsThere c) (sym same) (found-there c p x found)) refers.own seen

pub component-is-there : (test : Test) (snapshot : Snapshot) (c : Going) (p : Path) (x : Component) (site : Site) (view : View) (reference : ComponentRef) → StandsWithAllReferred test (Goes c) → component_at c p ≡ Some x
    → snapshot.itself ≡ x.itself → EntriesReferTo (IsThere c) view.values → IfYields (component_referred (reading_in test snapshot x.own site view) reference) (IsThere c)
component-is-there test snapshot c p x site view reference is found same seen =
    referred-is (IsThere c) (reading_in test snapshot x.own site view) (reading-in-refers test snapshot c p x site view is found same seen) reference

pub value-is-there : (test : Test) (snapshot : Snapshot) (c : Going) (p : Path) (x : Component) (site : Site) (view : View) (v : written.Value) (wanted : Option DataType) → StandsWithAllReferred test (Goes c) → component_at c p ≡ Some x
    → snapshot.itself ≡ x.itself → EntriesReferTo (IsThere c) view.values → IfYields (value_wanted v (reading_in test snapshot x.own site view) wanted) (RefersTo (IsThere c))
value-is-there test snapshot c p x site view v wanted is found same seen =
    value-gives (IsThere c) v (reading_in test snapshot x.own site view) (reading-in-refers test snapshot c p x site view is found same seen) wanted

-- ---- what a component asks for

pub asked-is-there : (test : Test) (snapshot : Snapshot) (c : Going) (p : Path) (x : Component) → StandsWithAllReferred test (Goes c) → component_at c p ≡ Some x → snapshot.itself ≡ x.itself → SnapshotRefersTo (IsThere c) snapshot
    → ActRefersTo (IsThere c) (act test snapshot x.own)
asked-is-there test snapshot c p x is found same fronts = act-refers (IsThere c) test.definitions x.itself x.own.children (act test snapshot x.own) (asked-in test snapshot c p x is found same fronts)

started-met : (c : Going) (p : Path) (frame : Frame) (state : State) → IsMet (start_in c p frame state)
started-met c p frame Created = tt
started-met c p frame Running = tt
started-met c p frame Terminated = tt

start-met : (c : Going) (p : Path) (frame : Frame) (o : Option Component) → is_some o ≡ true → IsMet (start_created c p frame o)
start-met c p frame None is = absurd (let no = is in cc)
start-met c p frame (Some component) is = started-met c p frame component.state

pub start-is-met : (test : Test) (snapshot : Snapshot) (c : Going) (p : Path) (x : Component) (path : Path) (frame : Frame) (own : Data) → StandsWithAllReferred test (Goes c) → component_at c p ≡ Some x → snapshot.itself ≡ x.itself
    → SnapshotRefersTo (IsThere c) snapshot → act test snapshot x.own ≡ Requests (Starts path frame) own → IsMet (start_component (settle c (path_of x) own) path frame)
start-is-met test snapshot c p x path frame own is found same fronts asks =
    let asked : ActRefersTo (IsThere c) (Requests (Starts path frame) own) = subst (ActRefersTo (IsThere c)) asks (asked-is-there test snapshot c p x is found same fronts) in
    let of : IsPathOf (IsThere c) path = asked.0 in
    start-met (settle c (path_of x) own) path frame (component_at (settle c (path_of x) own) path)
    (there-path (settle c (path_of x) own) path (of.0, stay-touched c (path_of x) (with_data own) (λ y. refl) of.0 of.1, of.2))

-- ---- the peers of a port

opposite-if : (c : Going) (k : Connection) (b d : Bool) → IsBetweenPorts c k → All (IsPortThere c) (if b then k.other ∷ [] else if d then k.one ∷ [] else [])
opposite-if c k true d ends = All-cons (IsPortThere c) k.other [] ends.1 (All-nil (IsPortThere c))
opposite-if c k false true ends = All-cons (IsPortThere c) k.one [] ends.0 (All-nil (IsPortThere c))
opposite-if c k false false ends = All-nil (IsPortThere c)

pub peers-are-there : (test : Test) (c : Going) (d : End) → StandsWithAllReferred test (Goes c) → All (IsPortThere c) (peers c d)
peers-are-there test c d is =
    let all : HasAllReferred test c = is in
    All-flat (IsPortThere c) (opposite d) c.connections
    (All-more (IsBetweenPorts c) (λ k. All (IsPortThere c) (opposite d k)) (λ k ends. opposite-if c k (same_end d k.one) (same_end d k.other) ends) c.connections all.connections)
