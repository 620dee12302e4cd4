-- What a component asks for refers only to what it holds, to what it received, and to what it creates.
use Rattle.std.proofs.Common.{◌≡◌, ℕ, ◌+◌, true, not, List, [], ◌∷◌, ◌++◌, Option, Some, None, IfSome, inl, inr, bytes_eq, is_some, option_map, refl, subst, ap}
use Rattle.std.specs.List.{All, flat_map, list_any}
use Rattle.std.proofs.lemmas.Bool.{and_parts}
use Rattle.std.proofs.lemmas.List.Elements.{All-append, All-cons, All-filter, All-head, All-map, All-nil, All-tail}
use Rattle.ttcn_syntax.specs.declared.tree.definition.Definition.{Definition}
use Rattle.ttcn_syntax.specs.declared.tree.expression.ComponentRef.{ComponentRef}
use Rattle.ttcn_syntax.specs.declared.tree.statement.Send.{Send}
use Rattle.ttcn_syntax.specs.declared.tree.statement.Statement.{Statement, out-Statement}
use Rattle.ttcn_syntax.specs.declared.tree.value.Value as written
use Rattle.check_rules.specs.Calls.{parameters_of}
use Rattle.check_scope.specs.Names.{kind_at, members_of}
use Rattle.check_scope.specs.declared.types.DataType.{DataType}
use Rattle.laws_references.proofs.Events.{EffectRefers}
use Rattle.laws_references.proofs.Expressions.{Gives, referred-is}
use Rattle.laws_references.proofs.Literals.{value-gives}
use Rattle.laws_references.proofs.Members.{members-refer, reading-refers}
use Rattle.laws_references.proofs.More.{data-more}
use Rattle.laws_references.proofs.Ports.{empty-named, port-named}
use Rattle.laws_references.proofs.Sending.{sent-gives}
use Rattle.laws_references.proofs.Stored.{KeepsReferences, calls-refer, declare-keeps, declare-timer-keeps, forget-keeps, frame-refers, going-on-refers, in-last-refers, last-refers, remaining-keeps, set-timer-refers, store-refers}
use Rattle.laws_references.proofs.Templates.{arguments-give}
use Rattle.laws_references.proofs.Values.{all-of, component-refers, default-refers}
use Rattle.laws_references.proofs.Ways.{ChanceRefers, ChoiceRefers, WayRefers, alt-refers, choice-refers, defaults-refer}
use Rattle.laws_references.specs.Acts.{ActRefersTo, HoldsOrIs, IsPathOf}
use Rattle.laws_references.specs.References.{ComponentRefersTo, DataReferTo, DefaultRefersTo, FrameRefersTo, MessageRefersTo, QueueRefersTo, ReadingRefersTo, RefersTo, SnapshotRefersTo}
use Rattle.laws_references.specs.There.{HasItsPorts, port_names}
use Rattle.laws_steps.proofs.Acting.{Keeps, act-asks, end-asks, part-asks}
use Rattle.laws_steps.proofs.Found.{some-of}
use Rattle.laws_steps.proofs.Outcomes.{map-yields, then-yields, yields-is}
use Rattle.semantics.specs.Branches.{Chance, Written, written_alt, written_defaults}
use Rattle.semantics.specs.Configurations.{Data, End, Frame, path_of, same_end}
use Rattle.semantics.specs.Creating.{child_of, new_component, new_members, ports_of}
use Rattle.semantics.specs.Events.{Effect, Elapses, Plain, Receives, Redirect, Taken}
use Rattle.semantics.specs.Items.{Item, Part, Waiting, action_of, items}
use Rattle.semantics.specs.Sites.{Site, beginning, scope_at}
use Rattle.semantics.specs.Snapshots.{Snapshot, Test, last_view, mtc_of}
use Rattle.semantics.specs.Statements.{Act, Connects, Continues, Creates, Errs, Maps, Removes, Requests, Sends, Stand, Starts, Stops, Unmaps, Waits, Worsens, act, choice_at, choose_from, component_meant_at, declared, done, is_mappable, judge_at, may_connect, may_map, new_id, port_type, reads, sent_to, sent_type, sent_value, suit_each_other, system_type, with_child}
use Rattle.semantics.specs.Storing.{declare, declare_timer, forget, going_on, in_last, store, target_meant, with_calls, with_remaining}
use Rattle.semantics.specs.Taking.{effected, entered, from_mark, marked, repeat_in, repeated, store_all, taken}
use Rattle.value_types.specs.Literals.{value_wanted}
use Rattle.value_types.specs.Outcomes.{IfYields}
use Rattle.value_types.specs.Templates.{arguments}
use Rattle.value_types.specs.declared.frame.TimerState.TheVariants as timer
use Rattle.value_types.specs.declared.value.ComponentId.{ComponentId}
use Rattle.value_types.specs.declared.value.Value.TheVariants as value

-- an end is a port of such a component, by the component's type
abbrev pub IsEndOf : (ComponentId → Type 0) → List Definition → End → Type 0
IsEndOf P definitions e = (id : ComponentId) × P id × (id.path ≡ e.component) × (list_any (λ name. bytes_eq name e.port) (port_names definitions id.component_type) ≡ true)

-- what a component that has created so many others asks for: it refers only to such components, connects and maps ports of such, and a new one is its next child, with the ports of its type
abbrev pub IsAsked : (ComponentId → Type 0) → List Definition → ComponentId → ℕ → Act → Type 0
IsAsked P definitions itself n (Requests (Creates new) own) =
    (path_of new ≡ child_of itself n) × ComponentRefersTo (HoldsOrIs P new.itself) new × DataReferTo (HoldsOrIs P new.itself) own × HasItsPorts definitions new
IsAsked P definitions itself n (Requests (Connects d e) own) = IsEndOf P definitions d × IsEndOf P definitions e × DataReferTo P own
IsAsked P definitions itself n (Requests (Maps d system_port) own) = IsEndOf P definitions d × DataReferTo P own
IsAsked P definitions itself n other = ActRefersTo P other

-- where a component stands
pub record StandsAmong (P : ComponentId → Type 0) (stand : Stand) : Type 0 where
  pub itself : P stand.snapshot.itself
  pub mtc : P (mtc_of stand.test)
  pub fronts : SnapshotRefersTo P stand.snapshot
  pub own : DataReferTo P stand.own
  pub frame : FrameRefersTo P stand.frame
  pub below : All (FrameRefersTo P) stand.below

module _ (P : ComponentId → Type 0) (stand : Stand) (is : StandsAmong P stand) where
  abbrev Asks : Act → Type 0
  Asks asked = IsAsked P stand.test.definitions stand.snapshot.itself stand.own.children asked

  -- ---- what is read

  read-at : (site : Site) → ReadingRefersTo P (reads stand site)
  read-at site = reading-refers P stand.test stand.snapshot is.mtc stand.own site (last_view stand.snapshot stand.frame) is.itself is.own is.frame

  meant-is : (site : Site) (reference : ComponentRef) → IfYields (component_meant_at stand site reference) P
  meant-is site reference = referred-is P (reads stand site) (read-at site) reference

  path-of : (id : ComponentId) → P id → IsPathOf P id.path
  path-of id holds = (id, holds, refl)

  wanted-gives : (site : Site) (v : written.Value) (wanted : Option DataType) → Gives P (value_wanted v (reads stand site) wanted)
  wanted-gives site v wanted = value-gives P v (reads stand site) (read-at site) wanted

  given : (site : Site) (at : ℕ) (values : List written.Value) → IfYields (arguments (reads stand site) (parameters_of (kind_at stand.test.definitions at)) values) (All (RefersTo P))
  given site at values = arguments-give P (reads stand site) (read-at site) (parameters_of (kind_at stand.test.definitions at)) values

  -- ---- the data

  remaining-refers : (items : List Item) → DataReferTo P (going_on items stand.own)
  remaining-refers items = going-on-refers P items stand.own is.own

  done-refers : DataReferTo P (done stand)
  done-refers = remaining-refers stand.rest

  left-refers : (frames : List Frame) → All (FrameRefersTo P) frames → DataReferTo P (with_calls frames stand.own)
  left-refers frames all = calls-refer P frames stand.own is.own all

  declared-refers : (change : Frame → Frame) → KeepsReferences P change → DataReferTo P (declared stand change)
  declared-refers change keeps = in-last-refers P change keeps (done stand) done-refers

  -- ---- new components

  module _ (new : ComponentId) where
    abbrev WithNew : ComponentId → Type 0
    WithNew = HoldsOrIs P new

    child-refers : (own : Data) → DataReferTo WithNew own → DataReferTo WithNew (with_child own)
    child-refers own also = record { members = also.members; calls = also.calls; defaults = also.defaults }

    component-new : (members : Frame) → FrameRefersTo WithNew members → ComponentRefersTo WithNew (new_component stand.test new members)
    component-new members all = record {
      own = record { members = all; calls = All-nil (FrameRefersTo WithNew); defaults = All-nil (DefaultRefersTo WithNew) };
      queues = All-map (QueueRefersTo WithNew) (λ (name : List ℕ). (name, [])) (flat_map ports_of (members_of (kind_at stand.test.definitions new.component_type)))
          (all-of (λ name. QueueRefersTo WithNew (name, [])) (λ name. All-nil (MessageRefersTo WithNew)) (flat_map ports_of (members_of (kind_at stand.test.definitions new.component_type))));
    }

  -- ---- components, ports and sends

  both-some : (one other : Option (Option ℕ)) → suit_each_other stand.test.definitions one other ≡ true → (is_some one ≡ true) × (is_some other ≡ true)
  both-some None other fits = absurd (let no = fits in cc)
  both-some (Some one) None fits = absurd (let no = fits in cc)
  both-some (Some one) (Some other) fits = (refl, refl)

  end-of : (c : ComponentId) (p : List ℕ) → P c → is_some (port_type stand.test.definitions c.component_type p) ≡ true → IsEndOf P stand.test.definitions (record { component = c.path; port = p })
  end-of c p holds is = (c, holds, refl, port-named stand.test.definitions c.component_type p is)

  connection-asks : (c d : ComponentId) (p q : List ℕ) → P c → P d → may_connect stand.test.definitions c p d q ≡ true → Asks (Requests (Connects (record { component = c.path; port = p }) (record { component = d.path; port = q })) (done stand))
  connection-asks c d p q one other may =
      let parts = and_parts (suit_each_other stand.test.definitions (port_type stand.test.definitions c.component_type p) (port_type stand.test.definitions d.component_type q))
      (not (same_end (record { component = c.path; port = p }) (record { component = d.path; port = q }))) may in
      let some = both-some (port_type stand.test.definitions c.component_type p) (port_type stand.test.definitions d.component_type q) parts.0 in
      (end-of c p one some.0, end-of d q other some.1, done-refers)

  mappable-some : (one other : Option (Option ℕ)) → is_mappable stand.test.definitions one other ≡ true → is_some one ≡ true
  mappable-some None other fits = absurd (let no = fits in cc)
  mappable-some (Some one) other fits = refl

  mapped-end : (c : ComponentId) (p system_port : List ℕ) → P c → may_map stand.test c p system_port ≡ true → IsEndOf P stand.test.definitions (record { component = c.path; port = p })
  mapped-end c p system_port holds may =
      end-of c p holds (mappable-some (port_type stand.test.definitions c.component_type p) (port_type stand.test.definitions (system_type stand.test) system_port) may)

  to-is : (site : Site) (to : Option ComponentRef) → IfYields (sent_to stand site to) (λ o. IfSome o (IsPathOf P))
  to-is site None = tt
  to-is site (Some reference) = map-yields P (λ o. IfSome o (IsPathOf P)) (λ (c : ComponentId). Some c.path) (component_meant_at stand site reference) path-of (meant-is site reference)

  sent-refers : (site : Site) (send : Send) (of : Option DataType) → Gives P (sent_value stand site send of)
  sent-refers site send None = tt
  sent-refers site send (Some of) = sent-gives P send.message.template (reads stand site) (read-at site) (Some of)

  -- ---- alts

  choose-refers : (written : List Written) → All (WayRefers P) written → ChoiceRefers P (choose_from stand written)
  choose-refers written all =
      choice-refers P stand.test stand.snapshot stand.own (written ++ written_defaults stand.test stand.snapshot stand.own) is.fronts
      (All-append (WayRefers P) written (written_defaults stand.test stand.snapshot stand.own) all (defaults-refer P stand.test stand.snapshot stand.own is.itself is.mtc is.own))

  choose-if : (o : Option (List Written)) → IfSome o (All (WayRefers P)) → IfSome (option_map (choose_from stand) o) (ChoiceRefers P)
  choose-if None all = tt
  choose-if (Some written) all = choose-refers written all

  chosen-refers : (site : Site) (s : Statement) → IfSome (choice_at stand site s) (ChoiceRefers P)
  chosen-refers site s =
      choose-if (written_alt stand.test stand.snapshot stand.own (judge_at stand site) (out-Statement s).place (action_of s))
      (alt-refers P stand.test stand.snapshot stand.own is.itself is.mtc is.own (judge_at stand site) (out-Statement s).place (action_of s) is.frame)

  all-stored : (site : Site) (redirects : List Redirect) (own : Data) → All (λ redirect. RefersTo P redirect.value) redirects → DataReferTo P own → IfYields (store_all stand.test site redirects own) (DataReferTo P)
  all-stored site [] own all also = also
  all-stored site (redirect ∷ redirects) own all also =
      then-yields (DataReferTo P) (DataReferTo P) (store_all stand.test site redirects) (store stand.test (target_meant stand.test site redirect.reference) redirect.value own)
      (λ next refers. all-stored site redirects next (All-tail (λ redirect. RefersTo P redirect.value) redirect redirects all) refers)
      (store-refers P stand.test (target_meant stand.test site redirect.reference) redirect.value own (All-head (λ redirect. RefersTo P redirect.value) redirect redirects all) also)

  effect-refers : (site : Site) (effect : Effect) (own : Data) → EffectRefers P effect → DataReferTo P own → IfYields (effected stand.test site effect own) (DataReferTo P)
  effect-refers site Plain own of also = also
  effect-refers site (Receives port redirects) own of also = all-stored site redirects own of also
  effect-refers site (Elapses name) own of also = set-timer-refers P stand.test site name timer.Inactive own also

  taken-refers : (site : Site) (s : Statement) (chance : Chance) (effect : Effect) → ChanceRefers P chance → EffectRefers P effect → IfYields (taken stand.test site s stand.rest chance effect stand.own) (DataReferTo P)
  taken-refers site s chance effect frames of =
      effect-refers chance.judge.site effect (with_calls (entered site s stand.rest chance.way stand.own.calls) stand.own) of
      (calls-refer P (entered site s stand.rest chance.way stand.own.calls) stand.own is.own
      (All-append (FrameRefersTo P) chance.way.frames (in_last (with_remaining (marked site s stand.rest chance.way)) stand.own.calls) frames
      (last-refers P (with_remaining (marked site s stand.rest chance.way)) (remaining-keeps P (marked site s stand.rest chance.way)) stand.own.calls is.own.calls)))

  -- ---- `repeat`

  repeat-refers-in : (frame : Frame) (frames : List Frame) (found : Option (List Item)) (below : Option (List Frame)) → All (FrameRefersTo P) (frame ∷ frames) → IfSome below (All (FrameRefersTo P))
      → IfSome (repeat_in frame frames found below) (All (FrameRefersTo P))
  repeat-refers-in frame frames None below all others = others
  repeat-refers-in frame frames (Some items) below all others =
      All-cons (FrameRefersTo P) (with_remaining items frame) frames (All-head (FrameRefersTo P) frame frames all) (All-tail (FrameRefersTo P) frame frames all)

  repeat-refers : (calls : List Frame) → All (FrameRefersTo P) calls → IfSome (repeated calls) (All (FrameRefersTo P))
  repeat-refers [] all = tt
  repeat-refers (frame ∷ frames) all =
      repeat-refers-in frame frames (from_mark frame.remaining) (repeated frames) all (repeat-refers frames (All-tail (FrameRefersTo P) frame frames all))

  -- ---- what each change keeps

  keeps : (site : Site) (s : Statement) (part : Part)
      → Keeps stand site s part Asks (λ own. DataReferTo P own × (own.children ≡ stand.own.children)) (DataReferTo P) (DataReferTo P) (RefersTo P) (FrameRefersTo P)
  keeps site s part = record {
    evaluated = wanted-gives site;
    handed = given site;
    default_given = default-refers P;
    does = (done-refers, refl);
    forgets = λ name. (declared-refers (forget name) (forget-keeps P name), refl);
    opens = λ own also. also.0;
    declares = λ name v of. declared-refers (declare name v) (declare-keeps P name v of);
    declares_timer = λ k timers t named e found. declared-refers (declare_timer t.name) (declare-timer-keeps P t.name);
    stores = λ target v own of also. store-refers P stand.test target v own of also;
    sets_timer = λ name state. set-timer-refers P stand.test site name state (done stand) done-refers;
    activates = λ at values own all also. record {
      members = also.0.members;
      calls = also.0.calls;
      defaults = All-cons (DefaultRefersTo P) (record { number = own.activations + 1; altstep = at; arguments = values }) own.defaults all also.0.defaults;
    };
    deactivates = λ stay. record { members = done-refers.members; calls = done-refers.calls; defaults = All-filter stay (DefaultRefersTo P) (done stand).defaults done-refers.defaults };
    deactivates_all = record { members = done-refers.members; calls = done-refers.calls; defaults = All-nil (DefaultRefersTo P) };
    ends = λ own also. also;
    makes = λ made makes. remaining-refers (made ++ stand.rest);
    begins = λ at body values found all. frame-refers P stand.test.definitions at values (items stand.test.definitions (beginning at) body) all;
    calls = λ frame new fits. left-refers (frame ∷ (done stand).calls) (All-cons (FrameRefersTo P) frame (done stand).calls new done-refers.calls);
    awaits = λ target own frame also new fits.
        calls-refer P (frame ∷ (going_on (Waiting target ∷ stand.rest) own).calls) own also.0
        (All-cons (FrameRefersTo P) frame (going_on (Waiting target ∷ stand.rest) own).calls new
        (last-refers P (with_remaining (Waiting target ∷ stand.rest)) (remaining-keeps P (Waiting target ∷ stand.rest)) own.calls also.0.calls));
    leaves = λ frame frames under. left-refers (frame ∷ frames) (subst (All (FrameRefersTo P)) under is.below);
    gives_back = λ frame frames target xs v under e of.
        store-refers P stand.test target v (going_on xs (with_calls (frame ∷ frames) stand.own)) of
        (going-on-refers P xs (with_calls (frame ∷ frames) stand.own) (left-refers (frame ∷ frames) (subst (All (FrameRefersTo P)) under is.below)));
    repeats = λ calls found. left-refers calls (some-of (All (FrameRefersTo P)) (repeated stand.own.calls) calls found (repeat-refers stand.own.calls is.own.calls));
    takes = λ chance effect own whole chosen taken-is fits.
        let of = some-of (ChoiceRefers P) (choice_at stand site s) (Taken chance effect) chosen (chosen-refers site s) in
        let also : DataReferTo P own = yields-is (DataReferTo P) (taken stand.test site s stand.rest chance effect stand.own) own taken-is (taken-refers site s chance effect of.0 of.1) in
        calls-refer P own.calls own also also.calls;
    fails = λ why. tt;
    waits = λ whole chosen. tt;
    continues = λ own also. also;
    worsens = λ v reasons whole e. done-refers;
    removes = λ port own also. also;
    sends = λ send v to of meant. (
      yields-is (λ o. IfSome o (IsPathOf P)) (sent_to stand site send.to) to meant (to-is site send.to),
      yields-is (RefersTo P) (sent_value stand site send (sent_type (scope_at stand.test.definitions site) send)) v of (sent-refers site send (sent_type (scope_at stand.test.definitions site) send)),
      done-refers,
    );
    creates = λ target own at members changed also made stored.
        let new : ComponentId = new_id stand own at in (
          ap (child_of stand.snapshot.itself) also.1,
          component-new new members (yields-is (FrameRefersTo (WithNew new)) (new_members stand.test new stand.snapshot) members made (members-refer (WithNew new) stand.test stand.snapshot (inl is.mtc) new (inr refl))),
          child-refers new changed (yields-is (DataReferTo (WithNew new)) (store stand.test target (value.Component new) own) changed stored
              (store-refers (WithNew new) stand.test target (value.Component new) own (component-refers (WithNew new) new (inr refl)) (data-more P (WithNew new) (λ id holds. inl holds) own also.0))),
          empty-named stand.test.definitions new.component_type,
        );
    starts = λ reference c frame meant new. (path-of c (yields-is P (component_meant_at stand site reference) c meant (meant-is site reference)), new, done-refers);
    stops_itself = (path-of stand.snapshot.itself is.itself, done-refers);
    stops_last = λ under. (path-of stand.snapshot.itself is.itself, left-refers [] (All-nil (FrameRefersTo P)));
    stops = λ reference c meant. (path-of c (yields-is P (component_meant_at stand site reference) c meant (meant-is site reference)), done-refers);
    connects = λ one other c d first second may.
        connection-asks c d one.port other.port (yields-is P (component_meant_at stand site one.component) c first (meant-is site one.component))
        (yields-is P (component_meant_at stand site other.component) d second (meant-is site other.component)) may;
    maps = λ m c meant may. (mapped-end c m.port.port m.system_port (yields-is P (component_meant_at stand site m.port.component) c meant (meant-is site m.port.component)) may, done-refers);
    unmaps = λ m c meant. (path-of c (yields-is P (component_meant_at stand site m.port.component) c meant (meant-is site m.port.component)), done-refers);
  }

-- ---- steps of a component

module _ (P : ComponentId → Type 0) (test : Test) (snapshot : Snapshot) (own : Data) (itself : P snapshot.itself) (mtc : P (mtc_of test)) (fronts : SnapshotRefersTo P snapshot) (is : DataReferTo P own) where
  frames-refer : (frame : Frame) (below : List Frame) → own.calls ≡ frame ∷ below → All (FrameRefersTo P) (frame ∷ below)
  frames-refer frame below calls = subst (All (FrameRefersTo P)) calls is.calls

  stands : (frame : Frame) (below : List Frame) (rest : List Item) → own.calls ≡ frame ∷ below → StandsAmong P (record { test = test; snapshot = snapshot; own = own; frame = frame; below = below; rest = rest })
  stands frame below rest calls = record {
    itself = itself;
    mtc = mtc;
    fronts = fronts;
    own = is;
    frame = All-head (FrameRefersTo P) frame below (frames-refer frame below calls);
    below = All-tail (FrameRefersTo P) frame below (frames-refer frame below calls);
  }

  -- what a component asks for refers only to such components, where all that it holds and sees does
  pub asked-refers : IsAsked P test.definitions snapshot.itself own.children (act test snapshot own)
  asked-refers =
      act-asks test snapshot own (IsAsked P test.definitions snapshot.itself own.children) (λ why. tt)
      (λ frame below calls nothing. let stand : Stand = record { test = test; snapshot = snapshot; own = own; frame = frame; below = below; rest = [] } in
      end-asks stand (IsAsked P test.definitions snapshot.itself own.children) (λ why. tt)
      (λ under. ((snapshot.itself, itself, refl), left-refers P stand (stands frame below [] calls) [] (All-nil (FrameRefersTo P))))
      (λ last frames under. left-refers P stand (stands frame below [] calls) (last ∷ frames) (subst (All (FrameRefersTo P)) under (All-tail (FrameRefersTo P) frame below (frames-refer frame below calls)))) below refl)
      (λ frame below site s part rest calls first.
      let stand : Stand = record { test = test; snapshot = snapshot; own = own; frame = frame; below = below; rest = rest } in
      part-asks stand site s part (IsAsked P test.definitions snapshot.itself own.children) (λ changed. DataReferTo P changed × (changed.children ≡ own.children)) (DataReferTo P) (DataReferTo P) (RefersTo P) (FrameRefersTo P)
      (keeps P stand (stands frame below rest calls) site s part))

-- in the words of the law
pub act-refers : (P : ComponentId → Type 0) (definitions : List Definition) (itself : ComponentId) (n : ℕ) (asked : Act) → IsAsked P definitions itself n asked → ActRefersTo P asked
act-refers P definitions itself n (Requests (Creates new) own) is = (is.1, is.2)
act-refers P definitions itself n (Requests (Connects d e) own) is = ((is.0.0, is.0.1, is.0.2), (is.1.0, is.1.1, is.1.2), is.2)
act-refers P definitions itself n (Requests (Maps d system_port) own) is = ((is.0.0, is.0.1, is.0.2), is.1)
act-refers P definitions itself n Waits is = is
act-refers P definitions itself n (Errs why) is = is
act-refers P definitions itself n (Requests Continues own) is = is
act-refers P definitions itself n (Requests (Worsens v) own) is = is
act-refers P definitions itself n (Requests (Removes port) own) is = is
act-refers P definitions itself n (Requests (Sends port to v) own) is = is
act-refers P definitions itself n (Requests (Starts path frame) own) is = is
act-refers P definitions itself n (Requests (Stops path) own) is = is
act-refers P definitions itself n (Requests (Unmaps d system_port) own) is = is
