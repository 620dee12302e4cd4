-- What is read in a configuration, and frame 0 of a new component, refer only to what the component holds, itself and the MTC.
use Rattle.std.proofs.Common.{ℕ, Bool, true, false, List, [], ◌∷◌, Option, Some, None, is_some, if◌then◌else◌}
use Rattle.std.proofs.lemmas.List.Elements.{All-nil}
use Rattle.ttcn_syntax.specs.declared.tree.definition.Member.{Member}
use Rattle.ttcn_syntax.specs.declared.tree.definition.Member.TheVariants as member
use Rattle.ttcn_syntax.specs.declared.tree.value.Value as written
use Rattle.check_scope.specs.Names.{kind_at, members_of, module_names, resolved}
use Rattle.check_scope.specs.declared.types.DataType.{DataType}
use Rattle.laws_references.proofs.Chains.{chains-refer}
use Rattle.laws_references.proofs.Literals.{value-gives}
use Rattle.laws_references.proofs.Stored.{declare-keeps, declare-timer-keeps, forget-keeps, seen-refers}
use Rattle.laws_references.proofs.Values.{error-gives}
use Rattle.laws_references.specs.References.{DataReferTo, EntriesReferTo, FactsReferTo, FrameRefersTo, ReadingRefersTo, RefersTo}
use Rattle.laws_steps.proofs.Outcomes.{map-yields, then-yields}
use Rattle.semantics.specs.Configurations.{Data, Frame}
use Rattle.semantics.specs.Creating.{declared_in_turn, declared_member, declared_variable, declared_with, empty_frame, new_members, reading_of_members}
use Rattle.semantics.specs.Sites.{Site, runs_on}
use Rattle.semantics.specs.Snapshots.{Snapshot, Test, View, facts_of, members_in, mtc_of, reading_in, seen_members}
use Rattle.semantics.specs.Storing.{declare, declare_timer}
use Rattle.check_rules.specs.Limits.{longest_chain}
use Rattle.value_types.specs.Frames.{seen_entry}
use Rattle.value_types.specs.Literals.{value_wanted}
use Rattle.value_types.specs.Outcomes.{IfYields, Outcome, Yields}
use Rattle.value_types.specs.declared.value.ComponentId.{ComponentId}

module _ (P : ComponentId → Type 0) (test : Test) (snapshot : Snapshot) (mtc : P (mtc_of test)) where
  -- ---- readings

  facts-refer : (itself : ComponentId) (inner outer : View) → P itself → EntriesReferTo P inner.values → EntriesReferTo P outer.values → FactsReferTo P (facts_of test itself snapshot inner outer)
  facts-refer itself inner outer is one other = record {
    names = λ name. error-gives (RefersTo P) (seen_entry inner.values outer.values name) (seen-refers P inner.values outer.values name one other);
    itself = is;
    mtc = mtc;
  }

  no-values : EntriesReferTo P []
  no-values = All-nil (λ e. RefersTo P e.1)

  seen-if : (b : Bool) (view : View) → EntriesReferTo P view.values → EntriesReferTo P (if b then view else record { values = []; timers = [] }).values
  seen-if true view is = is
  seen-if false view is = no-values

  -- what is read at a site
  pub reading-refers : (own : Data) (site : Site) (view : View) → P snapshot.itself → DataReferTo P own → EntriesReferTo P view.values → ReadingRefersTo P (reading_in test snapshot own site view)
  reading-refers own site view itself is seen =
      chains-refer P longest_chain (facts_of test snapshot.itself snapshot view (seen_members test site (members_in snapshot own)))
      (facts-refer snapshot.itself view (seen_members test site (members_in snapshot own)) itself seen
      (seen-if (is_some (runs_on test.definitions site.behaviour)) (members_in snapshot own) is.members))

  -- ---- frame 0

  module _ (itself : ComponentId) (is : P itself) where
    members-read : (frame : Frame) → FrameRefersTo P frame → ReadingRefersTo P (reading_of_members test itself snapshot frame)
    members-read frame all =
        chains-refer P longest_chain (facts_of test itself snapshot (record { values = frame.values; timers = frame.timers }) (record { values = []; timers = [] }))
        (facts-refer itself (record { values = frame.values; timers = frame.timers }) (record { values = []; timers = [] }) is all no-values)

    turn-refers : {A : Type 0} (declared : Frame → A → Outcome Frame) → ((frame : Frame) (a : A) → FrameRefersTo P frame → IfYields (declared frame a) (FrameRefersTo P))
        → (parts : List A) (frame : Frame) → FrameRefersTo P frame → IfYields (declared_in_turn declared parts frame) (FrameRefersTo P)
    turn-refers declared keeps [] frame all = all
    turn-refers declared keeps (a ∷ others) frame all =
        then-yields (FrameRefersTo P) (FrameRefersTo P) (declared_in_turn declared others) (declared frame a)
        (λ next also. turn-refers declared keeps others next also) (keeps frame a all)

    with-refers : (of : Option DataType) (frame : Frame) (name : List ℕ) (v : written.Value) → FrameRefersTo P frame → IfYields (declared_with test itself snapshot of frame name v) (FrameRefersTo P)
    with-refers of frame name v all =
        map-yields (RefersTo P) (FrameRefersTo P) (λ found. declare name found frame) (value_wanted v (reading_of_members test itself snapshot frame) of)
        (λ found new. declare-keeps P name found new frame all) (value-gives P v (reading_of_members test itself snapshot frame) (members-read frame all) of)

    variable-refers : (of : Option DataType) (frame : Frame) (name : List ℕ) (v : Option written.Value) → FrameRefersTo P frame → IfYields (declared_variable test itself snapshot of frame name v) (FrameRefersTo P)
    variable-refers of frame name None all = forget-keeps P name frame all
    variable-refers of frame name (Some v) all = with-refers of frame name v all

    member-refers : (frame : Frame) (m : Member) → FrameRefersTo P frame → IfYields (declared_member test itself snapshot frame m) (FrameRefersTo P)
    member-refers frame (member.Ports port_type ports) all = all
    member-refers frame (member.Constants cs) all =
        turn-refers (λ f c. declared_with test itself snapshot (resolved (module_names test.definitions) cs.type_name) f c.name c.value)
        (λ f c also. with-refers (resolved (module_names test.definitions) cs.type_name) f c.name c.value also) cs.constants frame all
    member-refers frame (member.Variables of variables) all =
        turn-refers (λ f v. declared_variable test itself snapshot (resolved (module_names test.definitions) of) f v.name v.value)
        (λ f v also. variable-refers (resolved (module_names test.definitions) of) f v.name v.value also) variables frame all
    member-refers frame (member.Timers timers) all =
        turn-refers (λ f t. Yields (declare_timer t.name f)) (λ f t also. declare-timer-keeps P t.name f also) timers frame all

    pub members-refer : IfYields (new_members test itself snapshot) (FrameRefersTo P)
    members-refer =
        turn-refers (declared_member test itself snapshot) member-refers (members_of (kind_at test.definitions itself.component_type)) empty_frame no-values
