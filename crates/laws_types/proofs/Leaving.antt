-- Ends of frames: a result goes to the target that waits for it.
use Rattle.std.proofs.Common.{◌≡◌, ℕ, true, List, [], ◌∷◌, Option, Some, None, inl, refl, sym, subst, ◌∙◌, if◌then◌else◌}
use Rattle.std.specs.List.{All}
use Rattle.ttcn_syntax.specs.declared.tree.definition.Definition.{Definition}
use Rattle.check_scope.specs.Names.{Entry}
use Rattle.check_scope.specs.declared.types.DataType.{DataType}
use Rattle.laws_evaluation.specs.Types.{is_of}
use Rattle.semantics.specs.Configurations.{Data, Frame}
use Rattle.semantics.specs.Items.{Doing, Item, Mark, Target, Waiting}
use Rattle.semantics.specs.Sites.{Site}
use Rattle.semantics.specs.Statements.{Act, Continues, Errs, Requests, Stand, Stops, act_end, continuing, give_back, leave, waits_first}
use Rattle.semantics.specs.Storing.{going_on, store, with_calls}
use Rattle.check_rules.specs.Rules.{AreWellTyped}
use Rattle.value_types.specs.Outcomes.{DynamicError}
use Rattle.value_types.specs.declared.value.Value.{Value}
use Rattle.laws_types.proofs.Data.{DataAt, data-fits, frame-outside, stored-of}
use Rattle.laws_types.proofs.Stands.{always-fits}
use Rattle.laws_types.specs.internal.Asked.{FitsAct, IsMeant}
use Rattle.laws_types.specs.Fitting.{FitsMembers, view_of}
use Rattle.laws_types.specs.Typed.{Awaits, FitBelow, FitCalls, FitsData, FitsDefault, FitsFrame, IsTarget, Nest, StandsIn, result_of}

-- what is given back is of the type of the result, and where nothing is given back there is none
abbrev pub IsGiven : List Definition → Option DataType → Option Value → Type 0
IsGiven definitions result None = result ≡ None
IsGiven definitions result (Some v) = (t : DataType) × (result ≡ Some t) × (is_of definitions t v ≡ true)

module _ (stand : Stand) (well : AreWellTyped stand.test.definitions) (component_type : ℕ) (members : FitsMembers stand.test.definitions component_type (view_of stand.own.members))
    (defaults : All (FitsDefault stand.test.definitions component_type) stand.own.defaults) (result : Option DataType) where
  abbrev ds : List Definition
  ds = stand.test.definitions

  abbrev Asks : Act → Type 0
  Asks asked = FitsAct stand.test component_type stand.snapshot.itself.path (IsMeant stand.test stand.snapshot stand.own stand.frame) asked

  with-frames : (frame : Frame) (frames : List Frame) → FitCalls ds component_type (frame ∷ frames) → FitsData ds component_type (with_calls (frame ∷ frames) stand.own)
  with-frames frame frames fits = record { members = members; calls = fits; defaults = defaults; frames = tt }

  -- a component that stops has none
  stops : Asks (Requests (Stops stand.snapshot.itself.path) (with_calls [] stand.own))
  stops = (record { members = members; calls = tt; defaults = defaults }, inl refl)

  -- the frame below, where nothing waits
  goes-back : (frame : Frame) (frames : List Frame) (at : ℕ) (declared : List Entry) → FitsFrame ds component_type at declared frame → Nest ds at declared frame.remaining → FitBelow ds component_type (result_of ds at) frames
      → Asks (Requests Continues (with_calls (frame ∷ frames) stand.own))
  goes-back frame frames at declared fits nest below = with-frames frame frames (at, declared, fits, nest, below)

  -- where a target waits: its site is one of the frame's behaviour
  waits-at : (frame : Frame) (frames : List Frame) (site : Site) (target : Target) (t : DataType) (xs : List Item) (v : Value) → IsTarget ds site target t → is_of ds t v ≡ true
      → FitsFrame ds component_type site.behaviour site.declared frame → Nest ds site.behaviour site.declared xs → FitBelow ds component_type (result_of ds site.behaviour) frames
      → Asks (continuing (store stand.test target v (going_on xs (with_calls (frame ∷ frames) stand.own))))
  waits-at frame frames site target t xs v goal goes fits nest below =
      let own : Data = going_on xs (with_calls (frame ∷ frames) stand.own) in
      let here : DataAt ds component_type site.behaviour site.declared (Nest ds site.behaviour site.declared) own = record {
        members = members;
        last = (record { on = fits.on; names = fits.names; seen = fits.seen }, nest, below);
        defaults = defaults;
      } in
      always-fits stand.test component_type stand.snapshot.itself.path (IsMeant stand.test stand.snapshot stand.own stand.frame) (DataAt ds component_type site.behaviour site.declared (Nest ds site.behaviour site.declared)) (Requests Continues) (store stand.test target v own)
      (stored-of stand.test well component_type site fits.on fits.names target t goal (Nest ds site.behaviour site.declared) own v goes here)
      (λ new also. data-fits ds component_type site.behaviour site.declared new also)

  abbrev Below : ℕ → List Entry → Frame → List Frame → List Item → Type 0
  Below at outer frame frames xs = FitsFrame ds component_type at outer frame × Nest ds at outer xs × FitBelow ds component_type (result_of ds at) frames

  same-some : (t u : DataType) → result ≡ Some t → result ≡ Some u → t ≡ u
  same-some t u one other = let e : Some t ≡ Some u = sym one ∙ other in cc

  waits : (frame : Frame) (frames : List Frame) (at : ℕ) (declared : List Entry) (target : Target) (xs : List Item) (v : Value) (t : DataType) → result ≡ Some t → is_of ds t v ≡ true → FitsFrame ds component_type at declared frame
      → Awaits ds at result declared (Waiting target ∷ xs) → FitBelow ds component_type (result_of ds at) frames → Asks (continuing (store stand.test target v (going_on xs (with_calls (frame ∷ frames) stand.own))))
  waits frame frames at declared target xs v t is goes fits awaits below =
      let site : Site = awaits.0 in
      let u : DataType = awaits.1 in
      let stands : StandsIn at declared site = awaits.2 in
      let here : Below site.behaviour site.declared frame frames xs =
      subst (λ n. Below n site.declared frame frames xs) (sym stands.0) (frame-outside ds component_type at well site.declared declared frame stands.1 fits, awaits.5, below) in
      waits-at frame frames site target u xs v awaits.3 (subst (λ t. is_of ds t v ≡ true) (same-some t u is awaits.4) goes) here.0 here.1 here.2

  no-result : (t : DataType) → result ≡ Some t → result ≡ None → ⊥
  no-result t some none = let e : Some t ≡ None = sym some ∙ none in cc

  gives : (frame : Frame) (frames : List Frame) (at : ℕ) (declared : List Entry) (xs : List Item) (given : Option Value) → frame.remaining ≡ xs → IsGiven ds result given → FitsFrame ds component_type at declared frame
      → Awaits ds at result declared xs → FitBelow ds component_type (result_of ds at) frames → Asks (give_back stand frame frames xs given)
  gives frame frames at declared (Waiting target ∷ xs) (Some v) e is fits awaits below = waits frame frames at declared target xs v is.0 is.1 is.2 fits awaits below
  gives frame frames at declared (Waiting target ∷ xs) None e is fits awaits below = absurd (no-result awaits.1 awaits.4 is)
  gives frame frames at declared (Doing site s part ∷ xs) given e is fits awaits below = goes-back frame frames at declared fits (subst (Nest ds at declared) (sym e) awaits) below
  gives frame frames at declared (Mark site s ∷ xs) given e is fits awaits below = goes-back frame frames at declared fits (subst (Nest ds at declared) (sym e) awaits) below
  gives frame frames at declared [] given e is fits awaits below = goes-back frame frames at declared fits (subst (Nest ds at declared) (sym e) tt) below

  pub leave-asks : (frames : List Frame) (given : Option Value) → IsGiven ds result given → FitBelow ds component_type result frames → Asks (leave stand frames given)
  leave-asks [] given is below = stops
  leave-asks (frame ∷ frames) given is below = gives frame frames below.0 below.1 frame.remaining given refl is below.2 below.3 below.4

  -- the end of a frame in which nothing remains
  ends-with : (frame : Frame) (frames : List Frame) (at : ℕ) (declared : List Entry) (xs : List Item) → frame.remaining ≡ xs → FitsFrame ds component_type at declared frame → Awaits ds at result declared xs
      → FitBelow ds component_type (result_of ds at) frames → Asks (if waits_first xs then Errs DynamicError else Requests Continues (with_calls (frame ∷ frames) stand.own))
  ends-with frame frames at declared (Waiting target ∷ xs) e fits awaits below = tt
  ends-with frame frames at declared (Doing site s part ∷ xs) e fits awaits below = goes-back frame frames at declared fits (subst (Nest ds at declared) (sym e) awaits) below
  ends-with frame frames at declared (Mark site s ∷ xs) e fits awaits below = goes-back frame frames at declared fits (subst (Nest ds at declared) (sym e) awaits) below
  ends-with frame frames at declared [] e fits awaits below = goes-back frame frames at declared fits (subst (Nest ds at declared) (sym e) tt) below

  pub end-asks : (frames : List Frame) → FitBelow ds component_type result frames → Asks (act_end stand frames)
  end-asks [] below = stops
  end-asks (frame ∷ frames) below = ends-with frame frames below.0 below.1 frame.remaining refl below.2 below.3 below.4
