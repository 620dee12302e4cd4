-- Frame 0 of a new component: its members are declared without what no checked module meets, and their values are of their types.
use Rattle.std.proofs.Common.{◌≡◌, ℕ, true, false, List, [], ◌∷◌, ◌++◌, map, bytes_eq, Option, Some, None, IfSome, is_none, is_some, append_assoc, refl, sym, ap, subst, ◌∙◌, if◌then◌else◌}
use mathlib.Core.Path.{fun_ext}
use Rattle.std.specs.Option.{option_or}
use Rattle.std.proofs.lemmas.Slice.Eq.{bytes_eq-Decides}
use Rattle.ttcn_syntax.specs.declared.tree.definition.ComponentType.{ComponentType}
use Rattle.ttcn_syntax.specs.declared.tree.definition.Definition.{Definition}
use Rattle.ttcn_syntax.specs.declared.tree.definition.DefinitionKind.{DefinitionKind}
use Rattle.ttcn_syntax.specs.declared.tree.definition.DefinitionKind.TheVariants as kind
use Rattle.ttcn_syntax.specs.declared.tree.definition.Member.{Member}
use Rattle.ttcn_syntax.specs.declared.tree.definition.Member.TheVariants as member
use Rattle.ttcn_syntax.specs.declared.tree.definition.MemberVariable.{MemberVariable}
use Rattle.ttcn_syntax.specs.declared.tree.statement.Constant.{Constant}
use Rattle.ttcn_syntax.specs.declared.tree.statement.Timer.{Timer}
use Rattle.ttcn_syntax.specs.declared.tree.value.Value as written
use Rattle.check_rules.specs.Targets.{timer_entry}
use Rattle.check_rules.specs.Templates.{template_meant}
use Rattle.check_rules.specs.Values as checked
use Rattle.check_scope.specs.Names.{Entry, Names, Scope, behind, behind_members, kind_at, listed, member_entries, members_of, module_names, port_type_meant, resolved}
use Rattle.check_scope.specs.Typings.{target_of}
use Rattle.check_scope.specs.declared.names.Meaning.{Meaning}
use Rattle.check_scope.specs.declared.names.Meaning.TheVariants as meaning
use Rattle.check_scope.specs.declared.types.DataType.{DataType}
use Rattle.check_rules.specs.Definitions.{port_entry}
use Rattle.laws_checker.proofs.Whole.{module_whole}
use Rattle.laws_checker.specs.Laws.{IsKnown, IsWhole}
use Rattle.laws_evaluation.proofs.Only.{only-of, only-then}
use Rattle.laws_evaluation.proofs.TypedChains.{fields_differ}
use Rattle.laws_evaluation.proofs.TypedRecords.{values_met, values_typed}
use Rattle.laws_evaluation.specs.Types.{FitsIn, HasAll, is_of, names_timer}
use Rattle.laws_evaluation.specs.Uses.{GivesOnly}
use Rattle.laws_statements.proofs.Growing.{new_name_within, within_both, within_itself}
use Rattle.laws_statements.proofs.Members.{member_is, name_leaves_whole, types-of-module}
use Rattle.laws_statements.specs.Members.{AreMemberVariables, AreNew, DeclaresMemberVariables, DeclaresPorts, IsInitialValue, IsMember, scope_behind}
use Rattle.laws_statements.specs.Targets.{AreConstants, DeclaresConstants}
use Rattle.laws_statements.specs.Within.{IsWithin}
use Rattle.laws_types.proofs.Declared.{by-name}
use Rattle.laws_types.proofs.Stands.{only-mapped}
use Rattle.semantics.specs.Configurations.{Frame}
use Rattle.semantics.specs.Creating.{declared_in_turn, declared_member, declared_variable, declared_with, empty_frame, new_members, reading_of_members}
use Rattle.semantics.specs.Snapshots.{Snapshot, Test, View}
use Rattle.semantics.specs.Storing.{declare, declare_timer, forget}
use Rattle.check_rules.specs.Limits.{longest_chain}
use Rattle.check_rules.specs.Rules.{AreWellTyped}
use Rattle.value_types.specs.Frames.{entry}
use Rattle.value_types.specs.Literals.{value_wanted}
use Rattle.value_types.specs.Outcomes.{DynamicError, Fails, Outcome, Unmet, Yields}
use Rattle.value_types.specs.declared.frame.TimerState.TheVariants as timer
use Rattle.value_types.specs.declared.value.ComponentId.{ComponentId}
use Rattle.value_types.specs.declared.value.Value.{Value}
use Rattle.laws_steps.proofs.Entries.{put-other, put-own, without-other, without-own}
use Rattle.laws_types.proofs.Facts.{Knows, reading-fits, reading-has}
use Rattle.laws_types.proofs.Readings.{either-seen, if-some, le-itself, member-value}
use Rattle.laws_types.proofs.Visible.{module-timers}
use Rattle.laws_types.specs.Fitting.{FitsMembers, FitsNames, IsMemberValue, IsValueOf, view_of}

none-is : (o : Option Meaning) → is_none o ≡ true → o ≡ None
none-is None is = refl
none-is (Some m) is = absurd (let e = is in cc)

some-alone : {A : Type 0} (o : Option A) → is_some (option_or o None) ≡ is_some o
some-alone None = refl
some-alone (Some a) = refl

-- ---- one more name

abbrev with-name : Names → Entry → Names
with-name names e = behind names (e ∷ [])

own-means : (names : Names) (name : List ℕ) (m : Meaning) → with-name names (name, m) name ≡ Some m
own-means names name m = ap (λ b. option_or (if b then Some m else None) (names name)) ((bytes_eq-Decides name name).1 refl)

other-means : (names : Names) (name : List ℕ) (m : Meaning) (x : List ℕ) → bytes_eq name x ≡ false → with-name names (name, m) x ≡ names x
other-means names name m x differs = ap (λ b. option_or (if b then Some m else None) (names x)) differs

-- several names, one behind the other
abbrev after : {A : Type 0} → (A → Entry) → Names → List A → Names
after entry names [] = names
after entry names (a ∷ xs) = after entry (with-name names (entry a)) xs

or-or : {A : Type 0} (one other more : Option A) → option_or one (option_or other more) ≡ option_or (option_or one other) more
or-or None other more = refl
or-or (Some a) other more = refl

after-at : {A : Type 0} (entry : A → Entry) (names : Names) (xs : List A) (name : List ℕ) → after entry names xs name ≡ behind names (map entry xs) name
after-at entry names [] name = refl
after-at entry names (a ∷ xs) name =
    after-at entry (with-name names (entry a)) xs name
    ∙ or-or (listed (map entry xs) name) (if bytes_eq (entry a).0 name then Some (entry a).1 else None) (names name)

after-is : {A : Type 0} (entry : A → Entry) (names : Names) (xs : List A) → after entry names xs ≡ behind names (map entry xs)
after-is entry names xs = fun_ext (λ name. after-at entry names xs name)

behind-one-more : (names : Names) (before : List Member) (m : Member) → behind_members names (before ++ m ∷ []) ≡ behind (behind_members names before) (member_entries (behind_members names before) m)
behind-one-more names [] m = refl
behind-one-more names (n ∷ before) m = behind-one-more (behind names (member_entries names n)) before m

-- ---- members so far

abbrev scope-of : List Definition → ComponentId → Names → Scope
scope-of ds itself names = record { definitions = ds; names = names; itself = Some itself.component_type }

-- the names of the module and of the members so far, and a frame with the members' values and timers
record Behind (ds : List Definition) (itself : ComponentId) (names : Names) (frame : Frame) : Type 0 where
  pub whole : IsWhole (scope-of ds itself names)
  pub within : IsWithin (scope-of ds itself (module_names ds)) (scope-of ds itself names)
  pub templates : (name : List ℕ) → module_names ds name ≡ None → template_meant (names name) ≡ None
  pub fits : FitsNames ds names (view_of frame)

module _ (test : Test) (well : AreWellTyped test.definitions) (itself : ComponentId) (snapshot : Snapshot) where
  abbrev ds : List Definition
  ds = test.definitions

  abbrev Stands : Names → Frame → Type 0
  Stands names frame = Behind ds itself names frame

  abbrev no-view : View
  no-view = record { values = []; timers = [] }

  knows : (names : Names) (frame : Frame) → Stands names frame → Knows test itself (view_of frame) no-view names (Some itself.component_type)
  knows names frame is = record {
    of_self = refl;
    of_module = is.within.names;
    templates = is.templates;
    values = λ name none. either-seen (IsValueOf ds (names name)) (entry frame.values name) None
        (if-some (IsMemberValue ds (names name)) (IsValueOf ds (names name)) (entry frame.values name) (λ v of. member-value ds (names name) v of) (is.fits.values name)) tt;
    timers = λ name. some-alone (entry frame.timers name) ∙ is.fits.timers name;
  }

  fits : (names : Names) (frame : Frame) → Stands names frame → FitsIn (scope-of ds itself names) (reading_of_members test itself snapshot frame)
  fits names frame is = reading-fits test well longest_chain (le-itself longest_chain) itself snapshot (view_of frame) no-view names (Some itself.component_type) (knows names frame is)

  has : (names : Names) (frame : Frame) → Stands names frame → HasAll (scope-of ds itself names) (reading_of_members test itself snapshot frame)
  has names frame is = reading-has test well longest_chain (le-itself longest_chain) itself snapshot (view_of frame) no-view names (Some itself.component_type) (knows names frame is)

  -- ---- one name is declared

  declares : (names : Names) (frame next : Frame) (name : List ℕ) (m : Meaning) → Stands names frame → names name ≡ None → IsKnown ds m → template_meant (Some m) ≡ None
      → IfSome (entry next.values name) (IsMemberValue ds (Some m)) → is_some (entry next.timers name) ≡ names_timer (Some m)
      → ((x : List ℕ) → bytes_eq name x ≡ false → entry next.values x ≡ entry frame.values x) → ((x : List ℕ) → bytes_eq name x ≡ false → entry next.timers x ≡ entry frame.timers x)
      → Stands (with-name names (name, m)) next
  declares names frame next name m is unseen known no-template own-value own-timer values timers =
      let more : Names = with-name names (name, m) in
      record {
        whole = name_leaves_whole (scope-of ds itself names) is.whole name m known;
        within = within_both (scope-of ds itself (module_names ds)) (scope-of ds itself names) (scope-of ds itself more) is.within (new_name_within (scope-of ds itself names) name m unseen);
        templates = λ x none. by-name (λ x. module_names ds x ≡ None → template_meant (more x) ≡ None) name x (λ any. ap template_meant (own-means names name m) ∙ no-template)
            (λ differs also. ap template_meant (other-means names name m x differs) ∙ is.templates x also) none;
        fits = record {
          values = λ x. by-name (λ x. IfSome (entry next.values x) (IsMemberValue ds (more x))) name x (subst (λ o. IfSome (entry next.values name) (IsMemberValue ds o)) (sym (own-means names name m)) own-value)
              (λ differs. subst (λ o. IfSome (entry next.values x) (IsMemberValue ds o)) (sym (other-means names name m x differs))
              (subst (λ found. IfSome found (IsMemberValue ds (names x))) (sym (values x differs)) (is.fits.values x)));
          timers = λ x. by-name (λ x. is_some (entry next.timers x) ≡ names_timer (more x)) name x (own-timer ∙ ap names_timer (sym (own-means names name m)))
              (λ differs. ap is_some (timers x differs) ∙ is.fits.timers x ∙ ap names_timer (sym (other-means names name m x differs)));
        };
      }

  -- a name that isn't there yet has no value
  no-value : (names : Names) (frame : Frame) (name : List ℕ) (P : Value → Type 0) → Stands names frame → names name ≡ None → IfSome (entry frame.values name) P
  no-value names frame name P is unseen =
      if-some (IsMemberValue ds (names name)) P (entry frame.values name) (λ v of. absurd (subst (λ o. IsMemberValue ds o v) unseen of)) (is.fits.values name)

  with-value : (names : Names) (frame : Frame) (name : List ℕ) (m : Meaning) (v : Value) → Stands names frame → names name ≡ None → IsKnown ds m → template_meant (Some m) ≡ None → names_timer (Some m) ≡ false
      → IsMemberValue ds (Some m) v → Stands (with-name names (name, m)) (declare name v frame)
  with-value names frame name m v is unseen known no-template no-timer of =
      declares names frame (declare name v frame) name m is unseen known no-template (subst (λ found. IfSome found (IsMemberValue ds (Some m))) (sym (put-own name v frame.values)) of)
      (ap is_some (without-own name frame.timers) ∙ sym no-timer) (λ x differs. put-other name x v differs frame.values) (λ x differs. without-other name x differs frame.timers)

  without-value : (names : Names) (frame : Frame) (name : List ℕ) (m : Meaning) → Stands names frame → names name ≡ None → IsKnown ds m → template_meant (Some m) ≡ None → names_timer (Some m) ≡ false
      → Stands (with-name names (name, m)) (forget name frame)
  without-value names frame name m is unseen known no-template no-timer =
      declares names frame (forget name frame) name m is unseen known no-template (subst (λ found. IfSome found (IsMemberValue ds (Some m))) (sym (without-own name frame.values)) tt)
      (ap is_some (without-own name frame.timers) ∙ sym no-timer) (λ x differs. without-other name x differs frame.values) (λ x differs. without-other name x differs frame.timers)

  with-timer : (names : Names) (frame : Frame) (name : List ℕ) → Stands names frame → names name ≡ None → Stands (with-name names (name, meaning.Timer)) (declare_timer name frame)
  with-timer names frame name is unseen =
      declares names frame (declare_timer name frame) name meaning.Timer is unseen tt refl (subst (λ found. IfSome found (IsMemberValue ds (Some meaning.Timer))) (sym (without-own name frame.values)) tt)
      (ap is_some (put-own name timer.Inactive frame.timers)) (λ x differs. without-other name x differs frame.values) (λ x differs. put-other name x timer.Inactive differs frame.timers)

  with-port : (names : Names) (frame : Frame) (name : List ℕ) (of : ℕ) → Stands names frame → names name ≡ None → Stands (with-name names (name, meaning.Port (Some of))) frame
  with-port names frame name of is unseen =
      declares names frame frame name (meaning.Port (Some of)) is unseen refl refl (no-value names frame name (IsMemberValue ds (Some (meaning.Port (Some of)))) is unseen)
      (is.fits.timers name ∙ ap names_timer unseen) (λ x differs. refl) (λ x differs. refl)

  -- ---- values

  wanted : (names : Names) (frame : Frame) (t : DataType) (v : written.Value) → Stands names frame → checked.value v (scope-of ds itself names) (target_of (Some t)) ≡ []
      → GivesOnly (value_wanted v (reading_of_members test itself snapshot frame) (Some t)) (λ w. is_of ds t w ≡ true)
  wanted names frame t v is nothing =
      only-of (λ w. is_of ds t w ≡ true) (value_wanted v (reading_of_members test itself snapshot frame) (Some t))
      (values_met v (scope-of ds itself names) (reading_of_members test itself snapshot frame) is.whole (fields_differ ds well) (fits names frame is) (has names frame is) t false nothing)
      (values_typed v (scope-of ds itself names) (reading_of_members test itself snapshot frame) is.whole (fields_differ ds well) (fits names frame is) t false nothing)

  constant-declared : (names : Names) (frame : Frame) (t : DataType) (c : Constant) → Stands names frame → names c.name ≡ None → checked.value c.value (scope-of ds itself names) (target_of (Some t)) ≡ []
      → GivesOnly (declared_with test itself snapshot (Some t) frame c.name c.value) (Stands (with-name names (c.name, meaning.Constant (Some t))))
  constant-declared names frame t c is unseen nothing =
      only-mapped (λ w. is_of ds t w ≡ true) (Stands (with-name names (c.name, meaning.Constant (Some t)))) (λ found. declare c.name found frame)
      (value_wanted c.value (reading_of_members test itself snapshot frame) (Some t)) (wanted names frame t c.value is nothing)
      (λ w of. with-value names frame c.name (meaning.Constant (Some t)) w is unseen refl refl refl of)

  initial-declared : (names : Names) (frame : Frame) (t : DataType) (name : List ℕ) (v : written.Value) → Stands names frame → names name ≡ None → checked.value v (scope-of ds itself names) (target_of (Some t)) ≡ []
      → GivesOnly (declared_with test itself snapshot (Some t) frame name v) (Stands (with-name names (name, meaning.Variable (Some t))))
  initial-declared names frame t name v is unseen nothing =
      only-mapped (λ w. is_of ds t w ≡ true) (Stands (with-name names (name, meaning.Variable (Some t)))) (λ found. declare name found frame)
      (value_wanted v (reading_of_members test itself snapshot frame) (Some t)) (wanted names frame t v is nothing)
      (λ w of. with-value names frame name (meaning.Variable (Some t)) w is unseen refl refl refl of)

  -- ---- lists

  module _ {A : Type 0} (step : Frame → A → Outcome Frame) (entry-of : A → Entry) (Are : Names → List A → Type 0)
      (one : (names : Names) (a : A) (xs : List A) (frame : Frame) → Are names (a ∷ xs) → Stands names frame → GivesOnly (step frame a) (Stands (with-name names (entry-of a))))
      (others : (names : Names) (a : A) (xs : List A) → Are names (a ∷ xs) → Are (with-name names (entry-of a)) xs) where
    turns : (xs : List A) (names : Names) (frame : Frame) → Are names xs → Stands names frame → GivesOnly (declared_in_turn step xs frame) (Stands (after entry-of names xs))
    turns [] names frame are is = is
    turns (a ∷ xs) names frame are is =
        only-then (Stands (with-name names (entry-of a))) (Stands (after entry-of names (a ∷ xs))) (declared_in_turn step xs) (step frame a) (one names a xs frame are is)
        (λ next also. turns xs (with-name names (entry-of a)) next (others names a xs are) also)

    in-turn : (xs : List A) (names : Names) (frame : Frame) → Are names xs → Stands names frame → GivesOnly (declared_in_turn step xs frame) (Stands (behind names (map entry-of xs)))
    in-turn xs names frame are is = subst (λ more. GivesOnly (declared_in_turn step xs frame) (Stands more)) (after-is entry-of names xs) (turns xs names frame are is)

  ports-stand : (of : ℕ) (ports : List (List ℕ)) (names : Names) (frame : Frame) → AreNew (port_entry (Some of)) (scope-of ds itself names) ports → Stands names frame
      → Stands (after (λ (name : List ℕ). (name, meaning.Port (Some of))) names ports) frame
  ports-stand of [] names frame are is = is
  ports-stand of (port ∷ ports) names frame are is =
      ports-stand of ports (with-name names (port, meaning.Port (Some of))) frame are.1 (with-port names frame port of is (none-is (names port) are.0))

  variable-declared : (names : Names) (t : DataType) (v : Option written.Value) (name : List ℕ) (frame : Frame) → Stands names frame → names name ≡ None
      → IfSome v (λ v. checked.value v (scope-of ds itself names) (target_of (Some t)) ≡ []) → GivesOnly (declared_variable test itself snapshot (Some t) frame name v) (Stands (with-name names (name, meaning.Variable (Some t))))
  variable-declared names t None name frame is unseen nothing = without-value names frame name (meaning.Variable (Some t)) is unseen refl refl refl
  variable-declared names t (Some v) name frame is unseen nothing = initial-declared names frame t name v is unseen nothing

  -- ---- members

  constants-stand : (cs : List Constant) (t : DataType) (names : Names) (frame : Frame) → AreConstants (scope-of ds itself names) t cs → Stands names frame
      → GivesOnly (declared_in_turn (λ f c. declared_with test itself snapshot (Some t) f c.name c.value) cs frame) (Stands (behind names (map (λ c. (c.name, meaning.Constant (Some t))) cs)))
  constants-stand cs t names frame are is =
      in-turn (λ f c. declared_with test itself snapshot (Some t) f c.name c.value) (λ (c : Constant). (c.name, meaning.Constant (Some t))) (λ names cs. AreConstants (scope-of ds itself names) t cs)
      (λ names c cs frame are is. constant-declared names frame t c is (none-is (names c.name) are.0) are.1) (λ names c cs are. are.2) cs names frame are is

  initial-if : (names : Names) (t : DataType) (v : Option written.Value) → IsInitialValue (scope-of ds itself names) t v
      → IfSome v (λ v. checked.value v (scope-of ds itself names) (target_of (Some t)) ≡ [])
  initial-if names t None is = tt
  initial-if names t (Some v) is = is

  variables-stand : (vs : List MemberVariable) (t : DataType) (names : Names) (frame : Frame) → AreMemberVariables (scope-of ds itself names) t vs → Stands names frame
      → GivesOnly (declared_in_turn (λ f v. declared_variable test itself snapshot (Some t) f v.name v.value) vs frame) (Stands (behind names (map (λ v. (v.name, meaning.Variable (Some t))) vs)))
  variables-stand vs t names frame are is =
      in-turn (λ f v. declared_variable test itself snapshot (Some t) f v.name v.value) (λ (v : MemberVariable). (v.name, meaning.Variable (Some t))) (λ names vs. AreMemberVariables (scope-of ds itself names) t vs)
      (λ names v vs frame are is. variable-declared names t v.value v.name frame is (none-is (names v.name) are.0) (initial-if names t v.value are.1)) (λ names v vs are. are.2) vs names frame are is

  timers-stand : (timers : List Timer) (names : Names) (frame : Frame) → AreNew timer_entry (scope-of ds itself names) timers → Stands names frame
      → GivesOnly (declared_in_turn (λ f t. Yields (declare_timer t.name f)) timers frame) (Stands (behind names (map (λ t. (t.name, meaning.Timer)) timers)))
  timers-stand timers names frame are is =
      in-turn (λ f t. Yields (declare_timer t.name f)) (λ (t : Timer). (t.name, meaning.Timer)) (λ names timers. AreNew timer_entry (scope-of ds itself names) timers)
      (λ names t timers frame are is. with-timer names frame t.name is (none-is (names t.name) are.0)) (λ names t timers are. are.1) timers names frame are is

  member-stands : (before : List Member) (m : Member) (frame : Frame) → IsMember (scope_behind ds itself.component_type before) m → Stands (behind_members (module_names ds) before) frame
      → GivesOnly (declared_member test itself snapshot frame m) (Stands (behind (behind_members (module_names ds) before) (member_entries (behind_members (module_names ds) before) m)))
  member-stands before (member.Ports port_type ports) frame fine is =
      let names : Names = behind_members (module_names ds) before in
      let of : DeclaresPorts (scope_behind ds itself.component_type before) port_type ports = fine in
      subst (λ o. Stands (behind names (map (λ name. (name, meaning.Port (port_type_meant o))) ports)) frame) (sym of.meant)
      (subst (λ more. Stands more frame) (after-is (λ (name : List ℕ). (name, meaning.Port (Some of.of))) names ports) (ports-stand of.of ports names frame of.each is))
  member-stands before (member.Constants cs) frame fine is =
      let names : Names = behind_members (module_names ds) before in
      let of : DeclaresConstants (scope_behind ds itself.component_type before) cs = fine in
      subst (λ o. GivesOnly (declared_in_turn (λ f c. declared_with test itself snapshot o f c.name c.value) cs.constants frame)
      (Stands (behind names (map (λ c. (c.name, meaning.Constant (resolved names cs.type_name))) cs.constants))))
      (sym (types-of-module ds itself.component_type before cs.type_name of.data_type of.known))
      (subst (λ o. GivesOnly (declared_in_turn (λ f c. declared_with test itself snapshot (Some of.data_type) f c.name c.value) cs.constants frame)
      (Stands (behind names (map (λ c. (c.name, meaning.Constant o)) cs.constants)))) (sym of.known)
      (constants-stand cs.constants of.data_type names frame of.each is))
  member-stands before (member.Variables type_name variables) frame fine is =
      let names : Names = behind_members (module_names ds) before in
      let of : DeclaresMemberVariables (scope_behind ds itself.component_type before) type_name variables = fine in
      subst (λ o. GivesOnly (declared_in_turn (λ f v. declared_variable test itself snapshot o f v.name v.value) variables frame)
      (Stands (behind names (map (λ v. (v.name, meaning.Variable (resolved names type_name))) variables))))
      (sym (types-of-module ds itself.component_type before type_name of.data_type of.known))
      (subst (λ o. GivesOnly (declared_in_turn (λ f v. declared_variable test itself snapshot (Some of.data_type) f v.name v.value) variables frame)
      (Stands (behind names (map (λ v. (v.name, meaning.Variable o)) variables)))) (sym of.known)
      (variables-stand variables of.data_type names frame of.each is))
  member-stands before (member.Timers timers) frame fine is = timers-stand timers (behind_members (module_names ds) before) frame fine is

  module _ (c : ComponentType) (defined : kind_at ds itself.component_type ≡ Some (kind.Component c)) where
    all-members : (before rest : List Member) (frame : Frame) → before ++ rest ≡ c.members → Stands (behind_members (module_names ds) before) frame
        → GivesOnly (declared_in_turn (declared_member test itself snapshot) rest frame) (Stands (behind_members (behind_members (module_names ds) before) rest))
    all-members before [] frame all is = is
    all-members before (m ∷ rest) frame all is =
        let names : Names = behind_members (module_names ds) before in
        let next : Names = behind names (member_entries names m) in
        let same : behind_members (module_names ds) (before ++ m ∷ []) ≡ next = behind-one-more (module_names ds) before m in
        only-then (Stands next) (Stands (behind_members next rest)) (declared_in_turn (declared_member test itself snapshot) rest) (declared_member test itself snapshot frame m)
        (member-stands before m frame (member_is ds well itself.component_type c defined before m rest all) is)
        (λ more also. subst (λ names. GivesOnly (declared_in_turn (declared_member test itself snapshot) rest more) (Stands (behind_members names rest))) same
        (all-members (before ++ m ∷ []) rest more (append_assoc before (m ∷ []) rest ∙ all) (subst (λ names. Stands names more) (sym same) also)))

  begins : Stands (module_names ds) empty_frame
  begins = record {
    whole = module_whole ds well (Some itself.component_type);
    within = within_itself (scope-of ds itself (module_names ds));
    templates = λ name none. ap template_meant none;
    fits = record { values = λ name. tt; timers = λ name. sym (module-timers ds name) };
  }

  members-of : (k : Option DefinitionKind) → kind_at ds itself.component_type ≡ k
      → GivesOnly (declared_in_turn (declared_member test itself snapshot) (members_of k) empty_frame) (Stands (behind_members (module_names ds) (members_of k)))
  members-of (Some (kind.Component c)) is = all-members c is [] c.members empty_frame refl begins
  members-of _ is = begins

only-fits : (definitions : List Definition) (itself : ComponentId) (names : Names) (o : Outcome Frame) → GivesOnly o (Behind definitions itself names) → GivesOnly o (λ frame. FitsNames definitions names (view_of frame))
only-fits definitions itself names (Yields frame) is = is.fits
only-fits definitions itself names (Fails DynamicError) is = tt
only-fits definitions itself names (Fails Unmet) is = is

-- frame 0 of a new component
pub new_members_fit : (test : Test) (itself : ComponentId) (snapshot : Snapshot) → AreWellTyped test.definitions
    → GivesOnly (new_members test itself snapshot) (λ frame. FitsMembers test.definitions itself.component_type (view_of frame))
new_members_fit test itself snapshot well =
    only-fits test.definitions itself (behind_members (module_names test.definitions) (members_of (kind_at test.definitions itself.component_type))) (new_members test itself snapshot)
    (members-of test well itself snapshot (kind_at test.definitions itself.component_type) refl)
