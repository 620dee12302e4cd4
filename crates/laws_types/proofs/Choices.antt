-- The choice at an `alt`, and what taking a branch leaves.
use Rattle.std.proofs.Common.{◌≡◌, ℕ, Bool, true, false, ◌||◌, List, [], ◌∷◌, ◌++◌, map, find, bytes_eq, Option, Some, None, IfSome, IsSomeAnd, is_some, ◌⊎◌, inl, inr, refl, sym, ap, subst, ◌∙◌, if◌then◌else◌}
use Rattle.std.specs.List.{All, flat_map, list_any}
use Rattle.std.specs.Option.{option_or}
use Rattle.std.proofs.lemmas.List.Elements.{All-append, All-head, All-tail}
use Rattle.ttcn_syntax.specs.declared.tree.definition.Definition.{Definition}
use Rattle.ttcn_syntax.specs.declared.tree.definition.Member.{Member}
use Rattle.ttcn_syntax.specs.declared.tree.definition.Member.TheVariants as member
use Rattle.ttcn_syntax.specs.declared.tree.definition.MemberVariable.{MemberVariable}
use Rattle.ttcn_syntax.specs.declared.tree.statement.Constant.{Constant}
use Rattle.ttcn_syntax.specs.declared.tree.statement.Statement.{Statement}
use Rattle.ttcn_syntax.specs.declared.tree.statement.Timer.{Timer}
use Rattle.check_scope.specs.Names.{Entry, Names, behind, behind_members, kind_at, listed, member_entries, members_of, module_names, names_on, port_type_meant, resolved}
use Rattle.check_scope.specs.Scopes.{outer_names}
use Rattle.check_scope.specs.declared.names.Meaning.{Meaning}
use Rattle.check_scope.specs.declared.names.Meaning.TheVariants as meaning
use Rattle.check_rules.specs.Messages.{port_meant}
use Rattle.laws_evaluation.proofs.Only.{only-always, only-then}
use Rattle.laws_evaluation.specs.Uses.{GivesOnly}
use Rattle.laws_sites.specs.Standing.{IsFineSite}
use Rattle.laws_statements.proofs.Naming.{name_defined}
use Rattle.semantics.specs.Branches.{Chance, Fault, Judge, Open, Written, written_defaults}
use Rattle.semantics.specs.Configurations.{Data, Message}
use Rattle.semantics.specs.Creating.{ports_of}
use Rattle.semantics.specs.Events.{Choice, Effect, Elapses, Faulty, Happened, Nothing, Passed, Plain, Receives, Redirect, Refused, Taken, Trial, chosen_by, first_choice, try_chance}
use Rattle.semantics.specs.Items.{Item, Mark}
use Rattle.semantics.specs.Sites.{Site, runs_on, scope_at}
use Rattle.semantics.specs.Snapshots.{Test}
use Rattle.semantics.specs.Statements.{Stand, act_choice, act_port, choose_from, judge_at, with_frames}
use Rattle.semantics.specs.Storing.{store, target_meant, with_calls}
use Rattle.semantics.specs.Taking.{effected, entered, marked, port_taken, store_all, taken}
use Rattle.check_rules.specs.Rules.{AreWellTyped}
use Rattle.value_types.specs.Outcomes.{DynamicError, Unmet, outcome_and_then}
use Rattle.value_types.specs.declared.frame.TimerState.TheVariants as timer
use Rattle.laws_types.proofs.Branches.{FitsChance, FitsWritten, defaults-fit}
use Rattle.laws_types.proofs.Data.{DataAt, data-fits, stored-of, timer-set}
use Rattle.laws_types.proofs.Events.{FitsEffect, FitsJudge, FitsRedirect, FitsTrial, chance-fits, judge-fine, judge-locals}
use Rattle.laws_repeat.proofs.Outside.{outside-itself}
use Rattle.laws_types.proofs.Stands.{Asks, NestHere, StandsAt, acting-fits, frames-fit, kind-of, members-fit, remains, view-fits}
use Rattle.laws_types.proofs.Visible.{Says, site-says}
use Rattle.laws_types.specs.Steps.{FitFronts}
use Rattle.laws_types.specs.internal.Asked.{IsMeant}
use Rattle.laws_types.specs.Fitting.{DeclaresLocals, IsLocal, RunsOn}
use Rattle.laws_types.specs.Typed.{FitsData, FitsMessage, Nest}

-- ---- ports

named-if : (m : Meaning) (rest : Bool) (b : Bool) (before : Option Meaning) → (is_some before ≡ true → rest ≡ true) → is_some (option_or before (if b then Some m else None)) ≡ true → (b || rest) ≡ true
named-if m rest true before more is = refl
named-if m rest false None more is = absurd (let e = is in cc)
named-if m rest false (Some k) more is = more refl

named-among : (m : Meaning) (names : List (List ℕ)) (name : List ℕ) → is_some (listed (map (λ n. (n, m)) names) name) ≡ true → list_any (λ n. bytes_eq n name) names ≡ true
named-among m [] name is = is
named-among m (n ∷ names) name is =
    named-if m (list_any (λ n. bytes_eq n name) names) (bytes_eq n name) (listed (map (λ n. (n, m)) names) name) (named-among m names name) is

-- a name that stands for a port stands for one of a member, or for one before
abbrev IsAmong : List (List ℕ) → List ℕ → Type 0
IsAmong names name = list_any (λ n. bytes_eq n name) names ≡ true

append-if : (b : Bool) (one other : List (List ℕ)) (name : List ℕ) → (IsAmong one name ⊎ IsAmong other name → IsAmong (one ++ other) name) → ((b || list_any (λ n. bytes_eq n name) one) ≡ true) ⊎ IsAmong other name
    → (b || list_any (λ n. bytes_eq n name) (one ++ other)) ≡ true
append-if true one other name more either = refl
append-if false one other name more either = more either

any-append : (one other : List (List ℕ)) (name : List ℕ) → IsAmong one name ⊎ IsAmong other name → IsAmong (one ++ other) name
any-append [] other name (inl is) = absurd (let e = is in cc)
any-append [] other name (inr is) = is
any-append (n ∷ one) other name either = append-if (bytes_eq n name) one other name (any-append one other name) either

no-port-or : (one before : Option Meaning) → (is_some one ≡ true → port_meant one ≡ None) → is_some (port_meant (option_or one before)) ≡ true → is_some (port_meant before) ≡ true
no-port-or None before none is = is
no-port-or (Some m) before none is = absurd (let no : false ≡ true = sym (ap is_some (none refl)) ∙ is in cc)

some-port : (one before : Option Meaning) → is_some (port_meant (option_or one before)) ≡ true → (is_some one ≡ true) ⊎ (is_some (port_meant before) ≡ true)
some-port None before is = inr is
some-port (Some m) before is = inl refl

listed-other : {A : Type 0} (entry : A → Entry) (xs : List A) (name : List ℕ) → ((x : A) → port_meant (Some (entry x).1) ≡ None) → port_meant (listed (map entry xs) name) ≡ None
listed-other entry [] name none = refl
listed-other entry (x ∷ xs) name none = by (bytes_eq (entry x).0 name) (listed (map entry xs) name) (listed-other entry xs name none)
  where
    by : (b : Bool) (o : Option Meaning) → port_meant o ≡ None → port_meant (option_or o (if b then Some (entry x).1 else None)) ≡ None
    by b (Some m) is = is
    by true None is = none x
    by false None is = refl

member-port : (names : Names) (m : Member) (name : List ℕ) → is_some (port_meant (behind names (member_entries names m) name)) ≡ true → IsAmong (ports_of m) name ⊎ (is_some (port_meant (names name)) ≡ true)
member-port names (member.Ports port_type ports) name is =
    either (some-port (listed (map (λ n. (n, meaning.Port (port_type_meant (names port_type)))) ports) name) (names name) is)
  where
    either : (is_some (listed (map (λ n. (n, meaning.Port (port_type_meant (names port_type)))) ports) name) ≡ true) ⊎ (is_some (port_meant (names name)) ≡ true) → IsAmong ports name ⊎ (is_some (port_meant (names name)) ≡ true)
    either (inl is) = inl (named-among (meaning.Port (port_type_meant (names port_type))) ports name is)
    either (inr is) = inr is
member-port names (member.Constants cs) name is =
    inr (no-port-or (listed (member_entries names (member.Constants cs)) name) (names name)
    (λ any. listed-other (λ (c : Constant). (c.name, meaning.Constant (resolved names cs.type_name))) cs.constants name (λ c. refl)) is)
member-port names (member.Variables of variables) name is =
    inr (no-port-or (listed (member_entries names (member.Variables of variables)) name) (names name)
    (λ any. listed-other (λ (v : MemberVariable). (v.name, meaning.Variable (resolved names of))) variables name (λ v. refl)) is)
member-port names (member.Timers timers) name is =
    inr (no-port-or (listed (member_entries names (member.Timers timers)) name) (names name)
    (λ any. listed-other (λ (t : Timer). (t.name, meaning.Timer)) timers name (λ t. refl)) is)

port-among : (names : Names) (members : List Member) (name : List ℕ) → is_some (port_meant (behind_members names members name)) ≡ true → IsAmong (flat_map ports_of members) name ⊎ (is_some (port_meant (names name)) ≡ true)
port-among names [] name is = inr is
port-among names (m ∷ members) name is = either (port-among (behind names (member_entries names m)) members name is)
  where
    before : IsAmong (ports_of m) name ⊎ (is_some (port_meant (names name)) ≡ true) → IsAmong (flat_map ports_of (m ∷ members)) name ⊎ (is_some (port_meant (names name)) ≡ true)
    before (inl is) = inl (any-append (ports_of m) (flat_map ports_of members) name (inl is))
    before (inr is) = inr is

    either : IsAmong (flat_map ports_of members) name ⊎ (is_some (port_meant (behind names (member_entries names m) name)) ≡ true) → IsAmong (flat_map ports_of (m ∷ members)) name ⊎ (is_some (port_meant (names name)) ≡ true)
    either (inl is) = inl (any-append (ports_of m) (flat_map ports_of members) name (inr is))
    either (inr is) = before (member-port names m name is)

-- the module has no ports
no-module-port : (definitions : List Definition) (name : List ℕ) (m : Option Meaning) → module_names definitions name ≡ m → is_some (port_meant m) ≡ true → ⊥
no-module-port definitions name (Some (meaning.Port of)) is there = name_defined definitions name (meaning.Port of) is
no-module-port definitions name _ is there = let e = there in cc

outer-port : (definitions : List Definition) (of : Option ℕ) (component_type : ℕ) (name : List ℕ) → IfSome of (λ at. component_type ≡ at) → is_some (port_meant (outer_names definitions of name)) ≡ true
    → IsAmong (flat_map ports_of (members_of (kind_at definitions component_type))) name
outer-port definitions None component_type name on is = absurd (no-module-port definitions name (module_names definitions name) refl is)
outer-port definitions (Some at) component_type name on is =
    either (port-among (module_names definitions) (members_of (kind_at definitions component_type)) name (subst (λ n. is_some (port_meant (names_on definitions n name)) ≡ true) (sym on) is))
  where
    either : IsAmong (flat_map ports_of (members_of (kind_at definitions component_type))) name ⊎ (is_some (port_meant (module_names definitions name)) ≡ true)
        → IsAmong (flat_map ports_of (members_of (kind_at definitions component_type))) name
    either (inl is) = is
    either (inr is) = absurd (no-module-port definitions name (module_names definitions name) refl is)

no-local-port : (m : Option Meaning) → IsSomeAnd m IsLocal → is_some (port_meant m) ≡ true → ⊥
no-local-port (Some (meaning.Variable of)) of-local is = let e = is in cc
no-local-port (Some (meaning.Constant of)) of-local is = let e = is in cc
no-local-port (Some meaning.Timer) of-local is = let e = is in cc
no-local-port _ of-local is = absurd of-local

said-port : (definitions : List Definition) (behaviour : ℕ) (of : Option ℕ) (component_type : ℕ) (found : Option Meaning) (name : List ℕ) → IfSome of (λ at. component_type ≡ at) → Says definitions behaviour (outer_names definitions of name) found name
    → is_some (port_meant found) ≡ true → IsAmong (flat_map ports_of (members_of (kind_at definitions component_type))) name
said-port definitions behaviour of component_type found name on (inl same) is = outer-port definitions of component_type name on (subst (λ o. is_some (port_meant o) ≡ true) same is)
said-port definitions behaviour of component_type found name on (inr own) is = absurd (no-local-port found own.1 is)

found-if : (P : List ℕ × Option Message → Type 0) (b : Bool) (front : List ℕ × Option Message) (rest : Bool) (others : Option (List ℕ × Option Message)) → P front → (rest ≡ true → IsSomeAnd others P) → (b || rest) ≡ true
    → IsSomeAnd (if b then Some front else others) P
found-if P true front rest others first more is = first
found-if P false front rest others first more is = more is

found-among : (P : List ℕ × Option Message → Type 0) (fronts : List (List ℕ × Option Message)) (name : List ℕ) → All P fronts → IsAmong (map (λ front. front.0) fronts) name → IsSomeAnd (find (λ front. bytes_eq front.0 name) fronts) P
found-among P [] name all is = absurd (let e = is in cc)
found-among P (front ∷ fronts) name all is =
    found-if P (bytes_eq front.0 name) front (list_any (λ n. bytes_eq n name) (map (λ f. f.0) fronts)) (find (λ f. bytes_eq f.0 name) fronts) (All-head P front fronts all)
    (found-among P fronts name (All-tail P front fronts all)) is

-- a port that is named at a site is seen
pub ports-found : (definitions : List Definition) → AreWellTyped definitions → (component_type : ℕ) (fronts : List (List ℕ × Option Message)) → FitFronts definitions component_type fronts → (site : Site) → IsFineSite definitions site.behaviour site
    → DeclaresLocals site → RunsOn definitions site.behaviour component_type → (name : List ℕ) → is_some (port_meant ((scope_at definitions site).names name)) ≡ true
    → IsSomeAnd (find (λ front. bytes_eq front.0 name) fronts) (λ front. IfSome front.1 (FitsMessage definitions))
ports-found definitions well component_type fronts fit site fine locals on name is =
    found-among (λ front. IfSome front.1 (FitsMessage definitions)) fronts name fit.messages
    (subst (λ ports. IsAmong ports name) (sym fit.ports)
    (said-port definitions site.behaviour (runs_on definitions site.behaviour) component_type ((scope_at definitions site).names name) name on (site-says definitions well site fine locals name) is))

-- ---- the choice

abbrev pub FitsChoice : Test → ℕ → ℕ → List Entry → Choice → Type 0
FitsChoice test component_type at declared Nothing = Unit {0}
FitsChoice test component_type at declared (Refused DynamicError) = Unit {0}
FitsChoice test component_type at declared (Refused Unmet) = ⊥
FitsChoice test component_type at declared (Taken chance effect) = FitsChance test.definitions component_type at declared chance × FitsEffect test chance.judge.site effect

chosen : (test : Test) (component_type at : ℕ) (declared : List Entry) (chance : Chance) (trial : Trial) (others : Choice) → FitsChance test.definitions component_type at declared chance → FitsTrial test chance.judge.site trial
    → FitsChoice test component_type at declared others → FitsChoice test component_type at declared (chosen_by chance trial others)
chosen test component_type at declared chance Passed others fits tried all = all
chosen test component_type at declared chance (Faulty DynamicError) others fits tried all = tt
chosen test component_type at declared chance (Faulty Unmet) others fits tried all = tried
chosen test component_type at declared chance (Happened effect) others fits tried all = (fits, tried)

module _ (stand : Stand) (well : AreWellTyped stand.test.definitions) (site : Site) (is : StandsAt stand site) (fronts : FitFronts stand.test.definitions stand.snapshot.itself.component_type stand.snapshot.fronts)
    (nest : NestHere stand well site is site.declared stand.rest) where
  abbrev ds : List Definition
  ds = stand.test.definitions

  abbrev ct : ℕ
  ct = kind-of stand well site is

  abbrev b : ℕ
  b = site.behaviour

  abbrev pub WritesFit : List Written → Type 0
  WritesFit ws = All (FitsWritten ds ct b site.declared) ws

  pub judge-fits : FitsJudge ds ct (judge_at stand site)
  judge-fits = record { on = is.on; names = is.names; seen = view-fits stand well site is }

  first-fits : (ws : List Written) → WritesFit ws → FitsChoice stand.test ct b site.declared (first_choice stand.test stand.snapshot stand.own ws)
  first-fits [] all = tt
  first-fits (Fault DynamicError ∷ ws) all = tt
  first-fits (Fault Unmet ∷ ws) all = All-head (FitsWritten ds ct b site.declared) (Fault Unmet) ws all
  first-fits (Open chance ∷ ws) all =
      let fits : FitsChance ds ct b site.declared chance = All-head (FitsWritten ds ct b site.declared) (Open chance) ws all in
      let members = members-fit stand well site is in
      chosen stand.test ct b site.declared chance (try_chance stand.test stand.snapshot stand.own chance.judge chance.event) (first_choice stand.test stand.snapshot stand.own ws) fits
      (chance-fits stand.test well stand.snapshot stand.own members chance.judge fits.judge chance.event fits.event fronts.messages
      (ports-found ds well ct stand.snapshot.fronts fronts chance.judge.site (judge-fine stand.test well stand.snapshot stand.own members chance.judge fits.judge)
      (judge-locals stand.test well stand.snapshot stand.own members chance.judge fits.judge) fits.judge.on))
      (first-fits ws (All-tail (FitsWritten ds ct b site.declared) (Open chance) ws all))

  pub choose-fits : (ws : List Written) → WritesFit ws → FitsChoice stand.test ct b site.declared (choose_from stand ws)
  choose-fits ws all =
      first-fits (ws ++ written_defaults stand.test stand.snapshot stand.own)
      (All-append (FitsWritten ds ct b site.declared) ws (written_defaults stand.test stand.snapshot stand.own) all
      (defaults-fit stand.test well stand.snapshot stand.own (members-fit stand well site is) b site.declared stand.own.defaults is.here.defaults))

  -- ---- taking a branch

  abbrev Entered : Judge → Data → Type 0
  Entered judge own = DataAt ds ct judge.site.behaviour judge.site.declared (Nest ds judge.site.behaviour judge.site.declared) own

  module _ (judge : Judge) (fits : FitsJudge ds ct judge) where
    all-stored : (redirects : List Redirect) (own : Data) → All (FitsRedirect stand.test judge.site) redirects → Entered judge own → GivesOnly (store_all stand.test judge.site redirects own) (Entered judge)
    all-stored [] own all entered = entered
    all-stored (redirect ∷ redirects) own all entered =
        let first : FitsRedirect stand.test judge.site redirect = All-head (FitsRedirect stand.test judge.site) redirect redirects all in
        only-then (Entered judge) (Entered judge) (store_all stand.test judge.site redirects) (store stand.test (target_meant stand.test judge.site redirect.reference) redirect.value own)
        (only-always (Entered judge) (store stand.test (target_meant stand.test judge.site redirect.reference) redirect.value own)
        (stored-of stand.test well ct judge.site fits.on fits.names (target_meant stand.test judge.site redirect.reference) first.0 first.1 (Nest ds judge.site.behaviour judge.site.declared) own redirect.value first.2 entered))
        (λ next also. all-stored redirects next (All-tail (FitsRedirect stand.test judge.site) redirect redirects all) also)

    effect-fits : (effect : Effect) (own : Data) → FitsEffect stand.test judge.site effect → Entered judge own → GivesOnly (effected stand.test judge.site effect own) (Entered judge)
    effect-fits Plain own of entered = entered
    effect-fits (Receives port redirects) own of entered = all-stored redirects own of entered
    effect-fits (Elapses name) own of entered = timer-set stand.test well ct judge.site fits.on fits.names name timer.Inactive (Nest ds judge.site.behaviour judge.site.declared) own of entered

  enters : (s : Statement) (chance : Chance) → FitsChance ds ct b site.declared chance → Entered chance.judge (with_calls (entered site s stand.rest chance.way stand.own.calls) stand.own)
  enters s chance fits =
      let xs : List Item = marked site s stand.rest chance.way in
      let there = remains stand well site is xs (fits.front (Mark site s ∷ stand.rest) ((refl, outside-itself site.declared), nest)) in
      record { members = is.here.members; last = fits.enters _ there.last; defaults = is.here.defaults }

  taken-fits : (s : Statement) (chance : Chance) (effect : Effect) → FitsChance ds ct b site.declared chance → FitsEffect stand.test chance.judge.site effect → GivesOnly (taken stand.test site s stand.rest chance effect stand.own) (Entered chance.judge)
  taken-fits s chance effect fits of =
      effect-fits chance.judge fits.judge effect (with_calls (entered site s stand.rest chance.way stand.own.calls) stand.own) of (enters s chance fits)

  port-asks : (port : Option (List ℕ)) (own : Data) → FitsData ds ct own → Asks stand well site is (act_port port own)
  port-asks None own fits = fits
  port-asks (Some port) own fits = fits

  entered-fits : (judge : Judge) (own : Data) → Entered judge own → FitsData ds ct (with_calls own.calls own)
  entered-fits judge own entered = let fits : FitsData ds ct own = data-fits ds ct judge.site.behaviour judge.site.declared own entered in
      record { members = fits.members; calls = fits.calls; defaults = fits.defaults; frames = fits.frames }

  pub choice-asks : (s : Statement) (choice : Choice) → FitsChoice stand.test ct b site.declared choice → Asks stand well site is (act_choice stand site s choice)
  choice-asks s Nothing fits = tt
  choice-asks s (Refused DynamicError) fits = tt
  choice-asks s (Refused Unmet) fits = fits
  choice-asks s (Taken chance effect) fits =
      acting-fits stand.test ct stand.snapshot.itself.path (IsMeant stand.test stand.snapshot stand.own stand.frame) (FitsData ds ct) (act_port (port_taken effect)) (outcome_and_then (λ own. with_frames own.calls own) (taken stand.test site s stand.rest chance effect stand.own))
      (only-then (Entered chance.judge) (FitsData ds ct) (λ own. with_frames own.calls own) (taken stand.test site s stand.rest chance effect stand.own) (taken-fits s chance effect fits.0 fits.1)
      (λ own entered. frames-fit stand well site is own.calls own (entered-fits chance.judge own entered)))
      (λ own fits. port-asks (port_taken effect) own fits)
