-- What branches bring with them when they are taken breaks no rule.
use Rattle.std.proofs.Common.{ℕ, zero, suc, Bool, true, false, List, [], ◌∷◌, ◌++◌, map, Option, Some, None, IfSome, option_map}
use Rattle.std.specs.List.{All, flat_map}
use Rattle.std.proofs.lemmas.List.Elements.{All-append, All-cons, All-head, All-nil, All-tail}
use Rattle.ttcn_syntax.specs.declared.place.Span.{Span}
use Rattle.ttcn_syntax.specs.declared.tree.definition.Definition.{Definition}
use Rattle.ttcn_syntax.specs.declared.tree.statement.Action.{Action}
use Rattle.ttcn_syntax.specs.declared.tree.statement.Action.TheOpen.{Action-F, Alternative-F}
use Rattle.ttcn_syntax.specs.declared.tree.statement.Alternative.{Alternative, out-Alternative}
use Rattle.ttcn_syntax.specs.declared.tree.statement.Branch.{Branch, out-Branch}
use Rattle.ttcn_syntax.specs.declared.tree.statement.Conditional.{Conditional}
use Rattle.ttcn_syntax.specs.declared.tree.statement.Event.{Event}
use Rattle.ttcn_syntax.specs.declared.tree.statement.Statement.{Statement}
use Rattle.ttcn_syntax.specs.declared.tree.value.Call.{Call}
use Rattle.check_rules.specs.Calls.{altstep_meant, parameters_of}
use Rattle.check_scope.specs.Names.{kind_at, module_names}
use Rattle.check_rules.specs.Statements.{branch}
use Rattle.laws_sites.proofs.Blocks.{block-fine, block-fine-if, in-branch, place}
use Rattle.laws_sites.proofs.Outside.{Begins, beginning-fine, branches-fine}
use Rattle.laws_sites.specs.Standing.{IsFineFrame, IsFineItem, IsFineSite, IsFrameOf, IsFree, PlaceIn}
use Rattle.laws_statements.proofs.Descent.{branch_fine}
use Rattle.laws_statements.specs.Parts.{HasFineAlternative, HasFineParts, IsFineBranch}
use Rattle.semantics.proofs.Pairs.{All-more}
use Rattle.semantics.specs.Branches.{Chance, Fault, Judge, Open, Writing, Written, behind_guard, branches_of, frame_with, guard_holds, judge_in, open_branch, read_by, through, write_altsteps, written_alt, written_alternative, written_branch, written_call, written_default, written_defaults, written_with, written_within}
use Rattle.semantics.specs.Configurations.{Data, Frame}
use Rattle.semantics.specs.Events.{Choice, Faulty, Happened, Nothing, Passed, Refused, Taken, Trial, chosen_by, first_choice, try_chance}
use Rattle.semantics.specs.Items.{Does, Item, items, items_if_any}
use Rattle.semantics.specs.Sites.{Site, beginning}
use Rattle.semantics.specs.Snapshots.{Snapshot, Test}
use Rattle.check_rules.specs.Limits.{longest_chain}
use Rattle.check_rules.specs.Rules.{AreWellTyped}
use Rattle.value_types.specs.Outcomes.{Fails, Outcome, Unmet, Yields}
use Rattle.value_types.specs.Templates.{arguments}
use Rattle.value_types.specs.declared.value.Value.{Value}

-- where a branch is judged is a site of the last frame: one of those that it brings, or else the one of the `alt`, which is of this behaviour
abbrev pub IsLastSite : List Definition → ℕ → Site → List Frame → Type 0
IsLastSite definitions at site [] = IsFineSite definitions at site
IsLastSite definitions at site (frame ∷ frames) = (behaviour : ℕ) × IsFineSite definitions behaviour site × IsFrameOf definitions behaviour frame

-- a branch at an `alt` in a frame of the behaviour at a position
pub record IsFineChance (definitions : List Definition) (at : ℕ) (chance : Chance) : Type 0 where
  pub block : All (IsFineItem definitions at) chance.way.block
  pub frames : All (IsFineFrame definitions) chance.way.frames
  pub site : IsLastSite definitions at chance.judge.site chance.way.frames

abbrev pub IsFineWay : List Definition → ℕ → Written → Type 0
IsFineWay definitions at (Fault why) = Unit {0}
IsFineWay definitions at (Open chance) = IsFineChance definitions at chance

-- a frame with what remains and no timers
pub new-frame : (definitions : List Definition) (at : ℕ) (values : List Value) (remaining : List Item) → All (IsFineItem definitions at) remaining → IsFrameOf definitions at (frame_with definitions at values remaining)
new-frame definitions at values remaining all = record { items = all; timers = All-nil (λ e. IsFree definitions at e.0) }

-- ---- lists

module _ (definitions : List Definition) (at : ℕ) where
  abbrev Fine : Written → Type 0
  Fine = IsFineWay definitions at

  one-way : (w : Written) → Fine w → All Fine (w ∷ [])
  one-way w is = All-cons Fine w [] is (All-nil Fine)

  flat-ways : {A : Type 0} (P : A → Type 0) (f : A → List Written) → ((a : A) → P a → All Fine (f a)) → (xs : List A) → All P xs → All Fine (flat_map f xs)
  flat-ways P f each [] all = All-nil Fine
  flat-ways P f each (x ∷ xs) all = All-append Fine (f x) (flat_map f xs) (each x (All-head P x xs all)) (flat-ways P f each xs (All-tail P x xs all))

  guarded : (o : Outcome Bool) (ws : List Written) → All Fine ws → All Fine (behind_guard o ws)
  guarded (Yields true) ws all = all
  guarded (Yields false) ws all = All-nil Fine
  guarded (Fails why) ws all = one-way (Fault why) tt

  opened : (test : Test) (judge : Judge) (span : Span) (event : Option Event) (block : List Item) → IsFineSite definitions at judge.site → All (IsFineItem definitions at) block
      → All Fine (open_branch test judge span event block ∷ [])
  opened test judge span event block fine all =
      one-way (open_branch test judge span event block) (record { block = all; frames = All-nil (IsFineFrame definitions); site = fine })

  map-ways : (P : Written → Type 0) (f : Written → Written) → ((w : Written) → P w → Fine (f w)) → (ws : List Written) → All P ws → All Fine (map f ws)
  map-ways P f keeps [] all = All-nil Fine
  map-ways P f keeps (w ∷ ws) all = All-cons Fine (f w) (map f ws) (keeps w (All-head P w ws all)) (map-ways P f keeps ws (All-tail P w ws all))

-- ---- altsteps

-- a branch at a site of a behaviour
abbrev IsBranchAt : List Definition → ℕ → Site → Branch → Type 0
IsBranchAt definitions at site b = (inside : PlaceIn definitions at) × IsFineBranch (place definitions at site inside) b

-- the site in the last frame, where the frame of the altstep comes below all
site-through : (definitions : List Definition) (at behaviour : ℕ) (site : Site) (frames : List Frame) (frame : Frame) → IsLastSite definitions behaviour site frames → IsFrameOf definitions behaviour frame
    → IsLastSite definitions at site (frames ++ frame ∷ [])
site-through definitions at behaviour site [] frame is fine = (behaviour, is, fine)
site-through definitions at behaviour site (f ∷ frames) frame is fine = is

module _ (test : Test) (well : AreWellTyped test.definitions) where
  -- how the branches of altsteps are written out
  abbrev Writes : Writing → Type 0
  Writes below = (at : ℕ) (judge : Judge) (branches : List Branch) → IsFineSite test.definitions at judge.site → All (IsBranchAt test.definitions at judge.site) branches
      → All (IsFineWay test.definitions at) (below judge branches)

  through-fine : (at behaviour : ℕ) (values : List Value) (before : List Item) → All (IsFineItem test.definitions at) before → (w : Written) → IsFineWay test.definitions behaviour w
      → IsFineWay test.definitions at (through test behaviour values before w)
  through-fine at behaviour values before all (Fault why) is = tt
  through-fine at behaviour values before all (Open chance) is =
      let frame : IsFrameOf test.definitions behaviour (frame_with test.definitions behaviour values chance.way.block) = new-frame test.definitions behaviour values chance.way.block is.block in
      record {
        block = all;
        frames = All-append (IsFineFrame test.definitions) chance.way.frames (frame_with test.definitions behaviour values chance.way.block ∷ []) is.frames
            (All-cons (IsFineFrame test.definitions) (frame_with test.definitions behaviour values chance.way.block) [] (behaviour, frame) (All-nil (IsFineFrame test.definitions)));
        site = site-through test.definitions at behaviour chance.judge.site chance.way.frames (frame_with test.definitions behaviour values chance.way.block) is.site frame;
      }

  -- the branches of an altstep
  of-altstep : (behaviour : ℕ) → All (IsBranchAt test.definitions behaviour (beginning behaviour)) (branches_of (kind_at test.definitions behaviour))
  of-altstep behaviour =
      let begins : IsFineSite test.definitions behaviour (beginning behaviour) = beginning-fine test.definitions well behaviour in
      All-more (λ b. Begins test.definitions well behaviour (branch b)) (IsBranchAt test.definitions behaviour (beginning behaviour))
      (λ b is. (is.0, branch_fine b (place test.definitions behaviour (beginning behaviour) is.0) begins.whole is.1))
      (branches_of (kind_at test.definitions behaviour)) (branches-fine test.definitions well behaviour)

  with-fine : (below : Writing) → Writes below → (snapshot : Snapshot) (own : Data) (at behaviour : ℕ) (before : List Item) (o : Outcome (List Value)) → All (IsFineItem test.definitions at) before
      → All (IsFineWay test.definitions at) (written_with below test snapshot own behaviour before o)
  with-fine below writes snapshot own at behaviour before (Fails why) all = one-way test.definitions at (Fault why) tt
  with-fine below writes snapshot own at behaviour before (Yields values) all =
      map-ways test.definitions at (IsFineWay test.definitions behaviour) (through test behaviour values before) (through-fine at behaviour values before all)
      (below (judge_in test behaviour values) (branches_of (kind_at test.definitions behaviour)))
      (writes behaviour (judge_in test behaviour values) (branches_of (kind_at test.definitions behaviour)) (beginning-fine test.definitions well behaviour) (of-altstep behaviour))

  call-fine : (below : Writing) → Writes below → (snapshot : Snapshot) (own : Data) (at : ℕ) (judge : Judge) (call : Call) (before : List Item) (behaviour : Option ℕ) → All (IsFineItem test.definitions at) before
      → All (IsFineWay test.definitions at) (written_call below test snapshot own judge call before behaviour)
  call-fine below writes snapshot own at judge call before None all = one-way test.definitions at (Fault Unmet) tt
  call-fine below writes snapshot own at judge call before (Some behaviour) all =
      with-fine below writes snapshot own at behaviour before (arguments (read_by test snapshot own judge) (parameters_of (kind_at test.definitions behaviour)) call.arguments) all

  -- ---- branches

  alternative-fine : (below : Writing) → Writes below → (snapshot : Snapshot) (own : Data) (at : ℕ) (judge : Judge) (inside : PlaceIn test.definitions at) (span : Span) (x : Alternative-F Action Alternative Branch Conditional Statement)
      → IsFineSite test.definitions at judge.site → HasFineAlternative (place test.definitions at judge.site inside) x → All (IsFineWay test.definitions at) (written_alternative below test snapshot own judge span x)
  alternative-fine below writes snapshot own at judge inside span (Alternative-F.«Alternative::Event» guard event block) fine parts =
      guarded test.definitions at (guard_holds (read_by test snapshot own judge) guard) (open_branch test judge span (Some event) (items_if_any test.definitions judge.site block) ∷ [])
      (opened test.definitions at test judge span (Some event) (items_if_any test.definitions judge.site block) fine (block-fine-if test.definitions at block judge.site (in-branch test.definitions at inside) fine parts.2))
  alternative-fine below writes snapshot own at judge inside span (Alternative-F.«Alternative::Call» guard call block) fine parts =
      guarded test.definitions at (guard_holds (read_by test snapshot own judge) guard)
      (written_call below test snapshot own judge call (items_if_any test.definitions judge.site block) (altstep_meant (module_names test.definitions call.name)))
      (call-fine below writes snapshot own at judge call (items_if_any test.definitions judge.site block) (altstep_meant (module_names test.definitions call.name))
      (block-fine-if test.definitions at block judge.site (in-branch test.definitions at inside) fine parts.2))
  alternative-fine below writes snapshot own at judge inside span (Alternative-F.Else block) fine parts =
      opened test.definitions at test judge span None (items test.definitions judge.site block) fine (block-fine test.definitions at block judge.site (in-branch test.definitions at inside) fine parts)

  branch-fine : (below : Writing) → Writes below → (snapshot : Snapshot) (own : Data) (at : ℕ) (judge : Judge) → IsFineSite test.definitions at judge.site
      → (b : Branch) → IsBranchAt test.definitions at judge.site b → All (IsFineWay test.definitions at) (written_branch below test snapshot own judge b)
  branch-fine below writes snapshot own at judge fine b is =
      alternative-fine below writes snapshot own at judge is.0 (out-Branch b).place (out-Alternative (out-Branch b).alternative) fine is.1

  within-fine : (n : ℕ) (snapshot : Snapshot) (own : Data) → Writes (written_within n test snapshot own)
  within-fine zero snapshot own at judge branches fine all = one-way test.definitions at (Fault Unmet) tt
  within-fine (suc n) snapshot own at judge branches fine all =
      flat-ways test.definitions at (IsBranchAt test.definitions at judge.site) (written_branch (written_within n test snapshot own) test snapshot own judge)
      (branch-fine (written_within n test snapshot own) (within-fine n snapshot own) snapshot own at judge fine) branches all

  writes : (snapshot : Snapshot) (own : Data) → Writes (write_altsteps test snapshot own)
  writes snapshot own = within-fine longest_chain snapshot own

  -- ---- an `alt` and the defaults

  abbrev AreFineWays : ℕ → Option (List Written) → Type 0
  AreFineWays at o = IfSome o (All (IsFineWay test.definitions at))

  alt-call-fine : (snapshot : Snapshot) (own : Data) (at : ℕ) (judge : Judge) (call : Call) (behaviour : Option ℕ)
      → AreFineWays at (option_map (λ n. written_call (write_altsteps test snapshot own) test snapshot own judge call [] (Some n)) behaviour)
  alt-call-fine snapshot own at judge call None = tt
  alt-call-fine snapshot own at judge call (Some behaviour) =
      call-fine (write_altsteps test snapshot own) (writes snapshot own) snapshot own at judge call [] (Some behaviour) (All-nil (IsFineItem test.definitions at))

  pub alt-fine : (snapshot : Snapshot) (own : Data) (at : ℕ) (judge : Judge) (inside : PlaceIn test.definitions at) (span : Span) (x : Does) → IsFineSite test.definitions at judge.site
      → HasFineParts (place test.definitions at judge.site inside) x → AreFineWays at (written_alt test snapshot own judge span x)
  alt-fine snapshot own at judge inside span (Action-F.Alt branches) fine parts =
      flat-ways test.definitions at (IsFineBranch (place test.definitions at judge.site inside)) (written_branch (write_altsteps test snapshot own) test snapshot own judge)
      (λ b is. branch-fine (write_altsteps test snapshot own) (writes snapshot own) snapshot own at judge fine b (inside, is)) branches parts
  alt-fine snapshot own at judge inside span (Action-F.«Action::Event» event) fine parts =
      opened test.definitions at test judge span (Some event) [] fine (All-nil (IsFineItem test.definitions at))
  alt-fine snapshot own at judge inside span (Action-F.«Action::Call» call) fine parts =
      alt-call-fine snapshot own at judge call (altstep_meant (module_names test.definitions call.name))
  alt-fine snapshot own at judge inside span _ fine parts = tt

  pub defaults-fine : (snapshot : Snapshot) (own : Data) (at : ℕ) → All (IsFineWay test.definitions at) (written_defaults test snapshot own)
  defaults-fine snapshot own at =
      flat-ways test.definitions at (λ d. Unit {0}) (written_default test snapshot own)
      (λ d any. with-fine (write_altsteps test snapshot own) (writes snapshot own) snapshot own at d.altstep [] (Yields d.arguments) (All-nil (IsFineItem test.definitions at)))
      own.defaults (λ k d lt. tt)

-- ---- the choice

abbrev pub IsFineChoice : List Definition → ℕ → Choice → Type 0
IsFineChoice definitions at Nothing = Unit {0}
IsFineChoice definitions at (Refused why) = Unit {0}
IsFineChoice definitions at (Taken chance effect) = IsFineChance definitions at chance

chosen : (definitions : List Definition) (at : ℕ) (chance : Chance) (trial : Trial) (others : Choice) → IsFineChance definitions at chance → IsFineChoice definitions at others
    → IsFineChoice definitions at (chosen_by chance trial others)
chosen definitions at chance Passed others is all = all
chosen definitions at chance (Faulty why) others is all = tt
chosen definitions at chance (Happened effect) others is all = is

pub choice-fine : (test : Test) (snapshot : Snapshot) (own : Data) (at : ℕ) (ws : List Written) → All (IsFineWay test.definitions at) ws → IsFineChoice test.definitions at (first_choice test snapshot own ws)
choice-fine test snapshot own at [] all = tt
choice-fine test snapshot own at (Fault why ∷ ws) all = tt
choice-fine test snapshot own at (Open chance ∷ ws) all =
    chosen test.definitions at chance (try_chance test snapshot own chance.judge chance.event) (first_choice test snapshot own ws)
    (All-head (IsFineWay test.definitions at) (Open chance) ws all) (choice-fine test snapshot own at ws (All-tail (IsFineWay test.definitions at) (Open chance) ws all))
