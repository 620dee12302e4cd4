-- Where the branches come from that are written out at an `alt`, and what is known of the one that is chosen.
use Rattle.std.proofs.Common.{◌≡◌, ℕ, zero, suc, Bool, true, false, List, [], ◌∷◌, ◌++◌, map, Contains, Option, Some, None, IfSome, option_map, ◌⊎◌, inl, inr, refl, arith}
use Rattle.std.specs.List.{All, flat_map}
use Rattle.std.proofs.lemmas.List.Elements.{All-append, All-cons, All-head, All-nil, All-tail}
use Rattle.ttcn_syntax.specs.declared.place.Span.{Span}
use Rattle.ttcn_syntax.specs.declared.tree.statement.Action.{Action}
use Rattle.ttcn_syntax.specs.declared.tree.statement.Action.TheOpen.{Action-F, Alternative-F}
use Rattle.ttcn_syntax.specs.declared.tree.statement.Alternative.{Alternative, out-Alternative}
use Rattle.ttcn_syntax.specs.declared.tree.statement.Branch.{Branch, out-Branch}
use Rattle.ttcn_syntax.specs.declared.tree.statement.Conditional.{Conditional}
use Rattle.ttcn_syntax.specs.declared.tree.statement.Event.{Event}
use Rattle.ttcn_syntax.specs.declared.tree.statement.Statement.{Statement}
use Rattle.ttcn_syntax.specs.declared.tree.value.Call.{Call}
use Rattle.check_rules.specs.Calls.{altstep_meant, parameters_of}
use Rattle.check_scope.specs.Names.{kind_at, module_names}
use Rattle.laws_fine.proofs.Fronts.{IsTold, PortsDiffer, chance-told}
use Rattle.semantics.specs.Branches.{Chance, Fault, Judge, Open, Writing, Written, behind_guard, branches_of, frame_with, guard_holds, judge_in, open_branch, read_by, through, write_altsteps, written_alt, written_alternative, written_branch, written_call, written_default, written_defaults, written_with, written_within}
use Rattle.semantics.specs.Configurations.{Data, Frame}
use Rattle.semantics.specs.Events.{Choice, Faulty, Happened, Nothing, Passed, Refused, Taken, Trial, chosen_by, first_choice, try_chance}
use Rattle.semantics.specs.Items.{Does, Item, items, items_if_any}
use Rattle.semantics.specs.Snapshots.{Snapshot, Test}
use Rattle.check_rules.specs.Limits.{longest_chain}
use Rattle.value_types.specs.Outcomes.{Failure, Fails, Outcome, Unmet, Yields}
use Rattle.value_types.specs.Templates.{arguments}
use Rattle.value_types.specs.declared.value.Value.{Value}

-- ---- events that a statement names

-- a branch waits for this event
abbrev pub HasEvent : Event → Alternative-F Action Alternative Branch Conditional Statement → Type 0
HasEvent e (Alternative-F.«Alternative::Event» guard event block) = event ≡ e
HasEvent e (Alternative-F.«Alternative::Call» guard call block) = ⊥
HasEvent e (Alternative-F.Else block) = ⊥

-- a statement waits for this event itself, and not by an altstep
abbrev pub WaitsFor : Does → Event → Type 0
WaitsFor (Action-F.Alt branches) e = (b : Branch) × Contains branches b × HasEvent e (out-Alternative (out-Branch b).alternative)
WaitsFor (Action-F.«Action::Event» event) e = event ≡ e
WaitsFor _ e = ⊥

abbrev pub WaitsIfAny : Does → Option Event → Type 0
WaitsIfAny does None = Unit {0}
WaitsIfAny does (Some e) = WaitsFor does e

-- ---- branches of altsteps

-- the last of these frames is new: it has no timers
abbrev pub IsNewTop : List Frame → Type 0
IsNewTop [] = ⊥
IsNewTop (frame ∷ frames) = frame.timers ≡ []

abbrev MayBeNewTop : List Frame → Type 0
MayBeNewTop [] = Unit {0}
MayBeNewTop (frame ∷ frames) = frame.timers ≡ []

-- a branch that is judged where no timers are seen but those of the component's type
abbrev IsBelow : Written → Type 0
IsBelow (Fault why) = Unit {0}
IsBelow (Open chance) = MayBeNewTop chance.way.frames × (chance.judge.view.timers ≡ [])

-- a branch of an altstep that is called
abbrev IsCalled : Written → Type 0
IsCalled (Fault why) = Unit {0}
IsCalled (Open chance) = IsNewTop chance.way.frames × (chance.judge.view.timers ≡ [])

-- a branch of the statement itself, or of an altstep
abbrev pub IsOrigin : Does → Judge → Chance → Type 0
IsOrigin does judge chance =
    ((chance.way.frames ≡ []) × (chance.judge ≡ judge) × WaitsIfAny does chance.event) ⊎ (IsNewTop chance.way.frames × (chance.judge.view.timers ≡ []))

abbrev IsFrom : Does → Judge → Written → Type 0
IsFrom does judge (Fault why) = Unit {0}
IsFrom does judge (Open chance) = IsOrigin does judge chance

-- ---- lists

one : (P : Written → Type 0) (w : Written) → P w → All P (w ∷ [])
one P w is = All-cons P w [] is (All-nil P)

mapped : (P Q : Written → Type 0) (f : Written → Written) → ((w : Written) → P w → Q (f w)) → (ws : List Written) → All P ws → All Q (map f ws)
mapped P Q f keeps [] all = All-nil Q
mapped P Q f keeps (w ∷ ws) all = All-cons Q (f w) (map f ws) (keeps w (All-head P w ws all)) (mapped P Q f keeps ws (All-tail P w ws all))

more : (P Q : Written → Type 0) → ((w : Written) → P w → Q w) → (ws : List Written) → All P ws → All Q ws
more P Q weaker [] all = All-nil Q
more P Q weaker (w ∷ ws) all = All-cons Q w ws (weaker w (All-head P w ws all)) (more P Q weaker ws (All-tail P w ws all))

flat : {A : Type 0} (P : Written → Type 0) (f : A → List Written) → ((a : A) → All P (f a)) → (xs : List A) → All P (flat_map f xs)
flat P f each [] = All-nil P
flat P f each (x ∷ xs) = All-append P (f x) (flat_map f xs) (each x) (flat P f each xs)

later : {A : Type 0} (x y : A) (xs : List A) → Contains xs y → Contains (x ∷ xs) y
later x y xs h = let lt = h.1 in (suc h.0, omega arith, h.2)

flat-of : {A : Type 0} (P : Written → Type 0) (f : A → List Written) (xs : List A) → ((a : A) → Contains xs a → All P (f a)) → All P (flat_map f xs)
flat-of P f [] each = All-nil P
flat-of P f (x ∷ xs) each = All-append P (f x) (flat_map f xs) (each x (0, omega arith, refl)) (flat-of P f xs (λ a h. each a (later x a xs h)))

guarded : (P : Written → Type 0) → ((why : Failure) → P (Fault why)) → (o : Outcome Bool) (ws : List Written) → All P ws → All P (behind_guard o ws)
guarded P faults (Yields true) ws all = all
guarded P faults (Yields false) ws all = All-nil P
guarded P faults (Fails why) ws all = one P (Fault why) (faults why)

-- ---- calls of altsteps

new-top : (frames : List Frame) (frame : Frame) → frame.timers ≡ [] → MayBeNewTop frames → IsNewTop (frames ++ frame ∷ [])
new-top [] frame new is = new
new-top (f ∷ frames) frame new is = is

may-be : (frames : List Frame) → IsNewTop frames → MayBeNewTop frames
may-be [] is = tt
may-be (frame ∷ frames) is = is

through-called : (test : Test) (at : ℕ) (values : List Value) (before : List Item) (w : Written) → IsBelow w → IsCalled (through test at values before w)
through-called test at values before (Fault why) is = tt
through-called test at values before (Open chance) is = (new-top chance.way.frames (frame_with test.definitions at values chance.way.block) refl is.0, is.1)

-- how altsteps are written out
abbrev WritesBelow : Writing → Type 0
WritesBelow below = (judge : Judge) → judge.view.timers ≡ [] → (branches : List Branch) → All IsBelow (below judge branches)

with-called : (below : Writing) → WritesBelow below → (test : Test) (snapshot : Snapshot) (own : Data) (at : ℕ) (before : List Item) (o : Outcome (List Value))
    → All IsCalled (written_with below test snapshot own at before o)
with-called below writes test snapshot own at before (Fails why) = one IsCalled (Fault why) tt
with-called below writes test snapshot own at before (Yields values) =
    mapped IsBelow IsCalled (through test at values before) (through-called test at values before) (below (judge_in test at values) (branches_of (kind_at test.definitions at)))
    (writes (judge_in test at values) refl (branches_of (kind_at test.definitions at)))

call-called : (below : Writing) → WritesBelow below → (test : Test) (snapshot : Snapshot) (own : Data) (judge : Judge) (call : Call) (before : List Item) (at : Option ℕ)
    → All IsCalled (written_call below test snapshot own judge call before at)
call-called below writes test snapshot own judge call before None = one IsCalled (Fault Unmet) tt
call-called below writes test snapshot own judge call before (Some at) =
    with-called below writes test snapshot own at before (arguments (read_by test snapshot own judge) (parameters_of (kind_at test.definitions at)) call.arguments)

called-below : (w : Written) → IsCalled w → IsBelow w
called-below (Fault why) is = tt
called-below (Open chance) is = (may-be chance.way.frames is.0, is.1)

alternative-below : (below : Writing) → WritesBelow below → (test : Test) (snapshot : Snapshot) (own : Data) (judge : Judge) (place : Span) → judge.view.timers ≡ []
    → (x : Alternative-F Action Alternative Branch Conditional Statement) → All IsBelow (written_alternative below test snapshot own judge place x)
alternative-below below writes test snapshot own judge place none (Alternative-F.«Alternative::Event» guard event block) =
    guarded IsBelow (λ why. tt) (guard_holds (read_by test snapshot own judge) guard) (open_branch test judge place (Some event) (items_if_any test.definitions judge.site block) ∷ [])
    (one IsBelow (open_branch test judge place (Some event) (items_if_any test.definitions judge.site block)) (tt, none))
alternative-below below writes test snapshot own judge place none (Alternative-F.«Alternative::Call» guard call block) =
    guarded IsBelow (λ why. tt) (guard_holds (read_by test snapshot own judge) guard)
    (written_call below test snapshot own judge call (items_if_any test.definitions judge.site block) (altstep_meant (module_names test.definitions call.name)))
    (more IsCalled IsBelow called-below (written_call below test snapshot own judge call (items_if_any test.definitions judge.site block) (altstep_meant (module_names test.definitions call.name)))
    (call-called below writes test snapshot own judge call (items_if_any test.definitions judge.site block) (altstep_meant (module_names test.definitions call.name))))
alternative-below below writes test snapshot own judge place none (Alternative-F.Else block) =
    one IsBelow (open_branch test judge place None (items test.definitions judge.site block)) (tt, none)

within-below : (n : ℕ) (test : Test) (snapshot : Snapshot) (own : Data) → WritesBelow (written_within n test snapshot own)
within-below zero test snapshot own judge none branches = one IsBelow (Fault Unmet) tt
within-below (suc n) test snapshot own judge none branches =
    flat IsBelow (written_branch (written_within n test snapshot own) test snapshot own judge)
    (λ b. alternative-below (written_within n test snapshot own) (within-below n test snapshot own) test snapshot own judge (out-Branch b).place none (out-Alternative (out-Branch b).alternative)) branches

writes : (test : Test) (snapshot : Snapshot) (own : Data) → WritesBelow (write_altsteps test snapshot own)
writes test snapshot own = within-below longest_chain test snapshot own

-- ---- the branches at an `alt`

called-from : (does : Does) (judge : Judge) (w : Written) → IsCalled w → IsFrom does judge w
called-from does judge (Fault why) is = tt
called-from does judge (Open chance) is = inr is

alternative-from : (does : Does) (test : Test) (snapshot : Snapshot) (own : Data) (judge : Judge) (place : Span) (x : Alternative-F Action Alternative Branch Conditional Statement)
    → ((e : Event) → HasEvent e x → WaitsFor does e) → All (IsFrom does judge) (written_alternative (write_altsteps test snapshot own) test snapshot own judge place x)
alternative-from does test snapshot own judge place (Alternative-F.«Alternative::Event» guard event block) waits =
    guarded (IsFrom does judge) (λ why. tt) (guard_holds (read_by test snapshot own judge) guard) (open_branch test judge place (Some event) (items_if_any test.definitions judge.site block) ∷ [])
    (one (IsFrom does judge) (open_branch test judge place (Some event) (items_if_any test.definitions judge.site block)) (inl (refl, refl, waits event refl)))
alternative-from does test snapshot own judge place (Alternative-F.«Alternative::Call» guard call block) waits =
    guarded (IsFrom does judge) (λ why. tt) (guard_holds (read_by test snapshot own judge) guard)
    (written_call (write_altsteps test snapshot own) test snapshot own judge call (items_if_any test.definitions judge.site block) (altstep_meant (module_names test.definitions call.name)))
    (more IsCalled (IsFrom does judge) (called-from does judge)
    (written_call (write_altsteps test snapshot own) test snapshot own judge call (items_if_any test.definitions judge.site block) (altstep_meant (module_names test.definitions call.name)))
    (call-called (write_altsteps test snapshot own) (writes test snapshot own) test snapshot own judge call (items_if_any test.definitions judge.site block) (altstep_meant (module_names test.definitions call.name))))
alternative-from does test snapshot own judge place (Alternative-F.Else block) waits =
    one (IsFrom does judge) (open_branch test judge place None (items test.definitions judge.site block)) (inl (refl, refl, tt))

alt-call-from : (does : Does) (test : Test) (snapshot : Snapshot) (own : Data) (judge : Judge) (call : Call) (at : Option ℕ)
    → IfSome (option_map (λ n. written_call (write_altsteps test snapshot own) test snapshot own judge call [] (Some n)) at) (All (IsFrom does judge))
alt-call-from does test snapshot own judge call None = tt
alt-call-from does test snapshot own judge call (Some at) =
    more IsCalled (IsFrom does judge) (called-from does judge) (written_call (write_altsteps test snapshot own) test snapshot own judge call [] (Some at))
    (call-called (write_altsteps test snapshot own) (writes test snapshot own) test snapshot own judge call [] (Some at))

alt-from : (test : Test) (snapshot : Snapshot) (own : Data) (judge : Judge) (place : Span) (x : Does) → IfSome (written_alt test snapshot own judge place x) (All (IsFrom x judge))
alt-from test snapshot own judge place (Action-F.Alt branches) =
    flat-of (IsFrom (Action-F.Alt branches) judge) (written_branch (write_altsteps test snapshot own) test snapshot own judge) branches
    (λ b h. alternative-from (Action-F.Alt branches) test snapshot own judge (out-Branch b).place (out-Alternative (out-Branch b).alternative) (λ e is. (b, h, is)))
alt-from test snapshot own judge place (Action-F.«Action::Event» event) =
    one (IsFrom (Action-F.«Action::Event» event) judge) (open_branch test judge place (Some event) []) (inl (refl, refl, refl))
alt-from test snapshot own judge place (Action-F.«Action::Call» call) =
    alt-call-from (Action-F.«Action::Call» call) test snapshot own judge call (altstep_meant (module_names test.definitions call.name))
alt-from test snapshot own judge place _ = tt

defaults-from : (does : Does) (test : Test) (snapshot : Snapshot) (own : Data) (judge : Judge) → All (IsFrom does judge) (written_defaults test snapshot own)
defaults-from does test snapshot own judge =
    flat (IsFrom does judge) (written_default test snapshot own)
    (λ d. more IsCalled (IsFrom does judge) (called-from does judge) (written_default test snapshot own d)
    (with-called (write_altsteps test snapshot own) (writes test snapshot own) test snapshot own d.altstep [] (Yields d.arguments))) own.defaults

-- ---- the choice

-- what is known of the branch that is taken
abbrev pub IsChosen : Test → Snapshot → Data → Does → Judge → Choice → Type 0
IsChosen test snapshot own does judge Nothing = Unit {0}
IsChosen test snapshot own does judge (Refused why) = Unit {0}
IsChosen test snapshot own does judge (Taken chance effect) = IsOrigin does judge chance × IsTold test snapshot own chance.judge chance.event (Happened effect)

chosen-told : (test : Test) (snapshot : Snapshot) (own : Data) (does : Does) (judge : Judge) (chance : Chance) (trial : Trial) (others : Choice) → IsOrigin does judge chance
    → IsTold test snapshot own chance.judge chance.event trial → IsChosen test snapshot own does judge others → IsChosen test snapshot own does judge (chosen_by chance trial others)
chosen-told test snapshot own does judge chance Passed others is told rest = rest
chosen-told test snapshot own does judge chance (Faulty why) others is told rest = tt
chosen-told test snapshot own does judge chance (Happened effect) others is told rest = (is, told)

first-chosen : (test : Test) (snapshot : Snapshot) (own : Data) (does : Does) (judge : Judge) → PortsDiffer snapshot.fronts → (ws : List Written) → All (IsFrom does judge) ws
    → IsChosen test snapshot own does judge (first_choice test snapshot own ws)
first-chosen test snapshot own does judge differ [] all = tt
first-chosen test snapshot own does judge differ (Fault why ∷ ws) all = tt
first-chosen test snapshot own does judge differ (Open chance ∷ ws) all =
    chosen-told test snapshot own does judge chance (try_chance test snapshot own chance.judge chance.event) (first_choice test snapshot own ws)
    (All-head (IsFrom does judge) (Open chance) ws all) (chance-told test snapshot own chance.judge chance.event differ)
    (first-chosen test snapshot own does judge differ ws (All-tail (IsFrom does judge) (Open chance) ws all))

option-chosen : (test : Test) (snapshot : Snapshot) (own : Data) (does : Does) (judge : Judge) → PortsDiffer snapshot.fronts → (o : Option (List Written)) → IfSome o (All (IsFrom does judge))
    → IfSome (option_map (λ ws. first_choice test snapshot own (ws ++ written_defaults test snapshot own)) o) (IsChosen test snapshot own does judge)
option-chosen test snapshot own does judge differ None all = tt
option-chosen test snapshot own does judge differ (Some ws) all =
    first-chosen test snapshot own does judge differ (ws ++ written_defaults test snapshot own)
    (All-append (IsFrom does judge) ws (written_defaults test snapshot own) all (defaults-from does test snapshot own judge))

pub is-chosen : (test : Test) (snapshot : Snapshot) (own : Data) (does : Does) (judge : Judge) (place : Span) → PortsDiffer snapshot.fronts
    → IfSome (option_map (λ ws. first_choice test snapshot own (ws ++ written_defaults test snapshot own)) (written_alt test snapshot own judge place does)) (IsChosen test snapshot own does judge)
is-chosen test snapshot own does judge place differ =
    option-chosen test snapshot own does judge differ (written_alt test snapshot own judge place does) (alt-from test snapshot own judge place does)
