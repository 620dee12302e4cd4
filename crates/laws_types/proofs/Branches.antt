-- Branches that are written out: those of altsteps that call one another in short chains, and those of defaults.
use Rattle.std.proofs.Common.{◌≡◌, ◌≤◌, ℕ, zero, suc, Bool, true, false, List, [], ◌∷◌, ◌++◌, map, length, slice_get, Option, Some, None, IfSome, option_map, append_assoc, append-nil, refl, sym, ap, subst, ◌∙◌, arith}
use Rattle.std.specs.List.{All, Contains, flat_map}
use Rattle.std.specs.Option.{option_map_or}
use Rattle.std.proofs.lemmas.List.Elements.{All-append, All-cons, All-head, All-nil, All-tail, Contains-append_left, Contains-append_right}
use Rattle.ttcn_syntax.specs.declared.place.Span.{Span}
use Rattle.ttcn_syntax.specs.declared.tree.definition.Altstep.{Altstep}
use Rattle.ttcn_syntax.specs.declared.tree.definition.Definition.{Definition}
use Rattle.ttcn_syntax.specs.declared.tree.definition.DefinitionKind.{DefinitionKind}
use Rattle.ttcn_syntax.specs.declared.tree.definition.DefinitionKind.TheVariants as kind
use Rattle.ttcn_syntax.specs.declared.tree.expression.Expr.{Expr}
use Rattle.ttcn_syntax.specs.declared.tree.statement.Action.{Action}
use Rattle.ttcn_syntax.specs.declared.tree.statement.Action.TheOpen.{Alternative-F}
use Rattle.ttcn_syntax.specs.declared.tree.statement.Alternative.{Alternative, out-Alternative}
use Rattle.ttcn_syntax.specs.declared.tree.statement.Branch.{Branch, out-Branch}
use Rattle.ttcn_syntax.specs.declared.tree.statement.Conditional.{Conditional}
use Rattle.ttcn_syntax.specs.declared.tree.statement.Event.{Event}
use Rattle.ttcn_syntax.specs.declared.tree.statement.Statement.{Statement}
use Rattle.ttcn_syntax.specs.declared.tree.value.Call.{Call}
use Rattle.check_rules.specs.Calls.{altstep_meant, behaviour_meant, component_named, is_altstep, parameters_of, runs_here, runs_on_of}
use Rattle.check_rules.specs.Expressions.{expression}
use Rattle.check_scope.specs.Names.{Entry, Scope, kind_at, module_names}
use Rattle.check_scope.specs.declared.names.Meaning.{Meaning}
use Rattle.check_scope.specs.declared.names.Meaning.TheVariants as meaning
use Rattle.check_scope.specs.declared.types.DataType.{DataType}
use Rattle.check_rules.specs.Messages.{check_event}
use Rattle.check_rules.specs.Statements.{branch}
use Rattle.laws_checker.proofs.Fitting.{call_resolves}
use Rattle.laws_checker.specs.Laws.{AreArguments, Resolves}
use Rattle.laws_evaluation.proofs.ModuleReadings.{parameters_known}
use Rattle.laws_evaluation.proofs.Only.{only-of}
use Rattle.laws_evaluation.proofs.Parameters.{all_parameters_known}
use Rattle.laws_evaluation.proofs.Steps.{alone}
use Rattle.laws_evaluation.proofs.TypedChains.{fields_differ}
use Rattle.laws_evaluation.proofs.TypedTemplates.{arguments_met, arguments_typed}
use Rattle.laws_evaluation.proofs.Using.{conditions_met}
use Rattle.laws_evaluation.specs.Types.{AreGiven}
use Rattle.laws_evaluation.specs.Uses.{GivesOnly}
use Rattle.laws_sites.proofs.Blocks.{in-branch, place}
use Rattle.laws_sites.proofs.Outside.{Begins, beginning-fine, branches-fine}
use Rattle.laws_sites.specs.Standing.{IsFineSite, PlaceIn}
use Rattle.laws_statements.proofs.Chains.{chains_short}
use Rattle.laws_statements.proofs.Descent.{branch_fine}
use Rattle.laws_statements.proofs.Naming.{name_defined}
use Rattle.laws_statements.proofs.Within.{call_stays, condition_stays}
use Rattle.laws_statements.specs.Named.{IsDefinedAs}
use Rattle.laws_statements.specs.Parts.{HasFineAlternative, IsFineBranch, IsGuard}
use Rattle.semantics.proofs.Pairs.{All-more}
use Rattle.semantics.specs.Branches.{Chance, Fault, Judge, Open, Writing, Written, behind_guard, branches_of, frame_with, guard_holds, judge_in, open_branch, through, write_altsteps, written_alternative, written_branch, written_call, written_default, written_with, written_within}
use Rattle.semantics.specs.Configurations.{ActiveDefault, Data, Frame}
use Rattle.semantics.specs.Items.{Doing, Item, Mark, Waiting, items, items_if_any}
use Rattle.semantics.specs.Sites.{beginning, runs_on, scope_at}
use Rattle.semantics.specs.Snapshots.{Snapshot, Test, members_in}
use Rattle.check_survey.specs.Graphs.{AllChainsWithin, BeginsLongerChain}
use Rattle.check_survey.specs.declared.thing.Thing.{Thing}
use Rattle.check_rules.specs.Limits.{longest_chain}
use Rattle.check_rules.specs.Parts.{all_of, alternative_parts, altstep_part, altstep_parts, altsteps, branch_parts}
use Rattle.check_rules.specs.Rules.{AreWellTyped}
use Rattle.value_types.specs.Evaluation.{condition_of}
use Rattle.value_types.specs.Outcomes.{DynamicError, Fails, Failure, IsMet, Outcome, Unmet, Yields}
use Rattle.value_types.specs.Readings.{Reading}
use Rattle.value_types.specs.Templates.{arguments}
use Rattle.value_types.specs.declared.value.Value.{Value}
use Rattle.laws_types.proofs.Data.{LastAt}
use Rattle.laws_types.proofs.Events.{FitsJudge, judge-fine, judge-fit, judge-has, judge-locals, judge-whole, judge-within, judged-in, read}
use Rattle.laws_types.proofs.Forms.{both-none}
use Rattle.laws_types.proofs.Nested.{nest-block, nest-block-if}
use Rattle.laws_types.proofs.NewFrames.{arguments-seen, frame-begins, module-meant}
use Rattle.laws_types.proofs.Stands.{altstep-runs, no-behaviour}
use Rattle.laws_types.specs.Fitting.{FitsMembers, RunsOn}
use Rattle.laws_types.specs.Typed.{Awaits, FitBelow, FitsDefault, Nest, result_of}

-- ---- chains of altsteps

-- no longer chain of altsteps begins at a position
abbrev pub IsShort : List Definition → ℕ → ℕ → Type 0
IsShort definitions n at = BeginsLongerChain (altsteps definitions) n at → ⊥

get-mapped : {A B : Type 0} (f : A → B) (xs : List A) (k : ℕ) → slice_get (map f xs) k ≡ option_map f (slice_get xs k)
get-mapped f [] k = refl
get-mapped f (x ∷ xs) zero = refl
get-mapped f (x ∷ xs) (suc k) = get-mapped f xs k

kind-there : (definitions : List Definition) (found : Option Definition) (k : DefinitionKind) → option_map (λ definition. definition.kind) found ≡ Some k
    → option_map (λ definition. altstep_parts definitions definition.kind) found ≡ Some (altstep_parts definitions k)
kind-there definitions (Some d) k is = let e : d.kind ≡ k = some-is is in ap (λ k. Some (altstep_parts definitions k)) e
  where
    some-is : {a b : DefinitionKind} → Some a ≡ Some b → a ≡ b
    some-is h = cc
kind-there definitions None k is = absurd (let e = is in cc)

placed : (definitions : List Definition) (at : ℕ) (k : DefinitionKind) → kind_at definitions at ≡ Some k → slice_get (altsteps definitions) at ≡ Some (altstep_parts definitions k)
placed definitions at k is =
    get-mapped (λ (definition : Definition). altstep_parts definitions definition.kind) definitions at ∙ kind-there definitions (slice_get definitions at) k is

-- what a branch calls begins shorter chains
abbrev Calls : List Definition → ℕ → Branch → Type 0
Calls definitions n b = (next : ℕ) → Contains (branch_parts definitions b).references next → IsShort definitions n next

each-among : (definitions : List Definition) (bs : List Branch) → All (λ b. (next : ℕ) → Contains (branch_parts definitions b).references next → Contains (all_of (map (branch_parts definitions) bs)).references next) bs
each-among definitions [] = All-nil (λ b. (next : ℕ) → Contains (branch_parts definitions b).references next → Contains (all_of (map (branch_parts definitions) [])).references next)
each-among definitions (b ∷ bs) =
    let rest = all_of (map (branch_parts definitions) bs) in
    All-cons (λ c. (next : ℕ) → Contains (branch_parts definitions c).references next → Contains ((branch_parts definitions b).references ++ rest.references) next) b bs
    (λ next among. Contains-append_left (branch_parts definitions b).references rest.references next among)
    (All-more (λ c. (next : ℕ) → Contains (branch_parts definitions c).references next → Contains rest.references next)
    (λ c. (next : ℕ) → Contains (branch_parts definitions c).references next → Contains ((branch_parts definitions b).references ++ rest.references) next)
    (λ c also next among. Contains-append_right (branch_parts definitions b).references rest.references next (also next among)) bs (each-among definitions bs))

shorter : (definitions : List Definition) (n at : ℕ) (a : Altstep) → kind_at definitions at ≡ Some (kind.Altstep a) → IsShort definitions (suc n) at → All (Calls definitions n) a.branches
shorter definitions n at a is short =
    let things = altsteps definitions in
    let thing : Thing = altstep_parts definitions (kind.Altstep a) in
    All-more (λ b. (next : ℕ) → Contains (branch_parts definitions b).references next → Contains thing.references next) (Calls definitions n)
    (λ b among next called (rest, chain, longer).
    short (next ∷ rest, (subst (λ l. Contains l next) (sym (ap (λ o. option_map_or (λ (t : Thing). t.references) o []) (placed definitions at (kind.Altstep a) is))) (among next called), chain), omega arith))
    a.branches (each-among definitions a.branches)

short-enough : (definitions : List Definition) (n at : ℕ) → AllChainsWithin (altsteps definitions) n → IsShort definitions n at
short-enough definitions n at all (rest, chain, longer) = let short : length (at ∷ rest) ≤ n = all (at ∷ rest) chain in omega (arith, short, longer)

-- ---- branches

-- items in front of others that remain there
abbrev pub Fronts : List Definition → ℕ → List Entry → List Item → Type 0
Fronts definitions at declared block = (rest : List Item) → Nest definitions at declared rest → Nest definitions at declared (block ++ rest)

-- a branch that is taken where these names are declared in a frame of the behaviour at a position
pub record FitsChance (definitions : List Definition) (component_type at : ℕ) (declared : List Entry) (chance : Chance) : Type 0 where
  pub judge : FitsJudge definitions component_type chance.judge
  pub event : IfSome chance.event (λ e. check_event (scope_at definitions chance.judge.site) e ≡ [])
  pub front : Fronts definitions at declared chance.way.block
  pub enters : (calls : List Frame) → LastAt definitions component_type at declared (Nest definitions at declared) calls
      → LastAt definitions component_type chance.judge.site.behaviour chance.judge.site.declared (Nest definitions chance.judge.site.behaviour chance.judge.site.declared) (chance.way.frames ++ calls)

abbrev pub FitsWritten : List Definition → ℕ → ℕ → List Entry → Written → Type 0
FitsWritten definitions component_type at declared (Fault DynamicError) = Unit {0}
FitsWritten definitions component_type at declared (Fault Unmet) = ⊥
FitsWritten definitions component_type at declared (Open chance) = FitsChance definitions component_type at declared chance

-- a fault that checked modules meet
fault-fits : {A : Type 0} (definitions : List Definition) (component_type at : ℕ) (declared : List Entry) (why : Failure) (P : A → Type 0) → GivesOnly (Fails why) P → FitsWritten definitions component_type at declared (Fault why)
fault-fits definitions component_type at declared DynamicError P is = tt
fault-fits definitions component_type at declared Unmet P is = is

is-altstep-of : (definitions : List Definition) (name : List ℕ) (m : Option Meaning) (at : ℕ) → module_names definitions name ≡ m → behaviour_meant m ≡ Some at → is_altstep (kind_at definitions at) ≡ true → altstep_meant m ≡ Some at
is-altstep-of definitions name (Some (meaning.Altstep n)) at e meant is = meant
is-altstep-of definitions name (Some (meaning.Function n)) at e meant is = absurd (not-function (name_defined definitions name (meaning.Function n) e) (some-is meant) is)
  where
    some-is : {a b : ℕ} → Some a ≡ Some b → a ≡ b
    some-is h = cc

    not-function : IsDefinedAs definitions name (meaning.Function n) → n ≡ at → is_altstep (kind_at definitions at) ≡ true → ⊥
    not-function defined same is = let no : false ≡ true = sym (ap is_altstep (ap (kind_at definitions) (sym same) ∙ defined.1)) ∙ is in cc
is-altstep-of definitions name (Some (meaning.Testcase n)) at e meant is = absurd (not-case (name_defined definitions name (meaning.Testcase n) e) (some-is meant) is)
  where
    some-is : {a b : ℕ} → Some a ≡ Some b → a ≡ b
    some-is h = cc

    not-case : IsDefinedAs definitions name (meaning.Testcase n) → n ≡ at → is_altstep (kind_at definitions at) ≡ true → ⊥
    not-case defined same is = let no : false ≡ true = sym (ap is_altstep (ap (kind_at definitions) (sym same) ∙ defined.1)) ∙ is in cc
is-altstep-of definitions name _ at e meant is = absurd (let x = meant in cc)

module _ (test : Test) (well : AreWellTyped test.definitions) (snapshot : Snapshot) (own : Data) (members : FitsMembers test.definitions snapshot.itself.component_type (members_in snapshot own)) where
  abbrev ds : List Definition
  ds = test.definitions

  abbrev ct : ℕ
  ct = snapshot.itself.component_type

  abbrev AllFit : ℕ → List Entry → List Written → Type 0
  AllFit at declared ws = All (FitsWritten ds ct at declared) ws

  one-fits : (at : ℕ) (declared : List Entry) (w : Written) → FitsWritten ds ct at declared w → AllFit at declared (w ∷ [])
  one-fits at declared w is = All-cons (FitsWritten ds ct at declared) w [] is (All-nil (FitsWritten ds ct at declared))

  flat-fits : {A : Type 0} (at : ℕ) (declared : List Entry) (P : A → Type 0) (f : A → List Written) → ((a : A) → P a → AllFit at declared (f a)) → (xs : List A) → All P xs → AllFit at declared (flat_map f xs)
  flat-fits at declared P f each [] all = All-nil (FitsWritten ds ct at declared)
  flat-fits at declared P f each (x ∷ xs) all =
      All-append (FitsWritten ds ct at declared) (f x) (flat_map f xs) (each x (All-head P x xs all)) (flat-fits at declared P f each xs (All-tail P x xs all))

  guarded : (at : ℕ) (declared : List Entry) (o : Outcome Bool) (ws : List Written) → GivesOnly o (λ b. Unit {0}) → AllFit at declared ws → AllFit at declared (behind_guard o ws)
  guarded at declared (Yields true) ws met all = all
  guarded at declared (Yields false) ws met all = All-nil (FitsWritten ds ct at declared)
  guarded at declared (Fails why) ws met all = one-fits at declared (Fault why) (fault-fits ds ct at declared why (λ (b : Bool). Unit {0}) met)

  -- how altsteps are written out in chains of at most so many
  abbrev Writes : ℕ → Writing → Type 0
  Writes n below = (at : ℕ) (values : List Value) → IsShort ds n at → is_altstep (kind_at ds at) ≡ true → RunsOn ds at ct → AreGiven ds (parameters_of (kind_at ds at)) values
      → AllFit at [] (below (judge_in test at values) (branches_of (kind_at ds at)))

  -- ---- a called altstep

  awaits-any : (at : ℕ) (declared : List Entry) (result : Option DataType) (xs : List Item) → Nest ds at declared xs → Awaits ds at result declared xs
  awaits-any at declared result [] nest = tt
  awaits-any at declared result (Doing s x part ∷ xs) nest = nest
  awaits-any at declared result (Mark s x ∷ xs) nest = nest
  awaits-any at declared result (Waiting target ∷ xs) nest = absurd nest

  below-last : (at : ℕ) (declared : List Entry) (result : Option DataType) (calls : List Frame) → LastAt ds ct at declared (Nest ds at declared) calls → FitBelow ds ct result calls
  below-last at declared result [] last = absurd last
  below-last at declared result (frame ∷ frames) last = (at, declared, last.0, awaits-any at declared result frame.remaining last.1, last.2)

  through-fits : (at : ℕ) (declared : List Entry) (callee : ℕ) (values : List Value) (before : List Item) → RunsOn ds callee ct → AreGiven ds (parameters_of (kind_at ds callee)) values → Fronts ds at declared before
      → (w : Written) → FitsWritten ds ct callee [] w → FitsWritten ds ct at declared (through test callee values before w)
  through-fits at declared callee values before on given front (Fault DynamicError) is = tt
  through-fits at declared callee values before on given front (Fault Unmet) is = is
  through-fits at declared callee values before on given front (Open chance) is =
      let frame : Frame = frame_with ds callee values chance.way.block in
      record {
        judge = is.judge;
        event = is.event;
        front = front;
        enters = λ calls last.
            subst (LastAt ds ct chance.judge.site.behaviour chance.judge.site.declared (Nest ds chance.judge.site.behaviour chance.judge.site.declared)) (sym (append_assoc chance.way.frames (frame ∷ []) calls))
            (is.enters (frame ∷ calls) (
              frame-begins ds well ct callee values chance.way.block on given,
              subst (Nest ds callee []) (append-nil chance.way.block) (is.front [] tt),
              below-last at declared (result_of ds callee) calls last,
            ));
      }

  through-each : (at : ℕ) (declared : List Entry) (callee : ℕ) (values : List Value) (before : List Item) → RunsOn ds callee ct → AreGiven ds (parameters_of (kind_at ds callee)) values → Fronts ds at declared before
      → (ws : List Written) → AllFit callee [] ws → AllFit at declared (map (through test callee values before) ws)
  through-each at declared callee values before on given front [] all = All-nil (FitsWritten ds ct at declared)
  through-each at declared callee values before on given front (w ∷ ws) all =
      All-cons (FitsWritten ds ct at declared) (through test callee values before w) (map (through test callee values before) ws)
      (through-fits at declared callee values before on given front w (All-head (FitsWritten ds ct callee []) w ws all))
      (through-each at declared callee values before on given front ws (All-tail (FitsWritten ds ct callee []) w ws all))

  with-fits : (n : ℕ) (below : Writing) → Writes n below → (at : ℕ) (declared : List Entry) (callee : ℕ) (before : List Item) (o : Outcome (List Value)) → IsShort ds n callee → is_altstep (kind_at ds callee) ≡ true
      → RunsOn ds callee ct → Fronts ds at declared before → GivesOnly o (AreGiven ds (parameters_of (kind_at ds callee))) → AllFit at declared (written_with below test snapshot own callee before o)
  with-fits n below writes at declared callee before (Fails why) short altstep on front given =
      one-fits at declared (Fault why) (fault-fits ds ct at declared why (AreGiven ds (parameters_of (kind_at ds callee))) given)
  with-fits n below writes at declared callee before (Yields values) short altstep on front given =
      through-each at declared callee values before on given front (below (judge_in test callee values) (branches_of (kind_at ds callee))) (writes callee values short altstep on given)

  -- ---- branches at a judge

  module _ (n : ℕ) (below : Writing) (writes : Writes n below) (judge : Judge) (is : FitsJudge ds ct judge) where
    abbrev b : ℕ
    b = judge.site.behaviour

    abbrev declared : List Entry
    declared = judge.site.declared

    abbrev scope : Scope
    scope = judged-in test well snapshot own members judge is

    abbrev reading : Reading
    reading = read test well snapshot own members judge is

    abbrev here : Scope
    here = scope_at ds judge.site

    fine : IsFineSite ds b judge.site
    fine = judge-fine test well snapshot own members judge is

    met-given : (o : Outcome Bool) → IsMet o → GivesOnly o (λ b. Unit {0})
    met-given (Yields x) met = tt
    met-given (Fails DynamicError) met = tt
    met-given (Fails Unmet) met = met

    guard-met : (guard : Option Expr) → IsGuard here guard → GivesOnly (guard_holds reading guard) (λ b. Unit {0})
    guard-met None is-guard = tt
    guard-met (Some e) condition =
        met-given (condition_of e reading)
        (conditions_met e scope reading (judge-whole test well snapshot own members judge is) (judge-fit test well snapshot own members judge is) (judge-has test well snapshot own members judge is)
        (condition_stays e here scope (judge-within test well snapshot own members judge is) (both-none (expression e here false).broken (expression e here false).typing condition.fine condition.boolean)))

    opened : (span : Span) (event : Option Event) (block : List Item) → IfSome event (λ e. check_event here e ≡ []) → Fronts ds b declared block → AllFit b declared (open_branch test judge span event block ∷ [])
    opened span event block event-fine front =
        one-fits b declared (open_branch test judge span event block) (record { judge = is; event = event-fine; front = front; enters = λ calls last. last })

    given-met : (call : Call) (callee : ℕ) → AreArguments scope (parameters_of (kind_at ds callee)) call.arguments → GivesOnly (arguments reading (parameters_of (kind_at ds callee)) call.arguments) (AreGiven ds (parameters_of (kind_at ds callee)))
    given-met call callee given =
        let ps = parameters_of (kind_at ds callee) in
        let whole = judge-whole test well snapshot own members judge is in
        let fit = judge-fit test well snapshot own members judge is in
        only-of (AreGiven ds ps) (arguments reading ps call.arguments)
        (arguments_met scope reading whole (fields_differ ds well) (parameters_known ds well) fit (judge-has test well snapshot own members judge is) ps call.arguments (all_parameters_known ds well callee) given)
        (arguments_typed scope reading whole (fields_differ ds well) fit ps call.arguments given)

    pub call-fits : (call : Call) (before : List Item) (callee : ℕ) → behaviour_meant (scope.names call.name) ≡ Some callee → is_altstep (kind_at ds callee) ≡ true → AreArguments scope (parameters_of (kind_at ds callee)) call.arguments
        → runs_here (component_named ds (runs_on_of (kind_at ds callee))) (runs_on ds b) ≡ true → ((next : ℕ) → altstep_meant (module_names ds call.name) ≡ Some next → IsShort ds n next) → Fronts ds b declared before
        → AllFit b declared (written_call below test snapshot own judge call before (altstep_meant (module_names ds call.name)))
    call-fits call before callee meant altstep given runs short front =
        let in-module : behaviour_meant (module_names ds call.name) ≡ Some callee =
        module-meant behaviour_meant no-behaviour ds well judge.site judge.view fine (judge-locals test well snapshot own members judge is) call.name callee meant in
        let as-altstep : altstep_meant (module_names ds call.name) ≡ Some callee = is-altstep-of ds call.name (module_names ds call.name) callee refl in-module altstep in
        subst (λ m. AllFit b declared (written_call below test snapshot own judge call before m)) (sym as-altstep)
        (with-fits n below writes b declared callee before (arguments reading (parameters_of (kind_at ds callee)) call.arguments) (short callee as-altstep) altstep
        (altstep-runs ds callee (runs_on ds b) ct altstep runs is.on) front (given-met call callee given))

    alternative-fits : (inside : PlaceIn ds b) (span : Span) (x : Alternative-F Action Alternative Branch Conditional Statement) → HasFineAlternative (place ds b judge.site inside) x
        → ((next : ℕ) → Contains (alternative_parts ds x).references next → IsShort ds n next) → AllFit b declared (written_alternative below test snapshot own judge span x)
    alternative-fits inside span (Alternative-F.«Alternative::Event» guard event block) parts short =
        guarded b declared (guard_holds reading guard) (open_branch test judge span (Some event) (items_if_any ds judge.site block) ∷ []) (guard-met guard parts.0)
        (opened span (Some event) (items_if_any ds judge.site block) parts.1 (λ rest nest. nest-block-if ds b block judge.site (in-branch ds b inside) rest fine parts.2 nest))
    alternative-fits inside span (Alternative-F.«Alternative::Call» guard call block) parts short =
        let resolves : Resolves scope is_altstep call = call_resolves scope is_altstep call (call_stays is_altstep call here scope (judge-within test well snapshot own members judge is) parts.1) in
        guarded b declared (guard_holds reading guard) (written_call below test snapshot own judge call (items_if_any ds judge.site block) (altstep_meant (module_names ds call.name))) (guard-met guard parts.0)
        (call-fits call (items_if_any ds judge.site block) resolves.at resolves.meant resolves.kind resolves.arguments resolves.runs
        (λ next is-next. short next (subst (λ m. Contains (altstep_part m).references next) (sym is-next) (0, omega arith, refl)))
        (λ rest nest. nest-block-if ds b block judge.site (in-branch ds b inside) rest fine parts.2 nest))
    alternative-fits inside span (Alternative-F.Else block) parts short =
        opened span None (items ds judge.site block) tt (λ rest nest. nest-block ds b block judge.site (in-branch ds b inside) rest fine parts nest)

    pub branch-fits : (inside : PlaceIn ds b) (x : Branch) → IsFineBranch (place ds b judge.site inside) x → Calls ds n x → AllFit b declared (written_branch below test snapshot own judge x)
    branch-fits inside x parts short = alternative-fits inside (out-Branch x).place (out-Alternative (out-Branch x).alternative) parts short

  -- ---- chains of so many

  altstep-judge : (at : ℕ) (values : List Value) → RunsOn ds at ct → AreGiven ds (parameters_of (kind_at ds at)) values → FitsJudge ds ct (judge_in test at values)
  altstep-judge at values on given = record { on = on; names = tt; seen = arguments-seen ds well at values given }

  abbrev IsBranchAt : ℕ → Branch → Type 0
  IsBranchAt at x = (inside : PlaceIn ds at) × IsFineBranch (place ds at (beginning at) inside) x

  of-altstep : (at : ℕ) → All (IsBranchAt at) (branches_of (kind_at ds at))
  of-altstep at =
      let begins : IsFineSite ds at (beginning at) = beginning-fine ds well at in
      All-more (λ x. Begins ds well at (branch x)) (IsBranchAt at) (λ x is. (is.0, branch_fine x (place ds at (beginning at) is.0) begins.whole is.1)) (branches_of (kind_at ds at)) (branches-fine ds well at)

  both : {A : Type 0} (P Q : A → Type 0) (xs : List A) → All P xs → All Q xs → All (λ a. P a × Q a) xs
  both P Q [] one other = All-nil (λ a. P a × Q a)
  both P Q (x ∷ xs) one other = All-cons (λ a. P a × Q a) x xs (All-head P x xs one, All-head Q x xs other) (both P Q xs (All-tail P x xs one) (All-tail Q x xs other))

  branches-within : (n : ℕ) (below : Writing) → Writes n below → (at : ℕ) (values : List Value) (k : Option DefinitionKind) → kind_at ds at ≡ k → IsShort ds (suc n) at → is_altstep k ≡ true → RunsOn ds at ct
      → AreGiven ds (parameters_of (kind_at ds at)) values → All (IsBranchAt at) (branches_of k) → AllFit at [] (flat_map (written_branch below test snapshot own (judge_in test at values)) (branches_of k))
  branches-within n below writes at values (Some (kind.Altstep a)) is short altstep on given all =
      flat-fits at [] (λ x. IsBranchAt at x × Calls ds n x) (written_branch below test snapshot own (judge_in test at values))
      (λ x of. branch-fits n below writes (judge_in test at values) (altstep-judge at values on given) of.0.0 x of.0.1 of.1) a.branches
      (both (IsBranchAt at) (Calls ds n) a.branches all (shorter ds n at a is short))
  branches-within n below writes at values _ is short altstep on given all = absurd (let e = altstep in cc)

  no-altstep : (at : ℕ) (k : Option DefinitionKind) → kind_at ds at ≡ k → IsShort ds 0 at → is_altstep k ≡ true → ⊥
  no-altstep at (Some (kind.Altstep a)) is short altstep = short (alone (altsteps ds) at (altstep_parts ds (kind.Altstep a)) (placed ds at (kind.Altstep a) is))
  no-altstep at _ is short altstep = let e = altstep in cc

  within-writes : (n : ℕ) → Writes n (written_within n test snapshot own)
  within-writes zero at values short altstep on given = absurd (no-altstep at (kind_at ds at) refl short altstep)
  within-writes (suc n) at values short altstep on given =
      branches-within n (written_within n test snapshot own) (within-writes n) at values (kind_at ds at) refl short altstep on given (of-altstep at)

  enough : (n : ℕ) → AllChainsWithin (altsteps ds) n → (at : ℕ) → IsShort ds n at
  enough n all at = short-enough ds n at all

  -- ---- the branches at an `alt`, and those of the defaults

  pub alt-branch-fits : (judge : Judge) (is : FitsJudge ds ct judge) (inside : PlaceIn ds judge.site.behaviour) (x : Branch) → IsFineBranch (place ds judge.site.behaviour judge.site inside) x
      → AllFit judge.site.behaviour judge.site.declared (written_branch (write_altsteps test snapshot own) test snapshot own judge x)
  alt-branch-fits judge is inside x parts =
      branch-fits longest_chain (write_altsteps test snapshot own) (within-writes longest_chain) judge is inside x parts (λ next among. enough longest_chain (chains_short ds well) next)

  pub lone-call-fits : (judge : Judge) (is : FitsJudge ds ct judge) (call : Call) (callee : ℕ) → behaviour_meant ((judged-in test well snapshot own members judge is).names call.name) ≡ Some callee → is_altstep (kind_at ds callee) ≡ true
      → AreArguments (judged-in test well snapshot own members judge is) (parameters_of (kind_at ds callee)) call.arguments
      → runs_here (component_named ds (runs_on_of (kind_at ds callee))) (runs_on ds judge.site.behaviour) ≡ true
      → AllFit judge.site.behaviour judge.site.declared (written_call (write_altsteps test snapshot own) test snapshot own judge call [] (altstep_meant (module_names ds call.name)))
  lone-call-fits judge is call callee meant altstep given runs =
      call-fits longest_chain (write_altsteps test snapshot own) (within-writes longest_chain) judge is call [] callee meant altstep given runs
      (λ next is-next. enough longest_chain (chains_short ds well) next) (λ rest nest. nest)

  pub lone-event-fits : (judge : Judge) → FitsJudge ds ct judge → (span : Span) (event : Event) → check_event (scope_at ds judge.site) event ≡ []
      → AllFit judge.site.behaviour judge.site.declared (open_branch test judge span (Some event) [] ∷ [])
  lone-event-fits judge is span event nothing =
      opened longest_chain (write_altsteps test snapshot own) (within-writes longest_chain) judge is span (Some event) [] nothing (λ rest nest. nest)

  pub defaults-fit : (at : ℕ) (declared : List Entry) (defaults : List ActiveDefault) → All (FitsDefault ds ct) defaults → AllFit at declared (flat_map (written_default test snapshot own) defaults)
  defaults-fit at declared defaults all =
      flat-fits at declared (FitsDefault ds ct) (written_default test snapshot own)
      (λ d fits. with-fits longest_chain (write_altsteps test snapshot own) (within-writes longest_chain) at declared d.altstep [] (Yields d.arguments) (enough longest_chain (chains_short ds well) d.altstep) fits.kind fits.on
      (λ rest nest. nest) fits.arguments) defaults all
