-- In runs of a module that breaks no rule only a step that fails ends with verdict `error`, since no `setverdict` sets it.
use Rattle.std.proofs.Common.{◌≡◌, ℕ, Bool, true, false, not, List, [], ◌∷◌, ◌++◌, Option, Some, None, IfSome, is_some, option_map, refl, sym, ap, subst, if◌then◌else◌}
use Rattle.std.specs.List.{All, filter, fold}
use Rattle.std.specs.Option.{option_and_then}
use Rattle.std.specs.Ordering.{match_ordering, nat_cmp}
use Rattle.std.specs.declared.cmp.Ordering.{Ordering}
use Rattle.std.specs.declared.cmp.Ordering.TheVariants.{Less, Equal, Greater}
use Rattle.std.proofs.lemmas.List.Elements.{All-cons, All-head, All-map, All-nil, All-tail}
use Rattle.ttcn_syntax.specs.declared.tree.statement.Action.TheOpen.{Action-F}
use Rattle.ttcn_syntax.specs.declared.tree.statement.LogItem.{LogItem}
use Rattle.ttcn_syntax.specs.declared.tree.statement.Statement.{Statement as Tree}
use Rattle.ttcn_syntax.specs.declared.tree.statement.Verdict.{Verdict}
use Rattle.ttcn_syntax.specs.declared.tree.statement.Verdict.TheVariants as verdict
use Rattle.check_scope.specs.Names.{kind_at}
use Rattle.check_scope.specs.Typings.{unless}
use Rattle.check_scope.specs.declared.rule.Rule.TheVariants as rule
use Rattle.check_rules.specs.Statements.{check_log, is_error}
use Rattle.laws_checker.proofs.Nothing.{nothing-first}
use Rattle.laws_repeat.proofs.Asked.{asked_followed}
use Rattle.laws_repeat.specs.Following.{IsFollowed, SetsVerdict, lists_of}
use Rattle.laws_sites.proofs.Blocks.{parts-of, place}
use Rattle.laws_sites.specs.Standing.{IsFineComponent, IsFineFrame, IsFineItem, IsFrameOf, StandsByRules}
use Rattle.laws_statements.specs.Parts.{HasFineParts}
use Rattle.laws_steps.proofs.Found.{found-each, insert-each, some-of}
use Rattle.laws_steps.proofs.Outcomes.{any-yields, map-yields}
use Rattle.semantics.proofs.Pairs.{All-more}
use Rattle.semantics.specs.Configurations.{Component, Configuration, Created, Data, End, Ended, Frame, Goes, Going, Message, Running, State, Terminated, badness, component_at, is_running_state, is_terminated_state, overall, path_of, same_path, worse}
use Rattle.semantics.specs.Creating.{new_members}
use Rattle.semantics.specs.Entries.{put}
use Rattle.semantics.specs.Items.{Doing, Item, Whole, action_of}
use Rattle.semantics.specs.Runs.{first_snapshot, mtc_with, start, started, testcase_body}
use Rattle.semantics.specs.Sites.{Site}
use Rattle.semantics.specs.Snapshots.{Test, mtc_of, snapshot_of}
use Rattle.semantics.specs.Statements.{Act, Connects, Continues, Creates, Errs, Maps, Removes, Requests, Sends, Starts, Stops, Unmaps, Waits, Worsens, act}
use Rattle.semantics.specs.Steps.{Delivery, Expiry, Label, Statement, addressed, apply, at_queue, begin, come_in, connect, connection, deliver, ending, exchanged, expired, expiry_step, insert, is_kept_apart, is_kept_unmapped, is_mapped, map_port, next, next_message, peers, send, send_out, send_to_peer, settle, settled, start_component, start_created, start_in, statement_step, step, terminate, touch, unless_terminated, with_connection, with_data, with_mappings, with_state, with_verdict, without_first}
use Rattle.check_rules.specs.Rules.{AreWellTyped}
use Rattle.value_types.specs.Frames.{entry}
use Rattle.value_types.specs.Outcomes.{Fails, IfYields, Outcome, Yields, dynamic_error, or_unmet, outcome_and_then}
use Rattle.value_types.specs.declared.path.Path.{Path}
use Rattle.value_types.specs.declared.value.ComponentId.{ComponentId}
use Rattle.value_types.specs.declared.value.Value.{Value}
use Rattle.laws_types.specs.Runs.{HasNoError}

-- ---- verdicts

abbrev IsNone : Verdict → Type 0
IsNone v = is_error v ≡ false

worse-of : (o : Ordering) (one other : Verdict) → IsNone one → IsNone other → IsNone (match_ordering o other one one)
worse-of Less one other is also = also
worse-of Equal one other is also = is
worse-of Greater one other is also = is

worse-none : (one other : Verdict) → IsNone one → IsNone other → IsNone (worse one other)
worse-none one other is also = worse-of (nat_cmp (badness one) (badness other)) one other is also

abbrev Fine : Component → Type 0
Fine component = IsNone component.verdict

all-none : (v : Verdict) (xs : List Component) → IsNone v → All Fine xs → IsNone (fold (λ w component. worse w component.verdict) v xs)
all-none v [] is all = is
all-none v (x ∷ xs) is all = all-none (worse v x.verdict) xs (worse-none v x.verdict is (All-head Fine x xs all)) (All-tail Fine x xs all)

-- ---- what is set

module _ (test : Test) (well : AreWellTyped test.definitions) where
  not-error : (b : Bool) → unless (not b) rule.VerdictError ≡ [] → b ≡ false
  not-error true nothing = absurd (let is = nothing in cc)
  not-error false nothing = refl

  abbrev first-of : List (List Item) → List Item
  first-of [] = []
  first-of (xs ∷ lists) = xs

  item-none : (at : ℕ) (site : Site) (s : Tree) (v : Verdict) (reasons : List LogItem) → action_of s ≡ Action-F.Setverdict v reasons → IsFineItem test.definitions at (Doing site s Whole) → IsNone v
  item-none at site s v reasons does fine =
      let inside = fine.1.1.0 in
      let parts : HasFineParts (place test.definitions at site inside) (Action-F.Setverdict v reasons) =
      subst (HasFineParts (place test.definitions at site inside)) does (parts-of test.definitions at site s inside fine.0 fine.1.1.1) in
      not-error (is_error v) (nothing-first (unless (not (is_error v)) rule.VerdictError) (check_log (place test.definitions at site inside).scope reasons) parts)

  first-none : (calls : List Frame) (site : Site) (s : Tree) (rest : List Item) (lists : List (List Item)) (v : Verdict) (reasons : List LogItem) → All (IsFineFrame test.definitions) calls
      → lists_of calls ≡ (Doing site s Whole ∷ rest) ∷ lists → action_of s ≡ Action-F.Setverdict v reasons → IsNone v
  first-none [] site s rest lists v reasons all is does = absurd (let no_frame = is in cc)
  first-none (frame ∷ frames) site s rest lists v reasons all is does =
      let first : IsFineFrame test.definitions frame = All-head (IsFineFrame test.definitions) frame frames all in
      let here : IsFrameOf test.definitions first.0 frame = first.1 in
      item-none first.0 site s v reasons does
      (All-head (IsFineItem test.definitions first.0) (Doing site s Whole) rest (subst (All (IsFineItem test.definitions first.0)) (ap first-of is) here.items))

  set-none : (calls : List Frame) (v : Verdict) → All (IsFineFrame test.definitions) calls → SetsVerdict (lists_of calls) v → IsNone v
  set-none calls v all (site, s, rest, lists, reasons, is, does) = first-none calls site s rest lists v reasons all is does

  -- ---- changes of a component

  abbrev AreFine : Going → Type 0
  AreFine c = IsNone c.forgotten × All Fine c.components

  abbrev Keeps : (Component → Component) → Type 0
  Keeps change = (x : Component) → Fine x → Fine (change x)

  either : (b : Bool) (x y : Component) → Fine x → Fine y → Fine (if b then x else y)
  either true x y one other = one
  either false x y one other = other

  touch-keeps : (c : Going) (path : Path) (change : Component → Component) → Keeps change → AreFine c → AreFine (touch c path change)
  touch-keeps c path change keeps is = (
    is.0,
    All-map Fine (λ x. if same_path (path_of x) path then unless_terminated change x else x) c.components
        (All-more Fine (λ x. Fine (if same_path (path_of x) path then unless_terminated change x else x))
        (λ x fine. either (same_path (path_of x) path) (unless_terminated change x) x (either (is_terminated_state x.state) x (change x) fine (keeps x fine)) fine)
        c.components is.1),
  )

  settles : (c : Going) (path : Path) (own : Data) → AreFine c → AreFine (settle c path own)
  settles c path own is = touch-keeps c path (with_data own) (λ x fine. fine) is

  new-fine : (new : Component) (c : Going) (b : Bool) → Fine new → All Fine c.components → All Fine (if b then c.components else insert new c.components)
  new-fine new c true is all = all
  new-fine new c false is all = insert-each Fine new is c.components all

  -- ---- what a component asks for

  -- an outcome ends the test case with no `error`, or leaves none
  abbrev IsQuiet : Configuration → Type 0
  IsQuiet (Ended v) = IsNone v
  IsQuiet (Goes c) = AreFine c

  abbrev LeadsToQuiet : Option (Outcome Configuration) → Type 0
  LeadsToQuiet o = IfSome o (λ out. IfYields out IsQuiet)

  ending-quiet : (o : Outcome Going) → IfYields o AreFine → IfYields (ending o) IsQuiet
  ending-quiet (Yields c) is = is
  ending-quiet (Fails why) is = tt

  deliver-quiet : (c : Going) (message : Message) (ends : List End) → AreFine c → IfYields (deliver c message ends) AreFine
  deliver-quiet c message [] is = tt
  deliver-quiet c message (e ∷ []) is = touch-keeps c e.component (at_queue e.port (λ messages. messages ++ message ∷ [])) (λ x fine. fine) is
  deliver-quiet c message (d ∷ e ∷ ends) is = tt

  out-quiet : (c : Going) (to : Option Path) → AreFine c → IfYields (send_out c to) AreFine
  out-quiet c None is = is
  out-quiet c (Some path) is = tt

  send-quiet : (b : Bool) (c : Going) (sender : ComponentId) (port : List ℕ) (to : Option Path) (v : Value) → AreFine c → IfYields (if b then send_out c to else send_to_peer c sender port to v) AreFine
  send-quiet true c sender port to v is = out-quiet c to is
  send-quiet false c sender port to v is =
      deliver-quiet c (record { value = v; sender = Some sender }) (filter (addressed to) (peers c (record { component = sender.path; port = port }))) is

  start-in-quiet : (c : Going) (path : Path) (frame : Frame) (state : State) → AreFine c → IfYields (start_in c path frame state) AreFine
  start-in-quiet c path frame Created is = touch-keeps c path (begin frame) (λ x fine. fine) is
  start-in-quiet c path frame Running is = tt
  start-in-quiet c path frame Terminated is = tt

  start-quiet : (c : Going) (path : Path) (frame : Frame) (found : Option Component) → AreFine c → IfYields (start_created c path frame found) AreFine
  start-quiet c path frame None is = tt
  start-quiet c path frame (Some component) is = start-in-quiet c path frame component.state is

  stop-quiet : (b : Bool) (c : Going) (path : Path) → AreFine c → IsQuiet (if b then Ended (overall c) else Goes (terminate path c))
  stop-quiet true c path is = all-none c.forgotten c.components is.0 is.1
  stop-quiet false c path is = touch-keeps c path (with_state Terminated) (λ x fine. fine) is

  connect-quiet : (b : Bool) (c : Going) (d e : End) → AreFine c → IfYields (if b then dynamic_error else Yields (with_connection (connection d e) c)) AreFine
  connect-quiet true c d e is = tt
  connect-quiet false c d e is = is

  map-quiet : (b : Bool) (c : Going) (d : End) (system_port : List ℕ) → AreFine c → IfYields (if b then dynamic_error else Yields (with_mappings (put system_port d c.mappings) c)) AreFine
  map-quiet true c d system_port is = tt
  map-quiet false c d system_port is = is

  module _ (c : Going) (itself : ComponentId) (is : AreFine c) (calls : List Frame) (all : All (IsFineFrame test.definitions) calls) where
    apply-quiet : (asked : Act) → IsFollowed test.definitions (lists_of calls) asked → LeadsToQuiet (apply test c itself asked)
    apply-quiet Waits follows = tt
    apply-quiet (Errs why) follows = tt
    apply-quiet (Requests Continues own) follows = settles c itself.path own is
    apply-quiet (Requests (Worsens v) own) follows =
        touch-keeps (settle c itself.path own) itself.path (with_verdict v) (λ x fine. worse-none x.verdict v fine (set-none calls v all follows.0)) (settles c itself.path own is)
    apply-quiet (Requests (Removes port) own) follows = touch-keeps (settle c itself.path own) itself.path (at_queue port without_first) (λ x fine. fine) (settles c itself.path own is)
    apply-quiet (Requests (Sends port to v) own) follows =
        ending-quiet (send (settle c itself.path own) itself port to v)
        (send-quiet (is_mapped (settle c itself.path own) (record { component = itself.path; port = port })) (settle c itself.path own) itself port to v (settles c itself.path own is))
    apply-quiet (Requests (Creates new) own) follows =
        let settled-fine : AreFine (settle c itself.path own) = settles c itself.path own is in (
          settled-fine.0,
          new-fine new (settle c itself.path own) (is_some (component_at (settle c itself.path own) (path_of new))) (subst IsNone (sym follows.0.1) refl) settled-fine.1,
        )
    apply-quiet (Requests (Starts path frame) own) follows =
        ending-quiet (start_component (settle c itself.path own) path frame)
        (start-quiet (settle c itself.path own) path frame (component_at (settle c itself.path own) path) (settles c itself.path own is))
    apply-quiet (Requests (Stops path) own) follows = stop-quiet (same_path path (mtc_of test).path) (settle c itself.path own) path (settles c itself.path own is)
    apply-quiet (Requests (Connects d e) own) follows =
        ending-quiet (connect (settle c itself.path own) d e)
        (connect-quiet (is_kept_apart (settle c itself.path own) d e) (settle c itself.path own) d e (settles c itself.path own is))
    apply-quiet (Requests (Maps d system_port) own) follows =
        ending-quiet (map_port (settle c itself.path own) d system_port)
        (map-quiet (is_kept_unmapped (settle c itself.path own) d system_port) (settle c itself.path own) d system_port (settles c itself.path own is))
    apply-quiet (Requests (Unmaps d system_port) own) follows = settles c itself.path own is

  -- ---- steps

  running-quiet : (b : Bool) (o : Option (Outcome Configuration)) → LeadsToQuiet o → LeadsToQuiet (if b then o else None)
  running-quiet true o is = is
  running-quiet false o is = tt

  statement-quiet : (c : Going) (x : Component) → AreFine c → IsFineComponent test.definitions x → LeadsToQuiet (statement_step test c x)
  statement-quiet c x is rules =
      running-quiet (is_running_state x.state) (apply test c x.itself (act test (snapshot_of c x) x.own))
      (apply-quiet c x.itself is x.own.calls rules.calls (act test (snapshot_of c x) x.own) (asked_followed test (snapshot_of c x) x.own))

  exchange-quiet : (c : Going) (x : Component) (o : Option Data) → AreFine c → LeadsToQuiet (option_map (λ own. Yields (Goes (touch c (path_of x) (exchanged own)))) o)
  exchange-quiet c x None is = tt
  exchange-quiet c x (Some own) is = touch-keeps c (path_of x) (exchanged own) (λ y fine. fine) is

  expiry-quiet : (c : Going) (number : ℕ) (name : List ℕ) (x : Component) → AreFine c → LeadsToQuiet (expiry_step c number name x)
  expiry-quiet c number name x is =
      running-quiet (is_running_state x.state) (option_map (λ own. Yields (Goes (touch c (path_of x) (exchanged own)))) (expired number name x.own)) (exchange-quiet c x (expired number name x.own) is)

  then-quiet : (step : Component → Option (Outcome Configuration)) (o : Option Component) → ((x : Component) → IsFineComponent test.definitions x → LeadsToQuiet (step x)) → IfSome o (IsFineComponent test.definitions)
      → LeadsToQuiet (option_and_then step o)
  then-quiet step None quiet rules = tt
  then-quiet step (Some x) quiet rules = quiet x rules

  come-quiet : (c : Going) (system_port : List ℕ) (e : End) (o : Option Value) → AreFine c → LeadsToQuiet (option_map (λ v. Yields (Goes (come_in system_port e v c))) o)
  come-quiet c system_port e None is = tt
  come-quiet c system_port e (Some v) is = touch-keeps c e.component (at_queue e.port (λ messages. messages ++ record { value = v; sender = None } ∷ [])) (λ x fine. fine) is

  delivery-quiet : (c : Going) (system_port : List ℕ) (o : Option End) → AreFine c
      → LeadsToQuiet (option_and_then (λ e. option_map (λ v. Yields (Goes (come_in system_port e v c))) (next_message test c system_port)) o)
  delivery-quiet c system_port None is = tt
  delivery-quiet c system_port (Some e) is = come-quiet c system_port e (next_message test c system_port) is

  component-ruled : (c : Going) (path : Path) → StandsByRules test (Goes c) → IfSome (component_at c path) (IsFineComponent test.definitions)
  component-ruled c path rules = found-each (IsFineComponent test.definitions) (λ component. same_path (path_of component) path) c.components rules

  pub step-quiet : (c : Configuration) (label : Label) → StandsByRules test c → HasNoError c → LeadsToQuiet (step test c label)
  step-quiet (Ended v) label rules is = tt
  step-quiet (Goes c) (Statement path) rules is = then-quiet (statement_step test c) (component_at c path) (λ x fine. statement-quiet c x is fine) (component-ruled c path rules)
  step-quiet (Goes c) (Expiry path number name) rules is = then-quiet (expiry_step c number name) (component_at c path) (λ x fine. expiry-quiet c number name x is) (component-ruled c path rules)
  step-quiet (Goes c) (Delivery system_port) rules is = delivery-quiet c system_port (entry c.mappings system_port) is

  -- ---- runs

  quiet-settled : (c : Configuration) → IsQuiet c → HasNoError c
  quiet-settled (Ended v) is = tt
  quiet-settled (Goes c) is = is

  settled-none : (o : Outcome Configuration) → IfYields o IsQuiet → HasNoError (settled o)
  settled-none (Yields c) is = quiet-settled c is
  settled-none (Fails why) is = tt

  map-settled : (o : Option (Outcome Configuration)) → LeadsToQuiet o → IfSome (option_map settled o) HasNoError
  map-settled None is = tt
  map-settled (Some out) is = settled-none out is

  pub next-none : (c d : Configuration) (label : Label) → StandsByRules test c → HasNoError c → next test c label ≡ Some d → HasNoError d
  next-none c d label rules is e = some-of HasNoError (next test c label) d e (map-settled (step test c label) (step-quiet c label rules is))

  started-quiet : (body : List Tree) → IfYields (started test body) IsQuiet
  started-quiet body =
      map-yields (λ members. Unit {0}) IsQuiet (λ members. Goes (record { components = mtc_with test body members ∷ []; connections = []; mappings = []; delivered = []; forgotten = verdict.None })) (new_members test (mtc_of test) (first_snapshot test))
      (λ members any. (refl, All-cons Fine (mtc_with test body members) [] refl (All-nil Fine))) (any-yields (new_members test (mtc_of test) (first_snapshot test)))

  start-of : (body : Option (List Tree)) → IfYields (outcome_and_then (started test) (or_unmet body)) IsQuiet
  start-of None = tt
  start-of (Some body) = started-quiet body

  pub start-none : HasNoError (start test)
  start-none = settled-none (outcome_and_then (started test) (or_unmet (testcase_body (kind_at test.definitions test.testcase)))) (start-of (testcase_body (kind_at test.definitions test.testcase)))

  -- a step that doesn't fail ends with no `error`
  pub ends-quietly : (c : Configuration) (label : Label) (v : Verdict) → StandsByRules test c → HasNoError c → step test c label ≡ Some (Yields (Ended v)) → IsNone v
  ends-quietly c label v rules is e = some-of (λ out. IfYields out IsQuiet) (step test c label) (Yields (Ended v)) e (step-quiet c label rules is)
