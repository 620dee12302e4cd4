-- The steps of a component that has chosen early: its choice, and the expiry of one of its timers.
use Rattle.std.proofs.Common.{◌≡◌, ℕ, Bool, true, false, List, [], ◌∷◌, map, Option, Some, None, option_map, refl, sym, ap, subst, ◌∙◌, if◌then◌else◌}
use Rattle.std.specs.List.{All}
use Rattle.std.specs.Option.{option_and_then}
use Rattle.std.proofs.lemmas.List.Elements.{All-cons, All-head, All-nil, All-tail}
use Rattle.laws_fine.proofs.Choices.{IfData, IsOfAlt, IsSafeIn, act-lapses, act-of-alt, act-timer, asked}
use Rattle.laws_fine.proofs.Early.{IsReady, Pending, early, early-at, hastened, hastened-path, made, made_by, made_if, map-all, map-map, touch-early, touch-queue, with_components}
use Rattle.laws_fine.proofs.Lapses.{expired-is, expiring, lapsed, timer_in, uncovered-lapses, uncovered-timer}
use Rattle.laws_fine.specs.Fine.{is_at_alt}
use Rattle.laws_steps.proofs.Finding.{alive, path-is}
use Rattle.semantics.proofs.Pairs.{All-more}
use Rattle.semantics.specs.Configurations.{Component, Data, End, Goes, Going, component_at, is_running_state, is_terminated_state, path_of, same_path}
use Rattle.semantics.specs.Snapshots.{Snapshot, Test}
use Rattle.semantics.specs.Statements.{Act, Connects, Continues, Creates, Errs, Maps, Removes, Requests, Sends, Starts, Stops, Unmaps, Waits, Worsens, act}
use Rattle.semantics.specs.Steps.{Delivery, Expiry, apply, at_queue, come_in, exchanged, expired, expiry_step, next, next_message, settle, settled, touch, unless_terminated, with_data, with_delivery, without_first}
use Rattle.value_types.specs.Frames.{entry}
use Rattle.value_types.specs.Outcomes.{Yields}
use Rattle.value_types.specs.declared.frame.TimerState.TheVariants as timer
use Rattle.value_types.specs.declared.path.Path.{Path}
use Rattle.value_types.specs.declared.value.Value.{Value}

-- ---- one component at a path

-- the component that is found at a path is the only one there
abbrev pub IsOnly : Path → Component → Going → Type 0
IsOnly p x c = All (λ y. same_path (path_of y) p ≡ true → y ≡ x) c.components

-- ---- a choice

-- what is asked for at an `alt` is done
made-all : (f g : Component → Component) (c : Going) → All (λ y. f y ≡ g y) c.components → with_components c (map f c.components) ≡ with_components c (map g c.components)
made-all f g c all = ap (with_components c) (map-all f g c.components all)

-- the component at a path has done what it asks for
abbrev pub made_at : Act → Path → Going → Going
made_at a p c = with_components c (map (λ y. if same_path (path_of y) p then made_by a y else y) c.components)

pick-told : (change : Component → Component) (y : Component) (b : Bool) → (b ≡ true → is_terminated_state y.state ≡ false) → (if b then unless_terminated change y else y) ≡ (if b then change y else y)
pick-told change y true is = ap (λ t. if t then y else change y) (is refl)
pick-told change y false is = refl

only-alive : (p : Path) (x y : Component) → is_running_state x.state ≡ true → (same_path (path_of y) p ≡ true → y ≡ x) → same_path (path_of y) p ≡ true → is_terminated_state y.state ≡ false
only-alive p x y runs only at = ap (λ (z : Component). is_terminated_state z.state) (only at) ∙ alive x runs

settle-is : (p : Path) (x : Component) (c : Going) (own : Data) → is_running_state x.state ≡ true → IsOnly p x c → settle c p own ≡ made_at (Requests Continues own) p c
settle-is p x c own runs only =
    made-all (λ y. if same_path (path_of y) p then unless_terminated (with_data own) y else y) (λ y. if same_path (path_of y) p then with_data own y else y) c
    (All-more (λ y. same_path (path_of y) p ≡ true → y ≡ x) (λ y. (if same_path (path_of y) p then unless_terminated (with_data own) y else y) ≡ (if same_path (path_of y) p then with_data own y else y))
    (λ y is. pick-told (with_data own) y (same_path (path_of y) p) (only-alive p x y runs is)) c.components only)

two-told : (port : List ℕ) (own : Data) (p : Path) (y : Component) (b : Bool) → same_path (path_of y) p ≡ b → (b ≡ true → is_terminated_state y.state ≡ false)
    → (if same_path (path_of (if b then with_data own y else y)) p then unless_terminated (at_queue port without_first) (if b then with_data own y else y) else (if b then with_data own y else y))
    ≡ (if b then made_by (Requests (Removes port) own) y else y)
two-told port own p y true at is =
    ap (λ b. if b then unless_terminated (at_queue port without_first) (with_data own y) else with_data own y) at ∙ ap (λ t. if t then with_data own y else at_queue port without_first (with_data own y)) (is refl)
two-told port own p y false at is = ap (λ b. if b then unless_terminated (at_queue port without_first) y else y) at

remove-is : (p : Path) (x : Component) (c : Going) (port : List ℕ) (own : Data) → is_running_state x.state ≡ true → IsOnly p x c
    → touch (settle c p own) p (at_queue port without_first) ≡ made_at (Requests (Removes port) own) p c
remove-is p x c port own runs only =
    ap (λ d. touch d p (at_queue port without_first)) (settle-is p x c own runs only)
    ∙ ap (with_components c)
    (map-map (λ y. if same_path (path_of y) p then unless_terminated (at_queue port without_first) y else y) (λ y. if same_path (path_of y) p then with_data own y else y) c.components)
    ∙ made-all (λ y. if same_path (path_of (if same_path (path_of y) p then with_data own y else y)) p then unless_terminated (at_queue port without_first) (if same_path (path_of y) p then with_data own y else y) else (if same_path (path_of y) p then with_data own y else y))
    (λ y. if same_path (path_of y) p then made_by (Requests (Removes port) own) y else y) c
    (All-more (λ y. same_path (path_of y) p ≡ true → y ≡ x)
    (λ y. (if same_path (path_of (if same_path (path_of y) p then with_data own y else y)) p then unless_terminated (at_queue port without_first) (if same_path (path_of y) p then with_data own y else y) else (if same_path (path_of y) p then with_data own y else y))
    ≡ (if same_path (path_of y) p then made_by (Requests (Removes port) own) y else y))
    (λ y is. two-told port own p y (same_path (path_of y) p) refl (only-alive p x y runs is)) c.components only)

-- the outcome of what is asked for at an `alt`
abbrev pub OutcomeIs : Test → Going → Component → Act → Type 0
OutcomeIs test c x (Requests Continues own) = apply test c x.itself (Requests Continues own) ≡ Some (Yields (Goes (made_at (Requests Continues own) (path_of x) c)))
OutcomeIs test c x (Requests (Removes port) own) = apply test c x.itself (Requests (Removes port) own) ≡ Some (Yields (Goes (made_at (Requests (Removes port) own) (path_of x) c)))
OutcomeIs test c x other = Unit {0}

pub outcome-is : (test : Test) (c : Going) (x : Component) (a : Act) → is_running_state x.state ≡ true → IsOnly (path_of x) x c → OutcomeIs test c x a
outcome-is test c x Waits runs only = tt
outcome-is test c x (Errs why) runs only = tt
outcome-is test c x (Requests Continues own) runs only = ap (λ d. Some (Yields (Goes d))) (settle-is (path_of x) x c own runs only)
outcome-is test c x (Requests (Worsens v) own) runs only = tt
outcome-is test c x (Requests (Removes port) own) runs only = ap (λ d. Some (Yields (Goes d))) (remove-is (path_of x) x c port own runs only)
outcome-is test c x (Requests (Sends port to v) own) runs only = tt
outcome-is test c x (Requests (Creates new) own) runs only = tt
outcome-is test c x (Requests (Starts path frame) own) runs only = tt
outcome-is test c x (Requests (Stops path) own) runs only = tt
outcome-is test c x (Requests (Connects d e) own) runs only = tt
outcome-is test c x (Requests (Maps d system_port) own) runs only = tt
outcome-is test c x (Requests (Unmaps d system_port) own) runs only = tt

-- ---- choosing early, and when it is time

-- one more component has to choose
abbrev pub IsMore : Path → Snapshot → Pending → Pending → Type 0
IsMore p snapshot pending others = (others p ≡ Some snapshot) × (pending p ≡ None) × ((q : Path) → same_path q p ≡ false → others q ≡ pending q)

pub made-path : (a : Act) (x : Component) → path_of (made_by a x) ≡ path_of x
made-path Waits x = refl
made-path (Errs why) x = refl
made-path (Requests Continues own) x = refl
made-path (Requests (Worsens v) own) x = refl
made-path (Requests (Removes port) own) x = refl
made-path (Requests (Sends port to v) own) x = refl
made-path (Requests (Creates new) own) x = refl
made-path (Requests (Starts path frame) own) x = refl
made-path (Requests (Stops path) own) x = refl
made-path (Requests (Connects d e) own) x = refl
made-path (Requests (Maps d system_port) own) x = refl
made-path (Requests (Unmaps d system_port) own) x = refl

-- a component that hasn't to choose is as it is
pub free : (test : Test) (pending : Pending) (p : Path) (y : Component) → path_of y ≡ p → pending p ≡ None → hastened test pending y ≡ y
free test pending p y at none = ap (λ o. made_if test o y) (ap pending at ∙ none)

-- one that has to has done what it asks for
bound : (test : Test) (pending : Pending) (snapshot : Snapshot) (p : Path) (y : Component) → path_of y ≡ p → pending p ≡ Some snapshot → hastened test pending y ≡ made test snapshot y
bound test pending snapshot p y at some = ap (λ o. made_if test o y) (ap pending at ∙ some)

chosen-told : (test : Test) (pending others : Pending) (snapshot : Snapshot) (x y : Component) (b : Bool) → IsMore (path_of x) snapshot pending others → same_path (path_of y) (path_of x) ≡ b → (b ≡ true → y ≡ x)
    → hastened test pending (if b then made_by (act test snapshot x.own) y else y) ≡ hastened test others y
chosen-told test pending others snapshot x y true is at only =
    free test pending (path_of x) (made_by (act test snapshot x.own) y) (made-path (act test snapshot x.own) y ∙ path-is (path_of y) (path_of x) at) is.1
    ∙ ap (λ (z : Component). made_by (act test snapshot z.own) y) (sym (only refl))
    ∙ sym (bound test others snapshot (path_of x) y (path-is (path_of y) (path_of x) at) is.0)
chosen-told test pending others snapshot x y false is at only = ap (λ o. made_if test o y) (sym (is.2 (path_of y) at))

-- where a component has chosen when it was time, nothing is left to choose for it
pub chosen-early : (test : Test) (pending others : Pending) (snapshot : Snapshot) (c : Going) (x : Component) → IsMore (path_of x) snapshot pending others → IsOnly (path_of x) x c
    → early test pending (made_at (act test snapshot x.own) (path_of x) c) ≡ early test others c
chosen-early test pending others snapshot c x is only =
    ap (with_components c)
    (map-map (hastened test pending) (λ y. if same_path (path_of y) (path_of x) then made_by (act test snapshot x.own) y else y) c.components
    ∙ map-all (λ y. hastened test pending (if same_path (path_of y) (path_of x) then made_by (act test snapshot x.own) y else y)) (hastened test others) c.components
    (All-more (λ y. same_path (path_of y) (path_of x) ≡ true → y ≡ x) (λ y. hastened test pending (if same_path (path_of y) (path_of x) then made_by (act test snapshot x.own) y else y) ≡ hastened test others y)
    (λ y only-y. chosen-told test pending others snapshot x y (same_path (path_of y) (path_of x)) is refl only-y) c.components only))

first-told : (test : Test) (pending others : Pending) (snapshot : Snapshot) (x y : Component) (b : Bool) → IsMore (path_of x) snapshot pending others → same_path (path_of y) (path_of x) ≡ b → (b ≡ true → y ≡ x)
    → (if same_path (path_of (hastened test pending y)) (path_of x) then made_by (act test snapshot x.own) (hastened test pending y) else hastened test pending y) ≡ hastened test others y
first-told test pending others snapshot x y true is at only =
    ap (λ b. if b then made_by (act test snapshot x.own) (hastened test pending y) else hastened test pending y) (ap (λ q. same_path q (path_of x)) (hastened-path test pending y) ∙ at)
    ∙ ap (made_by (act test snapshot x.own)) (free test pending (path_of x) y (path-is (path_of y) (path_of x) at) is.1)
    ∙ ap (λ (z : Component). made_by (act test snapshot z.own) y) (sym (only refl))
    ∙ sym (bound test others snapshot (path_of x) y (path-is (path_of y) (path_of x) at) is.0)
first-told test pending others snapshot x y false is at only =
    ap (λ b. if b then made_by (act test snapshot x.own) (hastened test pending y) else hastened test pending y) (ap (λ q. same_path q (path_of x)) (hastened-path test pending y) ∙ at)
    ∙ ap (λ o. made_if test o y) (sym (is.2 (path_of y) at))

-- where a component chooses at once, it has chosen early
pub first-early : (test : Test) (pending others : Pending) (snapshot : Snapshot) (c : Going) (x : Component) → IsMore (path_of x) snapshot pending others → IsOnly (path_of x) x c
    → made_at (act test snapshot x.own) (path_of x) (early test pending c) ≡ early test others c
first-early test pending others snapshot c x is only =
    ap (with_components c)
    (map-map (λ y. if same_path (path_of y) (path_of x) then made_by (act test snapshot x.own) y else y) (hastened test pending) c.components
    ∙ map-all (λ y. if same_path (path_of (hastened test pending y)) (path_of x) then made_by (act test snapshot x.own) (hastened test pending y) else hastened test pending y) (hastened test others) c.components
    (All-more (λ y. same_path (path_of y) (path_of x) ≡ true → y ≡ x)
    (λ y. (if same_path (path_of (hastened test pending y)) (path_of x) then made_by (act test snapshot x.own) (hastened test pending y) else hastened test pending y) ≡ hastened test others y)
    (λ y only-y. first-told test pending others snapshot x y (same_path (path_of y) (path_of x)) is refl only-y) c.components only))

-- the only one stays the only one
pub only-early : (test : Test) (pending : Pending) (c : Going) (x : Component) → pending (path_of x) ≡ None → IsOnly (path_of x) x c → IsOnly (path_of x) x (early test pending c)
only-early test pending c x none only = told c.components only
  where
    first : (y : Component) → (same_path (path_of y) (path_of x) ≡ true → y ≡ x) → same_path (path_of (hastened test pending y)) (path_of x) ≡ true → hastened test pending y ≡ x
    first y is at =
        let here : same_path (path_of y) (path_of x) ≡ true = ap (λ q. same_path q (path_of x)) (sym (hastened-path test pending y)) ∙ at in
        free test pending (path_of x) y (path-is (path_of y) (path_of x) here) none ∙ is here

    told : (xs : List Component) → All (λ y. same_path (path_of y) (path_of x) ≡ true → y ≡ x) xs → All (λ y. same_path (path_of y) (path_of x) ≡ true → y ≡ x) (map (hastened test pending) xs)
    told [] all = All-nil (λ y. same_path (path_of y) (path_of x) ≡ true → y ≡ x)
    told (y ∷ ys) all =
        All-cons (λ z. same_path (path_of z) (path_of x) ≡ true → z ≡ x) (hastened test pending y) (map (hastened test pending) ys)
        (first y (All-head (λ z. same_path (path_of z) (path_of x) ≡ true → z ≡ x) y ys all)) (told ys (All-tail (λ z. same_path (path_of z) (path_of x) ≡ true → z ≡ x) y ys all))

-- ---- expiries

abbrev with_own : Component → Data → Component
with_own x own = record { itself = x.itself; own = own; state = x.state; verdict = x.verdict; queues = x.queues }

-- an expiry behind an early choice is the early choice behind the expiry
pub made-lapses : (n : ℕ) (name : List ℕ) (a : Act) (x : Component) → IsOfAlt a → exchanged (lapsed n name (made_by a x).own) (made_by a x) ≡ made_by (asked (lapsed n name) a) (exchanged (lapsed n name x.own) x)
made-lapses n name Waits x is = refl
made-lapses n name (Errs why) x is = refl
made-lapses n name (Requests Continues own) x is = ap (with_own x) (sym (uncovered-lapses n name own))
made-lapses n name (Requests (Worsens v) own) x is = absurd is
made-lapses n name (Requests (Removes port) own) x is =
    ap (with_own (at_queue port without_first x)) (sym (uncovered-lapses n name own))
made-lapses n name (Requests (Sends port to v) own) x is = absurd is
made-lapses n name (Requests (Creates new) own) x is = absurd is
made-lapses n name (Requests (Starts path frame) own) x is = absurd is
made-lapses n name (Requests (Stops path) own) x is = absurd is
made-lapses n name (Requests (Connects d e) own) x is = absurd is
made-lapses n name (Requests (Maps d system_port) own) x is = absurd is
made-lapses n name (Requests (Unmaps d system_port) own) x is = absurd is

made-timer : (n : ℕ) (name : List ℕ) (a : Act) (x : Component) → IsOfAlt a → IfData a (λ d. timer_in n name d ≡ timer_in n name x.own) → timer_in n name (made_by a x).own ≡ timer_in n name x.own
made-timer n name Waits x is same = refl
made-timer n name (Errs why) x is same = refl
made-timer n name (Requests Continues own) x is same = uncovered-timer n name own ∙ same
made-timer n name (Requests (Worsens v) own) x is same = absurd is
made-timer n name (Requests (Removes port) own) x is same = uncovered-timer n name own ∙ same
made-timer n name (Requests (Sends port to v) own) x is same = absurd is
made-timer n name (Requests (Creates new) own) x is same = absurd is
made-timer n name (Requests (Starts path frame) own) x is same = absurd is
made-timer n name (Requests (Stops path) own) x is same = absurd is
made-timer n name (Requests (Connects d e) own) x is same = absurd is
made-timer n name (Requests (Maps d system_port) own) x is same = absurd is
made-timer n name (Requests (Unmaps d system_port) own) x is same = absurd is

-- a component that has to choose stands at an `alt`, and its choice is safe
abbrev pub IsBound : Test → Option Snapshot → Component → Type 0
IsBound test None x = Unit {0}
IsBound test (Some snapshot) x = (is_at_alt test x.own.calls ≡ true) × IsSafeIn test snapshot x.own x.own.calls

if-timer : (test : Test) (o : Option Snapshot) (n : ℕ) (name : List ℕ) (x : Component) → IsBound test o x → timer_in n name x.own ≡ Some timer.Running → timer_in n name (made_if test o x).own ≡ Some timer.Running
if-timer test None n name x is runs = runs
if-timer test (Some snapshot) n name x is runs =
    made-timer n name (act test snapshot x.own) x (act-of-alt test snapshot x.own is.0) (act-timer n name test snapshot x.own is.0 runs is.1) ∙ runs

if-lapses : (test : Test) (o : Option Snapshot) (n : ℕ) (name : List ℕ) (x : Component) → IsBound test o x → timer_in n name x.own ≡ Some timer.Running
    → exchanged (lapsed n name (made_if test o x).own) (made_if test o x) ≡ made_if test o (exchanged (lapsed n name x.own) x)
if-lapses test None n name x is runs = refl
if-lapses test (Some snapshot) n name x is runs =
    made-lapses n name (act test snapshot x.own) x (act-of-alt test snapshot x.own is.0)
    ∙ ap (λ a. made_by a (exchanged (lapsed n name x.own) x)) (sym (act-lapses n name test snapshot x.own is.0 runs is.1))

-- the configuration behind an expiry
abbrev pub behind_expiry : ℕ → List ℕ → Component → Going → Going
behind_expiry n name x c = touch c (path_of x) (exchanged (lapsed n name x.own))

expiry-touched : (test : Test) (pending : Pending) (n : ℕ) (name : List ℕ) (c : Going) (x : Component) → IsOnly (path_of x) x c → IsBound test (pending (path_of x)) x → timer_in n name x.own ≡ Some timer.Running
    → touch (early test pending c) (path_of (hastened test pending x)) (exchanged (lapsed n name (hastened test pending x).own)) ≡ early test pending (behind_expiry n name x c)
expiry-touched test pending n name c x only is runs =
    ap (λ q. touch (early test pending c) q (exchanged (lapsed n name (hastened test pending x).own))) (hastened-path test pending x)
    ∙ touch-early test pending c (path_of x) (exchanged (lapsed n name x.own)) (exchanged (lapsed n name (hastened test pending x).own))
    (All-more (λ y. same_path (path_of y) (path_of x) ≡ true → y ≡ x)
    (λ y. same_path (path_of y) (path_of x) ≡ true → is_terminated_state y.state ≡ false → exchanged (lapsed n name (hastened test pending x).own) (hastened test pending y) ≡ hastened test pending (exchanged (lapsed n name x.own) y))
    (λ y only-y at alive. subst (λ (z : Component). exchanged (lapsed n name (hastened test pending x).own) (hastened test pending z) ≡ hastened test pending (exchanged (lapsed n name x.own) z)) (sym (only-y at))
    (if-lapses test (pending (path_of x)) n name x is runs)) c.components only)

pub expires-to : (n : ℕ) (name : List ℕ) (own : Data) → timer_in n name own ≡ Some timer.Running → expired n name own ≡ Some (lapsed n name own)
expires-to n name own runs = expired-is n name own ∙ ap (λ o. expiring o (lapsed n name own)) runs

step-some : (c : Going) (n : ℕ) (name : List ℕ) (x : Component) → is_running_state x.state ≡ true → timer_in n name x.own ≡ Some timer.Running
    → expiry_step c n name x ≡ Some (Yields (Goes (behind_expiry n name x c)))
step-some c n name x runs timer =
    ap (λ b. if b then option_map (λ own. Yields (Goes (touch c (path_of x) (exchanged own)))) (expired n name x.own) else None) runs
    ∙ ap (option_map (λ own. Yields (Goes (touch c (path_of x) (exchanged own))))) (expires-to n name x.own timer)

-- the expiry of a timer
pub expiry-is : (test : Test) (c : Going) (p : Path) (n : ℕ) (name : List ℕ) (x : Component) → component_at c p ≡ Some x → is_running_state x.state ≡ true → timer_in n name x.own ≡ Some timer.Running
    → next test (Goes c) (Expiry p n name) ≡ Some (Goes (behind_expiry n name x c))
expiry-is test c p n name x found runs timer =
    ap (λ o. option_map settled (option_and_then (expiry_step c n name) o)) found ∙ ap (option_map settled) (step-some c n name x runs timer)

-- the expiry of a timer of any component, behind what is done early
pub expiry-early : (test : Test) (pending : Pending) (c : Going) (p : Path) (n : ℕ) (name : List ℕ) (x : Component) → component_at c p ≡ Some x → is_running_state x.state ≡ true
    → (hastened test pending x).state ≡ x.state → IsOnly (path_of x) x c → IsBound test (pending (path_of x)) x → timer_in n name x.own ≡ Some timer.Running
    → next test (Goes (early test pending c)) (Expiry p n name) ≡ Some (Goes (early test pending (behind_expiry n name x c)))
expiry-early test pending c p n name x found runs state only is timer =
    expiry-is test (early test pending c) p n name (hastened test pending x) (early-at test pending c p ∙ ap (option_map (hastened test pending)) found) (ap is_running_state state ∙ runs)
    (if-timer test (pending (path_of x)) n name x is timer)
    ∙ ap (λ d. Some (Goes d)) (expiry-touched test pending n name c x only is timer)

-- ---- deliveries

-- the delivery at a system port
delivery-is : (test : Test) (c : Going) (system_port : List ℕ) (e : End) (v : Value) → entry c.mappings system_port ≡ Some e → next_message test c system_port ≡ Some v
    → next test (Goes c) (Delivery system_port) ≡ Some (Goes (come_in system_port e v c))
delivery-is test c system_port e v mapped found =
    ap (λ o. option_map settled (option_and_then (λ d. option_map (λ w. Yields (Goes (come_in system_port d w c))) (next_message test c system_port)) o)) mapped
    ∙ ap (λ o. option_map settled (option_map (λ w. Yields (Goes (come_in system_port e w c))) o)) found

-- a delivery behind what is done early
pub delivery-early : (test : Test) (pending : Pending) (c : Going) (system_port : List ℕ) (e : End) (v : Value) → entry c.mappings system_port ≡ Some e → next_message test c system_port ≡ Some v
    → All (IsReady test pending) c.components → next test (Goes (early test pending c)) (Delivery system_port) ≡ Some (Goes (early test pending (come_in system_port e v c)))
delivery-early test pending c system_port e v mapped found ready =
    delivery-is test (early test pending c) system_port e v mapped found
    ∙ ap (λ d. Some (Goes (with_delivery system_port d))) (touch-queue test pending c e.component e.port (record { value = v; sender = None }) ready)
