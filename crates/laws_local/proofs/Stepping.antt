-- Where a step leads that changes one component alone.
use Rattle.std.proofs.Common.{◌≡◌, ℕ, zero, suc, Bool, true, false, List, [], ◌∷◌, Option, Some, None, option_map, refl, sym, ap, subst, ◌∙◌, if◌then◌else◌}
use Rattle.std.specs.List.{find}
use Rattle.std.specs.Option.{option_and_then}
use Rattle.std.specs.Prelude.{slice_get}
use Rattle.semantics.proofs.LiveSteps.{is_over}
use Rattle.semantics.specs.Configurations.{Component, Configuration, Data, Goes, Going, Running, State, component_at, is_running_state, is_terminated_state, path_cmp, path_of, same_path}
use Rattle.semantics.specs.LiveParts.{live_part}
use Rattle.semantics.specs.Order.{Ascends}
use Rattle.semantics.specs.Snapshots.{Test, snapshot_of}
use Rattle.semantics.specs.Statements.{Act, Connects, Continues, Creates, Errs, Maps, Removes, Request, Requests, Sends, Starts, Stops, Unmaps, Waits, Worsens, act}
use Rattle.semantics.specs.Steps.{Delivery, Expiry, Label, Statement, apply, at_queue, exchanged, expired, expiry_step, next, settled, statement_step, touch, with_data, with_verdict, without_first}
use Rattle.semantics.specs.Telling.{request_in}
use Rattle.laws_local.proofs.Seeing.{changes_alike}
use Rattle.semantics.proofs.Pairs.{pairs-head, pairs-tail}
use Rattle.semantics.specs.Runs.{option_elim}
use Rattle.laws_local.proofs.Touching.{IsMild, before-apart, before-found, is-before, same-itself, touch-twice, touch_by_place, touch_lives}
use Rattle.laws_local.specs.Alone.{IsLive, IsOf, StepsAlone, exchanged_at, is_own_request, steps_alone, becoming, change_alone, change_by, removed_at, removed_by, with_component_at}
use Rattle.value_types.specs.Outcomes.{Outcome, Yields}
use Rattle.value_types.specs.declared.path.Path.{Path}
use Rattle.value_types.specs.declared.value.ComponentId.{ComponentId}

abbrev Change : Type 0
Change = Component → Component

pub some-is : {A : Type 0} {a b : A} → Some a ≡ Some b → a ≡ b
some-is e = cc

pub none-some : {A : Type 0} {a : A} → None ≡ Some a → ⊥
none-some e = cc

pub data-mild : (own : Data) → IsMild (with_data own)
data-mild own = record { path = λ x. refl; over = λ x. refl }

-- ---- where the step leads

abbrev leads : Test → Going → ComponentId → Act → Option Configuration
leads test c itself a = option_map settled (apply test c itself a)

act-leads : (test : Test) (c : Going) (itself : ComponentId) (a : Act) (f : Change) → change_by a ≡ Some f → leads test c itself a ≡ Some (Goes (touch c itself.path f))
act-leads test c itself Waits f is = absurd (none-some is)
act-leads test c itself (Errs why) f is = absurd (none-some is)
act-leads test c itself (Requests Continues own) f is = ap (λ (g : Change). Some (Goes (touch c itself.path g))) (some-is is)
act-leads test c itself (Requests (Worsens v) own) f is =
    ap (λ (d : Going). Some (Goes d)) (touch-twice itself.path (with_data own) (with_verdict v) (data-mild own) c) ∙ ap (λ (g : Change). Some (Goes (touch c itself.path g))) (some-is is)
act-leads test c itself (Requests (Removes port) own) f is =
    ap (λ (d : Going). Some (Goes d)) (touch-twice itself.path (with_data own) (at_queue port without_first) (data-mild own) c) ∙ ap (λ (g : Change). Some (Goes (touch c itself.path g))) (some-is is)
act-leads test c itself (Requests (Sends port to v) own) f is = absurd (none-some is)
act-leads test c itself (Requests (Creates new) own) f is = absurd (none-some is)
act-leads test c itself (Requests (Starts path frame) own) f is = absurd (none-some is)
act-leads test c itself (Requests (Stops path) own) f is = absurd (none-some is)
act-leads test c itself (Requests (Connects d e) own) f is = absurd (none-some is)
act-leads test c itself (Requests (Maps e q) own) f is = absurd (none-some is)
act-leads test c itself (Requests (Unmaps e q) own) f is = absurd (none-some is)

running-leads : (test : Test) (c : Going) (itself : ComponentId) (runs : Bool) (a : Act) (f : Change) → (if runs then change_by a else None) ≡ Some f
    → option_map settled (if runs then apply test c itself a else None) ≡ Some (Goes (touch c itself.path f))
running-leads test c itself true a f is = act-leads test c itself a f is
running-leads test c itself false a f is = absurd (none-some is)

abbrev expires : Going → Path → Option Data → Option (Outcome Configuration)
expires c path o = option_map (λ own. Yields (Goes (touch c path (exchanged own)))) o

data-leads : (c : Going) (path : Path) (o : Option Data) (f : Change) → option_map exchanged o ≡ Some f → option_map settled (expires c path o) ≡ Some (Goes (touch c path f))
data-leads c path None f is = absurd (none-some is)
data-leads c path (Some own) f is = ap (λ (g : Change). Some (Goes (touch c path g))) (some-is is)

expiry-leads : (c : Going) (path : Path) (runs : Bool) (o : Option Data) (f : Change) → (if runs then option_map exchanged o else None) ≡ Some f
    → option_map settled (if runs then expires c path o else None) ≡ Some (Goes (touch c path f))
expiry-leads c path true o f is = data-leads c path o f is
expiry-leads c path false o f is = absurd (none-some is)

pub leads_alone : (test : Test) (c : Going) (x : Component) (label : Label) (f : Change) → component_at c (path_of x) ≡ Some x → IsOf x label → change_alone test c x label ≡ Some f
    → next test (Goes c) label ≡ Some (Goes (touch c (path_of x) f))
leads_alone test c x (Statement path) f here of is =
    ap (λ p. next test (Goes c) (Statement p)) of
    ∙ ap (λ o. option_map settled (option_and_then (statement_step test c) o)) here
    ∙ running-leads test c x.itself (is_running_state x.state) (act test (snapshot_of c x) x.own) f is
leads_alone test c x (Expiry path number name) f here of is =
    ap (λ p. next test (Goes c) (Expiry p number name)) of
    ∙ ap (λ o. option_map settled (option_and_then (expiry_step c number name) o)) here
    ∙ expiry-leads c (path_of x) (is_running_state x.state) (expired number name x.own) f is
leads_alone test c x (Delivery system_port) f here of is = absurd of

-- ---- what the change is

-- a change of data, maybe of the verdict, and maybe of one queue
record IsOwn (removed : Option (List ℕ)) (f : Change) : Type 0 where
  mild : IsMild f
  becomes : (x y : Component) → x.verdict ≡ y.verdict → f y ≡ becoming (f x).own (f x).verdict removed y

act-own : (a : Act) (f : Change) → change_by a ≡ Some f → IsOwn (removed_by (request_in a)) f
act-own Waits f is = absurd (none-some is)
act-own (Errs why) f is = absurd (none-some is)
act-own (Requests Continues own) f is = subst (IsOwn None) (some-is is) (record { mild = data-mild own; becomes = λ x y same. ap (λ v. record (with_data own y) { verdict = v }) (sym same) })
act-own (Requests (Worsens v) own) f is =
    subst (IsOwn None) (some-is is) (record {
      mild = record { path = λ x. refl; over = λ x. refl };
      becomes = λ x y same. ap (λ w. with_verdict v (with_data own (record y { verdict = w }))) (sym same);
    })
act-own (Requests (Removes port) own) f is =
    subst (IsOwn (Some port)) (some-is is) (record {
      mild = record { path = λ x. refl; over = λ x. refl };
      becomes = λ x y same. ap (λ v. at_queue port without_first (with_data own (record y { verdict = v }))) (sym same);
    })
act-own (Requests (Sends port to v) own) f is = absurd (none-some is)
act-own (Requests (Creates new) own) f is = absurd (none-some is)
act-own (Requests (Starts path frame) own) f is = absurd (none-some is)
act-own (Requests (Stops path) own) f is = absurd (none-some is)
act-own (Requests (Connects d e) own) f is = absurd (none-some is)
act-own (Requests (Maps e q) own) f is = absurd (none-some is)
act-own (Requests (Unmaps e q) own) f is = absurd (none-some is)

statement-own : (runs : Bool) (a : Act) (f : Change) → (if runs then change_by a else None) ≡ Some f → IsOwn (removed_by (if runs then request_in a else None)) f
statement-own true a f is = act-own a f is
statement-own false a f is = absurd (none-some is)

data-own : (o : Option Data) (f : Change) → option_map exchanged o ≡ Some f → IsOwn None f
data-own None f is = absurd (none-some is)
data-own (Some own) f is =
    subst (IsOwn None) (some-is is) (record { mild = record { path = λ x. refl; over = λ x. refl }; becomes = λ x y same. ap (λ v. exchanged own (record y { verdict = v })) (sym same) })

expiry-own : (runs : Bool) (o : Option Data) (f : Change) → (if runs then option_map exchanged o else None) ≡ Some f → IsOwn None f
expiry-own true o f is = data-own o f is
expiry-own false o f is = absurd (none-some is)

change-own : (test : Test) (c : Going) (x : Component) (label : Label) (f : Change) → change_alone test c x label ≡ Some f → IsOwn (removed_at test c x label) f
change-own test c x (Statement path) f is = statement-own (is_running_state x.state) (act test (snapshot_of c x) x.own) f is
change-own test c x (Expiry path number name) f is = expiry-own (is_running_state x.state) (expired number name x.own) f is
change-own test c x (Delivery system_port) f is = absurd (none-some is)

-- only a component that runs steps alone
running-alone : {A : Type 0} (runs : Bool) (o : Option A) (a : A) → (if runs then o else None) ≡ Some a → runs ≡ true
running-alone true o a is = refl
running-alone false o a is = absurd (none-some is)

pub running-lives : (s : State) → is_running_state s ≡ true → is_terminated_state s ≡ false
running-lives Running runs = refl
running-lives s runs = other s runs
  where
    other : (s : State) → is_running_state s ≡ true → is_terminated_state s ≡ false
    other Running runs = refl
    other _ runs = absurd (let no = runs in cc)

alone-lives : (test : Test) (c : Going) (x : Component) (label : Label) (f : Change) → change_alone test c x label ≡ Some f → is_over x ≡ false
alone-lives test c x (Statement path) f is = running-lives x.state (running-alone (is_running_state x.state) (change_by (act test (snapshot_of c x) x.own)) f is)
alone-lives test c x (Expiry path number name) f is = running-lives x.state (running-alone (is_running_state x.state) (option_map exchanged (expired number name x.own)) f is)
alone-lives test c x (Delivery system_port) f is = absurd (none-some is)

-- ---- where a component is found

pub found-list : (y : Component) (at : ℕ) (xs : List Component) → Ascends (λ one other. path_cmp (path_of one) (path_of other)) xs → slice_get xs at ≡ Some y
    → find (λ x. same_path (path_of x) (path_of y)) xs ≡ Some y
found-list y at [] ascend found = absurd (none-some found)
found-list y zero (x ∷ xs) ascend found =
    subst (λ (z : Component). find (λ x. same_path (path_of x) (path_of y)) (z ∷ xs) ≡ Some y) (sym (some-is found))
    (ap (λ b. if b then Some y else find (λ x. same_path (path_of x) (path_of y)) xs) (same-itself (path_of y)))
found-list y (suc at) (x ∷ xs) ascend found =
    ap (λ b. if b then Some x else find (λ z. same_path (path_of z) (path_of y)) xs)
    (before-apart (path_of x) (path_of y) (same_path (path_of x) (path_of y)) (before-found x xs at y (pairs-head is-before x xs ascend) found) refl)
    ∙ found-list y at xs (pairs-tail is-before x xs ascend) found

-- ---- wherever it sees the same

pub step_alone_by : (test : Test) (c : Going) (x : Component) (label : Label) (f : Change) → IsOf x label → change_alone test c x label ≡ Some f
    → StepsAlone test c x label (f x).own (f x).verdict (removed_at test c x label)
step_alone_by test c x label f of is d y at look see live here =
    ap (option_map live_part) (leads_alone test d y label f (found-list y at d.components live.ordered here) (of-alike label of) (sym (changes_alike test c d x y label look see) ∙ is))
    ∙ ap (λ (e : Going). Some (Goes e))
    (touch_lives (path_of y) f own.mild d live.live
    ∙ touch_by_place f y at d live.ordered here (alone-lives test d y label f (sym (changes_alike test c d x y label look see) ∙ is))
    ∙ ap (λ (z : Component). with_component_at at z d) (own.becomes x y see.verdict))
  where
    own : IsOwn (removed_at test c x label) f
    own = change-own test c x label f is

    of-alike : (label : Label) → IsOf x label → IsOf y label
    of-alike (Statement path) e = e ∙ ap (λ (i : ComponentId). i.path) see.itself
    of-alike (Expiry path number name) e = e ∙ ap (λ (i : ComponentId). i.path) see.itself
    of-alike (Delivery system_port) e = e

-- ---- where there is such a step

own-asked : (own : Data) (request : Request) → is_own_request request ≡ true → (f : Change) × (change_by (Requests request own) ≡ Some f)
own-asked own Continues is = (with_data own, refl)
own-asked own (Worsens v) is = ((λ x. with_verdict v (with_data own x)), refl)
own-asked own (Removes port) is = ((λ x. at_queue port without_first (with_data own x)), refl)
own-asked own (Sends port to v) is = absurd (let no = is in cc)
own-asked own (Creates new) is = absurd (let no = is in cc)
own-asked own (Starts path frame) is = absurd (let no = is in cc)
own-asked own (Stops path) is = absurd (let no = is in cc)
own-asked own (Connects d e) is = absurd (let no = is in cc)
own-asked own (Maps e q) is = absurd (let no = is in cc)
own-asked own (Unmaps e q) is = absurd (let no = is in cc)

act-asked : (a : Act) → option_elim false is_own_request (request_in a) ≡ true → (f : Change) × (change_by a ≡ Some f)
act-asked Waits is = absurd (let no = is in cc)
act-asked (Errs why) is = absurd (let no = is in cc)
act-asked (Requests request own) is = own-asked own request is

statement-asked : (runs : Bool) (a : Act) → option_elim false is_own_request (if runs then request_in a else None) ≡ true → (f : Change) × ((if runs then change_by a else None) ≡ Some f)
statement-asked true a own = act-asked a own
statement-asked false a own = absurd (let no = own in cc)

expiry-asked : (c : Going) (path : Path) (runs : Bool) (o : Option Data) (e : Configuration) → option_map live_part (option_map settled (if runs then expires c path o else None)) ≡ Some e
    → (f : Change) × ((if runs then option_map exchanged o else None) ≡ Some f)
expiry-asked c path true (Some own) e is = (exchanged own, refl)
expiry-asked c path true None e is = absurd (none-some is)
expiry-asked c path false o e is = absurd (none-some is)

change-asked : (test : Test) (c : Going) (x : Component) (label : Label) (e : Configuration) → component_at c (path_of x) ≡ Some x → IsOf x label → steps_alone test c x label ≡ true
    → option_map live_part (next test (Goes c) label) ≡ Some e → (f : Change) × (change_alone test c x label ≡ Some f)
change-asked test c x (Statement path) e here of own is = statement-asked (is_running_state x.state) (act test (snapshot_of c x) x.own) own
change-asked test c x (Expiry path number name) e here of own is =
    expiry-asked c (path_of x) (is_running_state x.state) (expired number name x.own) e
    (sym (ap (λ p. option_map live_part (next test (Goes c) (Expiry p number name))) of
    ∙ ap (λ o. option_map live_part (option_map settled (option_and_then (expiry_step c number name) o))) here) ∙ is)
change-asked test c x (Delivery system_port) e here of own is = absurd of

pub there-now : (at : ℕ) (z : Component) (xs : List Component) (x : Component) → slice_get xs at ≡ Some x → slice_get (exchanged_at at z xs) at ≡ Some z
there-now at z [] x found = absurd (none-some found)
there-now zero z (y ∷ ys) x found = refl
there-now (suc at) z (y ∷ ys) x found = there-now at z ys x found

pub goes-is : {c d : Going} → Goes c ≡ Goes d → c ≡ d
goes-is e = cc

-- what a step makes of a component it makes wherever the component sees the same
pub step_alone : (test : Test) (c : Going) (x : Component) (at : ℕ) (label : Label) (e : Going) (z : Component) → IsLive c → slice_get c.components at ≡ Some x → IsOf x label → steps_alone test c x label ≡ true
    → option_map live_part (next test (Goes c) label) ≡ Some (Goes e) → slice_get e.components at ≡ Some z → StepsAlone test c x label z.own z.verdict (removed_at test c x label)
step_alone test c x at label e z live here of own is there =
    let asked = change-asked test c x label (Goes e) (found-list x at c.components live.ordered here) of own is in
    let f : Change = asked.0 in
    let steps : StepsAlone test c x label (f x).own (f x).verdict (removed_at test c x label) = step_alone_by test c x label f of asked.1 in
    let behind : Component = becoming (f x).own (f x).verdict (removed_at test c x label) x in
    let same : e ≡ with_component_at at behind c = goes-is (some-is (sym is ∙ steps c x at refl (record { itself = refl; own = refl; state = refl; verdict = refl; fronts = refl }) live here)) in
    let found : z ≡ behind = some-is (sym there ∙ ap (λ (d : Going). slice_get d.components at) same ∙ there-now at behind c.components x here) in
    subst (λ (y : Component). StepsAlone test c x label y.own y.verdict (removed_at test c x label)) (sym found) steps
