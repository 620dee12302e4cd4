-- The bytes of components, in parts of a configuration's bytes, and configurations in which a component changed.
use Rattle.std.proofs.Common.{◌≡◌, ℕ, zero, suc, ◌<◌, ◌≤◌, arith, Bool, true, false, true≢false, List, [], ◌∷◌, map, length, get_or, Option, Some, None, option_map, refl, sym, ap, subst, ◌∙◌}
use Rattle.std.specs.List.{All}
use Rattle.std.specs.Prelude.{slice_get}
use Rattle.std.proofs.lemmas.List.Elements.{All-cons, All-head, All-tail}
use Rattle.ttcn_syntax.specs.declared.tree.statement.Verdict.{Verdict}
use Rattle.config_packed.proofs.Cutting.{cut-at}
use Rattle.config_packed.specs.Pieces.{AreJoined, AreParts, IsCut, bytes_of, changed_going, joined_going, spelled_parts, with_verdict_and_own}
use Rattle.config_packed.specs.declared.pieces.ComponentBytes.{ComponentBytes}
use Rattle.config_packed.specs.declared.pieces.ConfigBytes.{ConfigBytes}
use Rattle.config_parts.specs.Legend.{IsLegend, Legend, component_by, data_by, going_by, message_by}
use Rattle.config_parts.specs.Views.{Extent, IsGoingWithin, IsWithin}
use Rattle.config_parts.specs.internal.Changes.{changed_at, with_message, with_queues}
use Rattle.config_parts.specs.declared.component.Component.{Component}
use Rattle.config_parts.specs.declared.component.Queue.{Queue}
use Rattle.config_parts.specs.declared.config.Config.{Config}
use Rattle.config_parts.specs.declared.config.Config.TheVariants as config
use Rattle.config_parts.specs.declared.config.Going.{Going}
use Rattle.config_parts.specs.declared.frame.Data.{Data}
use Rattle.laws_local.proofs.Grouping.{labels_left, labels_left_by_two}
use Rattle.laws_local.specs.Alone.{becoming, receiving}
use Rattle.semantics.specs.Configurations as rules
use Rattle.semantics.specs.Labels.{labels}
use Rattle.semantics.specs.Snapshots.{Test}
use Rattle.ttcn_step.specs.Machines.{Machine, extent, legend, said}
use Rattle.ttcnx_runs.proofs.Making.{get-map}
use Rattle.ttcnx_runs.proofs.SeenAlike.{changed-none, changed-said, sender-said, sender_changed, sent-said, unsent-said}
use Rattle.ttcnx_runs.specs.Going.{GoesOn}
use Rattle.ttcnx_runs.specs.internal.Recalls.{active_in}
use Rattle.ttcnx_runs.specs.Remembered.{CanJoin, sent_going, without_front}
use Rattle.ttcnx_runs.specs.declared.outcome.Sending.{Sending}

some-same : {A : Type 0} {a b : A} → Some a ≡ Some b → a ≡ b
some-same e = cc

-- ---- places

pub get-below : {A : Type 0} (xs : List A) (at : ℕ) (x : A) → slice_get xs at ≡ Some x → at < length xs
get-below [] at x found = absurd (let no = found in cc)
get-below (y ∷ ys) zero x found = omega arith
get-below (y ∷ ys) (suc at) x found = let below = get-below ys at x found in omega (arith, below)

pub as-long : (items : List ComponentBytes) (components : List Component) → map bytes_of items ≡ map spelled_parts components → length items ≡ length components
as-long [] [] same = refl
as-long [] (c ∷ cs) same = absurd (let no = same in cc)
as-long (x ∷ xs) [] same = absurd (let no = same in cc)
as-long (x ∷ xs) (c ∷ cs) same = ap suc (as-long xs cs (let both = same in let tail : map bytes_of xs ≡ map spelled_parts cs = cc in tail))

pub some-at : {A : Type 0} (xs : List A) (at : ℕ) → at < length xs → (x : A) × (slice_get xs at ≡ Some x)
some-at [] at below = absurd (omega (arith, below))
some-at (x ∷ xs) zero below = (x, refl)
some-at (x ∷ xs) (suc at) below = some-at xs at (omega (arith, below))

pub get-found : {A : Type 0} (xs : List A) (at : ℕ) (x : A) → at < length xs → x ≡ get_or xs at x → slice_get xs at ≡ Some x
get-found [] at x below is = absurd (omega (arith, below))
get-found (y ∷ ys) zero x below is = ap (λ z. Some z) (sym is)
get-found (y ∷ ys) (suc at) x below is = get-found ys at x (omega (arith, below)) is

-- the bytes of the component at a place
pub part-at : (going : Going) (parts : ConfigBytes) (at : ℕ) (item : ComponentBytes) (component : Component) → IsCut going parts → item ≡ get_or parts.components.items at item
    → slice_get going.components at ≡ Some component → bytes_of item ≡ spelled_parts component
part-at going parts at item component cut is found =
    cut-at parts.components.items going.components at item component cut.components is
    (let below = get-below going.components at component found in let long = as-long parts.components.items going.components cut.components in omega (arith, below, long)) found

-- a configuration that has parts goes on
pub parts-going : (whole : Config) (o : Option ConfigBytes) (parts : ConfigBytes) → AreParts whole o → o ≡ Some parts → (going : Going) × (whole ≡ config.Going going) × IsCut going parts
parts-going (config.Ended v) o parts are is = absurd (subst (AreParts (config.Ended v)) is are)
parts-going (config.Going going) o parts are is = (going, refl, subst (AreParts (config.Going going)) is are)

-- ---- a component that changed

All-changed : {A : Type 0} (P : A → Type 0) (f : A → A) → ((a : A) → P a → P (f a)) → (at : ℕ) (xs : List A) → All P xs → All P (changed_at xs at f)
All-changed P f keeps at [] all = all
All-changed P f keeps zero (x ∷ xs) all = All-cons P (f x) xs (keeps x (All-head P x xs all)) (All-tail P x xs all)
All-changed P f keeps (suc at) (x ∷ xs) all = All-cons P x (changed_at xs at f) (All-head P x xs all) (All-changed P f keeps at xs (All-tail P x xs all))

pub within-changed : (size : Extent) (going : Going) (at : ℕ) (v : Verdict) (own : Data) (behind : ℕ) (queues : List Queue) → IsGoingWithin size going → IsWithin size own → IsGoingWithin size (changed_going going at v own behind queues)
within-changed size going at v own behind queues within new = record {
  components =
      All-changed (λ (c : Component). IsWithin size c.own) (with_queues (λ old. queues)) (λ c is. is) behind (changed_at going.components at (with_verdict_and_own v own))
      (All-changed (λ (c : Component). IsWithin size c.own) (with_verdict_and_own v own) (λ c is. new) at going.components within.components);
  mappings = within.mappings;
}

-- a component that sends a message has positions and names still, and so has the one that gets it
pub within-sent : (size : Extent) (going : Going) (at : ℕ) (own : Verdict × Data) (sending : Sending) → IsGoingWithin size going → IsWithin size own.1 → IsGoingWithin size (sent_going going at own sending)
within-sent size going at own sending within new = record {
  components =
      All-changed (λ (c : Component). IsWithin size c.own) (with_queues (with_message sending.port sending.message)) (λ c is. is) sending.to (changed_at going.components at (with_verdict_and_own own.0 own.1))
      (All-changed (λ (c : Component). IsWithin size c.own) (with_verdict_and_own own.0 own.1) (λ c is. new) at going.components within.components);
  mappings = within.mappings;
}

all-or : {A : Type 0} (P : A → Type 0) (xs : List A) (at : ℕ) (d : A) → All P xs → P d → P (get_or xs at d)
all-or P [] at d all is = is
all-or P (x ∷ xs) zero d all is = All-head P x xs all
all-or P (x ∷ xs) (suc at) d all is = all-or P xs at d (All-tail P x xs all) is

-- where two configurations have positions and names, what is made of them together has
pub within-joined : (size : Extent) (going : Going) (at : ℕ) (other : Going) → IsGoingWithin size going → IsGoingWithin size other → IsGoingWithin size (joined_going going at other)
within-joined size going at other here there = record {
  components =
      All-changed (λ (c : Component). IsWithin size c.own) (λ old. get_or other.components at old) (λ old is. all-or (λ (c : Component). IsWithin size c.own) other.components at old there.components is)
      at going.components here.components;
  mappings = there.mappings;
}

-- what can be joined goes on
pub can-join : (machine : Machine) (going : Going) (at : ℕ) (behind : Config) → CanJoin machine going at behind → (other : Going) × (behind ≡ config.Going other) × AreJoined going at other × IsGoingWithin (extent machine) other
can-join machine going at (config.Ended v) can = absurd can
can-join machine going at (config.Going other) can = (other, refl, can.0, can.1)

-- nothing is known of labels where a component ended
pub not-known : (test : Test) (c : rules.Configuration) → GoesOn test c false
not-known test c = record { some = λ yes. absurd (true≢false (sym yes)) }

-- bytes of queues that are put in place of those of the receiver are those of a message that is sent
one-queued : (xs : List Component) (to : ℕ) (f : List Queue → List Queue) (w : Component) → slice_get xs to ≡ Some w
    → changed_at xs to (with_queues (λ old. f w.queues)) ≡ changed_at xs to (with_queues f)
one-queued [] to f w found = refl
one-queued (x ∷ xs) zero f w found = ap (λ (y : Component). with_queues (λ old. f y.queues) x ∷ xs) (sym (some-same found))
one-queued (x ∷ xs) (suc to) f w found = ap (λ ys. x ∷ ys) (one-queued xs to f w found)

queued-there : (xs : List Component) (at to : ℕ) (v : Verdict) (own : Data) (f : List Queue → List Queue) (w : Component) → slice_get xs to ≡ Some w
    → changed_at (changed_at xs at (with_verdict_and_own v own)) to (with_queues (λ old. f w.queues)) ≡ changed_at (changed_at xs at (with_verdict_and_own v own)) to (with_queues f)
queued-there [] at to v own f w found = refl
queued-there (x ∷ xs) zero zero v own f w found = ap (λ (y : Component). with_queues (λ old. f y.queues) (with_verdict_and_own v own x) ∷ xs) (sym (some-same found))
queued-there (x ∷ xs) zero (suc to) v own f w found = ap (λ ys. with_verdict_and_own v own x ∷ ys) (one-queued xs to f w found)
queued-there (x ∷ xs) (suc at) zero v own f w found = ap (λ (y : Component). with_queues (λ old. f y.queues) x ∷ changed_at xs at (with_verdict_and_own v own)) (sym (some-same found))
queued-there (x ∷ xs) (suc at) (suc to) v own f w found = ap (λ ys. x ∷ ys) (queued-there xs at to v own f w found)

pub changed-sent : (going : Going) (at : ℕ) (own : Verdict × Data) (sending : Sending) (w : Component) → slice_get going.components sending.to ≡ Some w
    → changed_going going at own.0 own.1 sending.to (with_message sending.port sending.message w.queues) ≡ sent_going going at own sending
changed-sent going at own sending w there =
    ap (λ xs. record { components = xs; links = going.links; forgotten = going.forgotten }) (queued-there going.components at sending.to own.0 own.1 (with_message sending.port sending.message) w there)

past-none : {A : Type 0} (xs : List A) (to : ℕ) → length xs ≤ to → slice_get xs to ≡ None
past-none [] to past = refl
past-none (x ∷ xs) zero past = absurd (omega (arith, past))
past-none (x ∷ xs) (suc to) past = past-none xs to (omega (arith, past))

own-queued : (xs : List Component) (at to : ℕ) (v : Verdict) (own : Data) (f : List Queue → List Queue) (c : Component) → slice_get xs at ≡ Some c → slice_get xs to ≡ None
    → changed_at (changed_at xs at (with_verdict_and_own v own)) at (with_queues (λ old. c.queues)) ≡ changed_at (changed_at xs at (with_verdict_and_own v own)) to (with_queues f)
own-queued [] at to v own f c found none = absurd (let no = found in cc)
own-queued (x ∷ xs) at zero v own f c found none = absurd (let no = none in cc)
own-queued (x ∷ xs) zero (suc to) v own f c found none =
    ap (λ (y : Component). with_queues (λ old. y.queues) (with_verdict_and_own v own x) ∷ xs) (sym (some-same found)) ∙ ap (λ ys. with_verdict_and_own v own x ∷ ys) (sym (changed-none xs to (with_queues f) none))
own-queued (x ∷ xs) (suc at) (suc to) v own f c found none = ap (λ ys. x ∷ ys) (own-queued xs at to v own f c found none)

-- where no component is at the place, nobody gets a message
pub changed-unsent : (going : Going) (at : ℕ) (own : Verdict × Data) (sending : Sending) (c : Component) → slice_get going.components at ≡ Some c → length going.components ≤ sending.to
    → changed_going going at own.0 own.1 at c.queues ≡ sent_going going at own sending
changed-unsent going at own sending c here past =
    ap (λ xs. record { components = xs; links = going.links; forgotten = going.forgotten })
    (own-queued going.components at sending.to own.0 own.1 (with_message sending.port sending.message) c here (past-none going.components sending.to past))

-- where two components have labels, some are left
pub still-goes-on : (machine : Machine) → IsLegend (legend machine) → (going : Going) (at : ℕ) (component : Component) (v : Verdict) (own : Data) (removed : Option ℕ) (known : Bool)
    → slice_get going.components at ≡ Some component → (known ≡ true → 2 ≤ active_in machine (going_by (legend machine) going))
    → GoesOn machine.test (said machine (config.Going (changed_going going at v own at (without_front removed component.queues)))) known
still-goes-on machine is going at component v own removed known found on = record {
  some = λ yes none.
      labels_left machine.test (going_by (legend machine) going) at (component_by (legend machine) component)
      (becoming (data_by (legend machine) own) v (option_map (legend machine).names removed) (component_by (legend machine) component))
      (get-map (component_by (legend machine)) going.components at component found) refl (on yes)
      (ap (λ (g : rules.Going). labels machine.test (rules.Goes g)) (sym (changed-said (legend machine) is going at component v own removed found)) ∙ none);
}

-- where three have, some are left behind a message
pub still-goes-on-sent : (machine : Machine) → IsLegend (legend machine) → (going : Going) (at : ℕ) (component : Component) (own : Verdict × Data) (sending : Sending) (known : Bool)
    → slice_get going.components at ≡ Some component → (known ≡ true → 3 ≤ active_in machine (going_by (legend machine) going))
    → GoesOn machine.test (said machine (config.Going (sent_going going at own sending))) known
still-goes-on-sent machine is going at component own sending known found on = record {
  some = λ yes none. told (slice_get (sender_changed going at own) sending.to) refl (on yes) none;
}
  where
    l : Legend
    l = legend machine

    changed : rules.Component
    changed = becoming (data_by l own.1) own.0 None (component_by l component)

    here : slice_get (map (component_by l) going.components) at ≡ Some (component_by l component)
    here = get-map (component_by l) going.components at component found

    told : (o : Option Component) → slice_get (sender_changed going at own) sending.to ≡ o → 3 ≤ active_in machine (going_by l going) → labels machine.test (said machine (config.Going (sent_going going at own sending))) ≡ [] → ⊥
    told None to three none =
        labels_left machine.test (going_by l going) at (component_by l component) changed here refl (omega (arith, three))
        (ap (λ (g : rules.Going). labels machine.test (rules.Goes g)) (sym (unsent-said l going at component own sending found to)) ∙ none)
    told (Some w) to three none =
        labels_left_by_two machine.test (going_by l going) at sending.to (component_by l component) changed (component_by l w) (receiving (l.names sending.port) (message_by sending.message) (component_by l w)) here refl
        (ap (λ xs. slice_get xs sending.to) (sym (sender-said l going at component own found)) ∙ get-map (component_by l) (sender_changed going at own) sending.to w to) refl three
        (ap (λ (g : rules.Going). labels machine.test (rules.Goes g)) (sym (sent-said l is going at component own sending w found to)) ∙ none)
