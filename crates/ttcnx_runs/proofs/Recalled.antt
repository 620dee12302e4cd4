-- What is recalled of all components is what the rules say of a configuration.
use Rattle.std.proofs.Common.{◌≡◌, ℕ, zero, suc, ◌<◌, arith, Bool, true, false, nat_lt, List, [], ◌∷◌, ◌++◌, map, take, length, get_or, Option, Some, refl, sym, ap, subst, ◌∙◌, if◌then◌else◌}
use Rattle.std.proofs.Math.Logic.{∥∥₁_elim}
use Rattle.std.proofs.lemmas.Bool.{ltb-false}
use Rattle.std.proofs.lemmas.List.{append-nil, append_assoc, length-map, map-append, map_push}
use Rattle.std.proofs.lemmas.List.Elements.{All-head, All-tail}
use Rattle.std.specs.Coded.{Coded, Coded-set, Unit-prop, codes, le_prop}
use Rattle.std.specs.List.{All, flat_map}
use Rattle.std.specs.Prelude.{IfSome, slice_get, slice_index_or}
use Rattle.ttcn_syntax.specs.contracts.tree.statement.Action as action
use Rattle.ttcn_syntax.specs.contracts.tree.statement.Branch as branch
use Rattle.ttcn_syntax.specs.contracts.tree.statement.Statement as statement
use Rattle.ttcn_syntax.specs.contracts.tree.template.Template as template
use Rattle.ttcn_syntax.specs.contracts.tree.value.Value as tree_value
use Rattle.value_types.specs.contracts.value.Value as value
use Rattle.ttcn_syntax.specs.declared.place.Span.{Span}
use Rattle.config_packed.specs.Pieces.{has_mappings, spell_key}
use Rattle.config_parts.specs.Legend.{component_by, going_by, mapping_by}
use Rattle.config_parts.specs.Views.{AreWithin, HasSlotsWithin, IsFrameWithin, IsWithin}
use Rattle.config_parts.specs.Views as views
use Rattle.config_parts.specs.declared.component.Component.{Component}
use Rattle.config_parts.specs.declared.component.State.{State}
use Rattle.config_parts.specs.declared.config.Config.{Config}
use Rattle.config_parts.specs.declared.config.Config.TheVariants as config
use Rattle.config_parts.specs.declared.config.Going.{Going}
use Rattle.config_parts.specs.declared.connection.Links.{Links}
use Rattle.config_parts.specs.declared.frame.Cells.{Cells}
use Rattle.config_parts.specs.declared.frame.Data.{Data}
use Rattle.config_parts.specs.declared.frame.Frame.{Frame}
use Rattle.laws_local.proofs.Grouping.{labels_some}
use Rattle.laws_local.specs.Alone.{IsLive, are_some, has_labels, how_many}
use Rattle.search_ordinals.specs.Ordinals.{with_branch}
use Rattle.semantics.specs.Canonical.{canonical_graph}
use Rattle.semantics.specs.Configurations as rules
use Rattle.semantics.specs.Labels.{delivery, labels, labels_of_component}
use Rattle.semantics.specs.Places.{branch_of}
use Rattle.semantics.specs.Steps.{Label}
use Rattle.ttcn_step.specs.Machines.{Fits, Machine, extent, legend, said}
use Rattle.ttcnx_runs.proofs.Making.{after-is, get-map}
use Rattle.ttcnx_runs.specs.internal.Makes.{step_of}
use Rattle.ttcnx_runs.specs.internal.Recalls.{AreKeys, FitsState, active_in, branch_and_place, branch_and_place_of, has_steps}
use Rattle.ttcnx_runs.specs.Remembered.{AreOutcomes, CanJoin, IsEffectWithin, place_at, places_of, shown, steps_of}
use Rattle.ttcnx_runs.specs.Runs.{FitsRuns}
use Rattle.ttcnx_runs.specs.declared.outcome.Effect.{Effect}
use Rattle.ttcnx_runs.specs.declared.outcome.Effect.TheVariants as effect
use Rattle.ttcnx_runs.specs.declared.outcome.Outcome.{Outcome}
use Rattle.ttcnx_runs.specs.declared.step.Step.{Step}
use Rattle.ttcnx_runs.specs.declared.step_place.StepPlace.{StepPlace}
use Rattle.ttcnx_runs.specs.internal.WorkedOut.{IsStep}
use Rattle.value_types.specs.declared.value.ComponentId.{ComponentId}

-- ---- facts with one proof at most

coded-steps : Coded (List (Option Span × rules.Configuration))
coded-steps = hlevel (codes, action.the_row.coded, branch.the_row.coded, statement.the_row.coded, template.the_row.coded, tree_value.the_row.coded, value.the_row.coded)

coded-places : Coded (List (Option StepPlace))
coded-places = hlevel codes

coded-names : Coded (List (ComponentId × State))
coded-names = hlevel codes

all-prop : {A : Type 0} (P : A → Type 0) → ((a : A) → IsProp (P a)) → (xs : List A) → IsProp (All P xs)
all-prop P each xs all other = λ i k d below. each (slice_index_or xs k d) (all k d below) (other k d below) i

entries-prop : {A : Type 0} (size : ℕ) (entries : List (ℕ × A)) → IsProp (AreWithin size entries)
entries-prop size entries = all-prop (λ e. e.0 < size) (λ e. le_prop) entries

slots-prop : (size : ℕ) (cells : Cells) → IsProp (HasSlotsWithin size cells)
slots-prop size cells one other = λ i. record {
  values = entries-prop size cells.values one.values other.values i;
  timers = entries-prop size cells.timers one.timers other.timers i;
}

frame-prop : (size : views.Extent) (frame : Frame) → IsProp (IsFrameWithin size frame)
frame-prop size frame one other = λ i. record {
  remaining = le_prop one.remaining other.remaining i;
  cells = slots-prop size.names frame.cells one.cells other.cells i;
}

own-prop : (size : views.Extent) (own : Data) → IsProp (IsWithin size own)
own-prop size own one other = λ i. record {
  members = slots-prop size.names own.members one.members other.members i;
  calls = all-prop (IsFrameWithin size) (frame-prop size) own.calls one.calls other.calls i;
}

going-prop : (size : views.Extent) (going : Going) → IsProp (views.IsGoingWithin size going)
going-prop size going one other = λ i. record {
  components = all-prop (λ (c : Component). IsWithin size c.own) (λ c. own-prop size c.own) going.components one.components other.components i;
  mappings = entries-prop size.names going.links.mappings one.mappings other.mappings i;
}

join-prop : (machine : Machine) (going : Going) (at : ℕ) (behind : Config) → IsProp (CanJoin machine going at behind)
join-prop machine going at (config.Ended v) = λ one other. absurd one
join-prop machine going at (config.Going joined) = λ one other i. (Coded-set coded-names _ _ one.0 other.0 i, going-prop (extent machine) joined one.1 other.1 i)

effect-prop : (machine : Machine) (going : Going) (at : ℕ) (e : Effect) → IsProp (IsEffectWithin machine going at e)
effect-prop machine going at (effect.Alone own removed) = own-prop (extent machine) own.1
effect-prop machine going at (effect.Sends own sending) = own-prop (extent machine) own.1
effect-prop machine going at (effect.Ends behind) = join-prop machine going at behind
effect-prop machine going at (effect.Other label) = Unit-prop

-- ---- options and lists

pub if-some : {A : Type 0} (o : Option A) (a : A) (P : A → Type 0) → IfSome o P → o ≡ Some a → P a
if-some o a P holds is = subst (λ x. IfSome x P) is holds

-- what holds of all elements holds of the one at a place
pub one-of : {A : Type 0} (P : A → Type 0) (xs : List A) (at : ℕ) (x : A) → at < length xs → x ≡ get_or xs at x → All P xs → P x
one-of P xs at x below is all = subst P (sym is) (all at x below)

-- what is seen of two lists stays alike, where one more element of each is alike
pub alike-pushed : {A B C : Type 0} (f : A → C) (h : B → C) (xs : List A) (x : A) (new : List A) (ys : List B) (y : B) → new ≡ xs ++ x ∷ [] → map f xs ≡ map h ys → f x ≡ h y → map f new ≡ map h (ys ++ y ∷ [])
alike-pushed f h xs x new ys y pushed before same =
    ap (map f) pushed ∙ map_push f xs x ∙ ap (λ zs. zs ++ f x ∷ []) before ∙ ap (λ z. map h ys ++ z ∷ []) same ∙ sym (map_push h ys y)

-- ---- what is remembered of one component

some-is : {A : Type 0} {a b : A} → Some a ≡ Some b → a ≡ b
some-is e = cc

goes-is : {a b : rules.Going} → rules.Goes a ≡ rules.Goes b → a ≡ b
goes-is e = cc

pub live-of : (machine : Machine) (configuration : Config) (going : Going) → FitsState machine configuration → configuration ≡ config.Going going → IsLive (going_by (legend machine) going)
live-of machine configuration going state is =
    let fits : FitsRuns (rules.Goes (going_by (legend machine) going)) = subst (λ (c : Config). FitsRuns (said machine c)) is state.fits in
    record { ordered = fits.ordered.ordered.components; live = goes-is fits.live }

pub outcomes-within : (machine : Machine) (key : List ℕ) (outcomes : List Outcome) → ∥ AreOutcomes machine key outcomes ∥₁
    → (going : Going) (at : ℕ) (component : Component) → IsLive (going_by (legend machine) going) → slice_get going.components at ≡ Some component → key ≡ spell_key going at component
    → All (λ outcome. IsEffectWithin machine going at outcome.effect) outcomes
outcomes-within machine key outcomes right going at component live found is =
    ∥∥₁_elim right (all-prop (λ (outcome : Outcome). IsEffectWithin machine going at outcome.effect) (λ outcome. effect-prop machine going at outcome.effect) outcomes) (λ are. are.within going at component live found is)

pub outcomes-shown : (machine : Machine) (key : List ℕ) (outcomes : List Outcome) → ∥ AreOutcomes machine key outcomes ∥₁
    → (going : Going) (at : ℕ) (component : Component) → IsLive (going_by (legend machine) going) → slice_get going.components at ≡ Some component → key ≡ spell_key going at component
    → map (shown machine going at component) outcomes ≡ steps_of machine going component
outcomes-shown machine key outcomes right going at component live found is =
    ∥∥₁_elim right (Coded-set coded-steps _ _) (λ are. are.steps going at component live found is)

pub outcomes-placed : (machine : Machine) (key : List ℕ) (outcomes : List Outcome) → ∥ AreOutcomes machine key outcomes ∥₁
    → (going : Going) (at : ℕ) (component : Component) → IsLive (going_by (legend machine) going) → slice_get going.components at ≡ Some component → key ≡ spell_key going at component
    → map (λ outcome. outcome.event) outcomes ≡ places_of machine going component
outcomes-placed machine key outcomes right going at component live found is =
    ∥∥₁_elim right (Coded-set coded-places _ _) (λ are. are.places going at component live found is)

-- the key at a place
pub key-at : {A : Type 0} (key : A → List ℕ) (xs : List A) (at : ℕ) (d : A) (wanted : List ℕ) → at < length xs → slice_get (map key xs) at ≡ Some wanted → key (get_or xs at d) ≡ wanted
key-at key [] at d wanted below found = absurd (omega (arith, below))
key-at key (y ∷ ys) zero d wanted below found = some-is found
key-at key (y ∷ ys) (suc at) d wanted below found = key-at key ys at d wanted (omega (arith, below)) found

-- what comes of one more element
pub one-more : {A B : Type 0} (f : A → List B) (xs : List A) (at : ℕ) (x : A) → slice_get xs at ≡ Some x → flat_map f (take at xs) ++ f x ≡ flat_map f (take (suc at) xs)
one-more f [] at x found = absurd (let no = found in cc)
one-more f (y ∷ ys) zero x found = sym (ap f (some-is found)) ∙ sym (append-nil (f y))
one-more f (y ∷ ys) (suc at) x found = append_assoc (f y) (flat_map f (take at ys)) (f x) ∙ ap (λ zs. f y ++ zs) (one-more f ys at x found)

-- ---- components with labels

some-alike : {C : Type 0} (f : Outcome → C) (h : Label → C) (outcomes : List Outcome) (ls : List Label) → map f outcomes ≡ map h ls → has_steps outcomes ≡ are_some ls
some-alike f h [] [] same = refl
some-alike f h [] (l ∷ ls) same = absurd (let no = same in cc)
some-alike f h (o ∷ os) [] same = absurd (let no = same in cc)
some-alike f h (o ∷ os) (l ∷ ls) same = refl

pub active-alike : (machine : Machine) (going : Going) (at : ℕ) (component : Component) (outcomes : List Outcome) → map (shown machine going at component) outcomes ≡ steps_of machine going component
    → has_steps outcomes ≡ has_labels machine.test (going_by (legend machine) going) (component_by (legend machine) component)
active-alike machine going at component outcomes same =
    some-alike (shown machine going at component) (step_of machine going) outcomes (labels_of_component machine.test (going_by (legend machine) going) (component_by (legend machine) component)) same

pub many-alike : {A B C : Type 0} (p : A → Bool) (q : B → Bool) (f : C → B) (xs : List A) (ys : List C) → length xs ≡ length ys
    → ((at : ℕ) (x : A) (y : C) → slice_get xs at ≡ Some x → slice_get ys at ≡ Some y → p x ≡ q (f y)) → how_many p xs ≡ how_many q (map f ys)
many-alike p q f [] [] long each = refl
many-alike p q f [] (y ∷ ys) long each = absurd (let no = long in cc)
many-alike p q f (x ∷ xs) [] long each = absurd (let no = long in cc)
many-alike p q f (x ∷ xs) (y ∷ ys) long each =
    let here : p x ≡ q (f y) = each 0 x y refl refl in
    let rest : how_many p xs ≡ how_many q (map f ys) = many-alike p q f xs ys (let both = long in cc) (λ at a b one other. each (suc at) a b one other) in
    λ i. if here i then suc (rest i) else rest i

pub keys-long : {A : Type 0} (key : A → List ℕ) (xs : List A) (going : Going) → AreKeys going (map key xs) → length xs ≡ length going.components
keys-long key xs going keys = sym (length-map xs key) ∙ keys.count

-- as many components have labels as have steps by what is remembered
pub active-recalled : {A : Type 0} (machine : Machine) (key : A → List ℕ) (outcomes : A → List Outcome) → ((a : A) → ∥ AreOutcomes machine (key a) (outcomes a) ∥₁) → (all : List A) (going : Going)
    → IsLive (going_by (legend machine) going) → AreKeys going (map key all) → how_many (λ a. has_steps (outcomes a)) all ≡ active_in machine (going_by (legend machine) going)
active-recalled machine key outcomes right all going live keys =
    many-alike (λ a. has_steps (outcomes a)) (has_labels machine.test (going_by (legend machine) going)) (component_by (legend machine)) all going.components (keys-long key all going keys)
    (λ at a component there here.
    let is : key a ≡ spell_key going at component = some-is (sym (get-map key all at a there) ∙ keys.each at component here) in
    active-alike machine going at component (outcomes a) (outcomes-shown machine (key a) (outcomes a) (right a) going at component live here is))

-- ---- all labels

empty : {A : Type 0} (xs : List A) → nat_lt 0 (length xs) ≡ false → xs ≡ []
empty [] none = refl
empty (x ∷ xs) none = let low = ltb-false 0 (length (x ∷ xs)) none in absurd (omega (arith, low))

none-mapped : (links : Links) → has_mappings links ≡ false → links.mappings ≡ []
none-mapped links none = empty links.mappings none

each-step : {A B C D : Type 0} (h : C → D) (l : B → List C) (f : A → B) (xs : List A) → flat_map (λ x. map h (l (f x))) xs ≡ map h (flat_map l (map f xs))
each-step h l f [] = refl
each-step h l f (x ∷ xs) = ap (λ zs. map h (l (f x)) ++ zs) (each-step h l f xs) ∙ sym (map-append h (l (f x)) (flat_map l (map f xs)))

-- where no system port is mapped, all labels are those of the components
all-labels : {A : Type 0} (h : Label → A) (machine : Machine) (going : Going) → has_mappings going.links ≡ false
    → flat_map (λ component. map h (labels_of_component machine.test (going_by (legend machine) going) (component_by (legend machine) component))) going.components
    ≡ map h (labels machine.test (said machine (config.Going going)))
all-labels h machine going none =
    let c : rules.Going = going_by (legend machine) going in
    let ls : List Label = flat_map (labels_of_component machine.test c) (map (component_by (legend machine)) going.components) in
    let left : flat_map (delivery machine.test c) (map (mapping_by (legend machine)) going.links.mappings) ≡ [] =
    ap (λ ms. flat_map (delivery machine.test c) (map (mapping_by (legend machine)) ms)) (none-mapped going.links none) in
    each-step h (labels_of_component machine.test c) (component_by (legend machine)) going.components
    ∙ ap (map h) (sym (append-nil ls) ∙ ap (λ zs. ls ++ zs) (sym left))

-- so their steps are
pub all-steps : (machine : Machine) (going : Going) → has_mappings going.links ≡ false
    → flat_map (steps_of machine going) going.components
    ≡ with_branch (branch_of machine.test) (canonical_graph machine.test) (said machine (config.Going going)) (labels machine.test (said machine (config.Going going)))
all-steps machine going none = all-labels (step_of machine going) machine going none

-- ---- where all steps are

head-is : {A : Type 0} (x y : A) (xs ys : List A) → x ∷ xs ≡ y ∷ ys → x ≡ y
head-is x y xs ys same = let both = same in cc

tail-is : {A : Type 0} (x y : A) (xs ys : List A) → x ∷ xs ≡ y ∷ ys → xs ≡ ys
tail-is x y xs ys same = let both = same in cc

both-alike : (machine : Machine) (going : Going) (at : ℕ) (component : Component) (outcomes : List Outcome) (ls : List Label) → map (shown machine going at component) outcomes ≡ map (step_of machine going) ls
    → map (λ outcome. outcome.event) outcomes ≡ map (place_at machine going) ls → map branch_and_place outcomes ≡ map (branch_and_place_of machine (config.Going going)) ls
both-alike machine going at component [] [] steps places = refl
both-alike machine going at component [] (l ∷ ls) steps places = absurd (let no = steps in cc)
both-alike machine going at component (o ∷ os) [] steps places = absurd (let no = steps in cc)
both-alike machine going at component (o ∷ os) (l ∷ ls) steps places =
    let step : shown machine going at component o ≡ step_of machine going l = head-is _ _ (map (shown machine going at component) os) (map (step_of machine going) ls) steps in
    let place : o.event ≡ place_at machine going l = head-is _ _ (map (λ outcome. outcome.event) os) (map (place_at machine going) ls) places in
    let rest = both-alike machine going at component os ls (tail-is (shown machine going at component o) (step_of machine going l) _ _ steps) (tail-is o.event (place_at machine going l) _ _ places) in
    λ i. ((step i).0, place i) ∷ rest i

flat-alike : {A B C : Type 0} (f : A → List C) (h : B → List C) (xs : List A) (ys : List B) → length xs ≡ length ys
    → ((at : ℕ) (x : A) (y : B) → slice_get xs at ≡ Some x → slice_get ys at ≡ Some y → f x ≡ h y) → flat_map f xs ≡ flat_map h ys
flat-alike f h [] [] long each = refl
flat-alike f h [] (y ∷ ys) long each = absurd (let no = long in cc)
flat-alike f h (x ∷ xs) [] long each = absurd (let no = long in cc)
flat-alike f h (x ∷ xs) (y ∷ ys) long each =
    let here : f x ≡ h y = each 0 x y refl refl in
    let rest : flat_map f xs ≡ flat_map h ys = flat-alike f h xs ys (let both = long in cc) (λ at a b one other. each (suc at) a b one other) in
    λ i. here i ++ rest i

-- where no system port is mapped, what is remembered of all components tells where the steps of all labels are
pub places-recalled : {A : Type 0} (machine : Machine) (key : A → List ℕ) (outcomes : A → List Outcome) → ((a : A) → ∥ AreOutcomes machine (key a) (outcomes a) ∥₁) → (all : List A) (whole : Config) (going : Going)
    → whole ≡ config.Going going → IsLive (going_by (legend machine) going) → AreKeys going (map key all) → has_mappings going.links ≡ false
    → flat_map (λ a. map branch_and_place (outcomes a)) all ≡ map (branch_and_place_of machine whole) (labels machine.test (said machine whole))
places-recalled machine key outcomes right all whole going whole-is live keys none =
    let labels-at : Component → List Label = λ component. labels_of_component machine.test (going_by (legend machine) going) (component_by (legend machine) component) in
    flat-alike (λ a. map branch_and_place (outcomes a)) (λ component. map (branch_and_place_of machine (config.Going going)) (labels-at component)) all going.components (keys-long key all going keys)
    (λ at a component there here.
    let is : key a ≡ spell_key going at component = some-is (sym (get-map key all at a there) ∙ keys.each at component here) in
    both-alike machine going at component (outcomes a) (labels-at component) (outcomes-shown machine (key a) (outcomes a) (right a) going at component live here is)
    (outcomes-placed machine (key a) (outcomes a) (right a) going at component live here is))
    ∙ all-labels (branch_and_place_of machine (config.Going going)) machine going none
    ∙ ap (λ (w : Config). map (branch_and_place_of machine w) (labels machine.test (said machine w))) (sym whole-is)

-- where something is remembered of the steps of a component, some label is enabled
pub surely-enabled : (machine : Machine) (going : Going) (at : ℕ) (component : Component) (outcomes : List Outcome) → slice_get going.components at ≡ Some component
    → map (shown machine going at component) outcomes ≡ steps_of machine going component → has_steps outcomes ≡ true → labels machine.test (said machine (config.Going going)) ≡ [] → ⊥
surely-enabled machine going at component outcomes found same some =
    labels_some machine.test (going_by (legend machine) going) at (component_by (legend machine) component) (get-map (component_by (legend machine)) going.components at component found)
    (sym (active-alike machine going at component outcomes same) ∙ some)

-- the branches of steps, and where they lead, are those of their labels
pub steps-lead : (machine : Machine) (configuration : Config) (steps : List (Step rules.Configuration)) → All (IsStep machine configuration) steps
    → map (λ step. (step.branch, step.after)) steps ≡ with_branch (branch_of machine.test) (canonical_graph machine.test) (said machine configuration) (map (λ step. step.label) steps)
steps-lead machine configuration [] all = refl
steps-lead machine configuration (step ∷ steps) all =
    let is : IsStep machine configuration step = All-head (IsStep machine configuration) step steps all in
    let leads = after-is machine.test (said machine configuration) step.label step.after is.leads in
    let rest = steps-lead machine configuration steps (All-tail (IsStep machine configuration) step steps all) in
    λ i. (is.branch i, sym leads i) ∷ rest i

-- ---- states

-- a configuration of the code that stands for one that fits runs is one of a state
pub state-fits : (machine : Machine) (configuration : Config) (state : rules.Configuration) → views.IsConfigWithin (extent machine) configuration → said machine configuration ≡ state → FitsRuns state → FitsState machine configuration
state-fits machine configuration state within is fits = record { within = within; fits = subst FitsRuns (sym is) fits }

-- it fits the machine
pub machine-fits : (machine : Machine) (configuration : Config) → FitsState machine configuration → Fits machine configuration
machine-fits machine configuration state = record { within = state.within; ordered = state.fits.ordered; frames = state.fits.frames }
