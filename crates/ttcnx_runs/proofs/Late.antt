-- A step that was enabled before the last one already, and comes before it there, leads where that one leads behind it.
use Rattle.std.proofs.Common.{◌≡◌, ℕ, zero, suc, ◌+◌, ◌<◌, ◌≤◌, arith, List, [], ◌∷◌, ◌++◌, map, get_or, length, Option, Some, refl, sym, ap, subst, ◌∙◌}
use Rattle.std.proofs.lemmas.List.{append-nil, length-map}
use Rattle.std.proofs.lemmas.List.Elements.{All-cons, All-nil}
use Rattle.std.proofs.lemmas.List.Folds.{flat_map-map}
use Rattle.std.proofs.lemmas.Option.{slice_get_within}
use Rattle.std.specs.List.{All, Contains, flat_map}
use Rattle.std.specs.Prelude.{slice_get}
use Rattle.config_packed.proofs.ConfigsBack.{queue_back}
use Rattle.config_packed.proofs.Keys.{keys-tell}
use Rattle.config_packed.proofs.NumbersBack.{read-list-back}
use Rattle.config_packed.specs.Pieces.{changed_going, spell_front, spell_key, front_at, with_verdict_and_own}
use Rattle.config_packed.specs.Reading.{read_list, read_queue}
use Rattle.config_packed.specs.Spelling.{spell_links, spell_list, spell_long, spell_name, spell_outline, spell_own, spell_queue, spell_verdict}
use Rattle.config_parts.specs.Legend.{component_by, going_by}
use Rattle.config_parts.specs.Views.{IsGoingWithin}
use Rattle.config_parts.specs.internal.Changes.{changed_at, with_queues}
use Rattle.config_parts.specs.declared.component.Component.{Component}
use Rattle.config_parts.specs.declared.component.Queue.{Queue}
use Rattle.config_parts.specs.declared.config.Config.TheVariants as config
use Rattle.config_parts.specs.declared.config.Going.{Going}
use Rattle.config_parts.specs.declared.frame.Data.{Data}
use Rattle.laws_local.specs.Alone.{IsLive}
use Rattle.search_ordinals.proofs.Runs.{nth-one}
use Rattle.search_ordinals.specs.Told.{IsNth}
use Rattle.semantics.specs.Canonical.{canonical_graph}
use Rattle.semantics.specs.Configurations as rules
use Rattle.semantics.specs.Labels.{deliveries, labels, labels_of_component}
use Rattle.semantics.specs.Steps.{Label}
use Rattle.ttcn_step.specs.Machines.{Machine, extent, legend, said}
use Rattle.ttcn_syntax.specs.declared.place.Span.{Span}
use Rattle.ttcn_syntax.specs.declared.tree.statement.Verdict.{Verdict}
use Rattle.ttcnx_runs.proofs.Commuting.{LeavesSight, both-orders, going_behind, left-alone, names-left, with_front_gone}
use Rattle.ttcnx_runs.proofs.Numbering.{as-many-before, before_those, comes-before, get-within, nth-alike, nth-contained, nth-in-front, nth-of-all}
use Rattle.ttcnx_runs.proofs.Making.{all-found, get-map}
use Rattle.ttcnx_runs.proofs.Parting.{get-found, some-at, within-changed, within-sent}
use Rattle.ttcnx_runs.proofs.Recalled.{keys-long, live-of, outcomes-shown, outcomes-within}
use Rattle.ttcnx_runs.specs.Codes.{code_of}
use Rattle.ttcnx_runs.specs.CodesBack.{code_of_config}
use Rattle.ttcnx_runs.specs.Laws.{after-fits}
use Rattle.ttcnx_runs.specs.internal.Makes.{step_of}
use Rattle.ttcnx_runs.specs.internal.Recalls.{AreKeys, FitsState}
use Rattle.ttcnx_runs.specs.Remembered.{AreOutcomes, IsEffectWithin, led_to, shown, steps_of, without_front}
use Rattle.ttcnx_runs.specs.Runs.{FitsRuns}
use Rattle.ttcnx_runs.specs.Schemes.{IsMachine}
use Rattle.search_ordinals.specs.Sparing.{IsEarly}
use Rattle.ttcnx_runs.specs.internal.Apart.{AreApart}
use Rattle.ttcnx_runs.specs.internal.Spared.{AreFirstKeys, IsReached}
use Rattle.ttcnx_runs.specs.declared.outcome.Effect.{Effect}
use Rattle.ttcnx_runs.specs.declared.outcome.Effect.TheVariants as effect
use Rattle.ttcnx_runs.specs.declared.outcome.Outcome.{Outcome}

some-is : {A : Type 0} {a b : A} → Some a ≡ Some b → a ≡ b
some-is e = cc

going-is : {a b : Going} → config.Going a ≡ config.Going b → a ≡ b
going-is e = cc

-- ---- where a step leads

-- a step that changes its component alone, or sends a message
abbrev Moves : Effect → Type 0
Moves (effect.Alone own removed) = Unit {0}
Moves (effect.Sends own sending) = Unit {0}
Moves _ = ⊥

first-moves : (at : ℕ) (a b : Effect) → AreApart at a b → Moves a
first-moves at (effect.Alone own removed) b are = tt
first-moves at (effect.Sends own sending) b are = tt
first-moves at (effect.Ends behind) b are = absurd are
first-moves at (effect.Other label) b are = absurd are

second-moves : (at : ℕ) (a b : Effect) → AreApart at a b → Moves b
second-moves at a (effect.Alone own removed) are = tt
second-moves at a (effect.Sends own sending) are = tt
second-moves at (effect.Alone own removed) (effect.Ends behind) are = absurd are
second-moves at (effect.Alone own removed) (effect.Other label) are = absurd are
second-moves at (effect.Sends own sending) (effect.Ends behind) are = absurd are
second-moves at (effect.Sends own sending) (effect.Other label) are = absurd are
second-moves at (effect.Ends ended) (effect.Ends behind) are = absurd are
second-moves at (effect.Ends ended) (effect.Other label) are = absurd are
second-moves at (effect.Other other) (effect.Ends behind) are = absurd are
second-moves at (effect.Other other) (effect.Other label) are = absurd are

-- two changes of one component, by what it is
both-at-once : (cs : List Component) (at : ℕ) (own : Verdict × Data) (removed : Option ℕ) (c : Component) → slice_get cs at ≡ Some c
    → changed_at (changed_at cs at (with_verdict_and_own own.0 own.1)) at (with_queues (λ old. without_front removed c.queues)) ≡ changed_at cs at (with_front_gone own removed)
both-at-once [] at own removed c found = refl
both-at-once (x ∷ xs) zero own removed c found =
    ap (λ (y : Component). record { itself = x.itself; own = own.1; state = x.state; verdict = own.0; queues = without_front removed y.queues } ∷ xs) (sym (some-is found))
both-at-once (x ∷ xs) (suc at) own removed c found = ap (λ ys. x ∷ ys) (both-at-once xs at own removed c found)

alone-behind : (going : Going) (at : ℕ) (own : Verdict × Data) (removed : Option ℕ) (c : Component) → slice_get going.components at ≡ Some c
    → changed_going going at own.0 own.1 at (without_front removed c.queues) ≡ going_behind (effect.Alone own removed) at going
alone-behind going at own removed c found = ap (λ cs. record { components = cs; links = going.links; forgotten = going.forgotten }) (both-at-once going.components at own removed c found)

module _ (machine : Machine) where
  led-behind : (going : Going) (at : ℕ) (c : Component) (e : Effect) → Moves e → slice_get going.components at ≡ Some c → led_to machine going at c e ≡ said machine (config.Going (going_behind e at going))
  led-behind going at c (effect.Alone own removed) moves found = ap (λ g. said machine (config.Going g)) (alone-behind going at own removed c found)
  led-behind going at c (effect.Sends own sending) moves found = refl
  led-behind going at c (effect.Ends behind) moves found = absurd moves
  led-behind going at c (effect.Other label) moves found = absurd moves

  within-behind : (going : Going) (at : ℕ) (c : Component) (e : Effect) → Moves e → slice_get going.components at ≡ Some c → IsGoingWithin (extent machine) going → IsEffectWithin machine going at e
      → IsGoingWithin (extent machine) (going_behind e at going)
  within-behind going at c (effect.Alone own removed) moves found within new =
      subst (IsGoingWithin (extent machine)) (alone-behind going at own removed c found) (within-changed (extent machine) going at own.0 own.1 at (without_front removed c.queues) within new)
  within-behind going at c (effect.Sends own sending) moves found within new = within-sent (extent machine) going at own sending within new
  within-behind going at c (effect.Ends behind) moves found within new = absurd moves
  within-behind going at c (effect.Other label) moves found within new = absurd moves

  -- two configurations of the code that stand for the same are the same
  saying-one : IsMachine machine → (g h : Going) → IsGoingWithin (extent machine) g → IsGoingWithin (extent machine) h → said machine (config.Going g) ≡ said machine (config.Going h) → g ≡ h
  saying-one is g h within other same =
      going-is (sym (code_of_config machine.lists machine.names is.lists is.names (config.Going g) within) ∙ ap (code_of machine.lists machine.names) same
      ∙ code_of_config machine.lists machine.names is.lists is.names (config.Going h) other)

queues-seen : (qs : List Queue) → (read_list read_queue (spell_list spell_queue qs)).0 ≡ qs
queues-seen qs =
    ap (λ (bytes : List ℕ). (read_list read_queue bytes).0) (sym (append-nil (spell_list spell_queue qs)))
    ∙ ap (λ (p : List Queue × List ℕ). p.0) (read-list-back spell_queue read_queue queue_back qs [])

-- queues that are spelled alike are the same
queues-tell : (qs rs : List Queue) → spell_list spell_queue qs ≡ spell_list spell_queue rs → qs ≡ rs
queues-tell qs rs same = sym (queues-seen qs) ∙ ap (λ (bytes : List ℕ). (read_list read_queue bytes).0) same ∙ queues-seen rs

-- a component sees the same, where no byte differs that tells what it sees
pub key-of-bytes : (g h : Going) (at : ℕ) (c d : Component) → spell_outline g ≡ spell_outline h → spell_own c.verdict c.own ≡ spell_own d.verdict d.own → spell_list spell_queue c.queues ≡ spell_list spell_queue d.queues
    → spell_key g at c ≡ spell_key h at d
unfolding spell_key
key-of-bytes g h at c d outlines owns queues =
    (λ i. outlines i ++ spell_long at ++ owns i ++ spell_list spell_front (map front_at (queues-tell c.queues d.queues queues i)))

-- behind a step of another component a component that stays sees the same
key-left : (going : Going) (e : Effect) (j at : ℕ) (c : Component) → spell_key (going_behind e j going) at c ≡ spell_key going at c
unfolding spell_key spell_outline
key-left going e j at c =
    ap (λ names. (spell_verdict going.forgotten ++ spell_links going.links ++ spell_list spell_name names) ++ spell_long at ++ spell_own c.verdict c.own ++ spell_list spell_front (map front_at c.queues))
    (names-left e j going.components)

-- ---- the numbers of labels

module _ (machine : Machine) where
  -- the enabled labels of a component
  abbrev labels_at : Going → Component → List Label
  labels_at going c = labels_of_component machine.test (going_by (legend machine) going) (component_by (legend machine) c)

  -- how many labels come before those of the component at a place
  abbrev labels_before : Going → ℕ → ℕ
  labels_before going at = before_those (labels_at going) going.components at

  -- a step that is remembered is that of an enabled label
  step-enabled : (going : Going) (at : ℕ) (c : Component) (outcomes : List Outcome) (n number : ℕ) (o : Outcome) → slice_get going.components at ≡ Some c
      → map (shown machine going at c) outcomes ≡ steps_of machine going c → slice_get outcomes n ≡ Some o → number ≡ labels_before going at + n
      → (label : Label) × IsNth (labels machine.test (said machine (config.Going going))) number label × (shown machine going at c o ≡ step_of machine going label)
  step-enabled going at c outcomes n number o found same there counted =
      let g : rules.Going = going_by (legend machine) going in
      let own = nth-alike (shown machine going at c) (step_of machine going) outcomes (labels_at going c) n o same there in
      let all : IsNth (flat_map (labels_at going) going.components) number own.0 = nth-of-all (labels_at going) going.components at c n number own.0 found counted own.1 in (
        own.0,
        nth-in-front (flat_map (labels_of_component machine.test g) (map (component_by (legend machine)) going.components)) (deliveries machine.test g) number own.0
            (subst (λ ls. IsNth ls number own.0) (sym (flat_map-map (labels_of_component machine.test g) (component_by (legend machine)) going.components)) all),
        own.2,
      )

  as-many-steps : (going : Going) (at : ℕ) (c : Component) (outcomes : List Outcome) → map (shown machine going at c) outcomes ≡ steps_of machine going c → length outcomes ≡ length (labels_at going c)
  as-many-steps going at c outcomes same =
      sym (length-map outcomes (shown machine going at c)) ∙ ap length same ∙ length-map (labels_at going c) (step_of machine going)

  -- ---- the second step

  -- a step of this effect, of the component at this place, which is remembered
  pub record IsKnown (going : Going) (at : ℕ) (c : Component) (outcomes : List Outcome) (n : ℕ) (o : Outcome) : Type 0 where
    pub here : slice_get going.components at ≡ Some c
    pub steps : map (shown machine going at c) outcomes ≡ steps_of machine going c
    pub there : slice_get outcomes n ≡ Some o
    pub within : IsEffectWithin machine going at o.effect

  -- behind a step of another component, from which it is apart, a step is enabled that leads where the other order leads
  module _ (is : IsMachine machine) (before going : Going) (state : FitsState machine (config.Going before)) (within : IsGoingWithin (extent machine) going)
      (i j : ℕ) (c d d′ : Component) (mine theirs : List Outcome) (n m : ℕ) (a b : Outcome) (first : IsKnown before i c mine n a) (second : IsKnown before j d theirs m b)
      (always : (g : Going) → IsLive (going_by (legend machine) g) → slice_get g.components i ≡ Some c → spell_key before i c ≡ spell_key g i c → map (shown machine g i c) mine ≡ steps_of machine g c)
      (there : slice_get going.components j ≡ Some d′) (same : spell_key before j d ≡ spell_key going j d′) (less : j < i) (apart : AreApart i a.effect b.effect)
      (label : Label) (numbered : IsNth (labels machine.test (said machine (config.Going before))) (labels_before before i + n) label)
      (leads : said machine (config.Going going) ≡ (canonical_graph machine.test).after (said machine (config.Going before)) label) where
    other : i ≡ j → ⊥
    other one = omega (arith, one, less)

    -- the configuration before, behind the first step
    going-is-behind : going ≡ going_behind a.effect i before
    going-is-behind =
        let step = step-enabled before i c mine n (labels_before before i + n) a first.here first.steps first.there refl in
        let one : step.0 ≡ label = nth-one (labels machine.test (said machine (config.Going before))) (labels_before before i + n) step.0 label step.1 numbered in
        let led : led_to machine before i c a.effect ≡ (canonical_graph machine.test).after (said machine (config.Going before)) label =
        ap (λ (s : Option Span × rules.Configuration). s.1) step.2 ∙ ap (λ (l : Label). (canonical_graph machine.test).after (said machine (config.Going before)) l) one in
        let moves : Moves a.effect = first-moves i a.effect b.effect apart in
        saying-one machine is going (going_behind a.effect i before) within
        (within-behind machine before i c a.effect moves first.here state.within first.within)
        (leads ∙ sym led ∙ led-behind machine before i c a.effect moves first.here)

    -- and behind the second one
    abbrev aside : Going
    aside = going_behind b.effect j before

    aside-said : (l : Label) → shown machine before j d b ≡ step_of machine before l → said machine (config.Going aside) ≡ (canonical_graph machine.test).after (said machine (config.Going before)) l
    aside-said l made =
        sym (led-behind machine before j d b.effect (second-moves i a.effect b.effect apart) second.here) ∙ ap (λ (s : Option Span × rules.Configuration). s.1) made

    aside-live : (l : Label) → shown machine before j d b ≡ step_of machine before l → IsLive (going_by (legend machine) aside)
    aside-live l made =
        live-of machine (config.Going aside) aside
        (record {
          within = within-behind machine before j d b.effect (second-moves i a.effect b.effect apart) second.here state.within second.within;
          fits = subst FitsRuns (sym (aside-said l made)) (after-fits machine.test (said machine (config.Going before)) l state.fits);
        }) refl

    still-there : slice_get aside.components i ≡ Some c
    still-there = left-alone before.components i j a.effect b.effect other apart ∙ first.here

    sight : LeavesSight before.components i a.effect j
    sight = record {
      before = d;
      behind = d′;
      here = second.here;
      there = ap (λ (g : Going). slice_get g.components j) (sym going-is-behind) ∙ there;
      fronts = (keys-tell before going j j d d′ same).fronts;
    }

    -- both orders lead to the same
    both : going_behind b.effect j going ≡ going_behind a.effect i aside
    both =
        ap (going_behind b.effect j) going-is-behind
        ∙ ap (λ cs. record { components = cs; links = before.links; forgotten = before.forgotten }) (both-orders before.components i j a.effect b.effect other apart sight)

    pub early : IsEarly (canonical_graph machine.test) (said machine (config.Going before)) (labels_before before i + n) (led_to machine going j d′ b.effect)
    early =
        let step = step-enabled before j d theirs m (labels_before before j + m) b second.here second.steps second.there refl in
        let stands : said machine (config.Going aside) ≡ (canonical_graph machine.test).after (said machine (config.Going before)) step.0 = aside-said step.0 step.2 in
        let live : IsLive (going_by (legend machine) aside) = aside-live step.0 step.2 in
        let steps : map (shown machine aside i c) mine ≡ steps_of machine aside c = always aside live still-there (sym (key-left before b.effect j i c)) in
        let next = step-enabled aside i c mine n (labels_before aside i + n) a still-there steps first.there refl in
        let there-too : led_to machine aside i c a.effect ≡ (canonical_graph machine.test).after (said machine (config.Going aside)) next.0 = ap (λ (s : Option Span × rules.Configuration). s.1) next.2 in
        let own : m < length (labels_at before d) =
        (let many = as-many-steps before j d theirs second.steps in let below = get-within theirs m b second.there in omega (arith, many, below)) in
        let before-it = comes-before (labels_at before) before.components j i d m second.here less own in
        record {
          first = step.0;
          second = next.0;
          number = labels_before before j + m;
          at = step.1;
          earlier = omega (arith, before-it);
          behind = subst (λ (s : rules.Configuration). Contains (labels machine.test s) next.0) stands (nth-contained (labels machine.test (said machine (config.Going aside))) (labels_before aside i + n) next.0 next.1);
          leads =
              ap (λ (s : rules.Configuration). (canonical_graph machine.test).after s next.0) (sym stands) ∙ sym there-too
              ∙ led-behind machine aside i c a.effect (first-moves i a.effect b.effect apart) still-there
              ∙ ap (λ (g : Going). said machine (config.Going g)) (sym both)
              ∙ sym (led-behind machine going j d′ b.effect (second-moves i a.effect b.effect apart) there);
        }

-- ---- by what is remembered

all-by : {A : Type 0} (P : A → Type 0) (xs : List A) → ((n : ℕ) (x : A) → slice_get xs n ≡ Some x → P x) → All P xs
all-by P [] each = All-nil P
all-by P (x ∷ xs) each = All-cons P x xs (each 0 x refl) (all-by P xs (λ n y found. each (suc n) y found))

-- the component of which something is remembered at a place
pub component-at : {A : Type 0} (key : A → List ℕ) (all : List A) (going : Going) (at : ℕ) (one : A) → AreKeys going (map key all) → at < length all → one ≡ get_or all at one
    → (component : Component) × (slice_get going.components at ≡ Some component) × (key one ≡ spell_key going at component)
component-at key all going at one keys below is =
    let long = keys-long key all going keys in
    let here = some-at going.components at (omega (arith, below, long)) in
    (here.0, here.1, some-is (sym (get-map key all at one (get-found all at one below is)) ∙ keys.each at here.0 here.1))

module _ {A : Type 0} (machine : Machine) (key : A → List ℕ) (outcomes : A → List Outcome) (right : (a : A) → ∥ AreOutcomes machine (key a) (outcomes a) ∥₁)
    (before : Going) (state : FitsState machine (config.Going before)) (known : List A) (keys : AreFirstKeys before (map key known)) where
  live : IsLive (going_by (legend machine) before)
  live = live-of machine (config.Going before) before state refl

  -- the key of one at a place
  key-is : (at : ℕ) (one : List ℕ) (c : Component) → slice_get (map key known) at ≡ Some one → slice_get before.components at ≡ Some c → one ≡ spell_key before at c
  key-is at one c there here = some-is (sym there ∙ keys.each at c (get-within (map key known) at one there) here)

  -- they are no more than there are components
  no-more : length known ≤ length before.components
  no-more = let long = length-map known key in let count = keys.count in omega (arith, long, count)

  as-many : (at : ℕ) → at ≤ length known → before_those outcomes known at ≡ before_those (labels_at machine before) before.components at
  as-many at within =
      as-many-before outcomes (labels_at machine before) known before.components at within no-more
      (λ k one c there here. as-many-steps machine before k c (outcomes one) (outcomes-shown machine (key one) (outcomes one) (right one) before k c live here (key-is k (key one) c (get-map key known k one there) here)))

  known-step : (at : ℕ) (one : A) (c : Component) (n : ℕ) (o : Outcome) → slice_get before.components at ≡ Some c → key one ≡ spell_key before at c → slice_get (outcomes one) n ≡ Some o
      → IsKnown machine before at c (outcomes one) n o
  known-step at one c n o here told there = record {
    here = here;
    steps = outcomes-shown machine (key one) (outcomes one) (right one) before at c live here told;
    there = there;
    within = all-found (λ (o : Outcome). IsEffectWithin machine before at o.effect) (outcomes one) n o there (outcomes-within machine (key one) (outcomes one) (right one) before at c live here told);
  }

-- the steps of a component that saw the same before the last step, and comes before the component that made that one: those that are apart from it are early
pub late : {A : Type 0} (machine : Machine) → IsMachine machine → (key : A → List ℕ) (outcomes : A → List Outcome) → ((a : A) → ∥ AreOutcomes machine (key a) (outcomes a) ∥₁)
    → (before going : Going) (nth : ℕ) (known : List A) (place : ℕ) (e : Effect) → IsReached machine key outcomes before nth known place e going → IsGoingWithin (extent machine) going
    → (j : ℕ) (d′ : Component) (one : A) → slice_get going.components j ≡ Some d′ → key one ≡ spell_key going j d′ → j < place → slice_get (map key known) j ≡ Some (key one)
    → All (λ o. AreApart place e o.effect → IsEarly (canonical_graph machine.test) (said machine (config.Going before)) nth (led_to machine going j d′ o.effect)) (outcomes one)
late machine is key outcomes right before going nth known place e reached within j d′ one there told less same =
    all-by (λ o. AreApart place e o.effect → IsEarly (canonical_graph machine.test) (said machine (config.Going before)) nth (led_to machine going j d′ o.effect)) (outcomes one)
    (λ m b found apart.
    let step = reached.step in
    let long = no-more machine key outcomes right before reached.state known reached.keys in
    let below = slice_get_within known place step.one step.there in
    let mine = some-at before.components place (omega (arith, long, below)) in
    let theirs = some-at before.components j (omega (arith, long, below, less)) in
    let my-key : key step.one ≡ spell_key before place mine.0 = key-is machine key outcomes right before reached.state known reached.keys place (key step.one) mine.0 (get-map key known place step.one step.there) mine.1 in
    let their-key : key one ≡ spell_key before j theirs.0 = key-is machine key outcomes right before reached.state known reached.keys j (key one) theirs.0 same theirs.1 in
    let many = as-many machine key outcomes right before reached.state known reached.keys place (omega (arith, below)) in
    let counted : nth ≡ before_those (labels_at machine before) before.components place + step.number = step.counted ∙ ap (λ (n : ℕ). n + step.number) many in
    subst (λ (n : ℕ). IsEarly (canonical_graph machine.test) (said machine (config.Going before)) n (led_to machine going j d′ b.effect)) (sym counted)
    (early machine is before going reached.state within place j mine.0 theirs.0 d′ (outcomes step.one) (outcomes one) step.number m step.outcome b
    (known-step machine key outcomes right before reached.state known reached.keys place step.one mine.0 step.number step.outcome mine.1 my-key step.here)
    (known-step machine key outcomes right before reached.state known reached.keys j one theirs.0 m b theirs.1 their-key found)
    (λ g living at-place alike. outcomes-shown machine (key step.one) (outcomes step.one) (right step.one) g place mine.0 living at-place (my-key ∙ alike))
    there (sym their-key ∙ told) less (subst (λ (first : Effect). AreApart place first b.effect) (sym step.is) apart) reached.label
    (subst (λ (n : ℕ). IsNth (labels machine.test (said machine (config.Going before))) n reached.label) counted reached.numbered) reached.leads))
