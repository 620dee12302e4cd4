-- The canonical form of a configuration stands for its live part.
use Rattle.std.proofs.Common.{◌≡◌, ◌<◌, Bool, true, false, ◌&&◌, ◌||◌, not, true≢false, List, [], ◌∷◌, length, map, Some, refl, sym, ap, ◌∙◌, if◌then◌else◌}
use Rattle.std.specs.Prelude.{nat_eq}
use Rattle.std.proofs.lemmas.Bool.{and_parts, eqb-true}
use Rattle.std.proofs.lemmas.List.Elements.{All-cons, All-head, All-nil, All-tail}
use Rattle.std.specs.List.{filter, find, fold, list_any}
use Rattle.ttcn_syntax.specs.declared.tree.statement.Verdict.{Verdict}
use Rattle.ttcn_syntax.specs.declared.tree.statement.Verdict.TheVariants as verdict
use Rattle.config_canonical.specs.internal.Husks.{forget, forgotten, has_remains, husk, is_bare, is_dead, is_live, is_new, is_none, is_over, is_over_if_any, is_terminated, is_terminated_at, live_component, live_components, live_connections, live_going, live_links}
use Rattle.semantics.proofs.Verdicts.{worse-none}
use Rattle.semantics.specs.Configurations as rules
use Rattle.semantics.specs.Configurations.{same_path}
use Rattle.semantics.specs.LiveParts as live
use Rattle.semantics.specs.Steps as steps
use Rattle.config_parts.specs.Legend.{Legend, component_by, connection_by, entries_by, going_by, mapping_by, state_by}
use Rattle.config_parts.specs.Views.{AreAllWithin, Extent, IsConfigWithin, IsFrameWithin, IsWithin}
use Rattle.config_parts.specs.declared.component.Component.{Component}
use Rattle.config_parts.specs.declared.component.State.{State}
use Rattle.config_parts.specs.declared.component.State.TheVariants as state
use Rattle.config_parts.specs.declared.config.Config.{Config}
use Rattle.config_parts.specs.declared.config.Config.TheVariants as config
use Rattle.config_parts.specs.declared.config.Going.{Going}
use Rattle.config_parts.specs.declared.connection.Connection.{Connection}
use Rattle.config_parts.specs.declared.connection.Links.{Links}
use Rattle.config_parts.specs.declared.frame.Data.{Data}
use Rattle.value_types.specs.declared.path.Path.{Path}

state-over : (s : State) → rules.is_terminated_state (state_by s) ≡ is_terminated s
state-over state.Created = refl
state-over state.Running = refl
state-over state.Terminated = refl

-- by whether a component is terminated
by-over : (P : Bool → Type 0) (b : Bool) → P true → P false → P b
by-over P true over alive = over
by-over P false over alive = alive

module _ (legend : Legend) where
  component-over : (c : Component) → rules.is_terminated_state (component_by legend c).state ≡ is_over c
  component-over c = state-over c.state

  pub component-live : (c : Component) → component_by legend (live_component c) ≡ live.live_component (component_by legend c)
  component-live c =
      by-over (λ b. component_by legend (if b then husk c.itself.path else c) ≡ (if b then live.husk c.itself.path else component_by legend c)) (is_over c) refl refl
      ∙ ap (λ b. if b then live.husk c.itself.path else component_by legend c) (sym (component-over c))

  pub components-live : (cs : List Component) → map (component_by legend) (live_components cs) ≡ map live.live_component (map (component_by legend) cs)
  components-live [] = refl
  components-live (c ∷ cs) =
      ap (λ x. x ∷ map (component_by legend) (live_components cs)) (component-live c) ∙ ap (λ xs. live.live_component (component_by legend c) ∷ xs) (components-live cs)

  -- a component that is found is found among those of the rules
  found-over : (path : Path) (cs : List Component)
      → steps.is_terminated_component (find (λ x. same_path (rules.path_of x) path) (map (component_by legend) cs)) ≡ is_over_if_any (find (λ x. same_path x.itself.path path) cs)
  found-over path [] = refl
  found-over path (c ∷ cs) =
      by-over (λ b. steps.is_terminated_component (if b then Some (component_by legend c) else find (λ x. same_path (rules.path_of x) path) (map (component_by legend) cs)) ≡ is_over_if_any (if b then Some c else find (λ x. same_path x.itself.path path) cs))
      (same_path c.itself.path path) (component-over c) (found-over path cs)

  connection-live : (g : Going) (k : Connection) → live.is_live (going_by legend g) (connection_by legend k) ≡ is_live g.components k
  connection-live g k =
      ap (λ b. not (b && steps.is_terminated_at (going_by legend g) k.other.component)) (found-over k.one.component g.components)
      ∙ ap (λ b. not (is_terminated_at g.components k.one.component && b)) (found-over k.other.component g.components)

  pub connections-live : (g : Going) (ks : List Connection) → map (connection_by legend) (live_connections g.components ks) ≡ filter (live.is_live (going_by legend g)) (map (connection_by legend) ks)
  connections-live g [] = refl
  connections-live g (k ∷ ks) =
      by-over (λ b. map (connection_by legend) (if b then k ∷ live_connections g.components ks else live_connections g.components ks)
      ≡ (if b then connection_by legend k ∷ filter (live.is_live (going_by legend g)) (map (connection_by legend) ks) else filter (live.is_live (going_by legend g)) (map (connection_by legend) ks)))
      (is_live g.components k) (ap (λ xs. connection_by legend k ∷ xs) (connections-live g ks)) (connections-live g ks)
      ∙ ap (λ b. if b then connection_by legend k ∷ filter (live.is_live (going_by legend g)) (map (connection_by legend) ks) else filter (live.is_live (going_by legend g)) (map (connection_by legend) ks))
      (sym (connection-live g k))

  pub verdicts-live : (v : Verdict) (cs : List Component) → forgotten v cs ≡ fold live.forget_verdict v (map (component_by legend) cs)
  verdicts-live v [] = refl
  verdicts-live v (c ∷ cs) =
      ap (λ w. forgotten w cs) (ap (λ b. if b then rules.worse v c.verdict else v) (sym (component-over c)))
      ∙ verdicts-live (live.forget_verdict v (component_by legend c)) cs

  pub going-live : (g : Going) → going_by legend (live_going g) ≡ live.live_going (going_by legend g)
  going-live g = λ i. record {
    components = components-live g.components i;
    connections = connections-live g g.links.connections i;
    mappings = map (mapping_by legend) g.links.mappings;
    delivered = entries_by legend g.links.delivered;
    forgotten = verdicts-live g.forgotten g.components i;
  }

-- the code's form of the live part
abbrev pub live_config : Config → Config
live_config (config.Ended v) = config.Ended v
live_config (config.Going g) = config.Going (live_going g)

-- ---- where no component is terminated

or-parts : (a b : Bool) → (a || b) ≡ false → (a ≡ false) × (b ≡ false)
or-parts true b h = absurd (true≢false h)
or-parts false b h = (refl, h)

module _ (xs : List Component) where
  none-over-at : (path : Path) (cs : List Component) → list_any is_over cs ≡ false → is_over_if_any (find (λ x. same_path x.itself.path path) cs) ≡ false
  none-over-at path [] none = refl
  none-over-at path (c ∷ cs) none =
      let p = or-parts (is_over c) (list_any is_over cs) none in
      by-over (λ b. is_over_if_any (if b then Some c else find (λ x. same_path x.itself.path path) cs) ≡ false) (same_path c.itself.path path) p.0 (none-over-at path cs p.1)

  connections-stay : list_any is_over xs ≡ false → (ks : List Connection) → live_connections xs ks ≡ ks
  connections-stay none [] = refl
  connections-stay none (k ∷ ks) =
      ap (λ b. if not (b && is_terminated_at xs k.other.component) then k ∷ live_connections xs ks else live_connections xs ks) (none-over-at k.one.component xs none)
      ∙ ap (λ rest. k ∷ rest) (connections-stay none ks)

components-stay : (cs : List Component) → list_any is_over cs ≡ false → live_components cs ≡ cs
components-stay [] none = refl
components-stay (c ∷ cs) none =
    let p = or-parts (is_over c) (list_any is_over cs) none in
    ap (λ b. (if b then husk c.itself.path else c) ∷ live_components cs) p.0 ∙ ap (λ rest. c ∷ rest) (components-stay cs p.1)

verdict-stays : (v : Verdict) (cs : List Component) → list_any is_over cs ≡ false → forgotten v cs ≡ v
verdict-stays v [] none = refl
verdict-stays v (c ∷ cs) none =
    let p = or-parts (is_over c) (list_any is_over cs) none in
    ap (λ b. forgotten (if b then rules.worse v c.verdict else v) cs) p.0 ∙ verdict-stays v cs p.1

pub going-stays : (g : Going) → list_any is_over g.components ≡ false → g ≡ live_going g
going-stays g none = λ i. record {
  components = sym (components-stay g.components none) i;
  links = record { connections = sym (connections-stay g.components none g.links.connections) i; mappings = g.links.mappings; delivered = g.links.delivered };
  forgotten = sym (verdict-stays g.forgotten g.components none) i;
}

-- ---- where all connections stay

kept-first : (b : Bool) (k : Connection) (ks live : List Connection) → not b ≡ false → live ≡ ks → (if b then k ∷ live else live) ≡ k ∷ ks
kept-first true k ks live stays rest = ap (λ xs. k ∷ xs) rest
kept-first false k ks live stays rest = absurd (true≢false stays)

none-dead : (xs : List Component) (ks : List Connection) → list_any (is_dead xs) ks ≡ false → live_connections xs ks ≡ ks
none-dead xs [] none = refl
none-dead xs (k ∷ ks) none =
    let p = or-parts (is_dead xs k) (list_any (is_dead xs) ks) none in
    kept-first (is_live xs k) k ks (live_connections xs ks) p.0 (none-dead xs ks p.1)

pub links-stay : (xs : List Component) (links : Links) → list_any (is_dead xs) links.connections ≡ false → links ≡ live_links xs links
links-stay xs links none = λ i. record { connections = sym (none-dead xs links.connections none) i; mappings = links.mappings; delivered = links.delivered }

-- ---- where nothing but paths is left of terminated components

nil-of : {A : Type 0} (xs : List A) → nat_eq (length xs) 0 ≡ true → xs ≡ []
nil-of [] h = refl
nil-of (x ∷ xs) h = absurd (let no = eqb-true (length (x ∷ xs)) 0 h in cc)

none-of : (v : Verdict) → is_none v ≡ true → v ≡ verdict.None
none-of verdict.None h = refl
none-of verdict.Pass h = absurd (true≢false (sym h))
none-of verdict.Inconc h = absurd (true≢false (sym h))
none-of verdict.Fail h = absurd (true≢false (sym h))
none-of verdict.Error h = absurd (true≢false (sym h))

over-of : (s : State) → is_terminated s ≡ true → s ≡ state.Terminated
over-of state.Created h = absurd (true≢false (sym h))
over-of state.Running h = absurd (true≢false (sym h))
over-of state.Terminated h = refl

new-is : (own : Data) → is_new own ≡ true → own ≡ record { members = record { values = []; timers = [] }; calls = []; defaults = []; activations = 0; children = 0 }
new-is own h =
    let p = and_parts _ _ h in
    let q = and_parts _ _ p.0 in
    let r = and_parts _ _ q.0 in
    let s = and_parts _ _ r.0 in
    let t = and_parts _ _ s.0 in
    λ i. record {
      members = record { values = nil-of own.members.values t.0 i; timers = nil-of own.members.timers t.1 i };
      calls = nil-of own.calls s.1 i;
      defaults = nil-of own.defaults r.1 i;
      activations = eqb-true own.activations 0 q.1 i;
      children = eqb-true own.children 0 p.1 i;
    }

bare-is-husk : (c : Component) → is_over c ≡ true → is_bare c ≡ true → husk c.itself.path ≡ c
bare-is-husk c over bare =
    let p = and_parts _ _ bare in
    let q = and_parts _ _ p.0 in
    let r = and_parts _ _ q.0 in
    sym (λ i. record {
      itself = record { path = c.itself.path; component_type = eqb-true c.itself.component_type 0 r.0 i };
      own = new-is c.own p.1 i;
      state = over-of c.state over i;
      verdict = none-of c.verdict r.1 i;
      queues = nil-of c.queues q.1 i;
    })

-- a component that is not to be changed
pub component-stays : (c : Component) → has_remains c ≡ false → live_component c ≡ c
component-stays c none = by (is_over c) refl (is_bare c) refl
  where
    by : (b : Bool) → is_over c ≡ b → (d : Bool) → is_bare c ≡ d → live_component c ≡ c
    by false alive d bare = ap (λ x. if x then husk c.itself.path else c) alive
    by true over true bare = ap (λ x. if x then husk c.itself.path else c) over ∙ bare-is-husk c over bare
    by true over false bare = absurd (true≢false (sym (ap (λ x. x && not (is_bare c)) over ∙ ap not bare) ∙ none))

bares-stay : (cs : List Component) → list_any has_remains cs ≡ false → live_components cs ≡ cs
bares-stay [] none = refl
bares-stay (c ∷ cs) none =
    let p = or-parts (has_remains c) (list_any has_remains cs) none in
    ap (λ x. x ∷ live_components cs) (component-stays c p.0) ∙ ap (λ rest. c ∷ rest) (bares-stay cs p.1)

forgets-none : (v : Verdict) (c : Component) → has_remains c ≡ false → forget v c ≡ v
forgets-none v c none = by (is_over c) refl
  where
    by : (b : Bool) → is_over c ≡ b → forget v c ≡ v
    by false alive = ap (λ x. if x then rules.worse v c.verdict else v) alive
    by true over =
        ap (λ x. if x then rules.worse v c.verdict else v) over
        ∙ ap (rules.worse v) (sym (ap (λ x. x.verdict) (component-stays c none)) ∙ ap (λ x. (if x then husk c.itself.path else c).verdict) over)
        ∙ worse-none v

forgets-nothing : (v : Verdict) (cs : List Component) → list_any has_remains cs ≡ false → forgotten v cs ≡ v
forgets-nothing v [] none = refl
forgets-nothing v (c ∷ cs) none =
    let p = or-parts (has_remains c) (list_any has_remains cs) none in
    ap (λ w. forgotten w cs) (forgets-none v c p.0) ∙ forgets-nothing v cs p.1

pub going-bare : (g : Going) → list_any has_remains g.components ≡ false → list_any (is_dead g.components) g.links.connections ≡ false → g ≡ live_going g
going-bare g none stay = λ i. record {
  components = sym (bares-stay g.components none) i;
  links = record { connections = sym (none-dead g.components g.links.connections stay) i; mappings = g.links.mappings; delivered = g.links.delivered };
  forgotten = sym (forgets-nothing g.forgotten g.components none) i;
}

-- ---- what remains has positions still

component-within : (size : Extent) (c : Component) → IsWithin size c.own → IsWithin size (live_component c).own
component-within size c within = by-over (λ b. IsWithin size (if b then husk c.itself.path else c).own) (is_over c) (record { members = record { values = All-nil (λ e. e.0 < size.names); timers = All-nil (λ e. e.0 < size.names) }; calls = All-nil (IsFrameWithin size) }) within

components-within : (size : Extent) (cs : List Component) → AreAllWithin size cs → AreAllWithin size (live_components cs)
components-within size [] all = All-nil (λ x. IsWithin size x.own)
components-within size (c ∷ cs) all =
    All-cons (λ x. IsWithin size x.own) (live_component c) (live_components cs) (component-within size c (All-head (λ x. IsWithin size x.own) c cs all)) (components-within size cs (All-tail (λ x. IsWithin size x.own) c cs all))

pub config-within : (size : Extent) (c : Config) → IsConfigWithin size c → IsConfigWithin size (live_config c)
config-within size (config.Ended v) within = within
config-within size (config.Going g) within = record { components = components-within size g.components within.components; mappings = within.mappings }
