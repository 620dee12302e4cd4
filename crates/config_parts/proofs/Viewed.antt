-- What is read by slots is read by names, and the components that run are those that a snapshot says to run.
use Rattle.std.proofs.Common.{◌≡◌, ℕ, ◌<◌, Bor, Bool, true, false, ◌||◌, List, [], ◌∷◌, map, length, None, Some, cond, refl, sym, ap, ◌∙◌}
use Rattle.std.specs.List.{All, cons_option, filter, find, list_any}
use Rattle.std.specs.Option.{option_map}
use Rattle.std.specs.declared.cmp.Ordering.TheVariants.{Less}
use Rattle.std.proofs.lemmas.List.Elements.{All-head, All-tail}
use Rattle.semantics.proofs.Pairs.{All-more, pairs-head, pairs-tail}
use Rattle.semantics.specs.Configurations as rules
use Rattle.semantics.specs.Configurations.{path_cmp, path_of, same_path}
use Rattle.semantics.specs.Snapshots.{Snapshot, Test, facts_of, holds, mtc_of, runs_in, snapshot_of}
use Rattle.config_parts.specs.Acts.{HasPathsInOrder}
use Rattle.config_parts.specs.Legend.{Legend, component_by, entries_by, going_by, state_by}
use Rattle.config_parts.specs.Views.{AreNames, AreWithin, HasSlotsWithin, running_paths, view_by}
use Rattle.config_parts.specs.internal.Expiries.{is_running_state}
use Rattle.config_parts.specs.declared.component.Component.{Component}
use Rattle.config_parts.specs.declared.config.Going.{Going}
use Rattle.config_parts.specs.declared.frame.Cells.{Cells}
use Rattle.config_parts.proofs.Expired.{running-first}
use Rattle.config_parts.proofs.Touching.{Ascend, other-than, path-is, paths}
use Rattle.value_types.specs.Chains.{within_chains}
use Rattle.value_types.specs.Frames.{is_running, longest_chain, named_entries, reading, seen_entry}
use Rattle.value_types.specs.Outcomes.{or_error, unmet}
use Rattle.value_types.specs.contracts.path.PathPartialEq.TheImpl as equality
use Rattle.value_types.specs.declared.frame.Frame.{Frame}
use Rattle.value_types.specs.declared.path.Path.{Path}

-- ---- entries

named-by : {A : Type 0} (legend : Legend) (names : List (List ℕ)) → AreNames legend names → (es : List (ℕ × A)) → AreWithin (length names) es → named_entries names es ≡ entries_by legend es
named-by legend names are [] within = refl
named-by legend names are (e ∷ es) within =
    ap (λ o. cons_option (option_map (λ name. (name, e.1)) o) (named_entries names es)) (are e.0 (All-head (λ e. e.0 < length names) e es within))
    ∙ ap (λ xs. (legend.names e.0, e.1) ∷ xs) (named-by legend names are es (All-tail (λ e. e.0 < length names) e es within))

-- ---- readings

pub read-by : (legend : Legend) (test : Test) (snapshot : Snapshot) (f : Frame) (inner outer : Cells)
    → f.locals.now ≡ inner.values → f.members.now ≡ outer.values → f.local_timers.now ≡ inner.timers → f.member_timers.now ≡ outer.timers
    → AreNames legend f.names.now → HasSlotsWithin (length f.names.now) inner → HasSlotsWithin (length f.names.now) outer
    → test.definitions ≡ f.definitions.now → mtc_of test ≡ f.mtc.now → ((p : Path) → list_any (λ other. (equality.ghosts).eq p other.now) f.running.now ≡ runs_in snapshot p)
    → reading f ≡ within_chains longest_chain (facts_of test f.itself.now snapshot (view_by legend inner) (view_by legend outer))
read-by legend test snapshot f inner outer locals members local_timers member_timers are inner_within outer_within definitions mtc runs =
    let names = f.names.now in
    let one = ap (named_entries names) locals ∙ named-by legend names are inner.values inner_within.values in
    let two = ap (named_entries names) members ∙ named-by legend names are outer.values outer_within.values in
    let three = ap (named_entries names) local_timers ∙ named-by legend names are inner.timers inner_within.timers in
    let four = ap (named_entries names) member_timers ∙ named-by legend names are outer.timers outer_within.timers in
    ap (within_chains longest_chain) (λ i. record {
      definitions = sym definitions i;
      names = λ name. or_error (seen_entry (one i) (two i) name);
      timers = λ name. option_map is_running (seen_entry (three i) (four i) name);
      running = λ p. runs p i;
      itself = f.itself.now;
      mtc = sym mtc i;
      constants = λ at item. unmet;
      templates = λ at values. unmet;
    })

-- ---- components that run

flip : (b c : Bool) (p q : Path) → same_path p q ≡ b → same_path q p ≡ c → b ≡ c
flip true true p q e f = refl
flip true false p q e f =
    let is = path-is p q e in sym e ∙ ap (λ x. same_path x q) is ∙ sym (ap (λ x. same_path q x) is) ∙ f
flip false true p q e f =
    let is = path-is q p f in sym e ∙ ap (λ x. same_path x q) (sym is) ∙ ap (λ x. same_path q x) is ∙ f
flip false false p q e f = refl

same-way : (p q : Path) → same_path p q ≡ same_path q p
same-way p q = flip (same_path p q) (same_path q p) p q refl refl

-- a path is among those of the components that run
abbrev runs_among : Path → List Component → Bool
runs_among p cs = list_any (λ q. same_path p q) (running_paths cs)

none-first : (r : Bool) (p : Path) (c : Component) (cs : List Component) → same_path c.itself.path p ≡ false → runs_among p cs ≡ false
    → list_any (λ q. same_path p q) (map (λ x. x.itself.path) (cond r (c ∷ filter (λ x. is_running_state x.state) cs) (filter (λ x. is_running_state x.state) cs))) ≡ false
none-first true p c cs e below = ap (λ b. b || runs_among p cs) (same-way p c.itself.path ∙ e) ∙ below
none-first false p c cs e below = below

none-runs : (p : Path) (cs : List Component) → All (λ q. same_path q p ≡ false) (paths cs) → runs_among p cs ≡ false
none-runs p [] all = refl
none-runs p (c ∷ cs) all =
    none-first (is_running_state c.state) p c cs (All-head (λ q. same_path q p ≡ false) c.itself.path (paths cs) all)
    (none-runs p cs (All-tail (λ q. same_path q p ≡ false) c.itself.path (paths cs) all))

-- what a snapshot says of a path
abbrev runs-said : Legend → Path → List Component → Bool
runs-said legend p cs =
    holds rules.is_running_state (option_map {T = Path × rules.State} (λ e. e.1) (find (λ e. same_path e.0 p) (map (λ c. (path_of c, c.state)) (map (component_by legend) cs))))

said-first : (legend : Legend) (b r : Bool) (p : Path) (c : Component) (cs : List Component) → same_path c.itself.path p ≡ b → is_running_state c.state ≡ r
    → All (λ q. path_cmp c.itself.path q ≡ Less) (paths cs) → runs_among p cs ≡ runs-said legend p cs
    → list_any (λ q. same_path p q) (map (λ x. x.itself.path) (cond r (c ∷ filter (λ x. is_running_state x.state) cs) (filter (λ x. is_running_state x.state) cs)))
    ≡ holds rules.is_running_state (option_map {T = Path × rules.State} (λ e. e.1) (cond b (Some (c.itself.path, state_by c.state)) (find (λ e. same_path e.0 p) (map (λ c. (path_of c, c.state)) (map (component_by legend) cs)))))
said-first legend true true p c cs e is before below =
    ap (λ b. b || runs_among p cs) (same-way p c.itself.path ∙ e) ∙ sym (running-first c.state ∙ is)
said-first legend true false p c cs e is before below =
    none-runs p cs (All-more (λ q. path_cmp c.itself.path q ≡ Less) (λ q. same_path q p ≡ false)
    (λ q less. other-than (same_path q p) c.itself.path q p e less refl) (paths cs) before)
    ∙ sym (running-first c.state ∙ is)
said-first legend false true p c cs e is before below = ap (λ b. b || runs_among p cs) (same-way p c.itself.path ∙ e) ∙ below
said-first legend false false p c cs e is before below = below

said-by : (legend : Legend) (p : Path) (cs : List Component) → Ascend cs → runs_among p cs ≡ runs-said legend p cs
said-by legend p [] ascend = refl
said-by legend p (c ∷ cs) ascend =
    said-first legend (same_path c.itself.path p) (is_running_state c.state) p c cs refl refl
    (pairs-head (λ p q. path_cmp p q ≡ Less) c.itself.path (paths cs) ascend)
    (said-by legend p cs (pairs-tail (λ p q. path_cmp p q ≡ Less) c.itself.path (paths cs) ascend))

any-map : {A B : Type 0} (f : B → Bool) (g : A → B) (xs : List A) → list_any (λ x. f (g x)) xs ≡ list_any f (map g xs)
any-map f g [] = refl
any-map f g (x ∷ xs) = ap (λ b. f (g x) || b) (any-map f g xs)

pub runs-by : (legend : Legend) (going : Going) → HasPathsInOrder going → (component : rules.Component) (p : Path) (running : List (Bor Path)) → map (λ q. q.now) running ≡ running_paths going.components
    → list_any (λ other. (equality.ghosts).eq p other.now) running ≡ runs_in (snapshot_of (going_by legend going) component) p
runs-by legend going ascend component p running are =
    any-map (λ q. same_path p q) (λ q. q.now) running ∙ ap (list_any (λ q. same_path p q)) are ∙ said-by legend p going.components ascend
