-- What follows of components that stand by the rules: of their ports, and of what stands first in the last frame.
use Rattle.std.proofs.Common.{◌≡◌, ℕ, Bool, true, false, ◌||◌, List, [], ◌∷◌, bytes_eq, Option, Some, None, refl, sym, subst, ◌∙◌, if◌then◌else◌}
use Rattle.std.specs.List.{All, find, list_any}
use Rattle.std.specs.Option.{option_or}
use Rattle.std.proofs.lemmas.List.Elements.{All-head}
use Rattle.ttcn_syntax.specs.declared.tree.definition.Definition.{Definition}
use Rattle.ttcn_syntax.specs.declared.tree.definition.Parameter.{Parameter}
use Rattle.ttcn_syntax.specs.declared.tree.statement.Statement.{Statement}
use Rattle.check_rules.specs.Calls.{parameters_of}
use Rattle.check_rules.specs.Declarations.{behind_all}
use Rattle.check_scope.specs.Names.{Entry, Scope, declaring, kind_at}
use Rattle.check_scope.specs.Scopes.{outer_names, scope_on}
use Rattle.check_scope.specs.declared.names.Meaning.{Meaning}
use Rattle.check_rules.specs.Definitions.{parameter_entry}
use Rattle.laws_sites.proofs.Blocks.{parts-of}
use Rattle.laws_sites.proofs.Changes.{component-fine}
use Rattle.laws_sites.proofs.Ports.{queues-found}
use Rattle.laws_sites.proofs.Sites.{own-free}
use Rattle.laws_sites.specs.Standing.{HasQueuesByName, IsFineComponent, IsFineFrame, IsFineItem, IsFineSite, IsFrameOf, IsFree, PlaceIn, StandsByRules, place_at}
use Rattle.laws_statements.specs.Parts.{HasFineParts}
use Rattle.laws_steps.proofs.Found.{some-of}
use Rattle.semantics.specs.Configurations.{Component, Frame, Goes, Going, component_at}
use Rattle.semantics.specs.Items.{Doing, Item, Part, Whole, action_of}
use Rattle.semantics.specs.Sites.{Site, behaviour_scope, is_own, runs_on, scope_at, scope_with}
use Rattle.semantics.specs.Snapshots.{Test}
use Rattle.check_rules.specs.Rules.{AreWellTyped}
use Rattle.value_types.specs.declared.path.Path.{Path}

pub found-component-fine : (test : Test) (c : Going) (p : Path) (x : Component) → StandsByRules test (Goes c) → component_at c p ≡ Some x → IsFineComponent test.definitions x
found-component-fine test c p x is found = some-of (IsFineComponent test.definitions) (component_at c p) x found (component-fine test.definitions c p is)

pub queues-differ : (test : Test) (c : Going) (p : Path) (x : Component) → StandsByRules test (Goes c) → component_at c p ≡ Some x → HasQueuesByName x.queues
queues-differ test c p x is found = let fine : IsFineComponent test.definitions x = found-component-fine test c p x is found in fine.queues

pub queue-found : (test : Test) (c : Going) (p : Path) (x : Component) → StandsByRules test (Goes c) → component_at c p ≡ Some x → All (λ q. find (λ r. bytes_eq r.0 q.0) x.queues ≡ Some q) x.queues
queue-found test c p x is found = queues-found x.queues (queues-differ test c p x is found)

-- ---- names

none-first : (a b : Bool) → (a || b) ≡ false → a ≡ false
none-first true b is = is
none-first false b is = refl

none-rest : (a b : Bool) → (a || b) ≡ false → b ≡ false
none-rest true b is = absurd (let e = is in cc)
none-rest false b is = is

-- an entry of another name says nothing
other-says : (b : Bool) (m : Meaning) (before : Option Meaning) → b ≡ false → option_or (if b then Some m else None) before ≡ before
other-says false m before is = refl
other-says true m before is = absurd (let e = is in cc)

same-behind : (scope : Scope) (entries : List Entry) (name : List ℕ) → list_any (λ e. bytes_eq e.0 name) entries ≡ false → (scope_with scope entries).names name ≡ scope.names name
same-behind scope [] name none = refl
same-behind scope (e ∷ entries) name none =
    other-says (bytes_eq e.0 name) e.1 ((scope_with scope entries).names name) (none-first (bytes_eq e.0 name) (list_any (λ e. bytes_eq e.0 name) entries) none)
    ∙ same-behind scope entries name (none-rest (bytes_eq e.0 name) (list_any (λ e. bytes_eq e.0 name) entries) none)

same-in-front : (scope : Scope) (ps : List Parameter) (name : List ℕ) → list_any (λ p. bytes_eq p.name name) ps ≡ false → (behind_all parameter_entry scope ps).names name ≡ scope.names name
same-in-front scope [] name none = refl
same-in-front scope (p ∷ ps) name none =
    same-in-front (declaring scope (parameter_entry scope p ∷ [])) ps name (none-rest (bytes_eq p.name name) (list_any (λ p. bytes_eq p.name name) ps) none)
    ∙ other-says (bytes_eq p.name name) (parameter_entry scope p).1 (scope.names name) (none-first (bytes_eq p.name name) (list_any (λ p. bytes_eq p.name name) ps) none)

-- what such a name stands for is what it stands for outside
pub outside_same : (definitions : List Definition) (site : Site) (name : List ℕ) → is_own definitions site name ≡ false
    → (scope_at definitions site).names name ≡ outer_names definitions (runs_on definitions site.behaviour) name
outside_same definitions site name own =
    let ps = parameters_of (kind_at definitions site.behaviour) in
    same-behind (behaviour_scope definitions site.behaviour) site.declared name
    (none-rest (list_any (λ p. bytes_eq p.name name) ps) (list_any (λ e. bytes_eq e.0 name) site.declared) own)
    ∙ same-in-front (scope_on definitions (runs_on definitions site.behaviour)) ps name
    (none-first (list_any (λ p. bytes_eq p.name name) ps) (list_any (λ e. bytes_eq e.0 name) site.declared) own)

-- ---- what stands first

pub last-frame : (test : Test) (c : Going) (p : Path) (x : Component) (frame : Frame) (below : List Frame) → StandsByRules test (Goes c) → component_at c p ≡ Some x → x.own.calls ≡ frame ∷ below
    → IsFineFrame test.definitions frame
last-frame test c p x frame below is found calls =
    let fine : IsFineComponent test.definitions x = found-component-fine test c p x is found in
    All-head (IsFineFrame test.definitions) frame below (subst (All (IsFineFrame test.definitions)) calls fine.calls)

first-of : (definitions : List Definition) (at : ℕ) (frame : Frame) (item : Item) (rest : List Item) → IsFrameOf definitions at frame → frame.remaining ≡ item ∷ rest → IsFineItem definitions at item
first-of definitions at frame item rest fine stands = All-head (IsFineItem definitions at) item rest (subst (All (IsFineItem definitions at)) stands fine.items)

-- in the words of its own site
of-site : (definitions : List Definition) (at : ℕ) (site : Site) (s : Statement) (part : Part) → IsFineItem definitions at (Doing site s part) → IsFineItem definitions site.behaviour (Doing site s part)
of-site definitions at site s part item =
    let here : IsFineSite definitions at site = item.0 in
    subst (λ n. IsFineItem definitions n (Doing site s part)) (sym here.within) item

pub part-fine : (test : Test) (c : Going) (p : Path) (x : Component) (frame : Frame) (below : List Frame) (site : Site) (s : Statement) (part : Part) (rest : List Item) → StandsByRules test (Goes c)
    → component_at c p ≡ Some x → x.own.calls ≡ frame ∷ below → frame.remaining ≡ Doing site s part ∷ rest → IsFineItem test.definitions site.behaviour (Doing site s part)
part-fine test c p x frame below site s part rest is found calls stands =
    let last : IsFineFrame test.definitions frame = last-frame test c p x frame below is found calls in
    of-site test.definitions last.0 site s part (first-of test.definitions last.0 frame (Doing site s part) rest last.1 stands)

pub whole-fine : (test : Test) (c : Going) (p : Path) (x : Component) (frame : Frame) (below : List Frame) (site : Site) (s : Statement) (rest : List Item) → StandsByRules test (Goes c)
    → component_at c p ≡ Some x → x.own.calls ≡ frame ∷ below → frame.remaining ≡ Doing site s Whole ∷ rest
    → (inside : PlaceIn test.definitions site.behaviour) × HasFineParts (place_at test.definitions site.behaviour (scope_at test.definitions site) inside) (action_of s)
whole-fine test c p x frame below site s rest is found calls stands =
    let item : IsFineItem test.definitions site.behaviour (Doing site s Whole) = part-fine test c p x frame below site s Whole rest is found calls stands in
    (item.1.1.0, parts-of test.definitions site.behaviour site s item.1.1.0 item.0 item.1.1.1)

pub own_free : (test : Test) (c : Going) (p : Path) (x : Component) (frame : Frame) (below : List Frame) (site : Site) (s : Statement) (part : Part) (rest : List Item) (name : List ℕ) → AreWellTyped test.definitions
    → StandsByRules test (Goes c) → component_at c p ≡ Some x → x.own.calls ≡ frame ∷ below → frame.remaining ≡ Doing site s part ∷ rest → is_own test.definitions site name ≡ true
    → IsFree test.definitions site.behaviour name
own_free test c p x frame below site s part rest name well is found calls stands own =
    let item : IsFineItem test.definitions site.behaviour (Doing site s part) = part-fine test c p x frame below site s part rest is found calls stands in
    own-free test.definitions well site.behaviour site name item.0 own
