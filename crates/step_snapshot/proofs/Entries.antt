-- What is found by slots is found by names.
use Rattle.std.proofs.Common.{◌≡◌, ℕ, Bor, Bool, true, false, ◌&&◌, ◌||◌, not, List, [], ◌∷◌, map, Option, Some, None, cond, refl, ap, ◌∙◌}
use Rattle.std.specs.Prelude.{bytes_eq}
use Rattle.std.specs.List.{find, list_any}
use Rattle.std.specs.Option.{option_map}
use Rattle.semantics.specs.Configurations as rules
use Rattle.semantics.specs.Configurations.{path_of, same_path}
use Rattle.semantics.specs.Snapshots.{front_at, holds}
use Rattle.config_parts.specs.Legend.{Legend, component_by, entries_by, queue_by, state_by}
use Rattle.config_parts.specs.declared.component.Component.{Component}
use Rattle.config_parts.specs.declared.component.Queue.{Queue}
use Rattle.value_types.specs.Frames.{entry}
use Rattle.value_types.specs.declared.path.Path.{Path}

either : {A B : Type 0} (f : A → B) (b : Bool) (a : A) (others : Option A) → option_map f (cond b (Some a) others) ≡ cond b (Some (f a)) (option_map f others)
either f true a others = refl
either f false a others = refl

-- the first of what is made of elements is made of the first
find-map : {A B : Type 0} (f : A → B) (p : B → Bool) (xs : List A) → option_map f (find (λ a. p (f a)) xs) ≡ find p (map f xs)
find-map f p [] = refl
find-map f p (a ∷ xs) = either f (p (f a)) a (find (λ x. p (f x)) xs) ∙ ap (cond (p (f a)) (Some (f a))) (find-map f p xs)

find-twice : {A B C : Type 0} (f : A → B) (g : B → C) (p : C → Bool) (xs : List A) → option_map (λ x. g (f x)) (find (λ a. p (g (f a))) xs) ≡ find p (map g (map f xs))
find-twice f g p [] = refl
find-twice f g p (a ∷ xs) = either (λ x. g (f x)) (p (g (f a))) a (find (λ x. p (g (f x))) xs) ∙ ap (cond (p (g (f a))) (Some (g (f a)))) (find-twice f g p xs)

map-twice : {A B C : Type 0} (f : A → B) (g : B → C) (o : Option A) → option_map (λ x. g (f x)) o ≡ option_map g (option_map f o)
map-twice f g None = refl
map-twice f g (Some a) = refl

-- ---- timers

pub entry-by : {A : Type 0} (legend : Legend) (name : List ℕ) (es : List (ℕ × A)) (r : Option (Bor (ℕ × A)))
    → option_map (λ e. e.now) r ≡ find (λ e. bytes_eq (legend.names e.0) name) es → option_map (λ e. e.now.1) r ≡ entry (entries_by legend es) name
entry-by {A} legend name es r found =
    map-twice (λ (e : Bor (ℕ × A)). e.now) (λ (e : ℕ × A). e.1) r ∙ ap (option_map (λ (e : ℕ × A). e.1)) found
    ∙ map-twice (λ (e : ℕ × A). (legend.names e.0, e.1)) (λ (e : List ℕ × A). e.1) (find (λ (e : ℕ × A). bytes_eq (legend.names e.0) name) es)
    ∙ ap (option_map (λ (e : List ℕ × A). e.1)) (find-map (λ (e : ℕ × A). (legend.names e.0, e.1)) (λ (e : List ℕ × A). bytes_eq e.0 name) es)

-- ---- queues

pub queue-by : (legend : Legend) (name : List ℕ) (queues : List Queue) (r : Option (Bor Queue))
    → option_map (λ q. q.now) r ≡ find (λ q. bytes_eq (legend.names q.port) name) queues
    → option_map (λ q. front_at (queue_by legend q.now)) r ≡ find (λ front. bytes_eq front.0 name) (map front_at (map (queue_by legend) queues))
queue-by legend name queues r found =
    map-twice (λ (q : Bor Queue). q.now) (λ q. front_at (queue_by legend q)) r ∙ ap (option_map (λ q. front_at (queue_by legend q))) found
    ∙ find-twice (queue_by legend) front_at (λ front. bytes_eq front.0 name) queues

-- ---- components

-- what a snapshot has of a component
abbrev seen : rules.Component → Path × rules.State
seen component = (path_of component, component.state)

pub state-by : (legend : Legend) (is : rules.State → Bool) (path : Path) (cs : List Component) (r : Option (Bor Component))
    → option_map (λ c. c.now) r ≡ find (λ c. same_path c.itself.path path) cs
    → holds is (option_map (λ c. state_by c.now.state) r) ≡ holds is (option_map (λ (e : Path × rules.State). e.1) (find (λ (e : Path × rules.State). same_path e.0 path) (map seen (map (component_by legend) cs))))
state-by legend is path cs r found =
    ap (holds is) (map-twice (λ (c : Bor Component). c.now) (λ (c : Component). state_by c.state) r ∙ ap (option_map (λ (c : Component). state_by c.state)) found
    ∙ map-twice (λ (c : Component). seen (component_by legend c)) (λ (e : Path × rules.State). e.1) (find (λ (c : Component). same_path c.itself.path path) cs)
    ∙ ap (option_map (λ (e : Path × rules.State). e.1)) (find-twice (component_by legend) seen (λ (e : Path × rules.State). same_path e.0 path) cs))

pub any-by : (legend : Legend) (path : Path) (cs : List Component)
    → list_any (λ c. rules.is_running_state (state_by c.state) && not (same_path c.itself.path path)) cs
    ≡ list_any (λ (e : Path × rules.State). rules.is_running_state e.1 && not (same_path e.0 path)) (map seen (map (component_by legend) cs))
any-by legend path [] = refl
any-by legend path (c ∷ cs) = ap (λ b. (rules.is_running_state (state_by c.state) && not (same_path c.itself.path path)) || b) (any-by legend path cs)
