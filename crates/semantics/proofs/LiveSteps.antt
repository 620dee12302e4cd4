-- What is done among the components is the same from a configuration and from its live part.
use Rattle.std.proofs.Common.{◌≡◌, ℕ, Bool, true, false, ◌&&◌, not, List, [], ◌∷◌, ◌++◌, map, Option, Some, None, is_some, option_map, refl, sym, ap, ◌∙◌, if◌then◌else◌}
use Rattle.std.specs.List.{filter, find, fold}
use Rattle.std.specs.Ordering.{is_lt}
use Rattle.std.proofs.lemmas.Slice.Eq.{bytes_eq-Decides}
use Rattle.ttcn_syntax.specs.declared.tree.statement.Verdict.{Verdict}
use Rattle.ttcn_syntax.specs.declared.tree.statement.Verdict.TheVariants as verdict
use Rattle.semantics.proofs.Verdicts.{none-worse, worse-associates, worse-commutes, worse-none, worse-pairs}
use Rattle.semantics.specs.Configurations.{Component, Connection, End, Going, Message, Terminated, component_at, is_terminated_state, path_of, path_cmp, same_path, worse}
use Rattle.semantics.specs.Entries.{Entries, Identifier}
use Rattle.semantics.specs.LiveParts.{forget_verdict, husk, is_live, live_component, live_going}
use Rattle.semantics.specs.Steps.{add_connection, at_queue, come_in, connection_cmp, insert, is_before, is_terminated_component, put_behind, terminate, touch, unless_terminated, with_connection, with_delivery, with_mappings, with_new, with_state, without_component}
use Rattle.value_types.specs.declared.path.Path.{Path}
use Rattle.value_types.specs.declared.value.Value.{Value}

-- ---- components

abbrev pub is_over : Component → Bool
is_over x = is_terminated_state x.state

-- a change that leaves paths and terminated components alone
record IsGentle (f : Component → Component) : Type 0 where
  path : (x : Component) → path_of (f x) ≡ path_of x
  over : (x : Component) → is_over x ≡ true → f x ≡ x

pub by-state : (P : Component → Type 0) (x : Component) → ((is_over x ≡ true) → P x) → ((is_over x ≡ false) → P x) → P x
by-state P x over alive = told (is_over x) refl
  where
    told : (b : Bool) → is_over x ≡ b → P x
    told true e = over e
    told false e = alive e

pub live-over : (x : Component) → is_over x ≡ true → live_component x ≡ husk (path_of x)
live-over x e = ap (λ b. if b then husk (path_of x) else x) e

pub live-alive : (x : Component) → is_over x ≡ false → live_component x ≡ x
live-alive x e = ap (λ b. if b then husk (path_of x) else x) e

pub live-path : (x : Component) → path_of (live_component x) ≡ path_of x
live-path x = by-state (λ y. path_of (live_component y) ≡ path_of y) x (λ e. ap path_of (live-over x e)) (λ e. ap path_of (live-alive x e))

pub live-is-over : (x : Component) → is_over (live_component x) ≡ is_over x
live-is-over x = by-state (λ y. is_over (live_component y) ≡ is_over y) x (λ e. ap is_over (live-over x e) ∙ sym e) (λ e. ap is_over (live-alive x e))

-- after a gentle change, what lives is the same
gentle-live : (f : Component → Component) → IsGentle f → (x : Component) → live_component (f (live_component x)) ≡ live_component (f x)
gentle-live f gentle x = by-state (λ y. live_component (f (live_component y)) ≡ live_component (f y)) x
    (λ e. ap (λ y. live_component (f y)) (live-over x e) ∙ ap live_component (gentle.over (husk (path_of x)) refl)
    ∙ sym (ap live_component (gentle.over x e) ∙ live-over x e))
    (λ e. ap (λ y. live_component (f y)) (live-alive x e))

gentle-over : (f : Component → Component) → IsGentle f → (x : Component) → is_over (f (live_component x)) ≡ is_over (f x)
gentle-over f gentle x = by-state (λ y. is_over (f (live_component y)) ≡ is_over (f y)) x
    (λ e. ap (λ y. is_over (f y)) (live-over x e) ∙ ap is_over (gentle.over (husk (path_of x)) refl) ∙ sym (ap is_over (gentle.over x e) ∙ e))
    (λ e. ap (λ y. is_over (f y)) (live-alive x e))

-- ---- lists

pub map-twice : {A B C : Type 0} (f : B → C) (g : A → B) (h : A → C) → ((a : A) → f (g a) ≡ h a) → (xs : List A) → map f (map g xs) ≡ map h xs
map-twice f g h same [] = refl
map-twice f g h same (x ∷ xs) = ap (λ y. y ∷ map f (map g xs)) (same x) ∙ ap (λ ys. h x ∷ ys) (map-twice f g h same xs)

over-first : (b : Bool) (x y : Component) (r s : Option Component) → is_over x ≡ is_over y → is_terminated_component r ≡ is_terminated_component s
    → is_terminated_component (if b then Some x else r) ≡ is_terminated_component (if b then Some y else s)
over-first true x y r s first others = first
over-first false x y r s first others = others

-- whether a component of these is terminated
abbrev pub over_in : List Component → Path → Bool
over_in xs p = is_terminated_component (find (λ x. same_path (path_of x) p) xs)

-- a search by path meets terminated components alike
pub found-over : (u v : Component → Component) → ((x : Component) → path_of (u x) ≡ path_of (v x)) → ((x : Component) → is_over (u x) ≡ is_over (v x)) → (p : Path) (xs : List Component)
    → over_in (map u xs) p ≡ over_in (map v xs) p
found-over u v paths overs p [] = refl
found-over u v paths overs p (x ∷ xs) =
    ap (λ q. is_terminated_component (if same_path q p then Some (u x) else find (λ y. same_path (path_of y) p) (map u xs))) (paths x)
    ∙ over-first (same_path (path_of (v x)) p) (u x) (v x) (find (λ y. same_path (path_of y) p) (map u xs)) (find (λ y. same_path (path_of y) p) (map v xs)) (overs x) (found-over u v paths overs p xs)

pub map-same : {A : Type 0} (xs : List A) → map (λ x. x) xs ≡ xs
map-same [] = refl
map-same (x ∷ xs) = ap (λ ys. x ∷ ys) (map-same xs)

pub live-over-in : (p : Path) (xs : List Component) → over_in (map live_component xs) p ≡ over_in xs p
live-over-in p xs = found-over live_component (λ x. x) live-path live-is-over p xs ∙ ap (λ ys. over_in ys p) (map-same xs)

-- who is terminated stays so
over-stays-first : (b : Bool) (x y : Component) (r s : Option Component) → (is_over x ≡ true → is_over y ≡ true) → (is_terminated_component r ≡ true → is_terminated_component s ≡ true)
    → is_terminated_component (if b then Some x else r) ≡ true → is_terminated_component (if b then Some y else s) ≡ true
over-stays-first true x y r s first others e = first e
over-stays-first false x y r s first others e = others e

over-stays : (f : Component → Component) → IsGentle f → (p : Path) (xs : List Component) → over_in xs p ≡ true → over_in (map f xs) p ≡ true
over-stays f gentle p [] e = e
over-stays f gentle p (x ∷ xs) e =
    ap (λ q. is_terminated_component (if same_path q p then Some (f x) else find (λ y. same_path (path_of y) p) (map f xs))) (gentle.path x)
    ∙ over-stays-first (same_path (path_of x) p) x (f x) (find (λ y. same_path (path_of y) p) xs) (find (λ y. same_path (path_of y) p) (map f xs))
    (λ over. ap is_over (gentle.over x over) ∙ over) (over-stays f gentle p xs) e

-- ---- filters

filter-first : {A : Type 0} (b : Bool) (x : A) (xs ys : List A) → xs ≡ ys → (if b then x ∷ xs else xs) ≡ (if b then x ∷ ys else ys)
filter-first b x xs ys e = ap (λ zs. if b then x ∷ zs else zs) e

filter-alike : {A : Type 0} (p q : A → Bool) → ((x : A) → p x ≡ q x) → (xs : List A) → filter p xs ≡ filter q xs
filter-alike p q same [] = refl
filter-alike p q same (x ∷ xs) = ap (λ b. if b then x ∷ filter p xs else filter p xs) (same x) ∙ filter-first (q x) x (filter p xs) (filter q xs) (filter-alike p q same xs)

kept-twice : {A : Type 0} (a b : Bool) (p : A → Bool) (x : A) (xs ys : List A) → p x ≡ a → (a ≡ true → b ≡ true) → filter p xs ≡ ys → filter p (if b then x ∷ xs else xs) ≡ (if a then x ∷ ys else ys)
kept-twice true true p x xs ys is stronger e = ap (λ t. if t then x ∷ filter p xs else filter p xs) is ∙ ap (λ zs. x ∷ zs) e
kept-twice true false p x xs ys is stronger e = absurd (let no = stronger refl in cc)
kept-twice false true p x xs ys is stronger e = ap (λ t. if t then x ∷ filter p xs else filter p xs) is ∙ e
kept-twice false false p x xs ys is stronger e = e

-- a filter behind a weaker one
filter-stronger : {A : Type 0} (p q : A → Bool) → ((x : A) → p x ≡ true → q x ≡ true) → (xs : List A) → filter p (filter q xs) ≡ filter p xs
filter-stronger p q stronger [] = refl
filter-stronger p q stronger (x ∷ xs) = kept-twice (p x) (q x) p x (filter q xs) (filter p xs) refl (stronger x) (filter-stronger p q stronger xs)

swapped-first : {A : Type 0} (a b : Bool) (p q : A → Bool) (x : A) (xs : List A) → p x ≡ a → q x ≡ b → filter p (filter q xs) ≡ filter q (filter p xs)
    → filter p (if b then x ∷ filter q xs else filter q xs) ≡ filter q (if a then x ∷ filter p xs else filter p xs)
swapped-first true true p q x xs i j e =
    ap (λ t. if t then x ∷ filter p (filter q xs) else filter p (filter q xs)) i ∙ ap (λ zs. x ∷ zs) e ∙ sym (ap (λ t. if t then x ∷ filter q (filter p xs) else filter q (filter p xs)) j)
swapped-first true false p q x xs i j e = e ∙ sym (ap (λ t. if t then x ∷ filter q (filter p xs) else filter q (filter p xs)) j)
swapped-first false true p q x xs i j e = ap (λ t. if t then x ∷ filter p (filter q xs) else filter p (filter q xs)) i ∙ e
swapped-first false false p q x xs i j e = e

filter-swap : {A : Type 0} (p q : A → Bool) (xs : List A) → filter p (filter q xs) ≡ filter q (filter p xs)
filter-swap p q [] = refl
filter-swap p q (x ∷ xs) = swapped-first (p x) (q x) p q x xs refl refl (filter-swap p q xs)

filter-first-append : {A : Type 0} (b : Bool) (x : A) (xs ys zs : List A) → zs ≡ xs ++ ys → (if b then x ∷ zs else zs) ≡ (if b then x ∷ xs else xs) ++ ys
filter-first-append true x xs ys zs e = ap (λ us. x ∷ us) e
filter-first-append false x xs ys zs e = e

filter-append : {A : Type 0} (p : A → Bool) (xs ys : List A) → filter p (xs ++ ys) ≡ filter p xs ++ filter p ys
filter-append p [] ys = refl
filter-append p (x ∷ xs) ys = filter-first-append (p x) x (filter p xs) (filter p ys) (filter p (xs ++ ys)) (filter-append p xs ys)

-- ---- verdicts that are forgotten

unfoldable pub contribution : Component → Verdict
contribution x = if is_over x then x.verdict else verdict.None

unfoldable pub total : List Component → Verdict
total [] = verdict.None
total (x ∷ xs) = worse (contribution x) (total xs)

forget-one : (b : Bool) (v w : Verdict) → (if b then worse v w else v) ≡ worse v (if b then w else verdict.None)
forget-one true v w = refl
forget-one false v w = sym (worse-none v)

pub fold-total : (v : Verdict) (xs : List Component) → fold forget_verdict v xs ≡ worse v (total xs)
unfolding total contribution
fold-total v [] = sym (worse-none v)
fold-total v (x ∷ xs) =
    fold-total (forget_verdict v x) xs ∙ ap (λ w. worse w (total xs)) (forget-one (is_over x) v x.verdict) ∙ worse-associates v (contribution x) (total xs)

pub contribution-over : (x : Component) → is_over x ≡ true → contribution x ≡ x.verdict
unfolding contribution
contribution-over x e = ap (λ b. if b then x.verdict else verdict.None) e

pub contribution-alive : (x : Component) → is_over x ≡ false → contribution x ≡ verdict.None
unfolding contribution
contribution-alive x e = ap (λ b. if b then x.verdict else verdict.None) e

contribution-live : (x : Component) → contribution (live_component x) ≡ verdict.None
unfolding contribution
contribution-live x = by-state (λ y. contribution (live_component y) ≡ verdict.None) x (λ e. ap contribution (live-over x e)) (λ e. ap contribution (live-alive x e) ∙ contribution-alive x e)

-- what was forgotten and what is forgotten now make up what is forgotten
contribution-gentle : (f : Component → Component) → IsGentle f → (x : Component) → worse (contribution x) (contribution (f (live_component x))) ≡ contribution (f x)
contribution-gentle f gentle x = by-state (λ y. worse (contribution y) (contribution (f (live_component y))) ≡ contribution (f y)) x
    (λ e. ap (λ y. worse (contribution x) (contribution (f y))) (live-over x e) ∙ ap (λ y. worse (contribution x) (contribution y)) (gentle.over (husk (path_of x)) refl)
    ∙ ap (λ w. worse (contribution x) w) (sym (ap contribution (live-over x e)) ∙ contribution-live x) ∙ worse-none (contribution x) ∙ sym (ap contribution (gentle.over x e)))
    (λ e. ap (λ w. worse w (contribution (f (live_component x)))) (contribution-alive x e) ∙ none-worse (contribution (f (live_component x))) ∙ ap (λ y. contribution (f y)) (live-alive x e))

total-gentle : (f : Component → Component) → IsGentle f → (xs : List Component) → worse (total xs) (total (map f (map live_component xs))) ≡ total (map f xs)
unfolding total
total-gentle f gentle [] = refl
total-gentle f gentle (x ∷ xs) =
    worse-pairs (contribution x) (total xs) (contribution (f (live_component x))) (total (map f (map live_component xs)))
    ∙ ap (λ w. worse w (worse (total xs) (total (map f (map live_component xs))))) (contribution-gentle f gentle x)
    ∙ ap (worse (contribution (f x))) (total-gentle f gentle xs)

-- ---- changes of components

-- a change of each component
abbrev changed : (Component → Component) → Going → Going
changed f c = record { components = map f c.components; connections = c.connections; mappings = c.mappings; delivered = c.delivered; forgotten = c.forgotten }

-- what is done has the same live part from a configuration and from its live part
abbrev pub Keeps : (Going → Going) → Type 0
Keeps f = (c : Going) → live_going (f (live_going c)) ≡ live_going (f c)

pub keeps-both : (f g : Going → Going) → Keeps f → Keeps g → Keeps (λ c. f (g c))
keeps-both f g one other c = sym (one (g (live_going c))) ∙ ap (λ d. live_going (f d)) (other c) ∙ one (g c)

abbrev going-of : List Component → List Connection → Entries End → Entries ℕ → Verdict → Going
going-of cs ks ms ns v = record { components = cs; connections = ks; mappings = ms; delivered = ns; forgotten = v }

-- two configurations of equal parts
going-alike : (cs ds : List Component) (ks ls : List Connection) (ms : Entries End) (ns : Entries ℕ) (v w : Verdict) → cs ≡ ds → ks ≡ ls → v ≡ w → going-of cs ks ms ns v ≡ going-of ds ls ms ns w
going-alike cs ds ks ls ms ns v w a b e = ap (λ xs. going-of xs ks ms ns v) a ∙ ap (λ xs. going-of ds xs ms ns v) b ∙ ap (going-of ds ls ms ns) e

both-over : (a b c d : Bool) → (a ≡ true → c ≡ true) → (b ≡ true → d ≡ true) → not (c && d) ≡ true → not (a && b) ≡ true
both-over true true c d one other e = absurd (let i = one refl in let j = other refl in cc)
both-over true false c d one other e = refl
both-over false b c d one other e = refl

keeps-changed : (f : Component → Component) → IsGentle f → Keeps (changed f)
keeps-changed f gentle c =
    going-alike _ _ _ _ _ _ _ _ components connections forgotten
  where
    before : Going
    before = live_going c

    components : map live_component (map f (map live_component c.components)) ≡ map live_component (map f c.components)
    components = map-twice live_component f (λ x. live_component (f x)) (λ x. refl) (map live_component c.components)
        ∙ map-twice (λ x. live_component (f x)) live_component (λ x. live_component (f x)) (gentle-live f gentle) c.components
        ∙ sym (map-twice live_component f (λ x. live_component (f x)) (λ x. refl) c.components)

    overs : (p : Path) → over_in (map f (map live_component c.components)) p ≡ over_in (map f c.components) p
    overs p = ap (λ xs. over_in xs p) (map-twice f live_component (λ x. f (live_component x)) (λ x. refl) c.components)
        ∙ found-over (λ x. f (live_component x)) f (λ x. gentle.path (live_component x) ∙ live-path x ∙ sym (gentle.path x)) (gentle-over f gentle) p c.components

    connections : filter (is_live (changed f (live_going c))) (filter (is_live c) c.connections) ≡ filter (is_live (changed f c)) c.connections
    connections = filter-alike (is_live (changed f (live_going c))) (is_live (changed f c))
        (λ k. ap (λ b. not (b && over_in (map f (map live_component c.components)) k.other.component)) (overs k.one.component) ∙ ap (λ b. not (over_in (map f c.components) k.one.component && b)) (overs k.other.component))
        (filter (is_live c) c.connections)
        ∙ filter-stronger (is_live (changed f c)) (is_live c)
        (λ k. both-over (over_in c.components k.one.component) (over_in c.components k.other.component) (over_in (map f c.components) k.one.component) (over_in (map f c.components) k.other.component)
        (over-stays f gentle k.one.component c.components) (over-stays f gentle k.other.component c.components))
        c.connections

    forgotten : fold forget_verdict (fold forget_verdict c.forgotten c.components) (map f (map live_component c.components)) ≡ fold forget_verdict c.forgotten (map f c.components)
    forgotten = fold-total (fold forget_verdict c.forgotten c.components) (map f (map live_component c.components))
        ∙ ap (λ v. worse v (total (map f (map live_component c.components)))) (fold-total c.forgotten c.components)
        ∙ worse-associates c.forgotten (total c.components) (total (map f (map live_component c.components)))
        ∙ ap (worse c.forgotten) (total-gentle f gentle c.components)
        ∙ sym (fold-total c.forgotten (map f c.components))

-- a change of one component that keeps its path
unfoldable pub pick : (Component → Component) → Path → Component → Component
pick change p x = if same_path (path_of x) p then unless_terminated change x else x

pub unless-path : (b : Bool) (change : Component → Component) (x : Component) → path_of (change x) ≡ path_of x → path_of (if b then x else change x) ≡ path_of x
unless-path true change x e = refl
unless-path false change x e = e

pick-path : (b : Bool) (change : Component → Component) (x : Component) → path_of (change x) ≡ path_of x → path_of (if b then unless_terminated change x else x) ≡ path_of x
pick-path true change x e = unless-path (is_over x) change x e
pick-path false change x e = refl

pick-over : (b : Bool) (change : Component → Component) (x : Component) → is_over x ≡ true → (if b then unless_terminated change x else x) ≡ x
pick-over true change x e = ap (λ t. if t then x else change x) e
pick-over false change x e = refl

pick-gentle : (change : Component → Component) → ((x : Component) → path_of (change x) ≡ path_of x) → (p : Path) → IsGentle (pick change p)
unfolding pick
pick-gentle change keeps p = record {
  path = λ x. pick-path (same_path (path_of x) p) change x (keeps x);
  over = λ x e. pick-over (same_path (path_of x) p) change x e;
}

pub keeps_touch : (change : Component → Component) → ((x : Component) → path_of (change x) ≡ path_of x) → (p : Path) → Keeps (λ c. touch c p change)
unfolding pick
keeps_touch change keeps p = keeps-changed (pick change p) (pick-gentle change keeps p)

-- ---- live parts of live parts

live-itself : (x : Component) → live_component (live_component x) ≡ live_component x
live-itself x = by-state (λ y. live_component (live_component y) ≡ live_component y) x (λ e. ap live_component (live-over x e) ∙ sym (live-over x e)) (λ e. ap live_component (live-alive x e))

id-gentle : IsGentle (λ x. x)
id-gentle = record { path = λ x. refl; over = λ x e. refl }

pub live-twice : (c : Going) → live_going (live_going c) ≡ live_going c
live-twice c =
    ap (λ xs. live_going (going-of xs (live_going c).connections c.mappings c.delivered (live_going c).forgotten)) (sym (map-same (live_going c).components))
    ∙ keeps-changed (λ x. x) id-gentle c
    ∙ ap (λ xs. live_going (going-of xs c.connections c.mappings c.delivered c.forgotten)) (map-same c.components)

pub alike : (f : Going → Going) → Keeps f → (c d : Going) → live_going c ≡ live_going d → live_going (f c) ≡ live_going (f d)
alike f keeps c d e = sym (keeps c) ∙ ap (λ x. live_going (f x)) e ∙ keeps d

-- ---- finding

find-live-first : (b : Bool) (x : Component) (r : Option Component) (s : Option Component) → r ≡ option_map live_component s → (if b then Some (live_component x) else r) ≡ option_map live_component (if b then Some x else s)
find-live-first true x r s e = refl
find-live-first false x r s e = e

find-live : (p : Path) (xs : List Component) → find (λ x. same_path (path_of x) p) (map live_component xs) ≡ option_map live_component (find (λ x. same_path (path_of x) p) xs)
find-live p [] = refl
find-live p (x ∷ xs) =
    ap (λ q. if same_path q p then Some (live_component x) else find (λ y. same_path (path_of y) p) (map live_component xs)) (live-path x)
    ∙ find-live-first (same_path (path_of x) p) x (find (λ y. same_path (path_of y) p) (map live_component xs)) (find (λ y. same_path (path_of y) p) xs) (find-live p xs)

pub component-live : (c : Going) (p : Path) → component_at (live_going c) p ≡ option_map live_component (component_at c p)
component-live c p = find-live p c.components

-- ---- new components

before-live : (new x : Component) → is_before new (live_component x) ≡ is_before new x
before-live new x = ap (λ p. is_lt (path_cmp (path_of new) p)) (live-path x)

insert-first : (b : Bool) (new x : Component) (xs ys zs : List Component) → map live_component xs ≡ map live_component ys → map live_component (insert new xs) ≡ map live_component zs
    → map live_component (if b then new ∷ live_component x ∷ xs else live_component x ∷ insert new xs) ≡ map live_component (if b then new ∷ x ∷ ys else x ∷ zs)
insert-first true new x xs ys zs e i = ap (λ us. live_component new ∷ us) (ap (λ y. y ∷ map live_component xs) (live-itself x) ∙ ap (λ us. live_component x ∷ us) e)
insert-first false new x xs ys zs e i = ap (λ y. y ∷ map live_component (insert new xs)) (live-itself x) ∙ ap (λ us. live_component x ∷ us) i

insert-live : (new : Component) (xs : List Component) → map live_component (insert new (map live_component xs)) ≡ map live_component (insert new xs)
insert-live new [] = refl
insert-live new (x ∷ xs) =
    ap (λ b. map live_component (if b then new ∷ live_component x ∷ map live_component xs else live_component x ∷ insert new (map live_component xs))) (before-live new x)
    ∙ insert-first (is_before new x) new x (map live_component xs) xs (insert new xs) (map-twice live_component live_component live_component live-itself xs) (insert-live new xs)

insert-over-first : (b : Bool) (new x : Component) (xs ys zs us : List Component) (p : Path) → over_in (live_component x ∷ xs) p ≡ over_in (x ∷ ys) p → over_in us p ≡ over_in zs p
    → over_in (if b then new ∷ live_component x ∷ xs else live_component x ∷ us) p ≡ over_in (if b then new ∷ x ∷ ys else x ∷ zs) p
insert-over-first true new x xs ys zs us p e i = over-first (same_path (path_of new) p) new new (find (λ y. same_path (path_of y) p) (live_component x ∷ xs)) (find (λ y. same_path (path_of y) p) (x ∷ ys)) refl e
insert-over-first false new x xs ys zs us p e i =
    ap (λ q. is_terminated_component (if same_path q p then Some (live_component x) else find (λ y. same_path (path_of y) p) us)) (live-path x)
    ∙ over-first (same_path (path_of x) p) (live_component x) x (find (λ y. same_path (path_of y) p) us) (find (λ y. same_path (path_of y) p) zs) (live-is-over x) i

insert-over : (new : Component) (p : Path) (xs : List Component) → over_in (insert new (map live_component xs)) p ≡ over_in (insert new xs) p
insert-over new p [] = refl
insert-over new p (x ∷ xs) =
    ap (λ b. over_in (if b then new ∷ live_component x ∷ map live_component xs else live_component x ∷ insert new (map live_component xs)) p) (before-live new x)
    ∙ insert-over-first (is_before new x) new x (map live_component xs) xs (insert new xs) (insert new (map live_component xs)) p (live-over-in p (x ∷ xs)) (insert-over new p xs)

-- the path of a new component is new
abbrev is_new : Path → List Component → Bool
is_new q xs = not (is_some (find (λ x. same_path (path_of x) q) xs))

no-one : (q : Path) (o : Option Component) → not (is_some o) ≡ true → is_terminated_component o ≡ false
no-one q None e = refl
no-one q (Some x) e = absurd (let no = e in cc)

new-rest-first : (b : Bool) (x : Component) (o : Option Component) → not (is_some (if b then Some x else o)) ≡ true → not (is_some o) ≡ true
new-rest-first true x o e = absurd (let no = e in cc)
new-rest-first false x o e = e

pub path-is : (p q : Path) → same_path p q ≡ true → p ≡ q
path-is p q e = ap (λ n. record { numbers = n }) ((bytes_eq-Decides p.numbers q.numbers).0 e)

stays-first : (b : Bool) (new : Component) (p : Path) (xs : List Component) → same_path (path_of new) p ≡ b → is_new (path_of new) xs ≡ true → over_in xs p ≡ true
    → is_terminated_component (if b then Some new else find (λ y. same_path (path_of y) p) xs) ≡ true
stays-first true new p xs is none e =
    absurd (let same : path_of new ≡ p = path-is (path_of new) p is in
    let over : over_in xs (path_of new) ≡ false = no-one (path_of new) (find (λ x. same_path (path_of x) (path_of new)) xs) none in
    let no : true ≡ false = sym e ∙ ap (over_in xs) (sym same) ∙ over in cc)
stays-first false new p xs is none e = e

insert-stays-first : (b : Bool) (new x : Component) (p : Path) (xs us : List Component) → is_new (path_of new) (x ∷ xs) ≡ true → over_in (x ∷ xs) p ≡ true → (over_in xs p ≡ true → over_in us p ≡ true)
    → over_in (if b then new ∷ x ∷ xs else x ∷ us) p ≡ true
insert-stays-first true new x p xs us none e rest = stays-first (same_path (path_of new) p) new p (x ∷ xs) refl none e
insert-stays-first false new x p xs us none e rest =
    over-stays-first (same_path (path_of x) p) x x (find (λ y. same_path (path_of y) p) xs) (find (λ y. same_path (path_of y) p) us) (λ over. over) rest e

insert-stays : (new : Component) (p : Path) (xs : List Component) → is_new (path_of new) xs ≡ true → over_in xs p ≡ true → over_in (insert new xs) p ≡ true
insert-stays new p [] none e = absurd (let no = e in cc)
insert-stays new p (x ∷ xs) none e =
    insert-stays-first (is_before new x) new x p xs (insert new xs) none e
    (insert-stays new p xs (new-rest-first (same_path (path_of x) (path_of new)) x (find (λ y. same_path (path_of y) (path_of new)) xs) none))

insert-total-first : (b : Bool) (new x : Component) (xs us : List Component) → total us ≡ worse (contribution new) (total xs) → total (if b then new ∷ x ∷ xs else x ∷ us) ≡ worse (contribution new) (worse (contribution x) (total xs))
unfolding total
insert-total-first true new x xs us e = refl
insert-total-first false new x xs us e =
    ap (worse (contribution x)) e ∙ sym (worse-associates (contribution x) (contribution new) (total xs)) ∙ ap (λ v. worse v (total xs)) (worse-commutes (contribution x) (contribution new))
    ∙ worse-associates (contribution new) (contribution x) (total xs)

insert-total : (new : Component) (xs : List Component) → total (insert new xs) ≡ worse (contribution new) (total xs)
unfolding total
insert-total new [] = refl
insert-total new (x ∷ xs) = insert-total-first (is_before new x) new x xs (insert new xs) (insert-total new xs)

total-live : (xs : List Component) → total (map live_component xs) ≡ verdict.None
unfolding total
total-live [] = refl
total-live (x ∷ xs) = ap (λ v. worse v (total (map live_component xs))) (contribution-live x) ∙ none-worse (total (map live_component xs)) ∙ total-live xs

abbrev new-if : Bool → Component → Going → Going
new-if b new c = going-of (if b then c.components else insert new c.components) c.connections c.mappings c.delivered c.forgotten

keeps-new-if : (b : Bool) (new : Component) (c : Going) → is_some (component_at c (path_of new)) ≡ b → live_going (new-if b new (live_going c)) ≡ live_going (new-if b new c)
keeps-new-if true new c is = live-twice c
keeps-new-if false new c is = going-alike _ _ _ _ _ _ _ _ (insert-live new c.components) connections forgotten
  where
    none : is_new (path_of new) c.components ≡ true
    none = ap not is

    connections : filter (is_live (new-if false new (live_going c))) (filter (is_live c) c.connections) ≡ filter (is_live (new-if false new c)) c.connections
    connections = filter-alike (is_live (new-if false new (live_going c))) (is_live (new-if false new c))
        (λ k. ap (λ b. not (b && over_in (insert new (map live_component c.components)) k.other.component)) (insert-over new k.one.component c.components)
        ∙ ap (λ b. not (over_in (insert new c.components) k.one.component && b)) (insert-over new k.other.component c.components))
        (filter (is_live c) c.connections)
        ∙ filter-stronger (is_live (new-if false new c)) (is_live c)
        (λ k. both-over (over_in c.components k.one.component) (over_in c.components k.other.component) (over_in (insert new c.components) k.one.component) (over_in (insert new c.components) k.other.component)
        (insert-stays new k.one.component c.components none) (insert-stays new k.other.component c.components none))
        c.connections

    forgotten : fold forget_verdict (fold forget_verdict c.forgotten c.components) (insert new (map live_component c.components)) ≡ fold forget_verdict c.forgotten (insert new c.components)
    forgotten = fold-total (fold forget_verdict c.forgotten c.components) (insert new (map live_component c.components))
        ∙ ap (λ v. worse v (total (insert new (map live_component c.components)))) (fold-total c.forgotten c.components)
        ∙ ap (worse (worse c.forgotten (total c.components))) (insert-total new (map live_component c.components) ∙ ap (worse (contribution new)) (total-live c.components) ∙ worse-none (contribution new))
        ∙ worse-associates c.forgotten (total c.components) (contribution new)
        ∙ ap (worse c.forgotten) (worse-commutes (total c.components) (contribution new) ∙ sym (insert-total new c.components))
        ∙ sym (fold-total c.forgotten (insert new c.components))

some-live : (o : Option Component) → is_some (option_map live_component o) ≡ is_some o
some-live None = refl
some-live (Some x) = refl

pub keeps_new : (new : Component) → Keeps (with_new new)
keeps_new new c =
    ap (λ b. live_going (new-if b new (live_going c))) (ap is_some (component-live c (path_of new)) ∙ some-live (component_at c (path_of new)))
    ∙ keeps-new-if (is_some (component_at c (path_of new))) new c refl

-- ---- connections

filter-own : {A : Type 0} (p : A → Bool) (xs : List A) → filter p (filter p xs) ≡ filter p xs
filter-own p xs = filter-stronger p p (λ x e. e) xs

pub live-flags : (c : Going) (k : Connection) → is_live (live_going c) k ≡ is_live c k
live-flags c k = ap (λ b. not (b && over_in (map live_component c.components) k.other.component)) (live-over-in k.one.component c.components)
    ∙ ap (λ b. not (over_in c.components k.one.component && b)) (live-over-in k.other.component c.components)

abbrev under : Connection → Connection → Bool
under new k = is_lt (connection_cmp k new)

abbrev above : Connection → Connection → Bool
above new k = is_lt (connection_cmp new k)

added-live : (p : Connection → Bool) (new : Connection) (ks : List Connection) → filter p (add_connection new (filter p ks)) ≡ filter p (add_connection new ks)
added-live p new ks =
    filter-append p (filter (under new) (filter p ks)) (new ∷ filter (above new) (filter p ks))
    ∙ ap (λ us. us ++ filter p (new ∷ filter (above new) (filter p ks))) (filter-swap p (under new) (filter p ks) ∙ ap (filter (under new)) (filter-own p ks) ∙ sym (filter-swap p (under new) ks))
    ∙ ap (λ us. filter p (filter (under new) ks) ++ (if p new then new ∷ us else us)) (filter-swap p (above new) (filter p ks) ∙ ap (filter (above new)) (filter-own p ks) ∙ sym (filter-swap p (above new) ks))
    ∙ sym (filter-append p (filter (under new) ks) (new ∷ filter (above new) ks))

pub keeps_connection : (new : Connection) → Keeps (with_connection new)
keeps_connection new c = going-alike _ _ _ _ _ _ _ _
    (map-twice live_component live_component live_component live-itself c.components)
    (filter-alike (is_live (live_going c)) (is_live c) (live-flags c) (add_connection new (filter (is_live c) c.connections)) ∙ added-live (is_live c) new c.connections)
    (ap (λ d. d.forgotten) (live-twice c))

-- ---- mappings

pub keeps-mappings : (change : Entries End → Entries End) → Keeps (λ c. with_mappings (change c.mappings) c)
keeps-mappings change c = ap (with_mappings (change c.mappings)) (live-twice c)

-- a component terminates
pub keeps-terminated : (p : Path) → Keeps (terminate p)
keeps-terminated p =
    keeps-both (λ c. with_mappings (without_component p c.mappings) c) (λ c. touch c p (with_state Terminated)) (keeps-mappings (without_component p)) (keeps_touch (with_state Terminated) (λ x. refl) p)

-- ---- deliveries

pub keeps-delivery : (system_port : Identifier) → Keeps (with_delivery system_port)
keeps-delivery system_port c = ap (with_delivery system_port) (live-twice c)

pub keeps-behind : (message : Message) (e : End) → Keeps (put_behind message e)
keeps-behind message e = keeps_touch (at_queue e.port (λ messages. messages ++ message ∷ [])) (λ x. refl) e.component

pub keeps-come-in : (system_port : Identifier) (e : End) (v : Value) → Keeps (come_in system_port e v)
keeps-come-in system_port e v = keeps-both (with_delivery system_port) (put_behind (record { value = v; sender = None }) e) (keeps-delivery system_port) (keeps-behind (record { value = v; sender = None }) e)
