-- Changes of one component that keep its path and its state: twice the same one, in live parts, and by its place.
use Rattle.std.proofs.Common.{◌≡◌, ℕ, zero, suc, Bool, true, false, ◌&&◌, not, List, [], ◌∷◌, map, Some, refl, sym, ap, subst, ◌∙◌, if◌then◌else◌}
use Rattle.std.specs.List.{All, filter, fold}
use Rattle.std.specs.Prelude.{slice_get}
use Rattle.std.specs.declared.cmp.Ordering.TheVariants.{Less}
use Rattle.std.proofs.lemmas.List.Elements.{All-head, All-tail}
use Rattle.std.proofs.lemmas.Slice.Eq.{bytes_eq-Decides}
use Rattle.ttcn_syntax.specs.declared.tree.statement.Verdict.{Verdict}
use Rattle.semantics.proofs.LabelOrder.{names-alike}
use Rattle.semantics.proofs.LiveSteps.{by-state, found-over, is_over, live-alive, map-same, map-twice, over_in, path-is}
use Rattle.semantics.proofs.Pairs.{pairs-head, pairs-tail}
use Rattle.semantics.specs.Configurations.{Component, Going, path_cmp, path_of, same_path, worse}
use Rattle.semantics.specs.LiveParts.{forget_verdict, is_live, live_component, live_going}
use Rattle.semantics.specs.Order.{Ascends}
use Rattle.semantics.specs.Steps.{touch, unless_terminated}
use Rattle.laws_local.specs.Alone.{exchanged_at, with_component_at}
use Rattle.value_types.specs.declared.path.Path.{Path}

-- a change that keeps paths, and who is terminated
pub record IsMild (f : Component → Component) : Type 0 where
  pub path : (x : Component) → path_of (f x) ≡ path_of x
  pub over : (x : Component) → is_over (f x) ≡ is_over x

abbrev chosen : Bool → Bool → Component → Component → Component
chosen here over x y = if here then (if over then x else y) else x

-- what a touch makes of each component
abbrev pub touched : Path → (Component → Component) → Component → Component
touched p f x = if same_path (path_of x) p then unless_terminated f x else x

-- ---- twice

twice-one : (p : Path) (f g : Component → Component) → IsMild f → (x : Component) (here over : Bool) → same_path (path_of x) p ≡ here → is_over x ≡ over
    → touched p g (chosen here over x (f x)) ≡ chosen here over x (g (f x))
twice-one p f g mild x true true here over = ap (λ a. chosen a (is_over x) x (g x)) here ∙ ap (λ b. chosen true b x (g x)) over
twice-one p f g mild x true false here over =
    ap (λ q. chosen (same_path q p) (is_over (f x)) (f x) (g (f x))) (mild.path x)
    ∙ ap (λ a. chosen a (is_over (f x)) (f x) (g (f x))) here
    ∙ ap (λ b. chosen true b (f x) (g (f x))) (mild.over x ∙ over)
twice-one p f g mild x false over here is = ap (λ a. chosen a (is_over x) x (g x)) here

pub touch-twice : (p : Path) (f g : Component → Component) → IsMild f → (c : Going) → touch (touch c p f) p g ≡ touch c p (λ x. g (f x))
touch-twice p f g mild c =
    ap (λ xs. record { components = xs; connections = c.connections; mappings = c.mappings; delivered = c.delivered; forgotten = c.forgotten })
    (map-twice (touched p g) (touched p f) (touched p (λ x. g (f x))) (λ x. twice-one p f g mild x (same_path (path_of x) p) (is_over x) refl refl) c.components)

-- ---- live parts

touched-path : (p : Path) (f : Component → Component) → IsMild f → (x : Component) (here over : Bool) → path_of (chosen here over x (f x)) ≡ path_of x
touched-path p f mild x true true = refl
touched-path p f mild x true false = mild.path x
touched-path p f mild x false over = refl

touched-over : (f : Component → Component) → IsMild f → (x : Component) (here over : Bool) → is_over (chosen here over x (f x)) ≡ is_over x
touched-over f mild x true true = refl
touched-over f mild x true false = mild.over x
touched-over f mild x false over = refl

-- who is terminated stays as it is
touched-rests : (f : Component → Component) (x : Component) (here : Bool) → is_over x ≡ true → chosen here (is_over x) x (f x) ≡ x
touched-rests f x true over = ap (λ b. chosen true b x (f x)) over
touched-rests f x false over = refl

live-one : (p : Path) (f : Component → Component) → IsMild f → (x : Component) → live_component x ≡ x → live_component (touched p f x) ≡ touched p f x
live-one p f mild x live = by-state (λ y. live_component y ≡ y → live_component (touched p f y) ≡ touched p f y) x
    (λ over e. ap live_component (touched-rests f x (same_path (path_of x) p) over) ∙ e ∙ sym (touched-rests f x (same_path (path_of x) p) over))
    (λ alive e. live-alive (touched p f x) (touched-over f mild x (same_path (path_of x) p) (is_over x) ∙ alive))
    live

pub head-is : (x y : Component) (xs ys : List Component) → x ∷ xs ≡ y ∷ ys → x ≡ y
head-is x y xs ys e = cc

pub tail-is : (x y : Component) (xs ys : List Component) → x ∷ xs ≡ y ∷ ys → xs ≡ ys
tail-is x y xs ys e = cc

live-all : (p : Path) (f : Component → Component) → IsMild f → (xs : List Component) → map live_component xs ≡ xs → map live_component (map (touched p f) xs) ≡ map (touched p f) xs
live-all p f mild [] live = refl
live-all p f mild (x ∷ xs) live =
    ap (λ y. y ∷ map live_component (map (touched p f) xs)) (live-one p f mild x (head-is (live_component x) x (map live_component xs) xs live))
    ∙ ap (λ ys. touched p f x ∷ ys) (live-all p f mild xs (tail-is (live_component x) x (map live_component xs) xs live))

over-same : (p : Path) (f : Component → Component) → IsMild f → (q : Path) (xs : List Component) → over_in (map (touched p f) xs) q ≡ over_in xs q
over-same p f mild q xs =
    found-over (touched p f) (λ x. x) (λ x. touched-path p f mild x (same_path (path_of x) p) (is_over x)) (λ x. touched-over f mild x (same_path (path_of x) p) (is_over x)) q xs
    ∙ ap (λ ys. over_in ys q) (map-same xs)

pub filter-alike : {A : Type 0} (p q : A → Bool) → ((x : A) → p x ≡ q x) → (xs : List A) → filter p xs ≡ filter q xs
filter-alike p q same [] = refl
filter-alike p q same (x ∷ xs) = ap (λ b. if b then x ∷ filter p xs else filter p xs) (same x) ∙ ap (λ zs. if q x then x ∷ zs else zs) (filter-alike p q same xs)

forget-one : (p : Path) (f : Component → Component) → IsMild f → (v : Verdict) (x : Component) → forget_verdict v (touched p f x) ≡ forget_verdict v x
forget-one p f mild v x = by-state (λ y. forget_verdict v (touched p f y) ≡ forget_verdict v y) x
    (λ over. ap (forget_verdict v) (touched-rests f x (same_path (path_of x) p) over))
    (λ alive. ap (λ b. if b then worse v (touched p f x).verdict else v) (touched-over f mild x (same_path (path_of x) p) (is_over x) ∙ alive)
    ∙ sym (ap (λ b. if b then worse v x.verdict else v) alive))

forget-all : (p : Path) (f : Component → Component) → IsMild f → (v : Verdict) (xs : List Component) → fold forget_verdict v (map (touched p f) xs) ≡ fold forget_verdict v xs
forget-all p f mild v [] = refl
forget-all p f mild v (x ∷ xs) = ap (λ w. fold forget_verdict w (map (touched p f) xs)) (forget-one p f mild v x) ∙ forget-all p f mild (forget_verdict v x) xs

-- a mild change of what is a live part gives a live part
pub touch_lives : (p : Path) (f : Component → Component) → IsMild f → (c : Going) → live_going c ≡ c → live_going (touch c p f) ≡ touch c p f
touch_lives p f mild c live =
    λ i. record { components = components i; connections = connections i; mappings = c.mappings; delivered = c.delivered; forgotten = forgotten i }
  where
    components : map live_component (map (touched p f) c.components) ≡ map (touched p f) c.components
    components = live-all p f mild c.components (ap (λ (d : Going). d.components) live)

    connections : filter (is_live (touch c p f)) c.connections ≡ c.connections
    connections =
        filter-alike (is_live (touch c p f)) (is_live c)
        (λ k. ap (λ b. not (b && over_in (map (touched p f) c.components) k.other.component)) (over-same p f mild k.one.component c.components)
        ∙ ap (λ b. not (over_in c.components k.one.component && b)) (over-same p f mild k.other.component c.components))
        c.connections
        ∙ ap (λ (d : Going). d.connections) live

    forgotten : fold forget_verdict c.forgotten (map (touched p f) c.components) ≡ c.forgotten
    forgotten = forget-all p f mild c.forgotten c.components ∙ ap (λ (d : Going). d.forgotten) live

-- ---- by the place

pub same-itself : (p : Path) → same_path p p ≡ true
same-itself p = (bytes_eq-Decides p.numbers p.numbers).1 refl

not-before-itself : (p : Path) → path_cmp p p ≡ Less → ⊥
not-before-itself p less = let found = sym (names-alike p.numbers) ∙ less in cc

-- a path before another is another one
pub before-apart : (p q : Path) (same : Bool) → path_cmp p q ≡ Less → same_path p q ≡ same → same ≡ false
before-apart p q false less is = refl
before-apart p q true less is = absurd (not-before-itself p (subst (λ r. path_cmp p r ≡ Less) (sym (path-is p q is)) less))

pub behind-apart : (p q : Path) (same : Bool) → path_cmp p q ≡ Less → same_path q p ≡ same → same ≡ false
behind-apart p q false less is = refl
behind-apart p q true less is = absurd (not-before-itself p (subst (λ r. path_cmp p r ≡ Less) (path-is q p is) less))

abbrev pub is-before : Component → Component → Type 0
is-before x y = path_cmp (path_of x) (path_of y) ≡ Less

others-stay : (f : Component → Component) (y : Component) (xs : List Component) → All (is-before y) xs → map (touched (path_of y) f) xs ≡ xs
others-stay f y [] all = refl
others-stay f y (x ∷ xs) all =
    ap (λ b. (if b then unless_terminated f x else x) ∷ map (touched (path_of y) f) xs)
    (before-apart-turned (All-head (is-before y) x xs all))
    ∙ ap (λ zs. x ∷ zs) (others-stay f y xs (All-tail (is-before y) x xs all))
  where
    before-apart-turned : path_cmp (path_of y) (path_of x) ≡ Less → same_path (path_of x) (path_of y) ≡ false
    before-apart-turned less = behind-apart (path_of y) (path_of x) (same_path (path_of x) (path_of y)) less refl

pub before-found : (x : Component) (xs : List Component) (at : ℕ) (y : Component) → All (is-before x) xs → slice_get xs at ≡ Some y → is-before x y
before-found x [] at y all found = absurd (let no = found in cc)
before-found x (z ∷ zs) zero y all found = subst (is-before x) (let e = found in let same : z ≡ y = cc in same) (All-head (is-before x) z zs all)
before-found x (z ∷ zs) (suc at) y all found = before-found x zs at y (All-tail (is-before x) z zs all) found

touch-first : (f : Component → Component) (x y : Component) (xs : List Component) → x ≡ y → is_over y ≡ false → All (is-before x) xs → map (touched (path_of y) f) (x ∷ xs) ≡ f y ∷ xs
touch-first f x y xs e alive all =
    subst (λ (z : Component). All (is-before z) xs → map (touched (path_of y) f) (z ∷ xs) ≡ f y ∷ xs) (sym e)
    (λ before. ap (λ zs. touched (path_of y) f y ∷ zs) (others-stay f y xs before)
    ∙ ap (λ b. (if b then unless_terminated f y else y) ∷ xs) (same-itself (path_of y))
    ∙ ap (λ b. (if b then y else f y) ∷ xs) alive)
    all

touch-list : (f : Component → Component) (y : Component) (at : ℕ) (xs : List Component) → Ascends (λ one other. path_cmp (path_of one) (path_of other)) xs → slice_get xs at ≡ Some y → is_over y ≡ false
    → map (touched (path_of y) f) xs ≡ exchanged_at at (f y) xs
touch-list f y at [] ascend found alive = refl
touch-list f y zero (x ∷ xs) ascend found alive =
    touch-first f x y xs (let e = found in let same : x ≡ y = cc in same) alive (pairs-head is-before x xs ascend)
touch-list f y (suc at) (x ∷ xs) ascend found alive =
    ap (λ b. (if b then unless_terminated f x else x) ∷ map (touched (path_of y) f) xs)
    (before-apart (path_of x) (path_of y) (same_path (path_of x) (path_of y)) (before-found x xs at y (pairs-head is-before x xs ascend) found) refl)
    ∙ ap (λ zs. x ∷ zs) (touch-list f y at xs (pairs-tail is-before x xs ascend) found alive)

-- a change of the component with a path is one of the component at its place
pub touch_by_place : (f : Component → Component) (y : Component) (at : ℕ) (c : Going) → Ascends (λ one other. path_cmp (path_of one) (path_of other)) c.components → slice_get c.components at ≡ Some y → is_over y ≡ false
    → touch c (path_of y) f ≡ with_component_at at (f y) c
touch_by_place f y at c ascend found alive =
    ap (λ xs. record { components = xs; connections = c.connections; mappings = c.mappings; delivered = c.delivered; forgotten = c.forgotten })
    (touch-list f y at c.components ascend found alive)
