-- Fine steps: what is stored in the code is what is held in the rules.
use Rattle.std.proofs.Common.{◌≡◌, Bool, true, false, not, List, [], ◌∷◌, map, Option, Some, None, IfSome, bytes_eq, option_map, refl, sym, ap, subst, ◌∙◌, if◌then◌else◌}
use Rattle.std.specs.List.{All, filter, find}
use Rattle.std.proofs.lemmas.List.Elements.{All-cons, All-filter, All-head, All-nil, All-tail}
use Rattle.ttcn_syntax.specs.declared.tree.statement.Verdict.{Verdict}
use Rattle.laws_fine.specs.Fine.{is_found}
use Rattle.laws_fine.specs.Holding.{follow, held_at, still_held, without_held}
use Rattle.laws_order.proofs.Runs.{applied-stands-in-order}
use Rattle.laws_order.specs.Order.{StandsInOrder}
use Rattle.semantics.specs.Configurations as rules
use Rattle.semantics.specs.Configurations.{component_at, is_running_state, same_path}
use Rattle.semantics.specs.Snapshots.{Snapshot, Test}
use Rattle.semantics.specs.Statements.{act}
use Rattle.semantics.specs.Steps.{Label, apply, settled}
use Rattle.config_parts.proofs.Applied.{find-by}
use Rattle.config_parts.specs.Legend.{Legend, component_by, config_by, going_by}
use Rattle.config_parts.specs.Views.{IsConfigWithin}
use Rattle.config_parts.specs.declared.component.Component.{Component}
use Rattle.config_parts.specs.declared.config.Config.{Config}
use Rattle.config_parts.specs.declared.config.Config.TheVariants as config
use Rattle.config_parts.specs.declared.config.Going.{Going}
use Rattle.ttcn_step.proofs.FramesKept.{applied-kept}
use Rattle.ttcn_step.specs.FrameLimit.{AllKeepFrameLimit}
use Rattle.ttcn_step.specs.Machines.{Fits, Machine, extent, legend, said}
use Rattle.ttcn_step.specs.declared.fine.Stored.{Stored}
use Rattle.ttcn_step.specs.internal.Fine.{found_runs, held_by, runs, still}
use Rattle.value_types.specs.declared.path.Path.{Path}
use Rattle.value_types.specs.declared.value.ComponentId.{ComponentId}

-- ---- what is found

found-first : {A B : Type 0} (f : A → B) (a : A) (b : Bool) (r : Option B) (o : Option A) → r ≡ option_map f o → (if b then Some (f a) else r) ≡ option_map f (if b then Some a else o)
found-first f a true r o rest = refl
found-first f a false r o rest = rest

pub held-found : (l : Legend) (p : Path) (stored : List Stored) → held_at (map (held_by l) stored) p ≡ option_map (held_by l) (find (λ entry. bytes_eq entry.path.numbers p.numbers) stored)
held-found l p [] = refl
held-found l p (entry ∷ stored) =
    found-first (held_by l) entry (bytes_eq entry.path.numbers p.numbers) (held_at (map (held_by l) stored) p) (find (λ e. bytes_eq e.path.numbers p.numbers) stored) (held-found l p stored)

-- ---- what stays

kept-first : {A B : Type 0} (f : A → B) (a : A) (b : Bool) (xs : List A) (ys : List B) → map f xs ≡ ys → map f (if b then a ∷ xs else xs) ≡ (if b then f a ∷ ys else ys)
kept-first f a true xs ys rest = ap (λ zs. f a ∷ zs) rest
kept-first f a false xs ys rest = rest

-- what is made of elements that stay is what stays of that which is made
pub map-kept : {A B : Type 0} (f : A → B) (keep : B → Bool) (xs : List A) → map f (filter (λ a. keep (f a)) xs) ≡ filter keep (map f xs)
map-kept f keep [] = refl
map-kept f keep (x ∷ xs) = kept-first f x (keep (f x)) (filter (λ y. keep (f y)) xs) (filter keep (map f xs)) (map-kept f keep xs)

same-first : {A : Type 0} (a : A) (b c : Bool) (xs ys : List A) → b ≡ c → xs ≡ ys → (if b then a ∷ xs else xs) ≡ (if c then a ∷ ys else ys)
same-first a b c xs ys same rest = ap (λ t. if t then a ∷ xs else xs) same ∙ ap (λ zs. if c then a ∷ zs else zs) rest

pub filter-same : {A : Type 0} (p q : A → Bool) → ((a : A) → p a ≡ q a) → (xs : List A) → filter p xs ≡ filter q xs
filter-same p q same [] = refl
filter-same p q same (x ∷ xs) = same-first x (p x) (q x) (filter p xs) (filter q xs) (same x) (filter-same p q same xs)

pub without-said : (l : Legend) (p : Path) (stored : List Stored) → map (held_by l) (filter (λ entry. not (bytes_eq entry.path.numbers p.numbers)) stored) ≡ without_held p (map (held_by l) stored)
without-said l p stored = map-kept (held_by l) (λ h. not (same_path h.path p)) stored

found-said : (l : Legend) (o : Option Component) → found_runs o ≡ is_found (λ component. is_running_state component.state) (option_map (component_by l) o)
found-said l None = refl
found-said l (Some component) = refl

pub runs-said : (l : Legend) (going : Going) (p : Path) → runs going p.numbers ≡ is_found (λ component. is_running_state component.state) (component_at (going_by l going) p)
runs-said l going p =
    found-said l (find (λ component. bytes_eq component.itself.path.numbers p.numbers) going.components)
    ∙ ap (is_found (λ component. is_running_state component.state)) (sym (find-by l p going.components))

pub still-said : (l : Legend) (now : Config) (stored : List Stored) → map (held_by l) (still now stored) ≡ still_held (config_by l now) (map (held_by l) stored)
still-said l (config.Ended v) stored = refl
still-said l (config.Going going) stored =
    ap (map (held_by l))
    (filter-same (λ entry. runs going entry.path.numbers) (λ (entry : Stored). is_found (λ component. is_running_state component.state) (component_at (going_by l going) entry.path)) (λ entry. runs-said l going entry.path) stored)
    ∙ map-kept (held_by l) (λ h. is_found (λ component. is_running_state component.state) (component_at (going_by l going) h.path)) stored

abbrev FitsTaken : Machine → Stored → Type 0
FitsTaken machine entry = Fits machine (config.Going entry.taken)

pub still-fits : (machine : Machine) (now : Config) (stored : List Stored) → All (λ entry. Fits machine (config.Going entry.taken)) stored → All (λ entry. Fits machine (config.Going entry.taken)) (still now stored)
still-fits machine (config.Ended v) stored all = All-nil (FitsTaken machine)
still-fits machine (config.Going going) stored all = All-filter (λ entry. runs going entry.path.numbers) (FitsTaken machine) stored all

-- ---- what each entry was taken in

pub taken-same : (machine : Machine) (stored others : List Stored) → map (λ (entry : Stored). entry.taken) others ≡ map (λ entry. entry.taken) stored → All (λ entry. Fits machine (config.Going entry.taken)) stored
    → All (λ entry. Fits machine (config.Going entry.taken)) others
taken-same machine stored others same all = of-map others (subst (All (λ taken. Fits machine (config.Going taken))) (sym same) (to-map stored all))
  where
    P : Going → Type 0
    P taken = Fits machine (config.Going taken)

    to-map : (es : List Stored) → All (λ entry. Fits machine (config.Going entry.taken)) es → All P (map (λ entry. entry.taken) es)
    to-map [] each = All-nil P
    to-map (e ∷ es) each = All-cons P e.taken (map (λ entry. entry.taken) es) (All-head (FitsTaken machine) e es each) (to-map es (All-tail (FitsTaken machine) e es each))

    of-map : (es : List Stored) → All P (map (λ entry. entry.taken) es) → All (λ entry. Fits machine (config.Going entry.taken)) es
    of-map [] each = All-nil (FitsTaken machine)
    of-map (e ∷ es) each = All-cons (FitsTaken machine) e es (All-head P e.taken (map (λ entry. entry.taken) es) each) (of-map es (All-tail P e.taken (map (λ entry. entry.taken) es) each))

-- ---- what was asked for is done

-- a configuration in which it is done fits
pub fits-done : (machine : Machine) (going taken : Going) (itself : ComponentId) (p : Path) (x : rules.Component) (snapshot : Snapshot) (after : Config) → Fits machine (config.Going going) → Fits machine (config.Going taken)
    → component_at (going_by (legend machine) taken) p ≡ Some x → option_map settled (apply machine.test (going_by (legend machine) going) itself (act machine.test snapshot x.own)) ≡ Some (said machine after)
    → IsConfigWithin (extent machine) after → Fits machine after
fits-done machine going taken itself p x snapshot after fits also there leads within =
    let c = going_by (legend machine) going in
    let old = going_by (legend machine) taken in
    record {
      within = within;
      ordered = subst (λ o. IfSome o StandsInOrder) leads (applied-stands-in-order machine.test c old itself p x snapshot fits.ordered also.ordered there);
      frames = subst (λ o. IfSome o AllKeepFrameLimit) leads (applied-kept machine.test c old itself p x snapshot fits.frames also.frames there);
    }

-- ---- labels one after the other

-- nothing follows an end
pub follow-ended : (test : Test) (labels : List Label) (v : Verdict) → follow test labels (rules.Ended v) ≡ rules.Ended v
follow-ended test [] v = refl
follow-ended test (label ∷ labels) v = follow-ended test labels v
