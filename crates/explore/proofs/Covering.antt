-- What holds after each layer, and what follows for all runs.
use Rattle.std.proofs.Common.{◌≡◌, ℕ, zero, suc, ◌<◌, ◌≤◌, Bool, List, [], ◌∷◌, ◌++◌, sym, refl, ap, subst, ◌∙◌, arith, inl, inr, ⊎_elim, map}
use Rattle.std.specs.Prelude.{Contains}
use Rattle.std.specs.List.{flat_map}
use Rattle.std.specs.declared.cmp.Ordering.{Ordering}
use Rattle.std.specs.declared.cmp.Ordering.TheVariants.{Less}
use Rattle.summary.specs.Graph.{Graph}
use Rattle.summary.specs.Run.{Run, Start, Then, steps_of, end_of, IsRun, longer, Before, NoLater}
use Rattle.explore.proofs.Lists.{Each, In, Ordered, each-weaker, each-in, each-from-in, each-append, in-left, in-cases, in-contains, contains_in, in-map, from-map, in-flat-map, from-flat-map, ordered-append, ordered-from-pairs}
use Rattle.explore.proofs.RunOrder.{later-trans, later-then, before-then, before-label, later-short}
use Rattle.explore.proofs.Visits.{IsLawful, fresh, visits, run-fits, Apart, AllBefore, Adds, adds}

module _ {C L : Type 0} (g : Graph C L) (cmp : L → L → Ordering) (eq : C → C → Bool) (F : C → Type 0) (lawful : IsLawful g cmp eq F) where
  -- the step from a run by an enabled label ends where a run of the list ends, and that one comes no later
  abbrev pub IsFollowed : List (Run L) → Run L → L → Type 0
  IsFollowed all v l = (w : Run L) × In w all × (end_of g w ≡ g.after (end_of g v) l) × NoLater cmp w (Then v l)

  -- what holds of the runs after n layers
  pub record AreVisited (n : ℕ) (old layer : List (Run L)) : Type 0 where
    pub runs : Each (IsRun g) (old ++ layer)
    pub old_short : Each (λ v. steps_of v < n) old
    pub layer_long : Each (λ v. steps_of v ≡ n) layer
    pub ordered : Ordered (Before cmp) (old ++ layer)
    pub apart : Ordered (Apart g cmp eq F lawful) (old ++ layer)
    pub first : In Start (old ++ layer)
    pub followed : (v : Run L) → In v old → (l : L) → Contains (g.enabled (end_of g v)) l → IsFollowed (old ++ layer) v l

  -- the runs one step longer than these are runs
  longer-runs : (layer : List (Run L)) → Each (IsRun g) layer → Each (IsRun g) (flat_map (longer g) layer)
  longer-runs layer runs = each-from-in (IsRun g) _ (λ x i.
      let from = from-flat-map (longer g) layer x i in
      let step = from-map (λ l. Then from.0 l) (g.enabled (end_of g from.0)) x from.2 in
      subst (IsRun g) step.2 (each-in (IsRun g) layer runs from.0 from.1, in-contains (g.enabled (end_of g from.0)) step.0 step.1))

  longer-steps : (n : ℕ) (layer : List (Run L)) → Each (λ v. steps_of v ≡ n) layer → Each (λ v. steps_of v ≡ suc n) (flat_map (longer g) layer)
  longer-steps n layer long = each-from-in (λ v. steps_of v ≡ suc n) _ (λ x i.
      let from = from-flat-map (longer g) layer x i in
      let step = from-map (λ l. Then from.0 l) (g.enabled (end_of g from.0)) x from.2 in
      subst (λ y. steps_of y ≡ suc n) step.2 (ap suc (each-in (λ v. steps_of v ≡ n) layer long from.0 from.1)))

  -- the steps from one run come in the order of their labels
  labels-ordered : (v : Run L) (ls : List L) → Ordered (λ l m. cmp l m ≡ Less) ls → Ordered (Before cmp) (map (λ l. Then v l) ls)
  labels-ordered v [] o = tt
  labels-ordered v (l ∷ ls) o = (behind ls o.0, labels-ordered v ls o.1)
    where
      behind : (ms : List L) → Each (λ m. cmp l m ≡ Less) ms → Each (Before cmp (Then v l)) (map (λ m. Then v m) ms)
      behind [] e = tt
      behind (m ∷ ms) e = (before-label cmp lawful.total v l m e.0, behind ms e.1)

  -- the steps from the runs of a layer come in order
  longer-ordered : (n : ℕ) (layer : List (Run L)) → Each (IsRun g) layer → Each (λ v. steps_of v ≡ n) layer → Ordered (Before cmp) layer → Ordered (Before cmp) (flat_map (longer g) layer)
  longer-ordered n [] runs long o = tt
  longer-ordered n (v ∷ vs) runs long o =
      ordered-append (Before cmp) (longer g v) (flat_map (longer g) vs)
      (labels-ordered v (g.enabled (end_of g v)) (ordered-from-pairs (λ l m. cmp l m ≡ Less) (g.enabled (end_of g v)) (lawful.ascending (end_of g v) (run-fits g cmp eq F lawful v runs.0))))
      (longer-ordered n vs runs.1 long.1 o.1)
      (each-from-in (λ x. Each (Before cmp x) (flat_map (longer g) vs)) (longer g v) (λ x i.
      let here = from-map (λ l. Then v l) (g.enabled (end_of g v)) x i in
      each-from-in (Before cmp x) (flat_map (longer g) vs) (λ y k.
      let from = from-flat-map (longer g) vs y k in
      let step = from-map (λ l. Then from.0 l) (g.enabled (end_of g from.0)) y from.2 in
      let as_long : steps_of v ≡ steps_of from.0 = long.0 ∙ sym (each-in (λ w. steps_of w ≡ n) vs long.1 from.0 from.1) in
      subst (λ z. Before cmp z y) here.2 (subst (Before cmp (Then v here.0)) step.2
      (before-then cmp lawful.total v from.0 here.0 step.0 as_long (each-in (Before cmp v) vs o.0 from.0 from.1))))))

  -- what is shorter comes before
  shorter-before : (n : ℕ) (seen rs : List (Run L)) → Each (λ v. steps_of v < suc n) seen → Each (λ v. steps_of v ≡ suc n) rs → AllBefore g cmp eq F lawful seen rs
  shorter-before n seen rs short long =
      each-from-in (λ r. Each (λ v. Before cmp v r) seen) rs (λ r i.
      let r_long : steps_of r ≡ suc n = each-in (λ v. steps_of v ≡ suc n) rs long r i in
      each-from-in (λ v. Before cmp v r) seen (λ v k.
      let v_short : steps_of v < suc n = each-in (λ w. steps_of w < suc n) seen short v k in inl (omega arith)))

  split-right : (P : Run L → Type 0) (xs ys : List (Run L)) → Each P (xs ++ ys) → Each P ys
  split-right P [] ys e = e
  split-right P (x ∷ xs) ys e = split-right P xs ys e.1

  pub split-ordered : (R : Run L → Run L → Type 0) (xs ys : List (Run L)) → Ordered R (xs ++ ys) → Ordered R ys
  split-ordered R [] ys o = o
  split-ordered R (x ∷ xs) ys o = split-ordered R xs ys o.1

  next-visited : (n : ℕ) (old layer : List (Run L)) → AreVisited n old layer → AreVisited (suc n) (old ++ layer) (fresh g eq (old ++ layer) (flat_map (longer g) layer))
  next-visited n old layer h =
      let all = old ++ layer in
      let rs = flat_map (longer g) layer in
      let new = fresh g eq all rs in
      let layer_runs : Each (IsRun g) layer = split-right (IsRun g) old layer h.runs in
      let rs_runs : Each (IsRun g) rs = longer-runs layer layer_runs in
      let rs_long : Each (λ v. steps_of v ≡ suc n) rs = longer-steps n layer h.layer_long in
      let short : Each (λ v. steps_of v < suc n) all =
      each-append (λ v. steps_of v < suc n) old layer
      (each-weaker (λ v. steps_of v < n) (λ v. steps_of v < suc n) (λ v k. omega arith) old h.old_short)
      (each-weaker (λ v. steps_of v ≡ n) (λ v. steps_of v < suc n) (λ v k. omega arith) layer h.layer_long) in
      let a : Adds g cmp eq F lawful all rs new =
      adds g cmp eq F lawful all rs h.runs rs_runs h.ordered h.apart
      (longer-ordered n layer layer_runs h.layer_long (split-ordered (Before cmp) old layer h.ordered))
      (shorter-before n all rs short rs_long) in
      record {
        runs = each-append (IsRun g) all new h.runs (each-from-in (IsRun g) new (λ x i. each-in (IsRun g) rs rs_runs x (a.among x i)));
        old_short = short;
        layer_long = each-from-in (λ v. steps_of v ≡ suc n) new (λ x i. each-in (λ v. steps_of v ≡ suc n) rs rs_long x (a.among x i));
        ordered = a.ordered;
        apart = a.apart;
        first = in-left all new Start h.first;
        followed = λ v i l c. ⊎_elim
            (λ in_old. let w = h.followed v in_old l c in (w.0, in-left all new w.0 w.1, w.2, w.3))
            (λ in_layer. a.reached (Then v l) (in-flat-map (longer g) layer v (Then v l) in_layer (in-map (λ m. Then v m) (g.enabled (end_of g v)) l (contains_in (g.enabled (end_of g v)) l c))))
            (in-cases old layer v i);
      }

  first-visited : AreVisited 0 [] (Start ∷ [])
  first-visited = record {
    runs = (tt, tt);
    old_short = tt;
    layer_long = (refl, tt);
    ordered = (tt, tt);
    apart = (tt, tt);
    first = inl refl;
    followed = λ v i. absurd i;
  }

  pub are-visited : (n : ℕ) → AreVisited n (visits g eq n).old (visits g eq n).layer
  unfolding visits
  are-visited zero = first-visited
  are-visited (suc n) = next-visited n (visits g eq n).old (visits g eq n).layer (are-visited n)

  -- What is known of a list of runs up to a bound, however it was found.
  pub record Covers (m : ℕ) (all : List (Run L)) : Type 0 where
    pub runs : Each (IsRun g) all
    pub short : Each (λ v. steps_of v ≤ m) all
    pub ordered : Ordered (Before cmp) all
    pub apart : Ordered (Apart g cmp eq F lawful) all
    pub first : In Start all
    pub followed : (v : Run L) → In v all → steps_of v < m → (l : L) → Contains (g.enabled (end_of g v)) l → IsFollowed all v l

  visited-short : (n : ℕ) (old layer : List (Run L)) → AreVisited n old layer → Each (λ v. steps_of v ≤ n) (old ++ layer)
  visited-short n old layer h =
      each-append (λ v. steps_of v ≤ n) old layer
      (each-weaker (λ v. steps_of v < n) (λ v. steps_of v ≤ n) (λ v k. omega arith) old h.old_short)
      (each-weaker (λ v. steps_of v ≡ n) (λ v. steps_of v ≤ n) (λ v k. omega arith) layer h.layer_long)

  pub covers : (n : ℕ) (old layer : List (Run L)) → AreVisited n old layer → Covers n (old ++ layer)
  covers n old layer h = record {
    runs = h.runs;
    short = visited-short n old layer h;
    ordered = h.ordered;
    apart = h.apart;
    first = h.first;
    followed = λ v i lt l c. ⊎_elim (λ in_old. h.followed v in_old l c)
        (λ in_layer. let long : steps_of v ≡ n = each-in (λ w. steps_of w ≡ n) layer h.layer_long v in_layer in absurd (omega arith))
        (in-cases old layer v i);
  }

  -- where the last layer has no enabled label, the list covers each greater bound
  pub covers-more : (n m : ℕ) (old layer : List (Run L)) → AreVisited n old layer → n ≤ m → Each (λ v. g.enabled (end_of g v) ≡ []) layer → Covers m (old ++ layer)
  covers-more n m old layer h le quiet = record {
    runs = h.runs;
    short = each-weaker (λ v. steps_of v ≤ n) (λ v. steps_of v ≤ m) (λ v k. omega arith) (old ++ layer) (visited-short n old layer h);
    ordered = h.ordered;
    apart = h.apart;
    first = h.first;
    followed = λ v i lt l c. ⊎_elim (λ in_old. h.followed v in_old l c)
        (λ in_layer. let none : Contains [] l = subst (λ ls. Contains ls l) (each-in (λ w. g.enabled (end_of g w) ≡ []) layer quiet v in_layer) c in absurd (omega (arith, none.1)))
        (in-cases old layer v i);
  }

  -- each run of at most m steps ends where a run of the list ends that comes no later
  pub cover : (m : ℕ) (all : List (Run L)) → Covers m all → (r : Run L) → IsRun g r → steps_of r ≤ m → (w : Run L) × In w all × (end_of g w ≡ end_of g r) × NoLater cmp w r
  cover m all h Start run le = (Start, h.first, refl, inr refl)
  cover m all h (Then r l) run le =
      let v = cover m all h r run.0 (omega arith) in
      let shorter : steps_of v.0 ≤ steps_of r = later-short cmp lawful.total v.0 r v.3 in
      let enabled : Contains (g.enabled (end_of g v.0)) l = subst (λ c. Contains (g.enabled c) l) (sym v.2) run.1 in
      let w = h.followed v.0 v.1 (omega arith) l enabled in
      (w.0, w.1, w.2 ∙ ap (λ c. g.after c l) v.2, later-trans cmp lawful.total w.0 (Then v.0 l) (Then r l) w.3 (later-then cmp lawful.total v.0 r l v.3))
