-- What the visited runs say of all runs: count, completeness, best runs, sum.
use Rattle.std.proofs.Common.{◌≡◌, ℕ, zero, suc, ◌+◌, ◌-◌, ◌<◌, ◌≤◌, Bool, List, [], ◌∷◌, ◌++◌, length, sym, refl, ap, subst, ◌∙◌, arith, inl, inr, ⊎_elim, map}
use Rattle.std.specs.Prelude.{◌≢◌, Contains, Some}
use Rattle.std.specs.declared.cmp.Ordering.{Ordering}
use Rattle.summary.specs.Graph.{Graph}
use Rattle.summary.specs.Run.{Run, Start, Then, steps_of, end_of, IsRun, longer, runs_of, all_runs, Before, NoLater}
use Rattle.summary.specs.Sums.{Join, IsSemilattice, join_all}
use Rattle.summary.specs.Exploration.{Counts, IsComplete, HasMark, IsBest}
use Rattle.explore.proofs.Lists.{Each, In, Ordered, each-in, each-from-in, in-left, in-right, in-cases, in-contains, contains_in, in-map, from-map, in-flat-map, from-flat-map, pairs-from-ordered}
use Rattle.explore.proofs.RunOrder.{later-trans, later-short}
use Rattle.explore.proofs.Visits.{IsLawful, Apart}
use Rattle.explore.proofs.Covering.{AreVisited, Covers, covers, cover}

module _ {C L : Type 0} (g : Graph C L) (cmp : L → L → Ordering) (eq : C → C → Bool) (F : C → Type 0) (lawful : IsLawful g cmp eq F) where
  -- ends that are apart, as a list
  ends-apart : (all : List (Run L)) → Ordered (Apart g cmp eq F lawful) all → Ordered (λ c d. c ≢ d) (map (end_of g) all)
  ends-apart [] o = tt
  ends-apart (v ∷ vs) o = (behind vs o.0, ends-apart vs o.1)
    where
      behind : (ws : List (Run L)) → Each (Apart g cmp eq F lawful v) ws → Each (λ d. end_of g v ≢ d) (map (end_of g) ws)
      behind [] e = tt
      behind (w ∷ ws) e = (e.0, behind ws e.1)

  pub counts : (m : ℕ) (all : List (Run L)) → Covers g cmp eq F lawful m all → Counts g m (length (map (end_of g) all))
  counts m all h = record {
    configurations = map (end_of g) all;
    different = pairs-from-ordered (λ c d. c ≢ d) (map (end_of g) all) (ends-apart all h.apart);
    reached = λ c k.
        let v = from-map (end_of g) all c (contains_in (map (end_of g) all) c k) in
        record { run = v.0; is_run = each-in (IsRun g) all h.runs v.0 v.1; short = each-in (λ w. steps_of w ≤ m) all h.short v.0 v.1; ends = v.2 };
    all = λ c r.
        let w = cover g cmp eq F lawful m all h r.run r.is_run r.short in
        subst (Contains (map (end_of g) all)) (w.2 ∙ r.ends) (in-contains (map (end_of g) all) (end_of g w.0) (in-map (end_of g) all w.0 w.1));
    number = refl;
  }

  -- two runs of a list whose ends are apart end in one configuration only if they are one
  same-end : (all : List (Run L)) → Ordered (Apart g cmp eq F lawful) all → (v w : Run L) → In v all → In w all → end_of g v ≡ end_of g w → v ≡ w
  same-end [] o v w i k e = absurd i
  same-end (x ∷ xs) o v w (inl a) (inl b) e = sym a ∙ b
  same-end (x ∷ xs) o v w (inl a) (inr k) e = absurd (each-in (Apart g cmp eq F lawful x) xs o.0 w k (ap (end_of g) a ∙ e))
  same-end (x ∷ xs) o v w (inr i) (inl b) e = absurd (each-in (Apart g cmp eq F lawful x) xs o.0 v i (ap (end_of g) b ∙ sym e))
  same-end (x ∷ xs) o v w (inr i) (inr k) e = same-end xs o.1 v w i k e

  -- the last layer is quiet exactly where the exploration is complete
  pub complete-if : (n : ℕ) (old layer : List (Run L)) → AreVisited g cmp eq F lawful n old layer → Each (λ v. g.enabled (end_of g v) ≡ []) layer → IsComplete g n
  complete-if n old layer h quiet run is_run long new =
      let w = cover g cmp eq F lawful n (old ++ layer) (covers g cmp eq F lawful n old layer h) run is_run (omega arith) in
      ⊎_elim
      (λ in_old.
      let short : steps_of w.0 < n = each-in (λ v. steps_of v < n) old h.old_short w.0 in_old in
      absurd (new w.0 (each-in (IsRun g) (old ++ layer) h.runs w.0 w.1) short w.2))
      (λ in_layer. sym (ap g.enabled w.2) ∙ each-in (λ v. g.enabled (end_of g v) ≡ []) layer quiet w.0 in_layer)
      (in-cases old layer w.0 w.1)

  pub quiet-if : (n : ℕ) (old layer : List (Run L)) → AreVisited g cmp eq F lawful n old layer → IsComplete g n → Each (λ v. g.enabled (end_of g v) ≡ []) layer
  quiet-if n old layer h complete = each-from-in (λ v. g.enabled (end_of g v) ≡ []) layer (λ v i.
      let long : steps_of v ≡ n = each-in (λ w. steps_of w ≡ n) layer h.layer_long v i in
      complete v (each-in (IsRun g) (old ++ layer) h.runs v (in-right old layer v i)) long (λ other is_run short e.
      let w = cover g cmp eq F lawful n (old ++ layer) (covers g cmp eq F lawful n old layer h) other is_run (omega arith) in
      let is : w.0 ≡ v = same-end (old ++ layer) h.apart w.0 v w.1 (in-right old layer v i) (w.2 ∙ e) in
      let shorter : steps_of w.0 ≤ steps_of other = later-short cmp lawful.total w.0 other w.3 in
      let as_long = ap steps_of is in
      absurd (omega arith)))

  -- what is behind a run comes after it
  behind-later : (front : List (Run L)) (v : Run L) (back : List (Run L)) → Ordered (Before cmp) (front ++ v ∷ back) → Each (Before cmp v) back
  behind-later [] v back o = o.0
  behind-later (x ∷ front) v back o = behind-later front v back o.1

  -- the first visited run with a mark is the best with it
  pub best : (m mark : ℕ) (front : List (Run L)) (v : Run L) (back : List (Run L)) → Covers g cmp eq F lawful m (front ++ v ∷ back)
      → Each (λ w. g.mark (end_of g w) ≢ Some mark) front → g.mark (end_of g v) ≡ Some mark → IsBest g cmp m mark v
  best m mark front v back h none is =
      let all = front ++ v ∷ back in
      let here : In v all = in-right front (v ∷ back) v (inl refl) in
      record {
        has = record { is_run = each-in (IsRun g) all h.runs v here; short = each-in (λ w. steps_of w ≤ m) all h.short v here; marked = is };
        least = λ other o.
            let w = cover g cmp eq F lawful m all h other o.is_run o.short in
            let marked : g.mark (end_of g w.0) ≡ Some mark = ap g.mark w.2 ∙ o.marked in
            ⊎_elim
            (λ in_front. absurd (each-in (λ x. g.mark (end_of g x) ≢ Some mark) front none w.0 in_front marked))
            (elim [
              | inl is_v ↦ subst (λ x. NoLater cmp x other) (sym is_v) w.3
              | inr in_back ↦ later-trans cmp lawful.total v w.0 other (inl (each-in (Before cmp v) back (behind-later front v back h.ordered) w.0 in_back)) w.3
            ])
            (in-cases front (v ∷ back) w.0 w.1);
      }

  pub none-best : (m mark : ℕ) (all : List (Run L)) → Covers g cmp eq F lawful m all → Each (λ w. g.mark (end_of g w) ≢ Some mark) all → (run : Run L) → HasMark g m mark run → ⊥
  none-best m mark all h none run o =
      let w = cover g cmp eq F lawful m all h run o.is_run o.short in
      each-in (λ x. g.mark (end_of g x) ≢ Some mark) all none w.0 w.1 (ap g.mark w.2 ∙ o.marked)

-- the runs of at most n steps are those that are listed
module _ {C L : Type 0} (g : Graph C L) where
  listed-exactly : (n : ℕ) (r : Run L) → In r (runs_of g n) → IsRun g r × (steps_of r ≡ n)
  listed-exactly zero r (inl e) = (subst (IsRun g) e tt, sym (ap steps_of e))
  listed-exactly zero r (inr i) = absurd i
  listed-exactly (suc n) r i =
      let from = from-flat-map (longer g) (runs_of g n) r i in
      let step = from-map (λ l. Then from.0 l) (g.enabled (end_of g from.0)) r from.2 in
      let before = listed-exactly n from.0 from.1 in
      (subst (IsRun g) step.2 (before.0, in-contains (g.enabled (end_of g from.0)) step.0 step.1), sym (ap steps_of step.2) ∙ ap suc before.1)

  pub listed-are-runs : (n : ℕ) (r : Run L) → In r (all_runs g n) → IsRun g r × (steps_of r ≤ n)
  listed-are-runs zero r (inl e) = (subst (IsRun g) e tt, let k = ap steps_of e in omega arith)
  listed-are-runs zero r (inr i) = absurd i
  listed-are-runs (suc n) r i =
      ⊎_elim (λ k. let h = listed-are-runs n r k in (h.0, omega (arith, h.1))) (λ k. let h = listed-exactly (suc n) r k in (h.0, omega (arith, h.1)))
      (in-cases (all_runs g n) (runs_of g (suc n)) r i)

  run-exactly : (r : Run L) → IsRun g r → In r (runs_of g (steps_of r))
  run-exactly Start h = inl refl
  run-exactly (Then r l) h = in-flat-map (longer g) (runs_of g (steps_of r)) r (Then r l) (run-exactly r h.0) (in-map (λ m. Then r m) (g.enabled (end_of g r)) l (contains_in (g.enabled (end_of g r)) l h.1))

  exactly-listed : (n : ℕ) (r : Run L) → In r (runs_of g n) → In r (all_runs g n)
  exactly-listed zero r i = i
  exactly-listed (suc n) r i = in-right (all_runs g n) (runs_of g (suc n)) r i

  listed-up : (n k : ℕ) (r : Run L) → In r (all_runs g n) → In r (all_runs g (k + n))
  listed-up n zero r i = let e : n ≡ 0 + n = omega arith in subst (λ m. In r (all_runs g m)) e i
  listed-up n (suc k) r i = let e : suc (k + n) ≡ suc k + n = omega arith in subst (λ m. In r (all_runs g m)) e (in-left (all_runs g (k + n)) (runs_of g (suc (k + n))) r (listed-up n k r i))

  pub runs-are-listed : (n : ℕ) (r : Run L) → IsRun g r → steps_of r ≤ n → In r (all_runs g n)
  runs-are-listed n r h le = let e : n - steps_of r + steps_of r ≡ n = omega arith in subst (λ m. In r (all_runs g m)) e (listed-up (steps_of r) (n - steps_of r) r (exactly-listed (steps_of r) r (run-exactly r h)))

-- joins as least upper bounds
module _ {S : Type 0} (j : Join S) (laws : IsSemilattice j) where
  abbrev pub Below : S → S → Type 0
  Below x y = j.join x y ≡ y

  pub below-trans : (x y z : S) → Below x y → Below y z → Below x z
  below-trans x y z h k = ap (j.join x) (sym k) ∙ sym (laws.associates x y z) ∙ ap (λ w. j.join w z) h ∙ k

  pub below-left : (x y : S) → Below x (j.join x y)
  below-left x y = sym (laws.associates x x y) ∙ ap (λ w. j.join w y) (laws.repeats x)

  pub below-right : (x y : S) → Below y (j.join x y)
  below-right x y = subst (Below y) (laws.commutes y x) (below-left y x)

  pub below-both : (x y z : S) → Below x z → Below y z → Below (j.join x y) z
  below-both x y z h k = laws.associates x y z ∙ ap (j.join x) k ∙ h

  pub below-same : (x y : S) → Below x y → Below y x → x ≡ y
  below-same x y h k = sym k ∙ laws.commutes y x ∙ h

  pub in-below : (xs : List S) (x : S) → In x xs → Below x (join_all j xs)
  in-below [] x i = absurd i
  in-below (y ∷ ys) x (inl e) = subst (λ z. Below z (join_all j (y ∷ ys))) e (below-left y (join_all j ys))
  in-below (y ∷ ys) x (inr i) = below-trans x (join_all j ys) (join_all j (y ∷ ys)) (in-below ys x i) (below-right y (join_all j ys))

  pub all-below : (xs : List S) (y : S) → Each (λ x. Below x y) xs → Below (join_all j xs) y
  all-below [] y e = laws.unit y
  all-below (x ∷ xs) y e = below-both x (join_all j xs) y e.0 (all-below xs y e.1)
