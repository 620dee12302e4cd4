-- The summary of the search is the sum over all runs.
use Rattle.std.proofs.Common.{◌≡◌, ℕ, ◌<◌, ◌≤◌, Bool, List, sym, subst, arith, map}
use Rattle.std.specs.declared.cmp.Ordering.{Ordering}
use Rattle.summary.specs.Graph.{Graph}
use Rattle.summary.specs.Run.{Run, Start, Then, steps_of, end_of, IsRun, all_runs}
use Rattle.summary.specs.Sums.{Join, IsSemilattice, Observation, shown, sum_of}
use Rattle.explore.proofs.Lists.{In, each-in, each-from-in, in-contains, in-map, from-map, contains_in}
use Rattle.explore.proofs.RunOrder.{later-short}
use Rattle.explore.proofs.Visits.{IsLawful}
use Rattle.explore.proofs.Covering.{Covers, cover}
use Rattle.explore.proofs.Conclusions.{listed-are-runs, runs-are-listed, Below, below-trans, below-left, below-right, below-both, below-same, in-below, all-below}

module _ {C L S : Type 0} (g : Graph C L) (j : Join S) (r : Observation C L S) (laws : IsSemilattice j) where
  -- a summary is the least that is above what each run shows at its end, and by its steps where they are taken
  pub record IsLeast (all : List (Run L)) (steps : List (Run L)) (summary : S) : Type 0 where
    pub ends : (v : Run L) → In v all → Below j laws (r.at (end_of g v)) summary
    pub taken : (v : Run L) → In v steps → (l : L) → In l (g.enabled (end_of g v)) → Below j laws (r.by (end_of g v) l) summary
    pub least : (u : S) → ((v : Run L) → In v all → Below j laws (r.at (end_of g v)) u)
        → ((v : Run L) → In v steps → (l : L) → In l (g.enabled (end_of g v)) → Below j laws (r.by (end_of g v) l) u) → Below j laws summary u

  shown-at : (v : Run L) → Below j laws (r.at (end_of g v)) (shown g j r v)
  shown-at Start = laws.repeats (r.at g.first)
  shown-at (Then v l) = below-right j laws (r.by (end_of g v) l) (r.at (end_of g (Then v l)))

  module _ (cmp : L → L → Ordering) (eq : C → C → Bool) (F : C → Type 0) (lawful : IsLawful g cmp eq F) where
    -- what a run shows is below the summary
    shown-below : (m : ℕ) (all steps : List (Run L)) (summary : S) → Covers g cmp eq F lawful m all → IsLeast all steps summary
        → ((v : Run L) → In v all → steps_of v < m → (l : L) → In l (g.enabled (end_of g v)) → In v steps)
        → (x : Run L) → IsRun g x → steps_of x ≤ m → Below j laws (shown g j r x) summary
    shown-below m all steps summary h k within Start is_run le =
        let w = cover g cmp eq F lawful m all h Start is_run le in
        subst (λ c. Below j laws (r.at c) summary) w.2 (k.ends w.0 w.1)
    shown-below m all steps summary h k within (Then x l) is_run le =
        let w = cover g cmp eq F lawful m all h (Then x l) is_run le in
        let v = cover g cmp eq F lawful m all h x is_run.0 (omega arith) in
        let shorter : steps_of v.0 ≤ steps_of x = later-short cmp lawful.total v.0 x v.3 in
        let enabled : In l (g.enabled (end_of g v.0)) = subst (λ c. In l (g.enabled c)) (sym v.2) (contains_in (g.enabled (end_of g x)) l is_run.1) in
        below-both j laws (r.by (end_of g x) l) (r.at (end_of g (Then x l))) summary
        (subst (λ c. Below j laws (r.by c l) summary) v.2 (k.taken v.0 (within v.0 v.1 (omega arith) l enabled) l enabled))
        (subst (λ c. Below j laws (r.at c) summary) w.2 (k.ends w.0 w.1))

    pub sum-is : (m : ℕ) (all steps : List (Run L)) (summary : S) → Covers g cmp eq F lawful m all → IsLeast all steps summary
        → ((v : Run L) → In v all → steps_of v < m → (l : L) → In l (g.enabled (end_of g v)) → In v steps)
        → ((v : Run L) → In v steps → In v all × (steps_of v < m))
        → summary ≡ sum_of g j r m
    sum-is m all steps summary h k within short =
        let below_sum : (x : Run L) → IsRun g x → steps_of x ≤ m → Below j laws (shown g j r x) (sum_of g j r m) =
        λ x is_run le. in-below j laws (map (shown g j r) (all_runs g m)) (shown g j r x) (in-map (shown g j r) (all_runs g m) x (runs-are-listed g m x is_run le)) in
        below-same j laws summary (sum_of g j r m)
        (k.least (sum_of g j r m)
        (λ v i. below-trans j laws (r.at (end_of g v)) (shown g j r v) (sum_of g j r m) (shown-at v)
        (below_sum v (each-in (IsRun g) all h.runs v i) (each-in (λ w. steps_of w ≤ m) all h.short v i)))
        (λ v i l e.
        let s = short v i in
        let run : IsRun g (Then v l) = (each-in (IsRun g) all h.runs v s.0, in-contains (g.enabled (end_of g v)) l e) in
        below-trans j laws (r.by (end_of g v) l) (shown g j r (Then v l)) (sum_of g j r m)
        (below-left j laws (r.by (end_of g v) l) (r.at (end_of g (Then v l))))
        (below_sum (Then v l) run (omega (arith, s.1)))))
        (all-below j laws (map (shown g j r) (all_runs g m)) summary
        (each-from-in (λ x. Below j laws x summary) (map (shown g j r) (all_runs g m)) (λ x i.
        let from = from-map (shown g j r) (all_runs g m) x i in
        let listed = listed-are-runs g m from.0 from.1 in
        subst (λ y. Below j laws y summary) from.2 (shown-below m all steps summary h k within from.0 listed.0 listed.1))))
