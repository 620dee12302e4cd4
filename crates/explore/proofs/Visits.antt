-- The search over runs: which runs are visited, layer by layer, and why each run of at most n steps ends where a
-- visited one ends that comes no later.
use Rattle.std.proofs.Common.{◌≡◌, ℕ, zero, suc, Bool, true, false, cond, List, [], ◌∷◌, ◌++◌, sym, refl, ap, subst, ◌∙◌, inl, inr, append_assoc, append-nil, map}
use Rattle.std.proofs.lemmas.Bool.{false≢true}
use Rattle.std.specs.Prelude.{◌≢◌, Contains, AllPairs}
use Rattle.std.specs.List.{list_any, flat_map}
use Rattle.std.specs.Cmp.{IsTotalOrder}
use Rattle.std.specs.declared.cmp.Ordering.{Ordering}
use Rattle.std.specs.declared.cmp.Ordering.TheVariants.{Less}
use Rattle.summary.specs.Graph.{Graph}
use Rattle.summary.specs.Run.{Run, Start, Then, end_of, IsRun, longer, Before, NoLater}
use Rattle.explore.proofs.Lists.{Each, In, Ordered, each-in, each-from-in, each-append, in-left, in-right, in-map, from-map, ordered-last, any-found, any-none}

-- what is known of a system
pub record IsLawful {C L : Type 0} (g : Graph C L) (cmp : L → L → Ordering) (eq : C → C → Bool) (F : C → Type 0) : Type 0 where
  pub total : IsTotalOrder cmp
  pub itself : (s : C) → eq s s ≡ true
  pub same : (s t : C) → F s → F t → eq s t ≡ true → s ≡ t
  pub ascending : (s : C) → F s → AllPairs (λ l m. cmp l m ≡ Less) (g.enabled s)
  pub first : F g.first
  pub after : (s : C) (l : L) → F s → Contains (g.enabled s) l → F (g.after s l)

module _ {C L : Type 0} (g : Graph C L) (eq : C → C → Bool) where
  -- of some runs those that end in new configurations, one for each
  abbrev pub fresh : List (Run L) → List (Run L) → List (Run L)
  fresh seen [] = []
  fresh seen (r ∷ rs) = cond (list_any (eq (end_of g r)) (map (end_of g) seen)) (fresh seen rs) (r ∷ fresh (seen ++ r ∷ []) rs)

-- the runs of the layers before the last, and those of the last
pub record Visits (L : Type 0) : Type 0 where
  pub old : List (Run L)
  pub layer : List (Run L)

module _ {C L : Type 0} (g : Graph C L) (eq : C → C → Bool) where
  abbrev pub all_of : Visits L → List (Run L)
  all_of v = v.old ++ v.layer

  abbrev pub visits_next : Visits L → Visits L
  visits_next v = record { old = v.old ++ v.layer; layer = fresh g eq (v.old ++ v.layer) (flat_map (longer g) v.layer) }

  unfoldable pub visits : ℕ → Visits L
  visits zero = record { old = []; layer = Start ∷ [] }
  visits (suc n) = visits_next (visits n)

module _ {C L : Type 0} (g : Graph C L) (cmp : L → L → Ordering) (eq : C → C → Bool) (F : C → Type 0) (lawful : IsLawful g cmp eq F) where
  -- where a run ends fits
  pub run-fits : (r : Run L) → IsRun g r → F (end_of g r)
  run-fits Start h = lawful.first
  run-fits (Then r l) h = lawful.after (end_of g r) l (run-fits r h.0) h.1

  -- two runs that end in different configurations
  abbrev pub Apart : Run L → Run L → Type 0
  Apart v w = end_of g v ≢ end_of g w

  -- what the new ones are: each run has one that ends where it ends, and comes no later
  pub record Adds (seen rs new : List (Run L)) : Type 0 where
    pub among : (x : Run L) → In x new → In x rs
    pub ordered : Ordered (Before cmp) (seen ++ new)
    pub apart : Ordered Apart (seen ++ new)
    pub reached : (x : Run L) → In x rs → (w : Run L) × In w (seen ++ new) × (end_of g w ≡ end_of g x) × NoLater cmp w x

  -- all seen come before each of the rest
  abbrev pub AllBefore : List (Run L) → List (Run L) → Type 0
  AllBefore seen rs = Each (λ r. Each (λ v. Before cmp v r) seen) rs

  before-last : (seen rs : List (Run L)) (r : Run L) → AllBefore seen rs → Each (Before cmp r) rs → AllBefore (seen ++ r ∷ []) rs
  before-last seen [] r h k = tt
  before-last seen (s ∷ rs) r h k = (each-append (λ v. Before cmp v s) seen (r ∷ []) h.0 (k.0, tt), before-last seen rs r h.1 k.1)

  adds-none : (seen : List (Run L)) → Ordered (Before cmp) seen → Ordered Apart seen → Adds seen [] []
  adds-none seen o d = record {
    among = λ x i. i;
    ordered = subst (Ordered (Before cmp)) (sym (append-nil seen)) o;
    apart = subst (Ordered Apart) (sym (append-nil seen)) d;
    reached = λ x i. absurd i;
  }

  adds-old : (seen rs new : List (Run L)) (r : Run L) → Each (IsRun g) seen → IsRun g r → Each (λ v. Before cmp v r) seen
      → list_any (eq (end_of g r)) (map (end_of g) seen) ≡ true → Adds seen rs new → Adds seen (r ∷ rs) new
  adds-old seen rs new r runs run before e a =
      let found = any-found (eq (end_of g r)) (map (end_of g) seen) e in
      let from = from-map (end_of g) seen found.0 found.1 in
      let v = from.0 in
      let ends : end_of g r ≡ end_of g v =
      lawful.same (end_of g r) (end_of g v) (run-fits r run) (run-fits v (each-in (IsRun g) seen runs v from.1)) (ap (eq (end_of g r)) from.2 ∙ found.2) in
      record {
        among = λ x i. inr (a.among x i);
        ordered = a.ordered;
        apart = a.apart;
        reached = λ x. elim [
          | inl is ↦ (v, in-left seen new v from.1, sym ends ∙ ap (end_of g) is, inl (subst (Before cmp v) is (each-in (λ w. Before cmp w r) seen before v from.1)))
          | inr i ↦ a.reached x i
        ];
      }

  adds-new : (seen rs new : List (Run L)) (r : Run L) → Adds (seen ++ r ∷ []) rs new → Adds seen (r ∷ rs) (r ∷ new)
  adds-new seen rs new r a =
      let regroup : (seen ++ r ∷ []) ++ new ≡ seen ++ (r ∷ new) = append_assoc seen (r ∷ []) new in
      record {
        among = λ x. elim [ inl is ↦ inl is | inr i ↦ inr (a.among x i) ];
        ordered = subst (Ordered (Before cmp)) regroup a.ordered;
        apart = subst (Ordered Apart) regroup a.apart;
        reached = λ x. elim [
          | inl is ↦ (r, in-right seen (r ∷ new) r (inl refl), ap (end_of g) is, inr is)
          | inr i ↦ let w = a.reached x i in (w.0, subst (In w.0) regroup w.1, w.2, w.3)
        ];
      }

  last-apart : (seen : List (Run L)) (r : Run L) → list_any (eq (end_of g r)) (map (end_of g) seen) ≡ false → Each (λ v. Apart v r) seen
  last-apart seen r e =
      each-from-in (λ v. Apart v r) seen (λ v i h.
      let no : eq (end_of g r) (end_of g v) ≡ false = each-in (λ c. eq (end_of g r) c ≡ false) (map (end_of g) seen) (any-none (eq (end_of g r)) (map (end_of g) seen) e) (end_of g v) (in-map (end_of g) seen v i) in
      false≢true (sym no ∙ ap (eq (end_of g r)) h ∙ lawful.itself (end_of g r)))

  pub adds : (seen rs : List (Run L)) → Each (IsRun g) seen → Each (IsRun g) rs → Ordered (Before cmp) seen → Ordered Apart seen
      → Ordered (Before cmp) rs → AllBefore seen rs → Adds seen rs (fresh g eq seen rs)
  adds seen [] runs news o d p b = adds-none seen o d
  adds seen (r ∷ rs) runs news o d p b =
      step (list_any (eq (end_of g r)) (map (end_of g) seen)) refl
      (adds seen rs runs news.1 o d p.1 b.1)
      (λ apart. adds (seen ++ r ∷ []) rs (each-append (IsRun g) seen (r ∷ []) runs (news.0, tt)) news.1
      (ordered-last (Before cmp) seen r o b.0) (ordered-last Apart seen r d apart) p.1 (before-last seen rs r b.1 p.0))
    where
      step : (found : Bool) → list_any (eq (end_of g r)) (map (end_of g) seen) ≡ found
          → Adds seen rs (fresh g eq seen rs) → (Each (λ v. Apart v r) seen → Adds (seen ++ r ∷ []) rs (fresh g eq (seen ++ r ∷ []) rs))
          → Adds seen (r ∷ rs) (cond found (fresh g eq seen rs) (r ∷ fresh g eq (seen ++ r ∷ []) rs))
      step true e old new = adds-old seen rs (fresh g eq seen rs) r runs news.0 b.0 e old
      step false e old new = adds-new seen rs (fresh g eq (seen ++ r ∷ []) rs) r (new (last-apart seen r e))
