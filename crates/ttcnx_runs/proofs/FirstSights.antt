-- Of what runs show in the order of their least runs, the first of a kind is the least of that kind.
use Rattle.std.proofs.Common.{◌≡◌, ℕ, Bool, true, false, true≢false, List, [], ◌∷◌, ◌++◌, Option, None, Some, refl, sym, ap, subst, ◌∙◌, inl, inr, if◌then◌else◌}
use Rattle.std.specs.Cmp.{IsTotalOrder}
use Rattle.std.specs.List.{AllZip, find}
use Rattle.std.specs.Option.{option_map}
use Rattle.std.specs.declared.cmp.Ordering.{Ordering}
use Rattle.explore.proofs.Lists.{Each, In, Ordered, contains_in, each-in, ordered-from-pairs}
use Rattle.explore.proofs.RunOrder.{later-trans}
use Rattle.explore.specs.Sightings.{AreSighted, HasShown, IsLeastShowing}
use Rattle.explore.specs.declared.sightings.Sighting.{Sighting}
use Rattle.summary.specs.Graph.{Graph}
use Rattle.summary.specs.Run.{Before, NoLater, Run, labels_of}
use Rattle.ttcnx_runs.specs.Aims.{Gets, IsLeastTo, first_of}

module _ {C L E : Type 0} (g : Graph C L) (cmp : L → L → Ordering) (total : IsTotalOrder cmp) (n : ℕ) (shown : Run L → Option E) (kind : E → Bool) where
  abbrev Zipped : List (Sighting E L) → List (Run L) → Type 0
  Zipped ss runs = AllZip (λ s run. IsLeastShowing g cmp n shown s.event run × (s.run.items ≡ labels_of run)) ss runs

  -- what runs show of the kind is among these
  abbrev HaveAll : List (Sighting E L) → Type 0
  HaveAll ss = (e : E) (other : Run L) → HasShown g n shown e other → kind e ≡ true → (s : Sighting E L) × In s ss × (s.event ≡ e)

  -- a sighting's run
  run-of : (ss : List (Sighting E L)) (runs : List (Run L)) → Zipped ss runs → (s : Sighting E L) → In s ss → (run : Run L) × In run runs × IsLeastShowing g cmp n shown s.event run
  run-of [] [] z s i = absurd i
  run-of [] (r ∷ rs) z s i = absurd z
  run-of (t ∷ ts) [] z s i = absurd z
  run-of (t ∷ ts) (r ∷ rs) z s (inl is) = (r, inl refl, subst (λ (x : Sighting E L). IsLeastShowing g cmp n shown x.event r) is (z.0).0)
  run-of (t ∷ ts) (r ∷ rs) z s (inr i) = let found = run-of ts rs z.1 s i in (found.0, inr found.1, found.2)

  has-of : (run : Run L) (is : Gets g n shown kind run) → HasShown g n shown is.what run
  has-of run is = record { is_run = is.is_run; short = is.short; shows = is.shows }

  head-least : (s : Sighting E L) (ss : List (Sighting E L)) (run : Run L) (runs : List (Run L)) → Zipped (s ∷ ss) (run ∷ runs) → Each (Before cmp run) runs → HaveAll (s ∷ ss)
      → kind s.event ≡ true → IsLeastTo g cmp n shown kind (Some s.run.items)
  head-least s ss run runs z before all is_of =
      let least = (z.0).0 in (
        run,
        record { is_run = (least.has).is_run; short = (least.has).short; what = s.event; shows = (least.has).shows; is_of = is_of },
        λ other gets.
            let t = all gets.what other (has-of other gets) gets.is_of in
            later other gets t.0 t.1 t.2,
        (z.0).1,
      )
    where
      later : (other : Run L) (gets : Gets g n shown kind other) (t : Sighting E L) → In t (s ∷ ss) → t.event ≡ gets.what → NoLater cmp run other
      later other gets t (inl same) is =
          let shows : s.event ≡ gets.what = ap (λ (x : Sighting E L). x.event) same ∙ is in
          ((z.0).0).least other (subst (λ e. HasShown g n shown e other) (sym shows) (has-of other gets))
      later other gets t (inr i) is =
          let found = run-of ss runs z.1 t i in
          later-trans cmp total run found.0 other (inl (each-in (Before cmp run) runs before found.0 found.1))
          ((found.2).least other (subst (λ e. HasShown g n shown e other) (sym is) (has-of other gets)))

  first : (ss : List (Sighting E L)) (runs : List (Run L)) → Zipped ss runs → Ordered (Before cmp) runs → HaveAll ss
      → IsLeastTo g cmp n shown kind (option_map (λ (s : Sighting E L). s.run.items) (find (λ (s : Sighting E L). kind s.event) ss))
  first [] [] z o all = λ run gets. let s = all gets.what run (has-of run gets) gets.is_of in absurd s.1
  first [] (r ∷ rs) z o all = absurd z
  first (s ∷ ss) [] z o all = absurd z
  first (s ∷ ss) (r ∷ rs) z o all = by (kind s.event) refl (λ other. first ss rs z.1 o.1 (rest other))
    where
      rest : kind s.event ≡ false → HaveAll ss
      rest isnt e other has is_of = other-one (all e other has is_of)
        where
          other-one : ((t : Sighting E L) × In t (s ∷ ss) × (t.event ≡ e)) → (t : Sighting E L) × In t ss × (t.event ≡ e)
          other-one (t, inl same, is) = absurd (true≢false (sym is_of ∙ ap kind (sym is) ∙ ap (λ (x : Sighting E L). kind x.event) (sym same) ∙ isnt))
          other-one (t, inr i, is) = (t, i, is)

      by : (b : Bool) → kind s.event ≡ b → (kind s.event ≡ false → IsLeastTo g cmp n shown kind (option_map (λ (x : Sighting E L). x.run.items) (find (λ (x : Sighting E L). kind x.event) ss)))
          → IsLeastTo g cmp n shown kind (option_map (λ (x : Sighting E L). x.run.items) (if b then Some s else find (λ (x : Sighting E L). kind x.event) ss))
      by true is later = head-least s ss r rs z o.0 all is
      by false is later = later is

  pub first-is-least : (ss : List (Sighting E L)) → AreSighted g cmp n shown ss
      → IsLeastTo g cmp n shown kind (option_map (λ (s : Sighting E L). s.run.items) (find (λ (s : Sighting E L). kind s.event) ss))
  first-is-least ss are =
      first ss are.runs are.least (ordered-from-pairs (Before cmp) are.runs are.ordered)
      (λ e other has is_of. let s = are.all e other has in (s.0, contains_in ss s.0 s.1, s.2))

-- what the first of a kind gives, with one more seen
pub find-push : {A B : Type 0} (f : A → B) (p : A → Bool) (xs : List A) (x : A) (found : Option B) → found ≡ option_map f (find p xs)
    → first_of found (p x) (f x) ≡ option_map f (find p (xs ++ x ∷ []))
find-push f p [] x found is = ap (λ o. first_of o (p x) (f x)) is ∙ by (p x)
  where
    by : (b : Bool) → (if b then Some (f x) else None) ≡ option_map f (if b then Some x else None)
    by true = refl
    by false = refl
find-push f p (y ∷ ys) x found is = by (p y) refl (λ here. find-push f p ys x found (is ∙ ap (λ b. option_map f (if b then Some y else find p ys)) here))
  where
    by : (b : Bool) → p y ≡ b → (p y ≡ false → first_of found (p x) (f x) ≡ option_map f (find p (ys ++ x ∷ [])))
        → first_of found (p x) (f x) ≡ option_map f (if b then Some y else find p (ys ++ x ∷ []))
    by true here later = ap (λ o. first_of o (p x) (f x)) (is ∙ ap (λ b. option_map f (if b then Some y else find p ys)) here)
    by false here later = later here
