-- What is noted of states in order is what runs show, each with the least run that shows it.
use Rattle.std.proofs.Common.{◌≡◌, ℕ, ◌+◌, ◌<◌, ◌≤◌, Bool, true, false, ◌||◌, List, [], ◌∷◌, ◌++◌, length, map, sym, refl, ap, subst, ◌∙◌, arith, inl, inr, ⊎_elim, append_assoc, append-nil, length-append, if◌then◌else◌}
use Rattle.std.specs.Prelude.{Contains, Option, None, Some}
use Rattle.std.specs.List.{AllZip, flat_map, list_any}
use Rattle.std.specs.declared.cmp.Ordering.{Ordering}
use Rattle.std.specs.declared.cmp.Ordering.TheVariants.{Less}
use Rattle.std.proofs.lemmas.Bool.{false≢true}
use Rattle.std.proofs.lemmas.List.{get_or_at, map-append}
use Rattle.explore.proofs.Covering.{AreVisited, covers, cover}
use Rattle.explore.proofs.Lists.{Each, In, Ordered, any-found, any-none, contains_in, each-append, each-from-in, each-in, each-weaker, from-flat-map, from-map, in-cases, in-contains, in-flat-map, in-left, in-map, in-right, in_last, ordered-append, ordered-from-pairs, ordered-last, pairs-from-ordered}
use Rattle.explore.proofs.RunOrder.{before-label, before-then, later-short, later-then, later-trans}
use Rattle.explore.proofs.Visits.{IsLawful, run-fits}
use Rattle.explore.specs.Sightings.{AreSighted, HasShown, IsLeastShowing, shown_at_end, shown_by_step}
use Rattle.explore.specs.declared.sightings.Noted.{Noted}
use Rattle.explore.specs.declared.sightings.Sighting.{Sighting}
use Rattle.explore.specs.internal.Noting.{note, note_labels, note_states, note_steps}
use Rattle.explore.specs.internal.Tied.{run_at}
use Rattle.search_layer.specs.declared.visited.Step.{Step}
use Rattle.summary.specs.Graph.{Graph}
use Rattle.summary.specs.Run.{Before, IsRun, NoLater, Run, Start, Then, end_of, labels_of, longer, steps_of}

-- ---- what is noted of items in order

module _ {X E : Type 0} (eq : E → E → Bool) (shown : X → Option E) where
  -- what is noted of items, one after the other
  abbrev pub note_all : List X → List (Noted E X) → List (Noted E X)
  note_all [] noted = noted
  note_all (x ∷ xs) noted = note_all xs (note eq (shown x) x noted)

  pub note-append : (xs ys : List X) (noted : List (Noted E X)) → note_all (xs ++ ys) noted ≡ note_all ys (note_all xs noted)
  note-append [] ys noted = refl
  note-append (x ∷ xs) ys noted = note-append xs ys (note eq (shown x) x noted)

module _ {X E : Type 0} (R : X → X → Type 0) (eq : E → E → Bool) (one : (e f : E) → eq e f ≡ true → e ≡ f) (itself : (e : E) → eq e e ≡ true) (shown : X → Option E) where
  -- the item is the first of these that shows this
  pub record IsFirst (xs : List X) (n : Noted E X) : Type 0 where
    pub front : List X
    pub back : List X
    pub split : xs ≡ front ++ n.at ∷ back
    pub shows : shown n.at ≡ Some n.event
    pub new : Each (λ x. shown x ≡ Some n.event → ⊥) front

  -- what is noted is what these items show, each with the first that shows it, in their order
  pub record AreNoted (xs : List X) (noted : List (Noted E X)) : Type 0 where
    pub firsts : Each (IsFirst xs) noted
    pub ordered : Ordered (λ m n. R m.at n.at) noted
    pub all : (x : X) → In x xs → (e : E) → shown x ≡ Some e → (n : Noted E X) × In n noted × (n.event ≡ e)

  first-more : (xs : List X) (x : X) (n : Noted E X) → IsFirst xs n → IsFirst (xs ++ x ∷ []) n
  first-more xs x n f = record {
    front = f.front;
    back = f.back ++ x ∷ [];
    split = ap (λ ys. ys ++ x ∷ []) f.split ∙ append_assoc f.front (n.at ∷ f.back) (x ∷ []);
    shows = f.shows;
    new = f.new;
  }

  firsts-more : (xs : List X) (x : X) (noted : List (Noted E X)) → Each (IsFirst xs) noted → Each (IsFirst (xs ++ x ∷ [])) noted
  firsts-more xs x noted f = each-weaker (IsFirst xs) (IsFirst (xs ++ x ∷ [])) (first-more xs x) noted f

  among : (xs : List X) (n : Noted E X) → IsFirst xs n → In n.at xs
  among xs n f = subst (In n.at) (sym f.split) (in-right f.front (n.at ∷ f.back) n.at (inl refl))

  -- an item more that shows nothing, or what was shown before
  passed : (xs : List X) (x : X) (noted : List (Noted E X)) → AreNoted xs noted → ((e : E) → shown x ≡ Some e → (n : Noted E X) × In n noted × (n.event ≡ e)) → AreNoted (xs ++ x ∷ []) noted
  passed xs x noted h known = record {
    firsts = firsts-more xs x noted h.firsts;
    ordered = h.ordered;
    all = λ y i e shows. ⊎_elim
        (λ old. h.all y old e shows)
        (elim [ inl is ↦ known e (ap shown is ∙ shows) | inr none ↦ absurd none ])
        (in-cases xs (x ∷ []) y i);
  }

  -- an item more that shows something new
  added : (xs : List X) (x : X) (e : E) (noted : List (Noted E X)) → AreNoted xs noted → Each (λ y. R y x) xs → shown x ≡ Some e
      → Each (λ n. eq n.event e ≡ false) noted → AreNoted (xs ++ x ∷ []) (noted ++ (record { event = e; at = x }) ∷ [])
  added xs x e noted h before shows fresh =
      let here : Noted E X = record { event = e; at = x } in
      record {
        firsts = each-append (IsFirst (xs ++ x ∷ [])) noted (here ∷ []) (firsts-more xs x noted h.firsts) (
          record {
            front = xs;
            back = [];
            split = refl;
            shows = shows;
            new = each-from-in (λ y. shown y ≡ Some e → ⊥) xs (λ y i is.
                let n = h.all y i e is in
                false≢true (sym (each-in (λ m. eq m.event e ≡ false) noted fresh n.0 n.1) ∙ ap (λ f. eq f e) n.2 ∙ itself e));
          },
          tt,
        );
        ordered = ordered-last (λ m n. R m.at n.at) noted here h.ordered
            (each-from-in (λ m. R m.at x) noted (λ m i. each-in (λ y. R y x) xs before m.at (among xs m (each-in (IsFirst xs) noted h.firsts m i))));
        all = λ y i f is. ⊎_elim
            (λ old. let n = h.all y old f is in (n.0, in-left noted (here ∷ []) n.0 n.1, n.2))
            (elim [ inl same ↦ (here, in_last noted here, same-event y f same is) | inr none ↦ absurd none ])
            (in-cases xs (x ∷ []) y i);
      }
    where
      same-event : (y : X) (f : E) → x ≡ y → shown y ≡ Some f → e ≡ f
      same-event y f same is = let both : Some e ≡ Some f = sym shows ∙ ap shown same ∙ is in cc

  one-more : (xs : List X) (x : X) (noted : List (Noted E X)) → AreNoted xs noted → Each (λ y. R y x) xs → AreNoted (xs ++ x ∷ []) (note eq (shown x) x noted)
  one-more xs x noted h before = by (shown x) refl
    where
      known : (e : E) → (b : Bool) → list_any (λ n. eq n.event e) noted ≡ b → shown x ≡ Some e
          → AreNoted (xs ++ x ∷ []) (if b then noted else noted ++ (record { event = e; at = x }) ∷ [])
      known e true is shows =
          let n = any-found (λ (m : Noted E X). eq m.event e) noted is in
          passed xs x noted h (λ f shows_f. (n.0, n.1, one n.0.event e n.2 ∙ let both : Some e ≡ Some f = sym shows ∙ shows_f in cc))
      known e false is shows = added xs x e noted h before shows (any-none (λ (m : Noted E X). eq m.event e) noted is)

      by : (o : Option E) → shown x ≡ o → AreNoted (xs ++ x ∷ []) (note eq o x noted)
      by None is = passed xs x noted h (λ e shows. absurd (let both : None ≡ Some e = sym is ∙ shows in cc))
      by (Some e) is = known e (list_any (λ n. eq n.event e) noted) refl is

  before-middle : (xs : List X) (x : X) (ys : List X) → Ordered R (xs ++ x ∷ ys) → Each (λ y. R y x) xs
  before-middle [] x ys o = tt
  before-middle (z ∷ xs) x ys o = (each-in (R z) (xs ++ x ∷ ys) o.0 x (in-right xs (x ∷ ys) x (inl refl)), before-middle xs x ys o.1)

  are-noted : (xs ys : List X) (noted : List (Noted E X)) → AreNoted xs noted → Ordered R (xs ++ ys) → AreNoted (xs ++ ys) (note_all eq shown ys noted)
  are-noted xs [] noted h o = subst (λ zs. AreNoted zs noted) (sym (append-nil xs)) h
  are-noted xs (y ∷ ys) noted h o =
      let regroup : (xs ++ y ∷ []) ++ ys ≡ xs ++ y ∷ ys = append_assoc xs (y ∷ []) ys in
      subst (λ zs. AreNoted zs (note_all eq shown ys (note eq (shown y) y noted))) regroup
      (are-noted (xs ++ y ∷ []) ys (note eq (shown y) y noted) (one-more xs y noted h (before-middle xs y ys o)) (subst (Ordered R) (sym regroup) o))

  pub all-noted : (xs : List X) → Ordered R xs → AreNoted xs (note_all eq shown xs [])
  all-noted xs o = are-noted [] xs [] (record { firsts = tt; ordered = tt; all = λ x i. absurd i }) o

-- ---- notes of the code stand for notes of runs

module _ {E X Y : Type 0} (eq : E → E → Bool) (to : X → Y) where
  abbrev pub moved : Noted E X → Noted E Y
  moved n = record { event = n.event; at = to n.at }

  any-moved : (e : E) (noted : List (Noted E X)) → list_any (λ n. eq n.event e) (map moved noted) ≡ list_any (λ n. eq n.event e) noted
  any-moved e [] = refl
  any-moved e (n ∷ ns) = ap (λ b. eq n.event e || b) (any-moved e ns)

  pub note-moved : (o : Option E) (at : X) (noted : List (Noted E X)) → map moved (note eq o at noted) ≡ note eq o (to at) (map moved noted)
  note-moved None at noted = refl
  note-moved (Some e) at noted = by (list_any (λ n. eq n.event e) noted) (list_any (λ n. eq n.event e) (map moved noted)) (any-moved e noted)
    where
      by : (b c : Bool) → c ≡ b → map moved (if b then noted else noted ++ (record { event = e; at = at }) ∷ [])
          ≡ (if c then map moved noted else map moved noted ++ (record { event = e; at = to at }) ∷ [])
      by true true is = refl
      by true false is = cc
      by false true is = cc
      by false false is = map-append moved noted ((record { event = e; at = at }) ∷ [])

module _ {C L E : Type 0} (g : Graph C L) (eq : E → E → Bool) (event : C → L → Option E) where
  -- the run before a step, and the step
  abbrev pub stepped : List (Run L) → Step L → Run L
  stepped base s = Then (run_at base s.before) s.label

  labels-tied : (base : List (Run L)) (place : ℕ) (v : Run L) → run_at base place ≡ v → (labels : List L) (noted : List (Noted E (Step L)))
      → map (moved eq (stepped base)) (note_labels g eq event place (end_of g v) labels noted)
      ≡ note_all eq (shown_by_step g event) (map (λ l. Then v l) labels) (map (moved eq (stepped base)) noted)
  labels-tied base place v is [] noted = refl
  labels-tied base place v is (l ∷ ls) noted =
      let o = event (end_of g v) l in
      labels-tied base place v is ls (note eq o (record { before = place; label = l }) noted)
      ∙ ap (note_all eq (shown_by_step g event) (map (λ m. Then v m) ls))
      (note-moved eq (stepped base) o (record { before = place; label = l }) noted
      ∙ ap (λ w. note eq o (Then w l) (map (moved eq (stepped base)) noted)) is)

  pub steps-tied : (base front layer rest : List (Run L)) (place : ℕ) → base ≡ front ++ (layer ++ rest) → length front ≡ place → (noted : List (Noted E (Step L)))
      → map (moved eq (stepped base)) (note_steps g eq event place (map (end_of g) layer) noted)
      ≡ note_all eq (shown_by_step g event) (flat_map (longer g) layer) (map (moved eq (stepped base)) noted)
  steps-tied base front [] rest place split at noted = refl
  steps-tied base front (v ∷ vs) rest place split at noted =
      let here : run_at base place ≡ v = ap (λ xs. run_at xs place) split ∙ get_or_at front v (vs ++ rest) Start place at in
      let regroup : base ≡ (front ++ v ∷ []) ++ (vs ++ rest) = split ∙ sym (append_assoc front (v ∷ []) (vs ++ rest)) in
      let more : length (front ++ v ∷ []) ≡ place + 1 = length-append front (v ∷ []) ∙ ap (λ k. k + 1) at in
      let labelled = note_labels g eq event place (end_of g v) (g.enabled (end_of g v)) noted in
      steps-tied base (front ++ v ∷ []) vs rest (place + 1) regroup more labelled
      ∙ ap (note_all eq (shown_by_step g event) (flat_map (longer g) vs)) (labels-tied base place v here (g.enabled (end_of g v)) noted)
      ∙ sym (note-append eq (shown_by_step g event) (longer g v) (flat_map (longer g) vs) (map (moved eq (stepped base)) noted))

module _ {C L E : Type 0} (g : Graph C L) (eq : E → E → Bool) (stand : C → Option E) where
  pub states-tied : (base front layer : List (Run L)) (place : ℕ) → base ≡ front ++ layer → length front ≡ place → (noted : List (Noted E ℕ))
      → map (moved eq (run_at base)) (note_states eq stand place (map (end_of g) layer) noted)
      ≡ note_all eq (shown_at_end g stand) layer (map (moved eq (run_at base)) noted)
  states-tied base front [] place split at noted = refl
  states-tied base front (v ∷ vs) place split at noted =
      let here : run_at base place ≡ v = ap (λ xs. run_at xs place) split ∙ get_or_at front v vs Start place at in
      let regroup : base ≡ (front ++ v ∷ []) ++ vs = split ∙ sym (append_assoc front (v ∷ []) vs) in
      let more : length (front ++ v ∷ []) ≡ place + 1 = length-append front (v ∷ []) ∙ ap (λ k. k + 1) at in
      let o = stand (end_of g v) in
      states-tied base (front ++ v ∷ []) vs (place + 1) regroup more (note eq o place noted)
      ∙ ap (note_all eq (shown_at_end g stand) vs)
      (note-moved eq (run_at base) o place noted ∙ ap (λ w. note eq o w (map (moved eq (run_at base)) noted)) here)

-- ---- the first run of an ordered list that shows something is the least that does

module _ {C L : Type 0} (g : Graph C L) (cmp : L → L → Ordering) (same : C → C → Bool) (F : C → Type 0) (lawful : IsLawful g cmp same F)
    (n : ℕ) (old layer : List (Run L)) (visited : AreVisited g cmp same F lawful n old layer) where
  step-before : (v w : Run L) (l m : L) → Before cmp v w → Before cmp (Then v l) (Then w m)
  step-before v w l m (inl shorter) = inl (omega arith)
  step-before v w l m (inr h) = before-then cmp lawful.total v w l m h.0 (inr h)

  labels-in-order : (v : Run L) (ls : List L) → Ordered (λ l m. cmp l m ≡ Less) ls → Ordered (Before cmp) (map (λ l. Then v l) ls)
  labels-in-order v [] o = tt
  labels-in-order v (l ∷ ls) o = (behind ls o.0, labels-in-order v ls o.1)
    where
      behind : (ms : List L) → Each (λ m. cmp l m ≡ Less) ms → Each (Before cmp (Then v l)) (map (λ m. Then v m) ms)
      behind [] e = tt
      behind (m ∷ ms) e = (before-label cmp lawful.total v l m e.0, behind ms e.1)

  steps-in-order : (vs : List (Run L)) → Each (IsRun g) vs → Ordered (Before cmp) vs → Ordered (Before cmp) (flat_map (longer g) vs)
  steps-in-order [] runs o = tt
  steps-in-order (v ∷ vs) runs o =
      ordered-append (Before cmp) (longer g v) (flat_map (longer g) vs)
      (labels-in-order v (g.enabled (end_of g v)) (ordered-from-pairs (λ l m. cmp l m ≡ Less) (g.enabled (end_of g v)) (lawful.ascending (end_of g v) (run-fits g cmp same F lawful v runs.0))))
      (steps-in-order vs runs.1 o.1)
      (each-from-in (λ x. Each (Before cmp x) (flat_map (longer g) vs)) (longer g v) (λ x i.
      let here = from-map (λ l. Then v l) (g.enabled (end_of g v)) x i in
      each-from-in (Before cmp x) (flat_map (longer g) vs) (λ y k.
      let from = from-flat-map (longer g) vs y k in
      let step = from-map (λ l. Then from.0 l) (g.enabled (end_of g from.0)) y from.2 in
      subst (λ z. Before cmp z y) here.2 (subst (Before cmp (Then v here.0)) step.2 (step-before v from.0 here.0 step.0 (each-in (Before cmp v) vs o.0 from.0 from.1))))))

  each-left : {A : Type 0} (P : A → Type 0) (xs ys : List A) → Each P (xs ++ ys) → Each P xs
  each-left P [] ys e = tt
  each-left P (x ∷ xs) ys e = (e.0, each-left P xs ys e.1)

  ordered-left : {A : Type 0} (R : A → A → Type 0) (xs ys : List A) → Ordered R (xs ++ ys) → Ordered R xs
  ordered-left R [] ys o = tt
  ordered-left R (x ∷ xs) ys o = (each-left (R x) xs ys o.0, ordered-left R xs ys o.1)

  behind-later : (front : List (Run L)) (v : Run L) (back : List (Run L)) → Ordered (Before cmp) (front ++ v ∷ back) → Each (Before cmp v) back
  behind-later [] v back o = o.0
  behind-later (x ∷ front) v back o = behind-later front v back o.1

  module _ {E : Type 0} (shown : Run L → Option E) (xs : List (Run L)) (ordered : Ordered (Before cmp) xs)
      (runs : (x : Run L) → In x xs → IsRun g x × (steps_of x ≤ n))
      (reached : (r : Run L) (e : E) → HasShown g n shown e r → (x : Run L) × In x xs × (shown x ≡ Some e) × NoLater cmp x r)
      (eq : E → E → Bool) (one : (e f : E) → eq e f ≡ true → e ≡ f) (itself : (e : E) → eq e e ≡ true) where
    least-first : (m : Noted E (Run L)) → IsFirst (Before cmp) eq one itself shown xs m → IsLeastShowing g cmp n shown m.event m.at
    least-first m f =
        let here : In m.at xs = subst (In m.at) (sym f.split) (in-right f.front (m.at ∷ f.back) m.at (inl refl)) in
        record {
          has = record { is_run = (runs m.at here).0; short = (runs m.at here).1; shows = f.shows };
          least = λ other has.
              let x = reached other m.event has in
              ⊎_elim
              (λ in_front. absurd (each-in (λ y. shown y ≡ Some m.event → ⊥) f.front f.new x.0 in_front x.2))
              (elim [
                | inl is ↦ subst (λ y. NoLater cmp y other) (sym is) x.3
                | inr in_back ↦ later-trans cmp lawful.total m.at x.0 other
                    (inl (each-in (Before cmp m.at) f.back (behind-later f.front m.at f.back (subst (Ordered (Before cmp)) f.split ordered)) x.0 in_back)) x.3
              ])
              (in-cases f.front (m.at ∷ f.back) x.0 (subst (In x.0) f.split x.1));
        }

    -- what code makes of the notes is what runs show
    pub are-sighted : (noted : List (Noted E (Run L))) → AreNoted (Before cmp) eq one itself shown xs noted → (sightings : List (Sighting E L))
        → AllZip (λ s m. (s.event ≡ m.event) × (s.run.items ≡ labels_of m.at)) sightings noted → AreSighted g cmp n shown sightings
    are-sighted noted h sightings zip = record {
      runs = map (λ m. m.at) noted;
      ordered = pairs-from-ordered (Before cmp) (map (λ m. m.at) noted) (in-order noted h.ordered);
      least = leasts sightings noted h.firsts zip;
      all = λ e run has.
          let x = reached run e has in
          let m = h.all x.0 x.1 e x.2 in
          let s = zipped sightings noted zip m.0 m.1 in
          (s.0, in-contains sightings s.0 s.1, s.2 ∙ m.2);
    }
      where
        each-at : (m : Noted E (Run L)) (ms : List (Noted E (Run L))) → Each (λ k. Before cmp m.at k.at) ms → Each (Before cmp m.at) (map (λ k. k.at) ms)
        each-at m [] e = tt
        each-at m (k ∷ ks) e = (e.0, each-at m ks e.1)

        in-order : (ms : List (Noted E (Run L))) → Ordered (λ m k. Before cmp m.at k.at) ms → Ordered (Before cmp) (map (λ m. m.at) ms)
        in-order [] o = tt
        in-order (m ∷ ms) o = (each-at m ms o.0, in-order ms o.1)

        leasts : (ss : List (Sighting E L)) (ms : List (Noted E (Run L))) → Each (IsFirst (Before cmp) eq one itself shown xs) ms
            → AllZip (λ s m. (s.event ≡ m.event) × (s.run.items ≡ labels_of m.at)) ss ms
            → AllZip (λ s run. IsLeastShowing g cmp n shown s.event run × (s.run.items ≡ labels_of run)) ss (map (λ m. m.at) ms)
        leasts [] [] f z = tt
        leasts [] (m ∷ ms) f z = absurd z
        leasts (s ∷ ss) [] f z = absurd z
        leasts (s ∷ ss) (m ∷ ms) f z = ((subst (λ e. IsLeastShowing g cmp n shown e m.at) (sym (z.0).0) (least-first m f.0), (z.0).1), leasts ss ms f.1 z.1)

        zipped : (ss : List (Sighting E L)) (ms : List (Noted E (Run L))) → AllZip (λ s m. (s.event ≡ m.event) × (s.run.items ≡ labels_of m.at)) ss ms
            → (m : Noted E (Run L)) → In m ms → (s : Sighting E L) × In s ss × (s.event ≡ m.event)
        zipped [] [] z m i = absurd i
        zipped [] (k ∷ ks) z m i = absurd z
        zipped (s ∷ ss) [] z m i = absurd z
        zipped (s ∷ ss) (k ∷ ks) z m (inl is) = (s, inl refl, (z.0).0 ∙ ap (λ (x : Noted E (Run L)). x.event) is)
        zipped (s ∷ ss) (k ∷ ks) z m (inr i) = let found = zipped ss ks z.1 m i in (found.0, inr found.1, found.2)

  -- ---- steps, and ends

  all-runs : Each (IsRun g) (old ++ layer)
  all-runs = visited.runs

  old-runs : Each (IsRun g) old
  old-runs = each-left (IsRun g) old layer all-runs

  module _ {E : Type 0} (event : C → L → Option E) where
    pub steps-ordered : Ordered (Before cmp) (flat_map (longer g) old)
    steps-ordered = steps-in-order old old-runs (ordered-left (Before cmp) old layer visited.ordered)

    pub steps-are-runs : (x : Run L) → In x (flat_map (longer g) old) → IsRun g x × (steps_of x ≤ n)
    steps-are-runs x i =
        let from = from-flat-map (longer g) old x i in
        let step = from-map (λ l. Then from.0 l) (g.enabled (end_of g from.0)) x from.2 in
        let short : steps_of from.0 < n = each-in (λ v. steps_of v < n) old visited.old_short from.0 from.1 in
        subst (λ y. IsRun g y × (steps_of y ≤ n)) step.2
        ((each-in (IsRun g) old old-runs from.0 from.1, in-contains (g.enabled (end_of g from.0)) step.0 step.1), omega arith)

    pub steps-reached : (r : Run L) (e : E) → HasShown g n (shown_by_step g event) e r
        → (x : Run L) × In x (flat_map (longer g) old) × (shown_by_step g event x ≡ Some e) × NoLater cmp x r
    steps-reached Start e has = absurd (let none : None ≡ Some e = has.shows in cc)
    steps-reached (Then r l) e has =
        let long = has.short in
        let w = cover g cmp same F lawful n (old ++ layer) (covers g cmp same F lawful n old layer visited) r (has.is_run).0 (omega arith) in
        let shorter : steps_of w.0 ≤ steps_of r = later-short cmp lawful.total w.0 r w.3 in
        let enabled : Contains (g.enabled (end_of g w.0)) l = subst (λ c. Contains (g.enabled c) l) (sym w.2) (has.is_run).1 in
        let in_old : In w.0 old = ⊎_elim (λ i. i) (λ i.
        let as_long : steps_of w.0 ≡ n = each-in (λ v. steps_of v ≡ n) layer visited.layer_long w.0 i in absurd (omega arith)) (in-cases old layer w.0 w.1) in (
          Then w.0 l,
          in-flat-map (longer g) old w.0 (Then w.0 l) in_old (in-map (λ m. Then w.0 m) (g.enabled (end_of g w.0)) l (contains_in (g.enabled (end_of g w.0)) l enabled)),
          ap (λ c. event c l) w.2 ∙ has.shows,
          later-then cmp lawful.total w.0 r l w.3,
        )

  module _ {E : Type 0} (stand : C → Option E) where
    pub ends-are-runs : (x : Run L) → In x (old ++ layer) → IsRun g x × (steps_of x ≤ n)
    ends-are-runs x i =
        let all = covers g cmp same F lawful n old layer visited in
        (each-in (IsRun g) (old ++ layer) all.runs x i, each-in (λ v. steps_of v ≤ n) (old ++ layer) all.short x i)

    pub ends-reached : (r : Run L) (e : E) → HasShown g n (shown_at_end g stand) e r
        → (x : Run L) × In x (old ++ layer) × (shown_at_end g stand x ≡ Some e) × NoLater cmp x r
    ends-reached r e has =
        let w = cover g cmp same F lawful n (old ++ layer) (covers g cmp same F lawful n old layer visited) r has.is_run has.short in
        (w.0, w.1, ap stand w.2 ∙ has.shows, w.3)
