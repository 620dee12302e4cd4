-- A module, a script, the name of a test case, a plan and stops have one answer with the least runs to all that is shown.
use Rattle.std.proofs.Common.{◌≡◌, ℕ, zero, suc, ◌<◌, List, [], ◌∷◌, length, get_or, refl, sym, subst, ◌∙◌, arith, inl, inr}
use Rattle.std.specs.Prelude.{◌⊎◌, AllPairs, Option, Ok}
use Rattle.std.specs.List.{AllZip}
use Rattle.std.specs.Cmp.{IsTotalOrder}
use Rattle.std.specs.declared.cmp.Ordering.{Ordering}
use Rattle.explore.proofs.RunOrder.{before-trans}
use Rattle.explore.specs.Sightings.{AreSighted, IsLeastShowing, shown_at_end, shown_by_step}
use Rattle.explore.specs.declared.ending.Stops.{Stops}
use Rattle.explore.specs.declared.sightings.Sighting.{Sighting}
use Rattle.search_layer.specs.declared.plan.Plan.{Plan}
use Rattle.semantics.specs.Labels.{label_cmp}
use Rattle.semantics.specs.Runs.{graph_of}
use Rattle.semantics.specs.Snapshots.{Test}
use Rattle.step_labels.specs.Labels.{label_total}
use Rattle.summary.specs.Graph.{Graph}
use Rattle.summary.specs.Run.{Before, Run, labels_of}
use Rattle.ttcnx.proofs.Checks.{some-is}
use Rattle.ttcnx.proofs.OneAnswer.{one-test}
use Rattle.ttcnx.proofs.OneReport.{never-before, same-run}
use Rattle.ttcnx.proofs.OneUntil.{one_number, one_until}
use Rattle.ttcnx.specs.Named.{Source}
use Rattle.ttcnx.specs.Sighted.{HasOneAnswerSighted, refused, sighted}
use Rattle.ttcnx.specs.Until as until
use Rattle.ttcnx_runs.specs.Sights.{AreBlocks, ArePlaces, block_in, step_place}

-- ---- lists of runs in their order

module _ {A : Type 0} where
  abbrev In : A → List A → Type 0
  In x [] = ⊥
  In x (y ∷ ys) = (y ≡ x) ⊎ In x ys

  behind : (R : A → A → Type 0) (x : A) (xs : List A) → AllPairs R (x ∷ xs) → (y : A) → In y xs → R x y
  behind R x [] pairs y i = absurd i
  behind R x (z ∷ zs) pairs y (inl e) = subst (R x) e (pairs 0 1 z (omega arith) (omega arith))
  behind R x (z ∷ zs) pairs y (inr i) = behind R x zs (λ j k d less fits. skipped j k d less fits) y i
    where
      skipped : (j k : ℕ) (d : A) → j < k → k < length (x ∷ zs) → R (get_or (x ∷ zs) j d) (get_or (x ∷ zs) k d)
      skipped zero zero d less fits = absurd (omega (arith, less))
      skipped zero (suc k) d less fits = pairs 0 (suc (suc k)) d (omega arith) (omega (arith, fits))
      skipped (suc j) zero d less fits = absurd (omega (arith, less))
      skipped (suc j) (suc k) d less fits = pairs (suc (suc j)) (suc (suc k)) d (omega (arith, less)) (omega (arith, fits))

  rest-of : (R : A → A → Type 0) (x : A) (xs : List A) → AllPairs R (x ∷ xs) → AllPairs R xs
  rest-of R x xs pairs = λ j k d less fits. pairs (suc j) (suc k) d (omega (arith, less)) (omega (arith, fits))

module _ {C L : Type 0} (g : Graph C L) (cmp : L → L → Ordering) (total : IsTotalOrder cmp) where
  not-both : (r s : Run L) → Before cmp r s → Before cmp s r → ⊥
  not-both r s h k = never-before cmp total r (before-trans cmp total r s r h k)

  -- two lists of the same runs, each in the order of runs, are one
  one-order : (rs ss : List (Run L)) → AllPairs (Before cmp) rs → AllPairs (Before cmp) ss
      → ((r : Run L) → In r rs → In r ss) → ((s : Run L) → In s ss → In s rs) → rs ≡ ss
  one-order [] [] up also to from = refl
  one-order [] (s ∷ ss) up also to from = absurd (from s (inl refl))
  one-order (r ∷ rs) [] up also to from = absurd (to r (inl refl))
  one-order (r ∷ rs) (s ∷ ss) up also to from =
      let same = first (to r (inl refl)) (from s (inl refl)) in
      let others = one-order rs ss (rest-of (Before cmp) r rs up) (rest-of (Before cmp) s ss also)
      (λ x i. later same x i (to x (inr i))) (λ x i. earlier same x i (from x (inr i))) in
      λ i. same i ∷ others i
    where
      first : In r (s ∷ ss) → In s (r ∷ rs) → r ≡ s
      first (inl e) k = sym e
      first (inr i) (inl e) = e
      first (inr i) (inr k) = absurd (not-both s r (behind (Before cmp) s ss also r i) (behind (Before cmp) r rs up s k))

      later : r ≡ s → (x : Run L) → In x rs → In x (s ∷ ss) → In x ss
      later same x i (inl e) = absurd (never-before cmp total r (subst (Before cmp r) (sym e ∙ sym same) (behind (Before cmp) r rs up x i)))
      later same x i (inr k) = k

      earlier : r ≡ s → (x : Run L) → In x ss → In x (r ∷ rs) → In x rs
      earlier same x i (inl e) = absurd (never-before cmp total s (subst (Before cmp s) (sym e ∙ same) (behind (Before cmp) s ss also x i)))
      earlier same x i (inr k) = k

  -- ---- what is shown

  module _ {E : Type 0} (n : ℕ) (shown : Run L → Option E) where
    abbrev IsOf : Sighting E L → Run L → Type 0
    IsOf s run = IsLeastShowing g cmp n shown s.event run × (s.run.items ≡ labels_of run)

    -- each run is the least one that shows something
    run-shows : (ss : List (Sighting E L)) (runs : List (Run L)) → AllZip IsOf ss runs → (r : Run L) → In r runs → (e : E) × IsLeastShowing g cmp n shown e r
    run-shows [] [] zip r i = absurd i
    run-shows [] (x ∷ xs) zip r i = absurd zip
    run-shows (s ∷ ss) [] zip r i = absurd i
    run-shows (s ∷ ss) (x ∷ xs) zip r (inl e) = (s.event, subst (IsLeastShowing g cmp n shown s.event) e zip.0.0)
    run-shows (s ∷ ss) (x ∷ xs) zip r (inr i) = run-shows ss xs zip.1 r i

    -- whatever is listed has its least run there
    has-run : (ss : List (Sighting E L)) (runs : List (Run L)) → AllZip IsOf ss runs → (k : ℕ) (s : Sighting E L) → k < length ss → get_or ss k s ≡ s
        → (r : Run L) × In r runs × IsLeastShowing g cmp n shown s.event r
    has-run [] runs zip k s fits is = absurd (omega (arith, fits))
    has-run (x ∷ xs) [] zip k s fits is = absurd zip
    has-run (x ∷ xs) (r ∷ rs) zip zero s fits is = (r, inl refl, subst (λ (t : Sighting E L). IsLeastShowing g cmp n shown t.event r) is zip.0.0)
    has-run (x ∷ xs) (r ∷ rs) zip (suc k) s fits is = let found = has-run xs rs zip.1 k s (omega (arith, fits)) is in (found.0, inr found.1, found.2)

    runs-there : (ss others : List (Sighting E L)) (h : AreSighted g cmp n shown ss) (k : AreSighted g cmp n shown others) → (r : Run L) → In r h.runs → In r k.runs
    runs-there ss others h k r i =
        let shows = run-shows ss h.runs h.least r i in
        let listed = k.all shows.0 r shows.1.has in
        let there = has-run others k.runs k.least listed.1.0 listed.0 listed.1.1 listed.1.2 in
        let least = subst (λ (e : E). IsLeastShowing g cmp n shown e there.0) listed.2 there.2 in
        subst (λ (x : Run L). In x k.runs) (same-run cmp total there.0 r (least.least r shows.1.has) (shows.1.least there.0 least.has)) there.1

    each-alike : (ss others : List (Sighting E L)) (runs : List (Run L)) → AllZip IsOf ss runs → AllZip IsOf others runs
        → AllZip (λ one other. (one.event ≡ other.event) × (one.run.items ≡ other.run.items)) ss others
    each-alike [] [] runs h k = tt
    each-alike [] (t ∷ ts) [] h k = absurd k
    each-alike [] (t ∷ ts) (r ∷ rs) h k = absurd h
    each-alike (s ∷ ss) [] [] h k = absurd h
    each-alike (s ∷ ss) [] (r ∷ rs) h k = absurd k
    each-alike (s ∷ ss) (t ∷ ts) [] h k = absurd h
    each-alike (s ∷ ss) (t ∷ ts) (r ∷ rs) h k =
        ((some-is (sym h.0.0.has.shows ∙ k.0.0.has.shows), h.0.1 ∙ sym k.0.1), each-alike ss ts rs h.1 k.1)

    pub sighted-alike : (ss others : List (Sighting E L)) → AreSighted g cmp n shown ss → AreSighted g cmp n shown others
        → AllZip (λ one other. (one.event ≡ other.event) × (one.run.items ≡ other.run.items)) ss others
    sighted-alike ss others h k =
        let same = one-order h.runs k.runs h.ordered k.ordered (runs-there ss others h k) (runs-there others ss k h) in
        each-alike ss others k.runs (subst (AllZip IsOf ss) same h.least) k.least

-- ---- one answer

module _ (given : Source) (name : List ℕ) (plan : Plan) (stops : Stops) where
  pub one_sighted : HasOneAnswerSighted given name plan stops
  one_sighted answer other (refused {why = why} h) (refused {why = second} k) = one_until given name plan stops _ _ (until.refused h) (until.refused k)
  one_sighted answer other (refused {why = why} h) (sighted told is places blocks) = absurd (one_until given name plan stops _ _ (until.refused h) told)
  one_sighted answer other (sighted told is places blocks) (refused {why = why} k) = absurd (one_until given name plan stops _ _ told (until.refused k))
  one_sighted answer other (sighted {sights = sights} {test = test} told is places blocks) (sighted {sights = second} {test = too} also is_too places_too blocks_too) =
      let same = one_until given name plan stops (Ok sights.until) (Ok second.until) told also in
      let to = one-test given name test too is is_too in
      let steps : sights.until.report.steps ≡ second.until.report.steps = one_number given name plan stops sights.until second.until told also in
      let n = second.until.report.steps in (
        same,
        sighted-alike (graph_of too) label_cmp label_total n (shown_by_step (graph_of too) (step_place too)) sights.places.items second.places.items
            (subst (λ (m : ℕ). ArePlaces too m sights.places.items) steps (subst (λ (t : Test). ArePlaces t sights.until.report.steps sights.places.items) to places)) places_too,
        sighted-alike (graph_of too) label_cmp label_total n (shown_at_end (graph_of too) (block_in too)) sights.blocks.items second.blocks.items
            (subst (λ (m : ℕ). AreBlocks too m sights.blocks.items) steps (subst (λ (t : Test). AreBlocks t sights.until.report.steps sights.blocks.items) to blocks)) blocks_too,
      )
