-- Each step of a table of first positions keeps its rule.
use Rattle.std.proofs.Common.{◌≡◌, ◌≢◌, ℕ, zero, suc, ◌+◌, ◌-◌, ◌<◌, ◌≤◌, ◌==◌, min, true, false, ◌⊎◌, List, [], ◌∷◌, ◌++◌, length, replicate, set, slice_index, sym, refl, ap, subst, ◌∙◌, ⊎_elim, inl, inr, lt_of_not-le, eq-eqb, ne_eqb, arith}
use Rattle.std.proofs.lemmas.List.{length-set, set-get_or, length-replicate}
use mathlib.Core.Option.{Option, some, some-injective, some-ne-none}
use mathlib.Core.Logic.{dite}
use native.Mathlib.Decide.{dec_le, ℕ_discrete}
use lib.ListN.{get_elem?}
use prog.Atomic.{either}
use Rattle.atomic_table.specs.Table.{Me, Allows, Splits, Joins, step, opening, Final, Seen, keeps}
use Rattle.atomic_table.proofs.Lists.{at_set, at_snoc}
use Rattle.shared.specs.declared.seen.view.SeenView.{SeenView}
use Rattle.shared.specs.Totals.{total, times, Stands}
use Rattle.shared.specs.Classes.{Shape}
use Rattle.shared.specs.SeenRule.{first_view, fresh, with_one_less, either_known, joined, spent, with_known, with_first, with_lower, AreAlike, HasClass, OneWordEach, along, IsHeld, Lives, FitsSeen, HoldsFirsts, Met, KeepsSeen, Tries, Lowers}
use Rattle.shared.proofs.Sums.{there, total-add, total-split, total-join, total-has, total-alone, times-append, times-push-hit, times-push-miss}
use Rattle.shared.proofs.ClassLemmas.{IsShape}
use Rattle.shared.proofs.SeenWords.{along-low, set-at, set-off, set-cases, zeros, length-either, either-cases}

-- how often x stands in what the seats noted
abbrev noted : (SeenView → List ℕ) → ℕ → List SeenView → ℕ
noted f x views = total (λ (u : SeenView). times x (f u)) views

-- one seat noted one more position
module _ (f : SeenView → List ℕ) (views : List SeenView) (id : ℕ) (v w : SeenView) (i : ℕ) (at : get_elem? views id ≡ some v) (more : f w ≡ f v ++ i ∷ []) where
  noted-here : 0 < noted f i (set views id w)
  noted-here = omega (arith, total-add (λ (u : SeenView). times i (f u)) views id v w 1 at (ap (times i) more ∙ times-push-hit i i (f v) refl))

  noted-more : (x : ℕ) → 0 < noted f x views → 0 < noted f x (set views id w)
  noted-more x h = dite (ℕ_discrete i x) (λ is. subst (λ (z : ℕ). 0 < noted f z (set views id w)) is noted-here)
      (λ other. omega (arith, h, total-add (λ (u : SeenView). times x (f u)) views id v w 0 at (ap (times x) more ∙ times-push-miss x i (f v) other)))

  noted-from : (x : ℕ) → 0 < noted f x (set views id w) → (i ≡ x) ⊎ (0 < noted f x views)
  noted-from x h = dite (ℕ_discrete i x) (λ is. inl is)
      (λ other. inr (omega (arith, h, total-add (λ (u : SeenView). times x (f u)) views id v w 0 at (ap (times x) more ∙ times-push-miss x i (f v) other))))

-- words may change to other positions of one class, and from free to taken
record Grows (shape : Shape) (ws after : List ℕ) : Type 0 where
  grown : (a k : ℕ) → slice_index ws a ≡ k + 1 → HasClass shape.classes after a k

module _ {shape : Shape} where
  has-grown : {ws after : List ℕ} → Grows shape ws after → (a j : ℕ) → HasClass shape.classes ws a j → HasClass shape.classes after a j
  has-grown grows a j h = let g = grows.grown a h.0 h.1 in (g.0, g.1, g.2 ∙ h.2)

  full-grown : {ws after : List ℕ} → Grows shape ws after → (a : ℕ) → 0 < slice_index ws a → 0 < slice_index after a
  full-grown {ws} {after} grows a full = let g = grows.grown a (slice_index ws a - 1) (omega arith) in omega (arith, g.1)

  lives-grown : {ws after : List ℕ} → Grows shape ws after → (v : SeenView) → Lives shape ws v → Lives shape after v
  lives-grown grows v l = record {
    classes = l.classes;
    word_count = l.word_count;
    seats = l.seats;
    size = l.size;
    inside = l.inside;
    known = λ a j e. has-grown grows a j (l.known a j e);
  }

  fits-grown : {ws after : List ℕ} → Grows shape ws after → (v : SeenView) → FitsSeen shape ws v → FitsSeen shape after v
  fits-grown grows v f = record { lives = λ live. lives-grown grows v (f.lives live); nothing = f.nothing; others = f.others }

  held-grown : {ws after : List ℕ} {views later : List SeenView} → Grows shape ws after → (a j : ℕ) → (0 < noted (λ u. u.placed) j views → 0 < noted (λ u. u.placed) j later) → IsHeld shape ws views a j → IsHeld shape after later a j
  held-grown grows a j more h = record {
    inside = h.inside;
    placed = more h.placed;
    way = h.way;
    near = h.near;
    there = h.there;
    full = λ t less. full-grown grows _ (h.full t less);
  }

  each-set : {ws after : List ℕ} (views : List SeenView) (id : ℕ) (w : SeenView) → ((j : ℕ) (u : SeenView) → get_elem? views j ≡ some u → FitsSeen shape ws u)
      → ((u : SeenView) → FitsSeen shape ws u → FitsSeen shape after u) → FitsSeen shape after w → (j : ℕ) (u : SeenView) → get_elem? (set views id w) j ≡ some u → FitsSeen shape after u
  each-set {after = after} views id w each moved fits j u at = ⊎_elim (λ here. subst (FitsSeen shape after) here.1 fits) (λ other. moved u (each j u other.1)) (at_set views id j w u at)

  -- what a seat met was placed
  met-placed : {ws : List ℕ} {views : List SeenView} → HoldsFirsts shape ws views → (id : ℕ) (v : SeenView) → get_elem? views id ≡ some v → (x : ℕ) → Met v x → 0 < noted (λ u. u.placed) x views
  met-placed {ws} {views} h id v at x met = dite (dec_le 1 (times x v.placed)) (λ did. omega (arith, did, total-has (λ (u : SeenView). times x u.placed) views id v at))
      (λ none. h.answered x (omega (arith, total-has (λ (u : SeenView). times x u.answered) views id v at)))

  -- no seat knows two words of one class
  known-once : {ws : List ℕ} {views : List SeenView} → HoldsFirsts shape ws views → (v : SeenView) → Lives shape ws v → OneWordEach v.classes v.known
  known-once h v l = subst (λ cs. OneWordEach cs v.known) (sym l.classes)
      (λ a b j k e f alike. let p = l.known a j e in let q = l.known b k f in h.apart a b p.0 q.0 p.1 q.1 (p.2 ∙ alike ∙ sym q.2))

  module _ (is : IsShape shape) {ws : List ℕ} {views : List SeenView} (h : HoldsFirsts shape ws views) (id : ℕ) (v : SeenView) (at : get_elem? views id ≡ some v) (live : 0 < v.parts) where
    fits : FitsSeen shape ws v
    fits = h.each id v at

    lives : Lives shape ws v
    lives = fits.lives live

    module _ (a i way : ℕ) (inside : i < length shape.classes) (near : way < shape.words) (on : a ≡ along shape.words (slice_index shape.starts i) way)
        (others : (t : ℕ) → t < way → (j : ℕ) × (slice_index v.known (along shape.words (slice_index shape.starts i) t) ≡ j + 1) × ¬ (AreAlike shape.classes j i)) (free : slice_index ws a ≡ 0) where
      -- a word that is free on the way, with words of other classes before it, shows that the class has no word
      no-class : (b k : ℕ) → slice_index ws b ≡ k + 1 → AreAlike shape.classes k i → ⊥
      no-class b k e alike =
          let held = h.held b k e in let from = is.starts k i held.inside inside alike in
          let b_is : b ≡ along shape.words (slice_index shape.starts i) held.way = held.there ∙ ap (λ (s : ℕ). along shape.words s held.way) from in
          dite (ℕ_discrete held.way way)
          (λ same. let is_a : b ≡ a = b_is ∙ ap (along shape.words (slice_index shape.starts i)) same ∙ sym on in let none = ap (slice_index ws) is_a in absurd (omega arith))
          (λ apart. dite (dec_le way held.way)
          (λ later. let full = held.full way (omega arith) in
          let is_a : along shape.words (slice_index shape.starts k) way ≡ a = ap (λ (s : ℕ). along shape.words s way) from ∙ sym on in let none = ap (slice_index ws) is_a in absurd (omega arith))
          (λ sooner. let o = others held.way (omega (arith, lt_of_not-le sooner)) in
          let p = lives.known _ o.0 o.1 in let k_is : p.0 + 1 ≡ k + 1 = sym p.1 ∙ ap (slice_index ws) (sym b_is) ∙ e in let one : p.0 ≡ k = omega arith in
          o.2 (sym p.2 ∙ ap (slice_index shape.classes) one ∙ alike)))

      low : a < length ws
      low = let r = along-low shape.words (slice_index shape.starts i) way (is.low i inside) near in omega (arith, r, h.size, on)

      first-grows : Grows shape ws (set ws a (i + 1))
      first-grows = record { grown = λ b k e. let other : b ≢ a = λ same. let none = ap (slice_index ws) same in absurd (omega arith) in (k, set-off ws a b (i + 1) other ∙ e, refl) }

      abbrev w : SeenView
      w = with_first v a i

      first-lives : Lives shape (set ws a (i + 1)) w
      first-lives =
          let known : (b j : ℕ) → slice_index (set v.known a (i + 1)) b ≡ j + 1 → (j < length shape.classes) × HasClass shape.classes (set ws a (i + 1)) b j =
          λ b j e. ⊎_elim (λ here. let same : i ≡ j = omega (arith, here.1) in (omega arith, (i, ap (slice_index (set ws a (i + 1))) here.0 ∙ set-at ws a (i + 1) low, ap (slice_index shape.classes) same)))
          (λ other. (lives.inside b j other.1, has-grown first-grows b j (lives.known b j other.1))) (set-cases v.known a b (i + 1) (j + 1) (omega (arith, low, h.size, lives.size)) e) in record {
            classes = lives.classes;
            word_count = lives.word_count;
            seats = lives.seats;
            size = length-set v.known a (i + 1) ∙ lives.size;
            inside = λ b j e. (known b j e).0;
            known = λ b j e. (known b j e).1;
          }

      put-first : HoldsFirsts shape (set ws a (i + 1)) (set views id w)
      put-first =
          let more = noted-more (λ u. u.placed) views id v w i at refl in record {
            seats = total-add (λ (u : SeenView). u.parts + u.left) views id v w 0 at (omega arith) ∙ (omega (arith, h.seats));
            size = length-set ws a (i + 1) ∙ h.size;
            held = λ b j e. ⊎_elim
                (λ here. let same : i ≡ j = omega (arith, here.1) in let word : a ≡ b = sym here.0 in
                let new : IsHeld shape (set ws a (i + 1)) (set views id w) a i = record {
                  inside = inside;
                  placed = noted-here (λ u. u.placed) views id v w i at refl;
                  way = way;
                  near = near;
                  there = on;
                  full = λ t less. let o = others t less in full-grown first-grows _ (let p = lives.known _ o.0 o.1 in omega (arith, p.1));
                } in subst (λ (z : ℕ). IsHeld shape (set ws a (i + 1)) (set views id w) z j) word (subst (IsHeld shape (set ws a (i + 1)) (set views id w) a) same new))
                (λ other. held-grown first-grows b j (more j) (h.held b j other.1)) (set-cases ws a b (i + 1) (j + 1) low e);
            apart = λ b c j k e f alike. ⊎_elim
                (λ here. ⊎_elim (λ too. here.0 ∙ sym too.0) (λ other. let same : i ≡ j = omega (arith, here.1) in absurd (no-class c k other.1 (sym alike ∙ ap (slice_index shape.classes) (sym same)))) (set-cases ws a c (i + 1) (k + 1) low f))
                (λ there_b. ⊎_elim (λ too. let same : i ≡ k = omega (arith, too.1) in absurd (no-class b j there_b.1 (alike ∙ ap (slice_index shape.classes) (sym same)))) (λ other. h.apart b c j k there_b.1 other.1 alike) (set-cases ws a c (i + 1) (k + 1) low f))
                (set-cases ws a b (i + 1) (j + 1) low e);
            inside = λ x did. ⊎_elim (λ same. omega arith) (h.inside x) (noted-from (λ u. u.placed) views id v w i at refl x did);
            least = λ x did. ⊎_elim (λ same. (a, i, set-at ws a (i + 1) low, ap (slice_index shape.classes) same, omega arith))
                (λ was. let p = h.least x was in let other : p.0 ≢ a = λ same. let none = ap (slice_index ws) same in let e = p.2 in absurd (omega arith) in (p.0, p.1, set-off ws a p.0 (i + 1) other ∙ p.2, p.3, p.4))
                (noted-from (λ u. u.placed) views id v w i at refl x did);
            answered = λ x did. ⊎_elim (λ same. subst (λ (z : ℕ). 0 < noted (λ u. u.placed) z (set views id w)) same (noted-here (λ u. u.placed) views id v w i at refl)) (λ was. more x (h.answered x was))
                (noted-from (λ u. u.answered) views id v w i at refl x did);
            each = each-set views id w h.each (fits-grown first-grows) (record { lives = λ _. first-lives; nothing = λ none. absurd (omega arith); others = fits.others });
          }

      none-met : (x : ℕ) → Met v x → ¬ (AreAlike shape.classes x i)
      none-met x met alike = let p = h.least x (met-placed h id v at x met) in no-class p.0 p.1 p.2 (p.3 ∙ alike)

    module _ (a j : ℕ) (low : a < length ws) (has : slice_index ws a ≡ j + 1) where
      abbrev seen : SeenView
      seen = with_known v a j

      same-words : Grows shape ws ws
      same-words = record { grown = λ b k e. (k, e, refl) }

      seen-lives : Lives shape ws seen
      seen-lives =
          let known : (b k : ℕ) → slice_index (set v.known a (j + 1)) b ≡ k + 1 → (k < length shape.classes) × HasClass shape.classes ws b k =
          λ b k e. ⊎_elim (λ here. let same : j ≡ k = omega (arith, here.1) in (omega (arith, (h.held a j has).inside), (j, ap (slice_index ws) here.0 ∙ has, ap (slice_index shape.classes) same)))
          (λ other. (lives.inside b k other.1, lives.known b k other.1)) (set-cases v.known a b (j + 1) (k + 1) (omega (arith, low, h.size, lives.size)) e) in record {
            classes = lives.classes;
            word_count = lives.word_count;
            seats = lives.seats;
            size = length-set v.known a (j + 1) ∙ lives.size;
            inside = λ b k e. (known b k e).0;
            known = λ b k e. (known b k e).1;
          }

      look-at : HoldsFirsts shape ws (set views id seen)
      look-at =
          let same : (g : SeenView → ℕ) → g seen ≡ g v → total g (set views id seen) ≡ total g views = λ g e. let t = total-add g views id v seen 0 at (omega arith) in omega arith in
          let placed : (x : ℕ) → noted (λ u. u.placed) x (set views id seen) ≡ noted (λ u. u.placed) x views = λ x. same (λ (u : SeenView). times x u.placed) refl in record {
            seats = same (λ (u : SeenView). u.parts + u.left) refl ∙ h.seats;
            size = h.size;
            held = λ b k e. held-grown same-words b k (λ did. omega (arith, did, placed k)) (h.held b k e);
            apart = h.apart;
            inside = λ x did. h.inside x (omega (arith, did, placed x));
            least = λ x did. h.least x (omega (arith, did, placed x));
            answered = λ x did. let was = h.answered x (omega (arith, did, same (λ (u : SeenView). times x u.answered) refl)) in omega (arith, was, placed x);
            each = each-set views id seen h.each (λ u f. f) (record { lives = λ _. seen-lives; nothing = λ none. absurd (omega arith); others = fits.others });
          }

    module _ (a i k : ℕ) (low : a < length ws) (inside : i < length shape.classes) (has : slice_index ws a ≡ k + 1) (alike : AreAlike shape.classes k i) where
      abbrev lowered : SeenView
      lowered = with_lower v i k

      least-alike : AreAlike shape.classes (min k i) i
      least-alike = dite (dec_le k i) (λ le. let e : min k i ≡ k = omega arith in ap (slice_index shape.classes) e ∙ alike) (λ more. let e : min k i ≡ i = omega (arith, lt_of_not-le more) in ap (slice_index shape.classes) e)

      lower-grows : Grows shape ws (set ws a (min k i + 1))
      lower-grows = record {
        grown = λ b j e. dite (ℕ_discrete b a)
            (λ here. let same : j ≡ k = omega (arith, e, has, ap (slice_index ws) here) in (min k i, ap (slice_index (set ws a (min k i + 1))) here ∙ set-at ws a (min k i + 1) low, least-alike ∙ sym alike ∙ ap (slice_index shape.classes) (sym same)))
            (λ other. (j, set-off ws a b (min k i + 1) other ∙ e, refl));
      }

      -- what the words have now, they had before but for a lesser position of the class
      lower-from : (b j : ℕ) → slice_index (set ws a (min k i + 1)) b ≡ j + 1 → HasClass shape.classes ws b j
      lower-from b j e = ⊎_elim (λ here. let same : min k i ≡ j = omega (arith, here.1) in (k, ap (slice_index ws) here.0 ∙ has, alike ∙ sym least-alike ∙ ap (slice_index shape.classes) same)) (λ other. (j, other.1, refl)) (set-cases ws a b (min k i + 1) (j + 1) low e)

      lower-lives : Lives shape (set ws a (min k i + 1)) lowered
      lower-lives = record { classes = lives.classes; word_count = lives.word_count; seats = lives.seats; size = lives.size; inside = lives.inside; known = λ b j e. has-grown lower-grows b j (lives.known b j e) }

      put-lower : HoldsFirsts shape (set ws a (min k i + 1)) (set views id lowered)
      put-lower =
          let more = noted-more (λ u. u.placed) views id v lowered i at refl in let was_held = h.held a k has in
          let least_placed : 0 < noted (λ u. u.placed) (min k i) (set views id lowered) = dite (dec_le k i) (λ le. let e : k ≡ min k i = omega arith in subst (λ (z : ℕ). 0 < noted (λ u. u.placed) z (set views id lowered)) e (more k was_held.placed))
          (λ past. let e : i ≡ min k i = omega (arith, lt_of_not-le past) in subst (λ (z : ℕ). 0 < noted (λ u. u.placed) z (set views id lowered)) e (noted-here (λ u. u.placed) views id v lowered i at refl)) in
          let least_inside : min k i < length shape.classes = omega arith in
          let from : slice_index shape.starts k ≡ slice_index shape.starts (min k i) = is.starts k (min k i) was_held.inside least_inside (alike ∙ sym least-alike) in
          let new : IsHeld shape (set ws a (min k i + 1)) (set views id lowered) a (min k i) = record {
            inside = least_inside;
            placed = least_placed;
            way = was_held.way;
            near = was_held.near;
            there = was_held.there ∙ ap (λ (s : ℕ). along shape.words s was_held.way) from;
            full = λ t less. subst (λ (s : ℕ). 0 < slice_index (set ws a (min k i + 1)) (along shape.words s t)) from (full-grown lower-grows _ (was_held.full t less));
          } in record {
            seats = total-add (λ (u : SeenView). u.parts + u.left) views id v lowered 0 at (omega arith) ∙ (omega (arith, h.seats));
            size = length-set ws a (min k i + 1) ∙ h.size;
            held = λ b j e. ⊎_elim
                (λ here. let same : min k i ≡ j = omega (arith, here.1) in subst (λ (z : ℕ). IsHeld shape (set ws a (min k i + 1)) (set views id lowered) z j) (sym here.0) (subst (IsHeld shape (set ws a (min k i + 1)) (set views id lowered) a) same new))
                (λ other. held-grown lower-grows b j (more j) (h.held b j other.1)) (set-cases ws a b (min k i + 1) (j + 1) low e);
            apart = λ b c j x e f one. let p = lower-from b j e in let q = lower-from c x f in h.apart b c p.0 q.0 p.1 q.1 (p.2 ∙ one ∙ sym q.2);
            inside = λ x did. ⊎_elim (λ same. omega arith) (h.inside x) (noted-from (λ u. u.placed) views id v lowered i at refl x did);
            least = λ x did. ⊎_elim (λ same. (a, min k i, set-at ws a (min k i + 1) low, least-alike ∙ ap (slice_index shape.classes) same, omega arith))
                (λ was. let p = h.least x was in dite (ℕ_discrete p.0 a)
                (λ here. let same : p.1 ≡ k = omega (arith, p.2, has, ap (slice_index ws) here) in (a, min k i, set-at ws a (min k i + 1) low, least-alike ∙ sym alike ∙ ap (slice_index shape.classes) (sym same) ∙ p.3, omega (arith, p.4)))
                (λ other. (p.0, p.1, set-off ws a p.0 (min k i + 1) other ∙ p.2, p.3, p.4)))
                (noted-from (λ u. u.placed) views id v lowered i at refl x did);
            answered = λ x did. ⊎_elim (λ same. subst (λ (z : ℕ). 0 < noted (λ u. u.placed) z (set views id lowered)) same least_placed) (λ was. more x (h.answered x was))
                (noted-from (λ u. u.answered) views id v lowered (min k i) at refl x did);
            each = each-set views id lowered h.each (fits-grown lower-grows) (record { lives = λ _. lower-lives; nothing = λ none. absurd (omega arith); others = fits.others });
          }

      least-met : (x : ℕ) → Met v x → AreAlike shape.classes x i → k ≤ x
      least-met x met one = let p = h.least x (met-placed h id v at x met) in let same : p.0 ≡ a = h.apart p.0 a p.1 k p.2 has (p.3 ∙ one ∙ sym alike) in
          omega (arith, p.2, p.4, has, ap (slice_index ws) same)

  cut : {ws : List ℕ} {views : List SeenView} → HoldsFirsts shape ws views → (id : ℕ) (v : SeenView) → get_elem? views id ≡ some v → 0 < v.parts → v.first ≡ true → 0 < v.left
      → HoldsFirsts shape ws (set views id (with_one_less v) ++ fresh v ∷ [])
  cut {ws} {views} h id v at live first more =
      let l = with_one_less v in let r = fresh v in let f = h.each id v at in let lives = f.lives live in
      let same : (g : SeenView → ℕ) → g l + g r ≡ g v → total g (set views id l ++ r ∷ []) ≡ total g views = λ g. total-split g views id v l r at in
      let placed : (x : ℕ) → noted (λ u. u.placed) x (set views id l ++ r ∷ []) ≡ noted (λ u. u.placed) x views = λ x. same (λ (u : SeenView). times x u.placed) (omega arith) in
      let left_fits : FitsSeen shape ws l = record {
        lives = λ _. record { classes = lives.classes; word_count = lives.word_count; seats = lives.seats; size = lives.size; inside = lives.inside; known = lives.known };
        nothing = λ none. absurd (omega arith);
        others = λ other. cc;
      } in
      let blank : (a j : ℕ) → slice_index (replicate v.words 0) a ≡ j + 1 → ⊥ = λ a j e. let z = zeros v.words a in absurd (omega arith) in
      let right_fits : FitsSeen shape ws r = record {
        lives = λ _. record { classes = lives.classes; word_count = lives.word_count; seats = lives.seats; size = length-replicate v.words 0 ∙ lives.word_count; inside = λ a j e. absurd (blank a j e); known = λ a j e. absurd (blank a j e) };
        nothing = λ none. absurd (omega arith);
        others = λ _. refl;
      } in record {
        seats = same (λ (u : SeenView). u.parts + u.left) (omega arith) ∙ h.seats;
        size = h.size;
        held = λ a j e. held-grown (record { grown = λ b k found. (k, found, refl) }) a j (λ did. omega (arith, did, placed j)) (h.held a j e);
        apart = h.apart;
        inside = λ x did. h.inside x (omega (arith, did, placed x));
        least = λ x did. h.least x (omega (arith, did, placed x));
        answered = λ x did. let was = h.answered x (omega (arith, did, same (λ (u : SeenView). times x u.answered) (omega arith))) in omega (arith, was, placed x);
        each = λ j u here. ⊎_elim (each-set views id l h.each (λ u fits. fits) left_fits j u) (λ is. subst (FitsSeen shape ws) is right_fits) (at_snoc (set views id l) r u j here);
      }

  glue : {ws : List ℕ} {views : List SeenView} → HoldsFirsts shape ws views → (id other : ℕ) (v w : SeenView) → get_elem? views id ≡ some v → 0 < v.parts → ¬ (other ≡ id)
      → get_elem? (set views id (joined v w)) other ≡ some w → 0 < w.parts → w.first ≡ false → HoldsFirsts shape ws (set (set views id (joined v w)) other spent)
  glue {ws} {views} h id other v w at live apart has live' second =
      let both = joined v w in let f = h.each id v at in let l = f.lives live in
      let was : get_elem? views other ≡ some w = ⊎_elim (λ here. absurd (apart here.0)) (λ t. t.1) (at_set views id other both w has) in
      let f' = h.each other w was in let l' = f'.lives live' in
      let same : (g : SeenView → ℕ) → g both ≡ g v + g w → g spent ≡ 0 → total g (set (set views id both) other spent) ≡ total g views = λ g. total-join g views id other v w both spent at has in
      let placed : (x : ℕ) → noted (λ u. u.placed) x (set (set views id both) other spent) ≡ noted (λ u. u.placed) x views = λ x. same (λ (u : SeenView). times x u.placed) (times-append x v.placed w.placed) refl in
      let known : (a j : ℕ) → slice_index (either_known v.known w.known) a ≡ j + 1 → (j < length shape.classes) × HasClass shape.classes ws a j = λ a j e.
      ⊎_elim (λ mine. (l.inside a j mine, l.known a j mine)) (λ theirs. (l'.inside a j theirs, l'.known a j theirs)) (either-cases v.known w.known a (j + 1) e) in
      let both_fits : FitsSeen shape ws both = record {
        lives = λ _. record {
          classes = l.classes;
          word_count = l.word_count;
          seats = l.seats;
          size = length-either v.known w.known (l.size ∙ sym l'.size) ∙ l.size;
          inside = λ a j e. (known a j e).0;
          known = λ a j e. (known a j e).1;
        };
        nothing = λ none. absurd (omega arith);
        others = f.others;
      } in
      let spent_fits : FitsSeen shape ws spent = record {
        lives = λ no_more. absurd (omega arith);
        nothing = λ _. record { left = refl; placed = refl; answered = refl };
        others = λ _. refl;
      } in record {
        seats = same (λ (u : SeenView). u.parts + u.left) (omega (arith, f'.others second)) refl ∙ h.seats;
        size = h.size;
        held = λ a j e. held-grown (record { grown = λ b k found. (k, found, refl) }) a j (λ did. omega (arith, did, placed j)) (h.held a j e);
        apart = h.apart;
        inside = λ x did. h.inside x (omega (arith, did, placed x));
        least = λ x did. h.least x (omega (arith, did, placed x));
        answered = λ x did. let before = h.answered x (omega (arith, did, same (λ (u : SeenView). times x u.answered) (times-append x v.answered w.answered) refl)) in omega (arith, before, placed x);
        each = each-set (set views id both) other spent (each-set views id both h.each (λ u fits. fits) both_fits) (λ u fits. fits) spent_fits;
      }

  begin : 0 < shape.seats → HoldsFirsts shape (replicate shape.words 0) (first_view shape ∷ [])
  begin seats =
      let blank : (a j : ℕ) → slice_index (replicate shape.words 0) a ≡ j + 1 → ⊥ = λ a j e. let z = zeros shape.words a in absurd (omega arith) in
      let first_is : FitsSeen shape (replicate shape.words 0) (first_view shape) = record {
        lives = λ _. record { classes = refl; word_count = refl; seats = refl; size = length-replicate shape.words 0; inside = λ a j e. absurd (blank a j e); known = λ a j e. absurd (blank a j e) };
        nothing = λ none. absurd (omega arith);
        others = λ no_more. cc;
      } in record {
        seats = omega arith;
        size = length-replicate shape.words 0;
        held = λ a j e. absurd (blank a j e);
        apart = λ a b j k e f alike. absurd (blank a j e);
        inside = λ x did. absurd (omega arith);
        least = λ x did. absurd (omega arith);
        answered = λ x did. did;
        each = only-one first_is;
      }
    where
      only-one : FitsSeen shape (replicate shape.words 0) (first_view shape) → (id : ℕ) (v : SeenView) → get_elem? (first_view shape ∷ []) id ≡ some v → FitsSeen shape (replicate shape.words 0) v
      only-one first_is zero v at = subst (FitsSeen shape (replicate shape.words 0)) (some-injective (first_view shape) v at) first_is
      only-one first_is (suc j) v at = absurd (some-ne-none v (sym at))

  module _ {T : Type 0} where
    pub opens : (ws : List ℕ) (xs : List T) → 0 < shape.seats → ws ≡ replicate shape.words 0 → KeepsSeen shape (opening ws xs (first_view shape))
    opens ws xs seats e = subst (λ z. HoldsFirsts shape z (first_view shape ∷ [])) (sym e) (begin seats)

    pub tries-as : IsShape shape → (slots id : ℕ) (me : Me T SeenView) (a i way : ℕ) (x : Option T) → 0 < me.0.parts → me.0.classes ≡ shape.classes → i < length shape.classes → way < shape.words
        → a ≡ along shape.words (slice_index shape.starts i) way
        → ((t : ℕ) → t < way → (j : ℕ) × (slice_index me.0.known (along shape.words (slice_index shape.starts i) t) ≡ j + 1) × ¬ (AreAlike me.0.classes j i))
        → Allows (KeepsSeen shape) slots id me a (λ n. either (n == 0) (i + 1) n) (Tries (step slots a 0 (i + 1) x) me)
    tries-as is slots id me a i way x live classes inside near on others s h homes at bound =
        let v = me.0 in let found : ℕ = slice_index s.words a in
        let others' : (t : ℕ) → t < way → (j : ℕ) × (slice_index v.known (along shape.words (slice_index shape.starts i) t) ≡ j + 1) × ¬ (AreAlike shape.classes j i) =
        λ t less. let o = others t less in (o.0, o.1, subst (λ cs. ¬ (AreAlike cs o.0 i)) classes o.2) in
        let is_low : a < length s.words = let r = along-low shape.words (slice_index shape.starts i) way (is.low i inside) near in omega (arith, r, h.size, on) in
        dite (ℕ_discrete found 0)
        (λ free. let w = with_first v a i in let after = put-first is h id v at live a i way inside near on others' free in
        let new : either (found == 0) (i + 1) found ≡ i + 1 = ap (λ b. either b (i + 1) found) (eq-eqb found 0 free) in
        let lives' = (after.each id w (there s.views id v w at)).lives live in (
          w,
          keeps,
          tt,
          subst (λ (z : ℕ). HoldsFirsts shape (set s.words a z) (set s.views id w)) (sym new) after,
          (
            refl,
            (refl, refl, refl, refl, refl, refl),
            (λ _ k e. let same : i ≡ k = omega (arith, e) in (
              ap (with_first v a) same,
              set-at v.known a (i + 1) (let l = (h.each id v at).lives live in omega (arith, is_low, h.size, l.size)) ∙ (omega (arith, same)),
              λ y met alike. none-met is h id v at live a i way inside near on others' free y met (subst (λ cs. AreAlike cs y i) classes (alike ∙ ap (slice_index v.classes) (sym same))),
            )),
            (λ j e. absurd (omega (arith, e, free))),
            known-once after w lives',
          ),
        ))
        (λ taken. let j : ℕ = found - 1 in let has : slice_index s.words a ≡ j + 1 = let more : found ≢ 0 = taken in omega arith in
        let w = with_known v a j in let after = look-at is h id v at live a j is_low has in
        let new : either (found == 0) (i + 1) found ≡ found = ap (λ b. either b (i + 1) found) (ne_eqb found 0 taken) in
        let words : set s.words a (either (found == 0) (i + 1) found) ≡ s.words = ap (set s.words a) new ∙ set-get_or s.words a 0 in
        let lives' = (after.each id w (there s.views id v w at)).lives live in (
          w,
          keeps,
          tt,
          subst (λ (z : List ℕ). HoldsFirsts shape z (set s.views id w)) (sym words) after,
          (
            refl,
            (refl, refl, refl, refl, refl, refl),
            (λ free. absurd (taken free)),
            (λ k e. let same : j ≡ k = omega (arith, e, has) in (subst (λ cs. k < length cs) (sym classes) (let held = (h.held a j has).inside in omega (arith, held, same)), ap (with_known v a) same, set-at v.known a (j + 1) (let l = (h.each id v at).lives live in omega (arith, is_low, h.size, l.size)) ∙ (omega (arith, same)))),
            known-once after w lives',
          ),
        ))

    pub lowers-as : IsShape shape → (slots id : ℕ) (me : Me T SeenView) (a i : ℕ) (x : Option T) → 0 < me.0.parts → me.0.classes ≡ shape.classes → i < length shape.classes → a < shape.words
        → HasClass me.0.classes me.0.known a i → Allows (KeepsSeen shape) slots id me a (λ n. min n (i + 1)) (Lowers (step slots a (i + 1) 0 x) me)
    lowers-as is slots id me a i x live classes inside near has s h homes at bound =
        let v = me.0 in let l = (h.each id v at).lives live in
        let p = l.known a has.0 has.1 in let k : ℕ = p.0 in
        let alike : AreAlike shape.classes k i = p.2 ∙ subst (λ cs. AreAlike cs has.0 i) classes has.2 in
        let is_low : a < length s.words = omega (arith, near, h.size) in
        let w = with_lower v i k in let after = put-lower is h id v at live a i k is_low inside p.1 alike in
        let new : min (slice_index s.words a) (i + 1) ≡ min k i + 1 = let e = p.1 in omega arith in
        let lives' = (after.each id w (there s.views id v w at)).lives live in (
          w,
          keeps,
          tt,
          subst (λ (z : ℕ). HoldsFirsts shape (set s.words a z) (set s.views id w)) (sym new) after,
          (
            refl,
            (refl, refl, refl, refl, refl, refl),
            (λ j e. let same : i ≡ j = omega (arith, e) in (
              k,
              p.1,
              subst (λ cs. k < length cs) (sym classes) (h.held a k p.1).inside,
              subst (λ cs. AreAlike cs k j) (sym classes) (alike ∙ ap (slice_index shape.classes) same),
              ap (λ (z : ℕ). with_lower v z k) same,
              λ y met one. least-met is h id v at live a i k is_low inside p.1 alike y met (subst (λ cs. AreAlike cs y i) classes (one ∙ ap (slice_index v.classes) (sym same))),
            )),
            known-once after w lives',
          ),
        )

    pub splits-as : (id : ℕ) (v : SeenView) → 0 < v.parts → v.first ≡ true → 0 < v.left → Splits {S = T} (KeepsSeen shape) id v (with_one_less v) (fresh v)
    splits-as id v live first more s h at = cut h id v at live first more

    pub joins-as : (id other : ℕ) (v w : SeenView) → 0 < v.parts → 0 < w.parts → w.first ≡ false → Joins {S = T} (KeepsSeen shape) id v other w (joined v w) spent
    joins-as id other v w live live' second s h at apart has = glue h id other v w at live apart has live' second

    -- what the last state says of the seat that ends the table
    module _ (id : ℕ) (v : SeenView) (ws : List ℕ) (xs : List T) (last : Final (Seen (KeepsSeen shape) id v) ws xs) where
      holds : HoldsFirsts shape ws last.0.views
      holds = subst (λ z. HoldsFirsts shape z last.0.views) last.2 last.1.0

      pub last-low : (a : ℕ) → slice_index ws a ≤ length shape.classes
      last-low a = dite (dec_le 1 (slice_index ws a)) (λ more. let j : ℕ = slice_index ws a - 1 in let held = holds.held a j (omega arith) in omega (arith, held.inside)) (λ none. omega arith)

      pub last-one-word : 0 < v.parts → OneWordEach v.classes v.known
      last-one-word live = known-once holds v ((holds.each id v last.1.1).lives live)

      module _ (seats : v.seats ≡ shape.seats) (all : v.parts + v.left ≡ v.seats) where
        placed-is : (x : ℕ) → noted (λ u. u.placed) x last.0.views ≡ times x v.placed
        placed-is x = total-alone (λ (u : SeenView). times x u.placed) (λ (u : SeenView). u.parts + u.left) last.0.views id v last.1.1 (omega (arith, holds.seats))
            (λ j u here none. ap (times x) ((holds.each j u here).nothing (omega arith)).placed)

        pub last-answers : (x : ℕ) → Stands x v.answered → Stands x v.placed
        last-answers x did = omega (arith, placed-is x, holds.answered x (let has = total-has (λ (u : SeenView). times x u.answered) last.0.views id v last.1.1 in omega arith))

        pub last-inside : (x : ℕ) → Stands x v.placed → x < length shape.classes
        last-inside x did = holds.inside x (omega (arith, did, placed-is x))

        -- a word has the least position placed of its class
        pub last-first : (a i : ℕ) → slice_index ws a ≡ i + 1 → Stands i v.placed × ((k : ℕ) → Stands k v.placed → k < i → ¬ (AreAlike shape.classes k i))
        last-first a i e = (
          (let held = holds.held a i e in omega (arith, held.placed, placed-is i)),
          λ k did less alike. let p = holds.least k (omega (arith, did, placed-is k)) in let same : p.0 ≡ a = holds.apart p.0 a p.1 i p.2 e (p.3 ∙ alike) in
              absurd (omega (arith, p.2, p.4, e, ap (slice_index ws) same)),
        )

        -- the least position placed of a class has a word
        pub last-has : (i : ℕ) → Stands i v.placed → ((k : ℕ) → Stands k v.placed → k < i → ¬ (AreAlike shape.classes k i)) → (a : ℕ) × (slice_index ws a ≡ i + 1)
        last-has i did least = let p = holds.least i (omega (arith, did, placed-is i)) in dite (ℕ_discrete p.1 i) (λ same. (p.0, omega (arith, p.2, same)))
            (λ other. let held = holds.held p.0 p.1 p.2 in absurd (least p.1 (omega (arith, held.placed, placed-is p.1)) (omega (arith, p.4)) p.3))
