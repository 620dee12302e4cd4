-- Each step of a board keeps its rule.
use Rattle.std.proofs.Common.{◌≡◌, ◌≢◌, ℕ, zero, suc, ◌+◌, ◌%◌, ◌^◌, ◌<◌, ◌≤◌, min, Bool, true, false, cond, ◌⊎◌, List, [], ◌∷◌, ◌++◌, set, slice_index, slice_set, bit_or, sym, refl, ap, subst, ◌∙◌, ⊎_elim, inl, inr, lt_of_not-le, arith}
use mathlib.Core.Option.{some, some-injective, some-ne-none}
use mathlib.Core.Logic.{dite}
use native.Mathlib.Decide.{dec_le, ℕ_discrete}
use lib.ListN.{get_elem?}
use Rattle.atomic_table.specs.Table.{Me, Allows, Splits, Joins, opening, Final, Seen, keeps}
use Rattle.atomic_table.proofs.Lists.{at_set, at_snoc}
use Rattle.shared.specs.declared.board.view.BoardKey.{BoardKey}
use Rattle.shared.specs.declared.board.view.BoardView.{BoardView}
use Rattle.shared.specs.Totals.{total, times}
use Rattle.shared.specs.BoardRule.{first_view, fresh, with_one_less, joined, spent, with_drawn, with_end, with_look, with_raise, FitsBoard, Counts, KeepsBoard, DrawsOne, Sees, Raises}
use Rattle.shared.proofs.Sums.{there, total-add, total-split, total-join, total-has, total-less, total-alone, times-append, times-push-hit, times-push-miss}

saw-either : (a b : Bool) → cond a true b ≡ true → (a ≡ true) ⊎ (b ≡ true)
saw-either true b e = inl refl
saw-either false b e = inr e

saw-one : (a b : Bool) → (a ≡ true) ⊎ (b ≡ true) → cond a true b ≡ true
saw-one true b e = refl
saw-one false b e = ⊎_elim (λ no. cc) (λ is. is) e

or-one : (flag : ℕ) → flag < 2 → bit_or flag 1 ≡ 1
or-one zero low = refl
or-one (suc zero) low = refl
or-one (suc (suc n)) low = absurd (omega arith)

not-seen : (b : Bool) → ¬ (b ≡ true) → b ≡ false
not-seen true un = absurd (un refl)
not-seen false un = refl

module _ {key : BoardKey} where
  -- after a change of one view
  each-set : {flag after : ℕ} (views : List BoardView) (id : ℕ) (w : BoardView) → ((j : ℕ) (u : BoardView) → get_elem? views j ≡ some u → FitsBoard key flag u)
      → ((u : BoardView) → FitsBoard key flag u → FitsBoard key after u) → FitsBoard key after w → (j : ℕ) (u : BoardView) → get_elem? (set views id w) j ≡ some u → FitsBoard key after u
  each-set {after = after} views id w each moved fits j u at = ⊎_elim (λ here. subst (FitsBoard key after) here.1 fits) (λ there. moved u (each j u there.1)) (at_set views id j w u at)

  -- a number stands at most once in what a seat drew
  pub drawn-once : (draws flag : ℕ) (views : List BoardView) → Counts key draws flag views → (id : ℕ) (v : BoardView) → get_elem? views id ≡ some v → (x : ℕ) → times x v.drawn ≤ 1
  drawn-once draws flag views counts id v at x = let has = total-has (λ (u : BoardView). times x u.drawn) views id v at in
      dite (dec_le (min draws key.pieces) x) (λ high. omega (arith, counts.undrawn x high)) (λ low. omega (arith, counts.drawn x (lt_of_not-le low)))

  draw-number : (draws flag : ℕ) (views : List BoardView) → Counts key draws flag views → (id : ℕ) (v : BoardView) → get_elem? views id ≡ some v → 0 < v.parts → draws < key.pieces
      → Counts key (draws + 1) flag (set views id (with_drawn v draws))
  draw-number draws flag views c id v at live below =
      let w = with_drawn v draws in let f = c.each id v at in let l = f.lives live in
      let same : total (λ (u : BoardView). u.ends) (set views id w) ≡ total (λ (u : BoardView). u.ends) views + 0 = total-add (λ (u : BoardView). u.ends) views id v w 0 at (omega arith) in
      let grown : (x c : ℕ) → times x w.drawn ≡ times x v.drawn + c → total (λ (u : BoardView). times x u.drawn) (set views id w) ≡ total (λ (u : BoardView). times x u.drawn) views + c = λ x c. total-add (λ (u : BoardView). times x u.drawn) views id v w c at in record {
        seats = total-add (λ (u : BoardView). u.parts + u.left) views id v w 0 at (omega arith) ∙ (omega (arith, c.seats));
        drawn = λ x low. dite (ℕ_discrete draws x) (λ is. omega (arith, grown x 1 (times-push-hit x draws v.drawn is), c.undrawn x (omega arith)))
            (λ other. omega (arith, grown x 0 (times-push-miss x draws v.drawn other), c.drawn x (omega arith)));
        undrawn = λ x high. let other : draws ≢ x = λ is. absurd (omega arith) in omega (arith, grown x 0 (times-push-miss x draws v.drawn other), c.undrawn x (omega arith));
        ends = omega (arith, c.ends);
        low = c.low;
        raised = λ up. let e = total-add (λ (u : BoardView). u.raises) views id v w 0 at (omega arith) in omega (arith, c.raised up);
        each = each-set views id w c.each (λ u fits. fits) (record {
          lives = λ _. record { pieces = l.pieces; seats = l.seats; saw = l.saw; raised = l.raised; ends = l.ends };
          nothing = λ none. absurd (omega arith);
          others = f.others;
        });
      }

  -- a seat that found no number left yet finds room for one more
  pub ends-fit : (draws flag : ℕ) (views : List BoardView) → Counts key draws flag views → (id : ℕ) (v : BoardView) → get_elem? views id ≡ some v → 0 < v.parts → v.ended ≡ false → draws + 1 ≤ key.pieces + key.seats
  ends-fit draws flag views c id v at live going =
      let bound : (j : ℕ) (u : BoardView) → get_elem? views j ≡ some u → u.ends ≤ u.parts + u.left = λ j u there. let f = c.each j u there in
      dite (dec_le 1 u.parts) (λ more. omega (arith, (f.lives more).ends)) (λ none. omega (arith, (f.nothing (omega arith)).ends)) in
      let own : v.ends + 1 ≤ v.parts = subst (λ b. v.ends + cond b 0 1 ≤ v.parts) going ((c.each id v at).lives live).ends in
      let all = total-less (λ (u : BoardView). u.ends) (λ (u : BoardView). u.parts + u.left) views id v bound at (omega arith) in omega (arith, c.ends, c.seats)

  draw-none : (draws flag : ℕ) (views : List BoardView) → Counts key draws flag views → (id : ℕ) (v : BoardView) → get_elem? views id ≡ some v → 0 < v.parts → v.ended ≡ false → key.pieces ≤ draws
      → Counts key (draws + 1) flag (set views id (with_end v))
  draw-none draws flag views c id v at live going past =
      let w = with_end v in let f = c.each id v at in let l = f.lives live in
      let more = total-add (λ (u : BoardView). u.ends) views id v w 1 at refl in
      let own : v.ends + 1 ≤ v.parts = subst (λ b. v.ends + cond b 0 1 ≤ v.parts) going l.ends in
      let same : (x : ℕ) → total (λ (u : BoardView). times x u.drawn) (set views id w) ≡ total (λ (u : BoardView). times x u.drawn) views + 0 = λ x. total-add (λ (u : BoardView). times x u.drawn) views id v w 0 at (omega arith) in record {
        seats = total-add (λ (u : BoardView). u.parts + u.left) views id v w 0 at (omega arith) ∙ (omega (arith, c.seats));
        drawn = λ x low. omega (arith, same x, c.drawn x (omega arith));
        undrawn = λ x high. omega (arith, same x, c.undrawn x (omega arith));
        ends = omega (arith, c.ends);
        low = c.low;
        raised = λ up. let e = total-add (λ (u : BoardView). u.raises) views id v w 0 at (omega arith) in omega (arith, c.raised up);
        each = each-set views id w c.each (λ u fits. fits) (record {
          lives = λ _. record { pieces = l.pieces; seats = l.seats; saw = l.saw; raised = l.raised; ends = omega arith };
          nothing = λ none. absurd (omega arith);
          others = f.others;
        });
      }

  look : (draws flag : ℕ) (views : List BoardView) → Counts key draws flag views → (id : ℕ) (v : BoardView) → get_elem? views id ≡ some v → 0 < v.parts → (b : Bool)
      → (b ≡ true → 0 < flag) → (v.saw ≡ true → b ≡ true) → Counts key draws flag (set views id (with_look v b))
  look draws flag views c id v at live b up kept =
      let w = with_look v b in let f = c.each id v at in let l = f.lives live in
      let same : (g : BoardView → ℕ) → g w ≡ g v → total g (set views id w) ≡ total g views = λ g e. let t = total-add g views id v w 0 at (omega arith) in omega arith in record {
        seats = same (λ (u : BoardView). u.parts + u.left) refl ∙ c.seats;
        drawn = λ x low. same (λ (u : BoardView). times x u.drawn) refl ∙ c.drawn x low;
        undrawn = λ x high. same (λ (u : BoardView). times x u.drawn) refl ∙ c.undrawn x high;
        ends = omega (arith, same (λ (u : BoardView). u.ends) refl, c.ends);
        low = c.low;
        raised = λ flagged. omega (arith, same (λ (u : BoardView). u.raises) refl, c.raised flagged);
        each = each-set views id w c.each (λ u fits. fits) (record {
          lives = λ _. record { pieces = l.pieces; seats = l.seats; saw = up; raised = λ more. kept (l.raised more); ends = l.ends };
          nothing = λ none. absurd (omega arith);
          others = f.others;
        });
      }

  up-fits : (flag : ℕ) (u : BoardView) → FitsBoard key flag u → FitsBoard key 1 u
  up-fits flag u f = record {
    lives = λ live. let l = f.lives live in record { pieces = l.pieces; seats = l.seats; saw = λ _. omega arith; raised = l.raised; ends = l.ends };
    nothing = f.nothing;
    others = f.others;
  }

  raise-flag : (draws flag : ℕ) (views : List BoardView) → Counts key draws flag views → (id : ℕ) (v : BoardView) → get_elem? views id ≡ some v → 0 < v.parts
      → Counts key draws 1 (set views id (with_raise v))
  raise-flag draws flag views c id v at live =
      let w = with_raise v in let f = c.each id v at in let l = f.lives live in
      let same : (g : BoardView → ℕ) → g w ≡ g v → total g (set views id w) ≡ total g views = λ g e. let t = total-add g views id v w 0 at (omega arith) in omega arith in record {
        seats = same (λ (u : BoardView). u.parts + u.left) refl ∙ c.seats;
        drawn = λ x low. same (λ (u : BoardView). times x u.drawn) refl ∙ c.drawn x low;
        undrawn = λ x high. same (λ (u : BoardView). times x u.drawn) refl ∙ c.undrawn x high;
        ends = omega (arith, same (λ (u : BoardView). u.ends) refl, c.ends);
        low = omega arith;
        raised = λ _. let t = total-add (λ (u : BoardView). u.raises) views id v w 1 at refl in omega arith;
        each = each-set views id w c.each (up-fits flag) (record {
          lives = λ _. record { pieces = l.pieces; seats = l.seats; saw = λ _. omega arith; raised = λ _. refl; ends = l.ends };
          nothing = λ none. absurd (omega arith);
          others = f.others;
        });
      }

  cut : (draws flag : ℕ) (views : List BoardView) → Counts key draws flag views → (id : ℕ) (v : BoardView) → get_elem? views id ≡ some v → 0 < v.parts → v.first ≡ true → 0 < v.left
      → Counts key draws flag (set views id (with_one_less v) ++ fresh v ∷ [])
  cut draws flag views c id v at live first more =
      let l = with_one_less v in let r = fresh v in let f = c.each id v at in let lives = f.lives live in
      let same : (g : BoardView → ℕ) → g l + g r ≡ g v → total g (set views id l ++ r ∷ []) ≡ total g views = λ g. total-split g views id v l r at in
      let left_fits : FitsBoard key flag l = record {
        lives = λ _. record { pieces = lives.pieces; seats = lives.seats; saw = lives.saw; raised = lives.raised; ends = lives.ends };
        nothing = λ none. absurd (omega arith);
        others = λ other. cc;
      } in
      let right_fits : FitsBoard key flag r = record {
        lives = λ _. record { pieces = lives.pieces; seats = lives.seats; saw = λ no. cc; raised = λ no. absurd (omega arith); ends = omega arith };
        nothing = λ none. absurd (omega arith);
        others = λ _. refl;
      } in record {
        seats = same (λ (u : BoardView). u.parts + u.left) (omega arith) ∙ c.seats;
        drawn = λ x low. same (λ (u : BoardView). times x u.drawn) (omega arith) ∙ c.drawn x low;
        undrawn = λ x high. same (λ (u : BoardView). times x u.drawn) (omega arith) ∙ c.undrawn x high;
        ends = omega (arith, same (λ (u : BoardView). u.ends) (omega arith), c.ends);
        low = c.low;
        raised = λ up. omega (arith, same (λ (u : BoardView). u.raises) (omega arith), c.raised up);
        each = λ j u there. ⊎_elim (each-set views id l c.each (λ u fits. fits) left_fits j u) (λ is. subst (FitsBoard key flag) is right_fits) (at_snoc (set views id l) r u j there);
      }

  glue : (draws flag : ℕ) (views : List BoardView) → Counts key draws flag views → (id other : ℕ) (v w : BoardView) → get_elem? views id ≡ some v → 0 < v.parts → ¬ (other ≡ id)
      → get_elem? (set views id (joined v w)) other ≡ some w → 0 < w.parts → w.first ≡ false → Counts key draws flag (set (set views id (joined v w)) other spent)
  glue draws flag views c id other v w at live apart has live' second =
      let both = joined v w in let f = c.each id v at in let l = f.lives live in
      let was : get_elem? views other ≡ some w = ⊎_elim (λ here. absurd (apart here.0)) (λ t. t.1) (at_set views id other both w has) in
      let f' = c.each other w was in let l' = f'.lives live' in
      let same : (g : BoardView → ℕ) → g both ≡ g v + g w → g spent ≡ 0 → total g (set (set views id both) other spent) ≡ total g views = λ g. total-join g views id other v w both spent at has in
      let both_fits : FitsBoard key flag both = record {
        lives = λ _. record {
          pieces = l.pieces;
          seats = l.seats;
          saw = λ e. ⊎_elim l.saw l'.saw (saw-either v.saw w.saw e);
          raised = λ more. dite (dec_le 1 v.raises) (λ a. saw-one v.saw w.saw (inl (l.raised a))) (λ none. saw-one v.saw w.saw (inr (l'.raised (omega arith))));
          ends = omega (arith, l.ends, l'.ends);
        };
        nothing = λ none. absurd (omega arith);
        others = f.others;
      } in
      let spent_fits : FitsBoard key flag spent = record {
        lives = λ no. absurd (omega arith);
        nothing = λ _. record { left = refl; drawn = refl; ends = refl; raises = refl };
        others = λ _. refl;
      } in record {
        seats = same (λ (u : BoardView). u.parts + u.left) (omega (arith, f'.others second)) refl ∙ c.seats;
        drawn = λ x low. same (λ (u : BoardView). times x u.drawn) (times-append x v.drawn w.drawn) refl ∙ c.drawn x low;
        undrawn = λ x high. same (λ (u : BoardView). times x u.drawn) (times-append x v.drawn w.drawn) refl ∙ c.undrawn x high;
        ends = omega (arith, same (λ (u : BoardView). u.ends) refl refl, c.ends);
        low = c.low;
        raised = λ up. omega (arith, same (λ (u : BoardView). u.raises) refl refl, c.raised up);
        each = each-set (set views id both) other spent (each-set views id both c.each (λ u fits. fits) both_fits) (λ u fits. fits) spent_fits;
      }

  begin : 0 < key.seats → Counts key 0 0 (first_view key ∷ [])
  begin seats = record {
    seats = omega arith;
    drawn = λ x low. absurd (omega arith);
    undrawn = λ x high. refl;
    ends = omega arith;
    low = omega arith;
    raised = λ up. absurd (omega arith);
    each = first_fits;
  }
    where
      first_is : FitsBoard key 0 (first_view key)
      first_is = record {
        lives = λ _. record { pieces = refl; seats = refl; saw = λ no. cc; raised = λ no. absurd (omega arith); ends = omega arith };
        nothing = λ none. absurd (omega arith);
        others = λ no. cc;
      }

      first_fits : (id : ℕ) (v : BoardView) → get_elem? (first_view key ∷ []) id ≡ some v → FitsBoard key 0 v
      first_fits zero v at = subst (FitsBoard key 0) (some-injective _ v at) first_is
      first_fits (suc j) v at = absurd (some-ne-none v (sym at))

  module _ {S : Type 0} where
    pub opens : (xs : List S) → 0 < key.seats → KeepsBoard key (opening (0 ∷ 0 ∷ []) xs (first_view key))
    opens xs seats = (0, 0, refl, begin seats)

    pub draws-as : (slots id : ℕ) (me : Me S BoardView) → 0 < me.0.parts → me.0.pieces ≡ key.pieces → me.0.ended ≡ false → key.pieces + key.seats < 2 ^ 64
        → Allows (KeepsBoard key) slots id me 0 (λ n. (n + 1) % 2 ^ 64) (DrawsOne me)
    draws-as slots id me live pieces going room s h homes at bound =
        let draws = h.0 in let flag = h.1 in let c = h.3 in let v = me.0 in
        let found : slice_index s.words 0 ≡ draws = ap (λ ws. slice_index ws 0) h.2 in
        let fit : draws + 1 ≤ key.pieces + key.seats = ends-fit draws flag s.views c id v at live going in
        let next : (slice_index s.words 0 + 1) % 2 ^ 64 ≡ draws + 1 = omega arith in
        let words : slice_set s.words 0 ((slice_index s.words 0 + 1) % 2 ^ 64) ≡ (draws + 1) ∷ flag ∷ [] = ap (λ ws. slice_set ws 0 ((slice_index s.words 0 + 1) % 2 ^ 64)) h.2 ∙ ap (λ (n : ℕ). n ∷ flag ∷ []) next in
        dite (dec_le key.pieces draws)
        (λ past. let after = draw-none draws flag s.views c id v at live going past in
        (with_end v, keeps, tt, (draws + 1, flag, words, after), (refl, (λ low. absurd (omega arith)), (λ _. refl), drawn-once (draws + 1) flag _ after id (with_end v) (there s.views id v (with_end v) at))))
        (λ low. let below : draws < key.pieces = lt_of_not-le low in let after = draw-number draws flag s.views c id v at live below in
        (with_drawn v draws, keeps, tt, (draws + 1, flag, words, after), (refl, (λ _. ap (with_drawn v) (sym found)), (λ past. absurd (omega arith)), drawn-once (draws + 1) flag _ after id (with_drawn v draws) (there s.views id v (with_drawn v draws) at))))

    pub sees-as : (slots id : ℕ) (me : Me S BoardView) → 0 < me.0.parts → Allows (KeepsBoard key) slots id me 1 (λ n. n) (Sees me)
    sees-as slots id me live s h homes at bound =
        let draws = h.0 in let flag = h.1 in let c = h.3 in let v = me.0 in
        let found : slice_index s.words 1 ≡ flag = ap (λ ws. slice_index ws 1) h.2 in
        let words : slice_set s.words 1 (slice_index s.words 1) ≡ draws ∷ flag ∷ [] = ap (λ ws. slice_set ws 1 (slice_index s.words 1)) h.2 ∙ ap (λ (n : ℕ). draws ∷ n ∷ []) found in
        let l = (c.each id v at).lives live in
        dite (dec_le 1 flag)
        (λ up. (with_look v true, keeps, tt, (draws, flag, words, look draws flag s.views c id v at live true (λ _. up) (λ _. refl)), (refl, (λ none. absurd (omega arith)), λ _. refl)))
        (λ down. let unseen : v.saw ≡ false = not-seen v.saw (λ saw. down (l.saw saw)) in
        (with_look v false, keeps, tt, (draws, flag, words, look draws flag s.views c id v at live false (λ no. cc) (λ saw. cc)), (refl, (λ _. (unseen, refl)), λ up. absurd (down (omega arith)))))

    pub raises-as : (slots id : ℕ) (me : Me S BoardView) → 0 < me.0.parts → Allows (KeepsBoard key) slots id me 1 (λ n. bit_or n 1) (Raises me)
    raises-as slots id me live s h homes at bound =
        let draws = h.0 in let flag = h.1 in let c = h.3 in
        let found : slice_index s.words 1 ≡ flag = ap (λ ws. slice_index ws 1) h.2 in
        let words : slice_set s.words 1 (bit_or (slice_index s.words 1) 1) ≡ draws ∷ 1 ∷ [] = ap (λ ws. slice_set ws 1 (bit_or (slice_index s.words 1) 1)) h.2 ∙ ap (λ (n : ℕ). draws ∷ n ∷ []) (ap (λ (n : ℕ). bit_or n 1) found ∙ or-one flag c.low) in
        (with_raise me.0, keeps, tt, (draws, 1, words, raise-flag draws flag s.views c id me.0 at live), (refl, refl))

    pub splits-as : (id : ℕ) (v : BoardView) → 0 < v.parts → v.first ≡ true → 0 < v.left → Splits {S = S} (KeepsBoard key) id v (with_one_less v) (fresh v)
    splits-as id v live first more s h at = (h.0, h.1, h.2, cut h.0 h.1 s.views h.3 id v at live first more)

    pub joins-as : (id other : ℕ) (v w : BoardView) → 0 < v.parts → 0 < w.parts → w.first ≡ false → Joins {S = S} (KeepsBoard key) id v other w (joined v w) spent
    joins-as id other v w live live' second s h at apart has = (h.0, h.1, h.2, glue h.0 h.1 s.views h.3 id other v w at live apart has live' second)

    -- what the last state says of the seat that ends the board
    module _ (id : ℕ) (v : BoardView) (ws : List ℕ) (xs : List S) (last : Final (Seen (KeepsBoard key) id v) ws xs) where
      counts : Counts key last.1.0.0 last.1.0.1 last.0.views
      counts = last.1.0.3

      pub last-once : (x : ℕ) → times x v.drawn ≤ 1
      last-once = drawn-once last.1.0.0 last.1.0.1 last.0.views counts id v last.1.1

      pub last-below : (x : ℕ) → 0 < times x v.drawn → x < key.pieces
      last-below x more = let has = total-has (λ (u : BoardView). times x u.drawn) last.0.views id v last.1.1 in
          dite (dec_le key.pieces x) (λ high. absurd (omega (arith, counts.undrawn x (omega arith)))) (λ low. lt_of_not-le low)

      pub last-each : v.seats ≡ key.seats → v.parts + v.left ≡ v.seats → 0 < v.ends → (x : ℕ) → x < key.pieces → times x v.drawn ≡ 1
      last-each seats all ended x low =
          let has = total-has (λ (u : BoardView). u.ends) last.0.views id v last.1.1 in
          let alone = total-alone (λ (u : BoardView). times x u.drawn) (λ (u : BoardView). u.parts + u.left) last.0.views id v last.1.1 (omega (arith, counts.seats))
          (λ j u there none. ap (times x) ((counts.each j u there).nothing (omega arith)).drawn) in
          omega (arith, counts.drawn x (omega (arith, counts.ends)))

      flag-is : (word : ℕ) → get_elem? ws 1 ≡ some word → last.1.0.1 ≡ word
      flag-is word at = some-injective _ _ (ap (λ l. get_elem? l 1) (sym last.1.0.2 ∙ last.2) ∙ at)

      pub last-saw : (word : ℕ) → get_elem? ws 1 ≡ some word → 0 < v.parts → v.saw ≡ true → 0 < word
      last-saw word at live saw = let is = flag-is word at in omega (arith, ((counts.each id v last.1.1).lives live).saw saw)

      pub last-raised : (word : ℕ) → get_elem? ws 1 ≡ some word → v.seats ≡ key.seats → v.parts + v.left ≡ v.seats → 0 < word → 0 < v.raises
      last-raised word at seats all up = let is = flag-is word at in
          let alone = total-alone (λ (u : BoardView). u.raises) (λ (u : BoardView). u.parts + u.left) last.0.views id v last.1.1 (omega (arith, counts.seats))
          (λ j u there none. ((counts.each j u there).nothing (omega arith)).raises) in
          omega (arith, counts.raised (omega arith))

      pub last-up : (word : ℕ) → get_elem? ws 1 ≡ some word → 0 < v.parts → 0 < v.raises → 0 < word
      last-up word at live more = last-saw word at live (((counts.each id v last.1.1).lives live).raised more)
