use Rattle.std.proofs.Common.{arith, ◌≡◌, ◌≢◌, ℕ, ◌+◌, ◌-◌, ◌<◌, length, map, slice_index, sym, ap, subst, ◌∙◌, inl, inr, ◌⊎◌, lt_of_not-le}
use mathlib.Core.Logic.{dite}
use native.Mathlib.Decide.{dec_le, ℕ_discrete}
use Rattle.shared.specs.Classes.{classes_of, start_of}
use Rattle.shared.specs.SeenRule.{along, AreAlike, IsSameSeat, with_known}
use Rattle.shared.specs.SeenSeats.{view}
use Rattle.shared.specs.declared.seen.view.SeenView.{SeenView}
use Rattle.shared.proofs.ClassLemmas.{class_low}
use Rattle.shared.proofs.SeenWords.{along-low, set-off, next-on, no-room}
use Rattle.shared.proofs.seen.Seen.search.Goals as goal
use Rattle.shared.proofs.seen.Seen.search.Goals.{then-word-self, else-word-self}

known-same : (u v w : SeenView) (a j : ℕ) → IsSameSeat u v → w ≡ with_known v a j → IsSameSeat u w
known-same u v w a j same e = subst (λ z. IsSameSeat u z) (sym e) same

-- the words seen full so far, and this one
one_more : (v w : SeenView) (n m s i way word j : ℕ) → word ≡ along m s way → w ≡ with_known v word j → slice_index w.known word ≡ j + 1 → j < n → w.classes ≡ v.classes → ¬ (AreAlike w.classes j i)
    → ((t : ℕ) → t < way → (k : ℕ) × (slice_index v.known (along m s t) ≡ k + 1) × ¬ (AreAlike v.classes k i) × (k < n))
    → (t : ℕ) → t < way + 1 → (k : ℕ) × (slice_index w.known (along m s t) ≡ k + 1) × ¬ (AreAlike w.classes k i) × (k < n)
one_more v w n m s i way word j here is known low classes other full t near = dite (ℕ_discrete (along m s t) word)
    (λ same. (j, ap (slice_index w.known) same ∙ known, other, low))
    (λ apart. let before : t < way = dite (dec_le way t) (λ le. absurd (apart (let e : t ≡ way = omega arith in ap (along m s) e ∙ sym here))) (λ less. omega (arith, lt_of_not-le less)) in
    let o = full t before in (o.0, ap (λ (u : SeenView). slice_index u.known (along m s t)) is ∙ set-off v.known word (along m s t) (j + 1) apart ∙ o.1, subst (λ cs. ¬ (AreAlike cs o.0 i)) (sym classes) o.2, o.3))

pub try_word-found-requires-clause-full : goal.try_word-found-requires-clause-full
try_word-found-requires-clause-full g c = λ t less. let o = c.loop-way.invariant.full t less in (o.0, o.1, o.2)

pub are_equal-requires : goal.are_equal-requires
are_equal-requires g c = let nonzero = c.if-found-eq0.false in let t = c.try_word-found.ensures.taken (c.try_word-found.result - 1) (omega arith) in (t.0, c.requires.index)

pub returns-then-are_equal-clause-kept : goal.returns-then-are_equal-clause-kept
returns-then-are_equal-clause-kept g c = let nonzero = c.if-found-eq0.false in let t = c.try_word-found.ensures.taken (c.try_word-found.result - 1) (omega arith) in
    known-same (view c.args.seat.now) (view c.loop-way.seat) (view c.try_word-found.new.seat) c.loop-way.word (c.try_word-found.result - 1) c.loop-way.invariant.same t.1

pub returns-then-are_equal-clause-steps : goal.returns-then-are_equal-clause-steps
returns-then-are_equal-clause-steps g c = let nonzero = c.if-found-eq0.false in let t = c.try_word-found.ensures.taken (c.try_word-found.result - 1) (omega arith) in
    omega (arith, ap (λ (u : SeenView). u.steps) t.1, c.loop-way.invariant.steps, c.loop-way-test.true, c.args.self.now.words_are.0)

pub returns-then-are_equal-clause-taken : goal.returns-then-are_equal-clause-taken
returns-then-are_equal-clause-taken g c = let nonzero = c.if-found-eq0.false in let t = c.try_word-found.ensures.taken (c.try_word-found.result - 1) (omega arith) in
    let i = c.loop-way.invariant in let start = c.start_of-word.ensures in (
      (let low = along-low c.args.self.now.table.shared.key.words (slice_index (map (start_of g.S.Hash.hash_input c.args.self.now.table.shared.key.words) c.args.self.now.table.shared.key.items.now) c.args.index) c.loop-way.way (omega (arith, start.is, start.low)) (omega (arith, c.loop-way-test.true, c.args.self.now.words_are.0)) in omega (arith, low, i.here)),
      (c.try_word-found.result - 1, t.2, subst (λ cs. AreAlike cs (c.try_word-found.result - 1) c.args.index) (sym c.try_word-found.ensures.own.1) (c.are_equal.ensures.0 c.if-are_equal.true)),
      ap (λ (u : SeenView). u.placed) t.1 ∙ i.placed,
      ap (λ (u : SeenView). u.answered) t.1 ∙ i.answered,
    )

pub loop-way-preserved : goal.loop-way-preserved
loop-way-preserved g c = let nonzero = c.if-found-eq0.false in let t = c.try_word-found.ensures.taken (c.try_word-found.result - 1) (omega arith) in
    let i = c.loop-way.invariant in let start = c.start_of-word.ensures in let words = c.args.self.now.words_are.0 in
    let went : ((c.loop-way.word + 1 ≡ c.args.self.now.table.shared.key.words) × (c.if-word-self.word ≡ 0)) ⊎ ((c.loop-way.word + 1 ≢ c.args.self.now.table.shared.key.words) × (c.if-word-self.word ≡ c.loop-way.word + 1)) =
    elim c.if-word-self.branch [ then-word-self w ↦ inl (omega (arith, w.if-word-self.true, words), w.word-is) | else-word-self w ↦ inr ((λ e. w.if-word-self.false (omega (arith, e, words))), w.word-is) ] in
    let differs : ¬ (AreAlike (view c.try_word-found.new.seat).classes (c.try_word-found.result - 1) c.args.index) = λ alike. let yes = c.are_equal.ensures.1 (subst (λ cs. AreAlike cs (c.try_word-found.result - 1) c.args.index) c.try_word-found.ensures.own.1 alike) in let no_more = c.if-are_equal.false in cc in record {
      own = c.try_word-found.ensures.own;
      same = known-same (view c.args.seat.now) (view c.loop-way.seat) (view c.try_word-found.new.seat) c.loop-way.word (c.try_word-found.result - 1) i.same t.1;
      placed = ap (λ (u : SeenView). u.placed) t.1 ∙ i.placed;
      answered = ap (λ (u : SeenView). u.answered) t.1 ∙ i.answered;
      steps = omega (arith, ap (λ (u : SeenView). u.steps) t.1, i.steps);
      one_word = λ _. c.try_word-found.ensures.one_word;
      here = next-on c.args.self.now.table.shared.key.words (slice_index (map (start_of g.S.Hash.hash_input c.args.self.now.table.shared.key.words) c.args.self.now.table.shared.key.items.now) c.args.index) c.loop-way.way c.loop-way.word c.if-word-self.word (omega (arith, start.is, start.low)) (omega (arith, c.loop-way-test.true, words)) i.here went;
      full = one_more (view c.loop-way.seat) (view c.try_word-found.new.seat) (length c.args.self.now.table.shared.key.items.now) c.args.self.now.table.shared.key.words (slice_index (map (start_of g.S.Hash.hash_input c.args.self.now.table.shared.key.words) c.args.self.now.table.shared.key.items.now) c.args.index) c.args.index c.loop-way.way c.loop-way.word (c.try_word-found.result - 1) i.here t.1 t.2 t.0 (ap (λ (u : SeenView). u.classes) t.1) differs i.full;
    }

pub unreachable-requires : goal.unreachable-requires
unreachable-requires g c = let i = c.loop-way.invariant in let z = c.args.self.now in let start = c.start_of-word.ensures in let key = z.table.shared.key in let all = c.loop-way-test.false in
    let room : length key.items.now < key.words = omega (arith, z.room, ap length z.items_are, z.words_are.0) in
    let classes = classes_of g.S.PartialEq.eq key.items.now in
    no-room (length key.items.now) key.words (slice_index (map (start_of g.S.Hash.hash_input c.args.self.now.table.shared.key.words) c.args.self.now.table.shared.key.items.now) c.args.index) classes (view c.loop-way.seat).known room (omega (arith, start.is, start.low))
    (subst (λ cs. (a b j k : ℕ) → slice_index (view c.loop-way.seat).known a ≡ j + 1 → slice_index (view c.loop-way.seat).known b ≡ k + 1 → AreAlike cs j k → a ≡ b) i.own.1 (i.one_word (omega (arith, all, room, z.words_are.0))))
    (class_low g.S.PartialEq.eq g.met.S.Eq.laws key.items.now)
    (λ t near. let o = i.full t (omega (arith, near, all, z.words_are.0)) in (o.0, o.1, o.3))

pub returns-then-are_equal-clause-known : goal.returns-then-are_equal-clause-known
returns-then-are_equal-clause-known g c = let nonzero = c.if-found-eq0.false in let t = c.try_word-found.ensures.taken (c.try_word-found.result - 1) (omega arith) in
    (c.loop-way.word, (c.try_word-found.result - 1, t.2, subst (λ cs. AreAlike cs (c.try_word-found.result - 1) c.args.index) (sym c.try_word-found.ensures.own.1) (c.are_equal.ensures.0 c.if-are_equal.true)))
