use Rattle.std.proofs.Common.{arith, ℕ, ◌<◌, ap, sym, ◌∙◌, length, false, slice_index_or}
use Rattle.std.specs.Prelude.{Result, Ok, Err, IfOk}
use Rattle.shared.specs.Totals.{Stands}
use Rattle.shared.specs.Classes.{first_equal}
use Rattle.shared.specs.SeenSeats.{view, items_of}
use Rattle.shared.proofs.ClassLemmas.{length-map, are_alike, hold-equal}
use Rattle.shared.proofs.SeenKeeps.{last-low, last-one-word, last-answers, last-inside, last-first, last-has}
use Rattle.shared.proofs.seen.Seen.finish.Goals as goal

-- two facts on what a result gives make a third
if-both : {X E : Type 0} (r : Result X E) (P Q R : X → Type 0) → IfOk r P → IfOk r Q → ((x : X) → P x → Q x → R x) → IfOk r R
if-both (Ok x) P Q R p q f = f x p q
if-both (Err e) P Q R p q f = tt

pub marks-marks-requires-clause-positions : goal.marks-marks-requires-clause-positions
marks-marks-requires-clause-positions g c = λ a. omega (
  arith,
  last-low _ _ _ _ c.close_with-closed.ensures.values.2 a,
  ap length c.args.self.items_are,
  length-map (first_equal g.S.PartialEq.eq c.args.self.table.shared.key.items.now) c.args.self.table.shared.key.items.now,
)

pub returns-in_err-marks-clause-answers : goal.returns-in_err-marks-clause-answers
returns-in_err-marks-clause-answers g c = last-answers _ _ _ _ c.close_with-closed.ensures.values.2 c.requires.own.3 c.requires.joined

pub returns-in_err-marks-clause-one_word : goal.returns-in_err-marks-clause-one_word
returns-in_err-marks-clause-one_word g c = last-one-word _ _ _ _ c.close_with-closed.ensures.values.2 c.args.seat.lives

pub returns-clause-answers : goal.returns-clause-answers
returns-clause-answers g c = last-answers _ _ _ _ c.close_with-closed.ensures.values.2 c.requires.own.3 c.requires.joined

pub returns-clause-one_word : goal.returns-clause-one_word
returns-clause-one_word g c = last-one-word _ _ _ _ c.close_with-closed.ensures.values.2 c.args.seat.lives

pub returns-clause-firsts : goal.returns-clause-firsts
returns-clause-firsts g c =
    let items = items_of c.args.self in let eq = g.S.PartialEq.eq in let laws = g.met.S.Eq.laws in let last = c.close_with-closed.ensures.values.2 in
    let value = c.as_slice.ensures.value in let long = length-map (first_equal eq items) items in let placed = (view c.args.seat).placed in
    let inside : (x : ℕ) → Stands x placed → x < length items = λ x did. omega (arith, long, last-inside _ _ _ _ last c.requires.own.3 c.requires.joined x did) in
    if-both c.marked.result _ _ _ c.marked.ensures.ascending c.marked.ensures.members
    (λ firsts up members. record {
      ascending = up;
      members = λ i. (
        (λ here. let w = (c.in_ok-marks.ensures.marked i).0 (sym (ap (λ l. slice_index_or l i false) value) ∙ (members i).0 here) in
            let f = last-first _ _ _ _ last c.requires.own.3 c.requires.joined w.0 i w.1 in
            (f.0, λ k did less equal. f.1 k did less (are_alike eq laws items k i (inside k did) (inside i f.0) equal))),
        λ f. let w = last-has _ _ _ _ last c.requires.own.3 c.requires.joined i f.0 (λ k did less alike. f.1 k did less (hold-equal eq laws items k i alike)) in
            (members i).1 (ap (λ l. slice_index_or l i false) value ∙ (c.in_ok-marks.ensures.marked i).1 w),
      );
    })
