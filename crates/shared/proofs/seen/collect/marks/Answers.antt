use Rattle.std.proofs.Common.{arith, ap, inl, inr}
use Rattle.shared.proofs.Marking.{index-at, marks-one}
use Rattle.shared.proofs.seen.collect.marks.Goals as goal
use Rattle.shared.proofs.seen.collect.marks.Goals.{then-held-gt0, else-held-gt0}

pub index_mut-requires : goal.index_mut-requires
index_mut-requires c = omega (arith, c.if-held-gt0.true, c.loop-word.invariant.size, c.requires.positions c.loop-word.word, index-at c.args.closed.now.words.items c.loop-word.word c.word-held.result c.word-held.ensures)

pub loop-word-preserved : goal.loop-word-preserved
loop-word-preserved c =
    let i = c.loop-word.invariant in let has = index-at c.args.closed.now.words.items c.loop-word.word c.word-held.result c.word-held.ensures in
    let step = marks-one c.args.closed.now.words.items c.args.count c.loop-word.word c.word-held.result c.loop-word.marks.items c.if-held-gt0.marks.items (record { size = i.size; marked = i.marked; all = i.all })
    (omega (arith, has, c.requires.positions c.loop-word.word)) has
    (elim c.if-held-gt0.branch [ then-held-gt0 w ↦ inl (w.if-held-gt0.true, ap (λ v. v.items) w.marks-is) | else-held-gt0 w ↦ inr (omega (arith, w.if-held-gt0.false), ap (λ v. v.items) w.marks-is) ]) in
    record { size = step.size; marked = step.marked; all = step.all }
