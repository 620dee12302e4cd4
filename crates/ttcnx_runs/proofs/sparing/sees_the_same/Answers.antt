use Rattle.std.proofs.Common.{List, ℕ, ap, sym, true≢false, ◌∙◌}
use Rattle.syntax_equality.specs.Equality.{name_one}
use Rattle.ttcnx_runs.proofs.Late.{key-of-bytes}
use Rattle.ttcnx_runs.proofs.Parting.{part-at}
use Rattle.ttcnx_runs.proofs.sparing.sees_the_same.Goals as goal
use Rattle.ttcnx_runs.proofs.sparing.sees_the_same.Goals.{then-eq, else-eq}

pub returns-then-eq-2 : goal.returns-then-eq-2
returns-then-eq-2 c = λ same g h d e cut other found there.
    let one = c.index-mine.result.now in
    let two = c.index-theirs.result.now in
    let mine = part-at g c.args.one.now c.args.at one d cut c.index-mine.ensures found in
    let theirs = part-at h c.args.other.now c.args.at two e other c.index-theirs.ensures there in
    elim c.if-eq.branch [
      | then-eq w ↦
          key-of-bytes g h c.args.at d e
          (sym cut.outline ∙ name_one c.args.one.now.outline.now c.args.other.now.outline.now (sym c.eq.ensures ∙ w.if-eq.true) ∙ other.outline)
          (sym (ap (λ (p : List ℕ × List ℕ). p.0) mine) ∙ name_one one.own.now two.own.now (sym w.eq-then-eq.ensures ∙ sym w.value-is ∙ c.if-eq-2.true) ∙ ap (λ (p : List ℕ × List ℕ). p.0) theirs)
          (sym (ap (λ (p : List ℕ × List ℕ). p.1) mine) ∙ name_one one.queues.now two.queues.now (sym c.eq-then-eq-2.ensures ∙ same) ∙ ap (λ (p : List ℕ × List ℕ). p.1) theirs)
      | else-eq w ↦ absurd (true≢false (sym c.if-eq-2.true ∙ w.value-is ∙ w.if-eq.false))
    ]
