use Rattle.std.proofs.Common.{◌∙◌, ◌+◌, ap, map, refl}
use Rattle.std.proofs.lemmas.List.{length-map}
use Rattle.report.specs.Runs.{ReadsBy}
use Rattle.report.proofs.Readings.{all-bad, all-blank, all-more, all-read, line-at}
use Rattle.report.proofs.run.read_lines.Goals as goal
use Rattle.report.proofs.run.read_lines.Goals.{in-Blanks, in-Label+in_ok-push-in-Label}

pub loop-line-preserved : goal.loop-line-preserved
loop-line-preserved g c =
    let at = c.loop-line.line-index in
    let turn = line-at c.deref-line-items.result.now at _ c.loop-line-test.true in
    let here = c.in_ok-content_of.ensures in
    elim c.match-branch-3.branch [
      | in-Blanks w ↦
          let blank = rw w.in-Blanks.is at here in
          rw w.labels-is
          (ap (λ n. n + 1) c.loop-line.invariant.0, all-blank _ (ReadsBy g.T.Written.text_of g.T.Written.is_held) _ at _ _ c.loop-line.labels.items refl turn blank c.loop-line.invariant.1)
      | in-Label+in_ok-push-in-Label w ↦
          let label = rw w.in-Label.is at here in
          rw w.labels-is
          (ap (λ n. n + 1) c.loop-line.invariant.0, all-more _ (ReadsBy g.T.Written.text_of g.T.Written.is_held) _ at _ _ _ c.loop-line.labels.items _ refl turn label w.in_ok-push-in-Label.ensures.items c.loop-line.invariant.1)
    ]

pub returns-in-NoLabel-clause-err : goal.returns-in-NoLabel-clause-err
returns-in-NoLabel-clause-err g c =
    let at = c.loop-line.line-index in
    let turn = line-at c.deref-line-items.result.now at _ c.loop-line-test.true in
    let bad = rw c.in-NoLabel.is at c.in_ok-content_of.ensures in
    let lines = ap (map (λ line. line.now)) c.deref-line-items.ensures.value ∙ c.in_ok-lines.ensures in
    rw (← lines)
    (all-bad _ (ReadsBy g.T.Written.text_of g.T.Written.is_held) _ at _ _ c.loop-line.labels.items (ap (λ n. n + 1) c.loop-line.invariant.0) turn bad c.loop-line.invariant.1)

pub returns-clause-ok : goal.returns-clause-ok
returns-clause-ok g c =
    let lines = ap (map (λ line. line.now)) c.deref-line-items.ensures.value ∙ c.in_ok-lines.ensures in
    rw (← lines) (all-read _ (ReadsBy g.T.Written.text_of g.T.Written.is_held) _ c.loop-line.line-index c.loop-line.labels.items (simp length-map c.loop-line-test.false) c.loop-line.invariant.1)
