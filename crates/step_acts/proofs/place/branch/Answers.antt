use Rattle.std.proofs.Common.{◌≡◌, Option, IfOk, sym, subst, ◌∙◌}
use Rattle.step_acts.proofs.Placing.{none-taken}
use Rattle.step_acts.proofs.place.branch.Goals as goal
use Rattle.semantics.specs.Places.{place_in_frames, unless_fault}
use Rattle.semantics.specs.Statements as said
use Rattle.step_snapshot.specs.Seen.{own_by, seen_by}
use Rattle.step_snapshot.specs.Tests.{legend_by, test_by}
use Rattle.ttcn_syntax.specs.declared.place.Span.{Span}

pub returns-in-Some-2 : goal.returns-in-Some-2
returns-in-Some-2 c =
    let s = c.args.snapshot.now in
    let t = s.test.now in
    let asked = said.act (test_by t) (seen_by s) (own_by s) in
    subst (λ (p : Option Span). IfOk c.unless_failed.result (λ found. found ≡ unless_fault asked p)) (sym c.in-Some-2.is ∙ c.in_ok-place.ensures)
    (c.unless_failed.ensures (legend_by t) asked c.act_at.ensures.asks)

pub returns-in-None : goal.returns-in-None
returns-in-None c =
    let s = c.args.snapshot.now in
    let t = s.test.now in
    none-taken (said.act (test_by t) (seen_by s) (own_by s)) (place_in_frames (test_by t) (seen_by s) (own_by s) (own_by s).calls)
    (sym c.in_ok-place.ensures ∙ c.in-None.is)
