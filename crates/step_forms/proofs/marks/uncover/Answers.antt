use Rattle.std.proofs.Common.{List, arith, slice_get, ap, ◌∙◌}
use Rattle.step_forms.proofs.Marking.{first-within}
use Rattle.step_forms.proofs.marks.uncover.Goals as goal
use Rattle.step_snapshot.specs.Tests.{extent_of}
use Rattle.config_parts.specs.declared.frame.Frame.{Frame}

pub returns-in-Some-clause-within : goal.returns-in-Some-clause-within
returns-in-Some-clause-within c within =
    let size = extent_of c.args.test.now in
    let there = first-within size c.args.own.calls c.in-Some.frame.now within.calls (c.in-Some.ensures.value ∙ ap (λ (calls : List Frame). slice_get calls 0) c.as_slice.ensures) in
    c.go_on.ensures.within size (omega (arith, c.without_marks-position.ensures.before, there)) within
