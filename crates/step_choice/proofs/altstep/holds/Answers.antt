use Rattle.std.proofs.Common.{ap, sym, ◌∙◌}
use Rattle.semantics.specs.Branches.{guard_holds}
use Rattle.step_choice.specs.internal.Judged.{reads}
use Rattle.step_choice.proofs.altstep.holds.Goals as goal
use Rattle.value_types.proofs.Faults.{gives-same}
use Rattle.value_types.specs.Evaluation.{condition_of}
use Rattle.value_types.specs.Frames.{reading}

pub returns : goal.returns
returns c site at =
    let reads = reads c.args.snapshot.now site c.args.inner.now in
    gives-same (guard_holds reads c.args.guard.now) (condition_of c.in-Some.guard (reading c.frame-frame.result)) c.eval_condition.result
    (ap (guard_holds reads) c.in-Some.is ∙ ap (condition_of c.in-Some.guard) (sym (c.frame-frame.ensures site at)))
    c.eval_condition.ensures
