use Rattle.std.proofs.Common.{ap, sym, ◌∙◌}
use Rattle.check_rules.specs.Calls.{parameters_of}
use Rattle.check_scope.specs.Names.{kind_at}
use Rattle.step_choice.specs.internal.Judged.{reads, test_of}
use Rattle.step_choice.proofs.arguments.call_arguments.Goals as goal
use Rattle.value_types.proofs.Faults.{gives-same}
use Rattle.value_types.specs.Frames.{reading}
use Rattle.value_types.specs.Templates.{arguments}

pub returns : goal.returns
returns c site at =
    let s = c.args.snapshot.now in
    let reads = reads s site c.args.inner.now in
    let parameters = parameters_of (kind_at (test_of s).definitions c.args.at) in
    gives-same (arguments reads parameters c.args.call.now.arguments) (arguments (reading c.frame-frame.result) c.parameters_of-parameters.result.now c.as_slice.result.now) c.eval_arguments.result
    (sym (ap (λ r. arguments r c.parameters_of-parameters.result.now c.as_slice.result.now) (c.frame-frame.ensures site at)
    ∙ ap (λ ps. arguments reads ps c.as_slice.result.now) (c.parameters_of-parameters.ensures ∙ ap parameters_of c.kind.ensures)
    ∙ ap (arguments reads parameters) c.as_slice.ensures))
    c.eval_arguments.ensures
