use Rattle.std.proofs.Common.{ap, sym, ◌∙◌}
use Rattle.check_rules.specs.Calls.{parameters_of}
use Rattle.check_scope.specs.Names.{kind_at}
use Rattle.step_forms.proofs.stand.Stand.arguments.Goals as goal
use Rattle.step_forms.specs.internal.Stands.{site_of, stand_by}
use Rattle.semantics.specs.Statements.{reads}
use Rattle.value_types.proofs.Faults.{gives-same}
use Rattle.value_types.specs.Frames.{reading}
use Rattle.value_types.specs.Templates.{arguments}

pub returns : goal.returns
returns c =
    let s = c.args.self.now in
    let read = reads (stand_by s) (site_of s) in
    let parameters = parameters_of (kind_at ((s.snapshot.now).test.now).definitions c.args.behaviour) in
    gives-same (arguments read parameters c.args.call.now.arguments) (arguments (reading c.reads.result) c.parameters_of-parameters.result.now c.as_slice.result.now) c.eval_arguments.result
    (sym (ap (λ r. arguments r c.parameters_of-parameters.result.now c.as_slice.result.now) c.reads.ensures
    ∙ ap (λ ps. arguments read ps c.as_slice.result.now) (c.parameters_of-parameters.ensures ∙ ap parameters_of c.kind.ensures)
    ∙ ap (arguments read parameters) c.as_slice.ensures))
    c.eval_arguments.ensures
