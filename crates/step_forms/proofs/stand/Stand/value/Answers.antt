use Rattle.step_forms.proofs.Evaluated.{gives-read}
use Rattle.step_forms.proofs.stand.Stand.value.Goals as goal
use Rattle.step_forms.specs.internal.Stands.{site_of, stand_by}
use Rattle.semantics.specs.Statements.{reads}
use Rattle.value_types.specs.Frames.{reading}
use Rattle.value_types.specs.Literals.{value_wanted}

pub returns : goal.returns
returns c =
    let s = c.args.self.now in
    gives-read (λ r. value_wanted c.args.value.now r c.args.wanted) (reading c.reads.result) (reads (stand_by s) (site_of s)) c.eval_value.result c.reads.ensures c.eval_value.ensures
