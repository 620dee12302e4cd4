use Rattle.check_scope.specs.Names.{kind_at}
use Rattle.step_forms.proofs.Called.{parameters-known}
use Rattle.step_forms.proofs.call.frame_of_call.Goals as goal
use Rattle.step_forms.specs.internal.Places.{list_at}
use Rattle.semantics.specs.Items.{items}
use Rattle.semantics.specs.Sites.{beginning}

pub argument_cells-requires : goal.argument_cells-requires
argument_cells-requires c =
    let t = (c.args.stand.now).snapshot.now.test.now in
    parameters-known t.names (kind_at t.definitions c.in-Some.at) (items t.definitions (beginning c.in-Some.at)) (list_at t c.in-Some-body_of.remaining) c.in-Some-body_of.ensures.said (t.known c.in-Some.at)
