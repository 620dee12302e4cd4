use Rattle.std.proofs.Common.{[], subst, sym}
use Rattle.step_create.proofs.Alone.{alone-runs}
use Rattle.step_create.proofs.mtc.members_of_mtc.Goals as goal
use Rattle.semantics.specs.Creating.{new_members}
use Rattle.semantics.specs.Runs.{first_snapshot}
use Rattle.step_snapshot.specs.Tests.{legend_by, test_by}
use Rattle.config_parts.specs.Legend.{frame_with}
use Rattle.config_parts.specs.declared.frame.Cells.{Cells}
use Rattle.value_types.specs.Outcomes.{GivesBy}
use Rattle.value_types.specs.declared.value.ComponentId.{ComponentId}

pub returns-clause-made : goal.returns-clause-made
returns-clause-made c =
    let t = c.args.test.now in
    let test = test_by t in
    subst (λ (m : ComponentId). GivesBy (λ (cells : Cells). frame_with (legend_by t) [] cells) (new_members test m (first_snapshot test)) c.members.result) (sym t.main)
    (c.members.ensures.made (first_snapshot test) (λ path. alone-runs test t.mtc path t.main))
