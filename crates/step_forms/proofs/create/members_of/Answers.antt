use Rattle.step_forms.proofs.create.members_of.Goals as goal
use Rattle.step_snapshot.specs.Seen.{seen_by}

pub returns-clause-made : goal.returns-clause-made
returns-clause-made c =
    let s = (c.args.stand.now).snapshot.now in
    c.members.ensures.made (seen_by s) s.runs
