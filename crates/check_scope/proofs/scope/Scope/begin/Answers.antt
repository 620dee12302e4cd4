use Rattle.check_scope.proofs.Members.{view-outside}
use Rattle.check_scope.proofs.scope.Scope.begin.Goals as goal

pub returns : goal.returns
returns c =
    let scope = c.args.self.now in
    rw c.clear.ensures.items
    (view-outside scope.definitions.now scope.defined c.new.result scope.members.items c.args.runs_on c.args.itself c.new.ensures scope.is_whole scope.are_members)
