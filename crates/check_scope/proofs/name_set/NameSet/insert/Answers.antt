use Rattle.check_scope.proofs.name_set.NameSet.insert.Goals as goal

pub returns-clause-behind : goal.returns-clause-behind
returns-clause-behind c other = c.in_ok-insert.ensures.updates.0 (record c.args.name { now = other })
