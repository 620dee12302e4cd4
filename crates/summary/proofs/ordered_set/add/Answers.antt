use Rattle.std.proofs.Common.{ap, ◌∙◌}
use Rattle.summary.specs.KeySet.{from_list}
use Rattle.summary.proofs.Adding.{ascends-added, inserted, found-there}
use Rattle.summary.proofs.ordered_set.add.Goals as goal

pub returns-in_ok-insert-clause-ascend : goal.returns-in_ok-insert-clause-ascend
returns-in_ok-insert-clause-ascend g c =
    ascends-added g.met.T.Ord.total c.deref.result.now c.args.keys.now.items c.insert.new.self.items c.in-Err.place c.args.key
    c.deref.ensures.value c.in_ok-insert.ensures.items c.in-Err.ensures.bound c.requires c.in-Err.ensures.position

pub returns-in_ok-insert-clause-union : goal.returns-in_ok-insert-clause-union
returns-in_ok-insert-clause-union g c = ap from_list c.in_ok-insert.ensures.items ∙ inserted c.args.keys.now.items c.in-Err.place c.args.key

pub returns-in_default-clause-union : goal.returns-in_default-clause-union
returns-in_default-clause-union g c =
    found-there g.met.T.Key.one c.deref.result.now c.args.keys.now.items c.in_default.field-0 c.args.key
    c.deref.ensures.value c.in_default.ensures.bound c.in_default.ensures.ok
