use Rattle.std.proofs.Common.{rules, ◌∙◌}
use Rattle.summary.proofs.Adding.{union-nothing, union-more}
use Rattle.summary.proofs.ordered_set.extended.Goals as goal

pub loop-key-init : goal.loop-key-init
loop-key-init g c = record {
  can = search rules;
  ends = search rules;
  ascend = c.requires;
  union = union-nothing c.args.keys.items;
}

pub loop-key-preserved : goal.loop-key-preserved
loop-key-preserved g c = record {
  can = search rules;
  ends = search rules;
  ascend = c.in_ok-add.ensures.ascend;
  union = c.in_ok-add.ensures.union ∙ union-more _ c.args.keys.items c.loop-key.yielded c.in-Some.key c.loop-key.invariant.union;
}
