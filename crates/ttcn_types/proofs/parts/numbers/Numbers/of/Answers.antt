use Rattle.std.proofs.Common.{length}
use Rattle.ttcn_types.proofs.Sums.{summing-count, summing-end}
use Rattle.ttcn_types.proofs.parts.numbers.Numbers.of.Goals as goal

pub returns : goal.returns
returns c =
    let end = c.loop-definition-test.false in
    let so_far = c.loop-definition.invariant in
    let before = c.loop-definition.before.items in
    let total = length c.loop-definition.places.items in record {
      number = summing-end c.args.definitions.now c.loop-definition.definition-index before total end so_far;
      count = summing-count c.args.definitions.now c.loop-definition.definition-index before total end so_far;
    }
