use Rattle.std.specs.FinSet.{contains-from_list_nat}
use Rattle.summary.proofs.small_set.SmallSet.contains.Goals as goal

pub returns : goal.returns
returns c =
    let members = contains-from_list_nat c.self.inside.numbers.items c.args.number in
    cc (c.contains.ensures.value, c.deref.ensures.value, c.self.view_is, members)
