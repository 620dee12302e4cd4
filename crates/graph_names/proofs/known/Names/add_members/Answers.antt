use Rattle.std.proofs.Common.{◌∙◌}
use Rattle.graph_names.specs.Known.{names_of_member}
use Rattle.graph_names.proofs.Learned.{all-end, all-next}
use Rattle.graph_names.proofs.known.Names.add_members.Goals as goal

pub loop-member-preserved : goal.loop-member-preserved
loop-member-preserved c =
    all-next c.args.members.now c.loop-member.member-index names_of_member c.member-item.result c.loop-member.self c.add_member.new.self c.loop-member-test.true c.member-item.is c.in_ok-add_member.ensures
    ∙ c.loop-member.invariant

pub returns : goal.returns
returns c = all-end c.args.members.now c.loop-member.member-index names_of_member c.loop-member.self c.loop-member-test.false ∙ c.loop-member.invariant
