use Rattle.step_snapshot.proofs.test_case.TestCase.slots_are_in_order.Goals as goal

pub returns : goal.returns
returns c = c.names_make_legends.ensures.legend c.args.self.now.graphs.lists c.args.self.now.names c.are_in_order.ensures
