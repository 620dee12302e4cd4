use Rattle.std.proofs.Common.{[], ap, arith, get_or, slice_get, ◌∙◌}
use Rattle.ttcn_graph.specs.Drafts.{Draft}
use Rattle.ttcn_graph.proofs.Drafted.{way-answer}
use Rattle.ttcn_graph.proofs.drawn.Drawn.way.Goals as goal

pub returns-in-Some-clause-found : goal.returns-in-Some-clause-found
returns-in-Some-clause-found c =
    let found = c.in-Some.ensures.lookup.4 (omega arith) [] ∙ ap (λ l. get_or l c.args.at []) c.deref.ensures.value in
    (way-answer c.args.self.now c.args.at c.args.place c.way_in.result
    (c.way_in.ensures ∙ ap (λ w. slice_get w c.args.place) (found ∙ ap (λ (v : Draft). get_or v.ways c.args.at []) c.self.view_is))).0

pub returns-in-Some-clause-missing : goal.returns-in-Some-clause-missing
returns-in-Some-clause-missing c =
    let found = c.in-Some.ensures.lookup.4 (omega arith) [] ∙ ap (λ l. get_or l c.args.at []) c.deref.ensures.value in
    (way-answer c.args.self.now c.args.at c.args.place c.way_in.result
    (c.way_in.ensures ∙ ap (λ w. slice_get w c.args.place) (found ∙ ap (λ (v : Draft). get_or v.ways c.args.at []) c.self.view_is))).1
