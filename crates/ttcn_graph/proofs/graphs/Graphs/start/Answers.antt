use Rattle.std.proofs.Common.{[], ap, arith, get_or, slice_get, subst, ◌≡◌, ◌∙◌, None}
use Rattle.std.specs.Option.{IfNone, IfSome}
use Rattle.ttcn_graph.specs.Graphs.{Graphs, IsAt, beginnings_at}
use Rattle.ttcn_graph.proofs.Graphed.{at-answer}
use Rattle.ttcn_graph.proofs.graphs.Graphs.start.Goals as goal

pub returns-in-Some-clause-found : goal.returns-in-Some-clause-found
returns-in-Some-clause-found c =
    let d = c.self.inside.drawn in
    let starts = c.self.inside.starts.items in
    let found = c.in-Some.ensures.lookup.4 (omega arith) [] ∙ ap (λ l. get_or l c.args.definition []) c.deref.ensures.value in
    subst (λ (graphs : Graphs). IfSome c.way_in.result (λ start. IsAt graphs start c.args.place (beginnings_at graphs.definitions c.args.definition))) c.self.view_is
    (at-answer d starts c.self.inside.names (get_or starts c.args.definition []) (beginnings_at d.definitions c.args.definition) c.args.place c.way_in.result (c.self.invariant.1 c.args.definition)
    (c.way_in.ensures ∙ ap (λ w. slice_get w c.args.place) found)).0

pub returns-in-Some-clause-missing : goal.returns-in-Some-clause-missing
returns-in-Some-clause-missing c =
    let d = c.self.inside.drawn in
    let starts = c.self.inside.starts.items in
    let found = c.in-Some.ensures.lookup.4 (omega arith) [] ∙ ap (λ l. get_or l c.args.definition []) c.deref.ensures.value in
    subst (λ (graphs : Graphs). IfNone c.way_in.result (slice_get (beginnings_at graphs.definitions c.args.definition) c.args.place ≡ None)) c.self.view_is
    (at-answer d starts c.self.inside.names (get_or starts c.args.definition []) (beginnings_at d.definitions c.args.definition) c.args.place c.way_in.result (c.self.invariant.1 c.args.definition)
    (c.way_in.ensures ∙ ap (λ w. slice_get w c.args.place) found)).1
