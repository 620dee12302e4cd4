use Rattle.std.proofs.Common.{[], ◌∷◌, ◌<◌, length, get_or, sym, subst}
use Rattle.std.specs.Option.{option_map}
use Rattle.semantics.specs.Items as rules
use Rattle.ttcn_graph.specs.Drafts.{Draft, IsDrawn}
use Rattle.ttcn_graph.specs.Ways.{ways_of_variable}
use Rattle.ttcn_graph.proofs.Growing.{put-drawn}
use Rattle.ttcn_graph.proofs.names.draw_name.Goals as goal

pub returns : goal.returns
returns c =
    let before = c.retract.new.self in
    subst (λ (d : Draft). IsDrawn d c.put.new.self c.in_ok-at.at (rules.Doing d.site c.args.statement.now (rules.Name c.args.place) ∷ get_or d.lists c.args.rest [])) c.retract.ensures
    (put-drawn before c.ways_of_name.new.draft c.put.new.self c.args.statement.now (rules.Name c.args.place) c.in_ok-ways.ways
    (ways_of_variable (get_or before.lists c.args.rest []) (option_map (λ variable. variable.now) c.get.result)) c.args.rest c.in_ok-at.at
    c.in_ok-ways.ensures (subst (λ (d : Draft). c.args.rest < length d.lists) (sym c.retract.ensures) c.requires.rest) c.in_ok-at.ensures)
