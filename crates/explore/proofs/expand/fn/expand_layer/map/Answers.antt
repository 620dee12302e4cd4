use Rattle.std.proofs.Common.{ap, sym, subst, ◌∙◌}
use Rattle.std.specs.Option.{option_map}
use Rattle.explore.specs.internal.Expansion.{IsExpanded}
use Rattle.explore.proofs.Expanding.{behind-step, leads-here, no-step, one_of}
use Rattle.explore.proofs.expand.fn.expand_layer.map.Goals.{in-Some+in_ok-successors-in-Some, in-None+in_ok-successors-in-None+in_ok-successors-in-None-2}
use Rattle.explore.proofs.expand.fn.expand_layer.map.Goals as goal

pub sparing_successors-requires : goal.sparing_successors-requires
sparing_successors-requires g c =
    let graph = g.Y.System.graph c.captures.system.now in
    let fits = g.Y.System.fits c.captures.system.now in
    let keys = c.captures.states.now.keys in
    let steps = c.captures.steps.now in
    let here = c.index-state.result.now in
    let there = c.index-before.result.now in
    let last = sym c.at.ensures ∙ ap (option_map (λ step. step.now)) c.in-Some.is in
    let leads = leads-here graph g.Y.Label.Ord.cmp keys steps c.args.place here c.index-state.ensures c.in-Some.step.now there c.index-before.ensures last c.requires.2 c.requires.0 in
    record {
      fits = (one_of fits keys c.args.place here c.index-state.ensures c.requires.1, one_of fits keys c.in-Some.step.now.before there c.index-before.ensures c.requires.1);
      enabled = leads.0;
      behind = leads.1;
    }

pub successors-requires : goal.successors-requires
successors-requires g c =
    one_of (g.Y.System.fits c.captures.system.now) c.captures.states.now.keys c.args.place c.index-state.result.now c.index-state.ensures c.requires.1

pub returns : goal.returns
returns g c =
    let graph = g.Y.System.graph c.captures.system.now in
    let cmp = g.Y.Label.Ord.cmp in
    let keys = c.captures.states.now.keys in
    let steps = c.captures.steps.now in
    let number = c.in_ok-number.number in
    let same = c.in_ok-number.ensures in
    elim c.match-at.branch [
      | in-Some+in_ok-successors-in-Some w ↦
          let last = sym c.at.ensures ∙ ap (option_map (λ step. step.now)) w.in-Some.is in
          subst (λ (found : _). IsExpanded graph keys steps cmp c.args.place number found.items) (sym w.successors-is)
          (behind-step graph cmp keys steps c.args.place c.index-state.result.now c.index-state.ensures w.in-Some.step.now w.index-before.result.now w.index-before.ensures last
          number w.in_ok-successors-in-Some.successors.items same w.in_ok-successors-in-Some.ensures.labels w.in_ok-successors-in-Some.ensures.states)
      | in-None+in_ok-successors-in-None+in_ok-successors-in-None-2 w ↦
          subst (λ (found : _). IsExpanded graph keys steps cmp c.args.place number found.items) (sym w.successors-is)
          (no-step graph cmp keys steps c.args.place c.index-state.result.now c.index-state.ensures
          number w.in_ok-successors-in-None-2.successors.items w.in_ok-successors-in-None.field-0.items same w.in_ok-successors-in-None-2.ensures w.in_ok-successors-in-None.ensures)
    ]
