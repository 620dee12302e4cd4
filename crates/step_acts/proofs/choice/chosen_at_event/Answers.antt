use Rattle.std.proofs.Common.{[], ◌∷◌, map, sym, ◌∙◌}
use Rattle.step_forms.proofs.Standing.{facts-kept, first-event, known-there, one-list}
use Rattle.step_acts.proofs.choice.chosen_at_event.Goals as goal
use Rattle.step_forms.specs.internal.Stands.{site_of}
use Rattle.semantics.specs.Items.{Whole}
use Rattle.graph_sites.specs.Facts.{event_by, event_facts}
use Rattle.ttcn_graph.proofs.Forms.{does-Event}
use Rattle.ttcn_syntax.specs.declared.tree.statement.Action.TheOpen.{Action-F}

pub choose_event-requires-clause-named : goal.choose_event-requires-clause-named
choose_event-requires-clause-named c =
    let s = c.args.stand.now in
    known-there s Whole (Action-F.«Action::Event» c.args.event.now) c.requires.whole (does-Event s.statement.now c.args.event.now c.requires.does)

pub returns-clause-chosen : goal.returns-clause-chosen
returns-clause-chosen c =
    let s = c.args.stand.now in
    let event = c.args.event.now in
    let all = one-list (map event_by c.awaited.result.now) (event_facts ((s.snapshot.now).test.now).definitions (site_of s) event ∷ [])
    (sym c.awaited.ensures ∙ facts-kept s Whole (Action-F.«Action::Event» event) c.requires.whole (does-Event s.statement.now event c.requires.does)) in
    c.choose_event.ensures.chosen (site_of s) s.site (first-event c.awaited.result.now c.index-awaited-0.result (event_facts ((s.snapshot.now).test.now).definitions (site_of s) event) all c.index-awaited-0.is)

pub returns-clause-known : goal.returns-clause-known
returns-clause-known c =
    let s = c.args.stand.now in
    let event = c.args.event.now in
    let all = one-list (map event_by c.awaited.result.now) (event_facts ((s.snapshot.now).test.now).definitions (site_of s) event ∷ [])
    (sym c.awaited.ensures ∙ facts-kept s Whole (Action-F.«Action::Event» event) c.requires.whole (does-Event s.statement.now event c.requires.does)) in
    c.choose_event.ensures.known (site_of s) s.site (first-event c.awaited.result.now c.index-awaited-0.result (event_facts ((s.snapshot.now).test.now).definitions (site_of s) event) all c.index-awaited-0.is)
