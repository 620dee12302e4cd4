use Rattle.std.proofs.Common.{[], ◌∷◌, map, sym, ◌∙◌}
use Rattle.step_forms.proofs.Forms.{whole-asks}
use Rattle.step_forms.proofs.Standing.{facts-kept, first-event, known-there, one-list}
use Rattle.step_acts.proofs.step.act_event.Goals as goal
use Rattle.step_forms.specs.internal.Stands.{legend_of, site_of, stand_by}
use Rattle.semantics.specs.Items.{Whole}
use Rattle.semantics.specs.Statements as said
use Rattle.graph_sites.specs.Facts.{event_by, event_facts}
use Rattle.ttcn_graph.proofs.Forms.{does-Event}
use Rattle.ttcn_syntax.specs.declared.tree.statement.Action.TheOpen.{Action-F}
use Rattle.value_types.specs.Outcomes.{Unmet}

pub choose_event-chosen-requires-clause-named : goal.choose_event-chosen-requires-clause-named
choose_event-chosen-requires-clause-named c =
    let s = c.args.stand.now in
    known-there s Whole (Action-F.«Action::Event» c.args.event.now) c.requires.whole (does-Event s.statement.now c.args.event.now c.requires.does)

pub act_choice-requires-clause-chosen : goal.act_choice-requires-clause-chosen
act_choice-requires-clause-chosen c =
    let s = c.args.stand.now in
    let event = c.args.event.now in
    let all = one-list (map event_by c.awaited.result.now) (event_facts ((s.snapshot.now).test.now).definitions (site_of s) event ∷ [])
    (sym c.awaited.ensures ∙ facts-kept s Whole (Action-F.«Action::Event» event) c.requires.whole (does-Event s.statement.now event c.requires.does)) in
    c.choose_event-chosen.ensures.chosen (site_of s) s.site (first-event c.awaited.result.now c.index-awaited-0.result (event_facts ((s.snapshot.now).test.now).definitions (site_of s) event) all c.index-awaited-0.is)

pub act_choice-requires-clause-known : goal.act_choice-requires-clause-known
act_choice-requires-clause-known c =
    let s = c.args.stand.now in
    let event = c.args.event.now in
    let all = one-list (map event_by c.awaited.result.now) (event_facts ((s.snapshot.now).test.now).definitions (site_of s) event ∷ [])
    (sym c.awaited.ensures ∙ facts-kept s Whole (Action-F.«Action::Event» event) c.requires.whole (does-Event s.statement.now event c.requires.does)) in
    c.choose_event-chosen.ensures.known (site_of s) s.site (first-event c.awaited.result.now c.index-awaited-0.result (event_facts ((s.snapshot.now).test.now).definitions (site_of s) event) all c.index-awaited-0.is)

pub returns-clause-asks : goal.returns-clause-asks
returns-clause-asks c =
    let s = c.args.stand.now in
    let event = c.args.event.now in
    whole-asks (legend_of s) (stand_by s) (site_of s) s.statement.now (Action-F.«Action::Event» event) c.act_choice.result (does-Event s.statement.now event c.requires.does)
    (c.act_choice.ensures.asks (said.Errs Unmet))
