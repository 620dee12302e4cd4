use Rattle.std.proofs.Common.{[], ◌∷◌, ap, arith, map, refl, subst, ◌∙◌}
use Rattle.step_acts.proofs.First.{first-asks}
use Rattle.step_acts.proofs.step.act_at.Goals as goal
use Rattle.step_forms.specs.internal.Places.{behind_first, list_at, site_at}
use Rattle.semantics.specs.Items.{Doing}
use Rattle.step_snapshot.specs.Seen.{own_by, seen_by}
use Rattle.step_snapshot.specs.Tests.{legend_by, test_by}
use Rattle.config_parts.specs.Legend.{frame_by}
use Rattle.graph_items.specs.Begun.{StandsIn, item_at}
use Rattle.graph_items.specs.Standing.{part_of}
use Rattle.graph_items.specs.declared.first.First.{First}
use Rattle.graph_sites.specs.Facts.{facts_of}

pub invariant_of-stand : goal.invariant_of-stand
invariant_of-stand c =
    let t = (c.args.snapshot.now).test.now in
    let at = c.args.frame.now.remaining in
    let found = c.in-Some-Doing-default.ensures in
    let is = c.in-Some-Doing-default.field-0-0-is in
    record {
      last = c.requires;
      there = found.there;
      behind = (let before = found.before in let there = found.there in omega arith);
      first = found.found.item ∙ ap (λ (first : First). item_at (site_at t at) first ∷ list_at t c.in-Some-Doing-default.rest) is;
      site = subst (λ (first : First). StandsIn (site_at t at) first) is found.found.behaviour;
      known = c.facts.ensures ∙ ap (λ definitions. facts_of definitions (list_at t at)) t.same;
      named = t.items at;
    }

pub returns-in-None-clause-asks : goal.returns-in-None-clause-asks
returns-in-None-clause-asks c =
    let s = c.args.snapshot.now in
    let frame = c.args.frame.now in
    let legend = legend_by s.test.now in
    let below = map (frame_by legend) (behind_first (s.component.now).own.calls) in
    first-asks s frame c.act_end.result c.requires [] c.in-None.ensures.missing
    (c.act_end.ensures.asks (record { test = test_by s.test.now; snapshot = seen_by s; own = own_by s; frame = frame_by legend frame; below = below; rest = [] }) refl refl)

pub returns-in-Some-Doing-default-clause-asks : goal.returns-in-Some-Doing-default-clause-asks
returns-in-Some-Doing-default-clause-asks c =
    let s = c.args.snapshot.now in
    let t = s.test.now in
    let frame = c.args.frame.now in
    let found = c.in-Some-Doing-default in
    first-asks s frame c.act_part.result c.requires (Doing (site_at t frame.remaining) found.statement.now (part_of found.part) ∷ list_at t found.rest) (found.ensures.found.item ∙ ap (λ (first : First). item_at (site_at t frame.remaining) first ∷ list_at t found.rest) found.field-0-0-is)
    c.act_part.ensures.asks
