use Rattle.std.proofs.Common.{[], ◌∷◌, ap, arith, subst, ◌∙◌}
use Rattle.step_acts.proofs.Placing.{place-first}
use Rattle.step_acts.proofs.place.place_at.Goals as goal
use Rattle.step_forms.specs.internal.Places.{list_at, site_at}
use Rattle.semantics.specs.Items.{Doing}
use Rattle.graph_items.specs.Begun.{StandsIn, item_at}
use Rattle.graph_items.specs.Standing.{part_of}
use Rattle.graph_items.specs.declared.first.First.{First}
use Rattle.graph_sites.specs.Facts.{facts_of}

pub invariant_of-stand : goal.invariant_of-stand
invariant_of-stand c =
    let t = (c.args.snapshot.now).test.now in
    let at = c.args.frame.now.remaining in
    let found = c.in-Some-Doing-default.ensures in
    let is = c.in-Some-Doing-default.field-0-0-is in
    record {
      last = c.requires;
      there = found.there;
      behind = (let before = found.before in let there = found.there in omega arith);
      first = found.found.item ∙ ap (λ (first : First). item_at (site_at t at) first ∷ list_at t c.in-Some-Doing-default.rest) is;
      site = subst (λ (first : First). StandsIn (site_at t at) first) is found.found.behaviour;
      known = c.facts.ensures ∙ ap (λ definitions. facts_of definitions (list_at t at)) t.same;
      named = t.items at;
    }

pub returns-in-Some-Doing-default : goal.returns-in-Some-Doing-default
returns-in-Some-Doing-default c =
    let s = c.args.snapshot.now in
    let t = s.test.now in
    let frame = c.args.frame.now in
    let found = c.in-Some-Doing-default in
    place-first s frame c.requires c.place_part.result (Doing (site_at t frame.remaining) found.statement.now (part_of found.part) ∷ list_at t found.rest) (found.ensures.found.item ∙ ap (λ (first : First). item_at (site_at t frame.remaining) first ∷ list_at t found.rest) found.field-0-0-is)
    c.place_part.ensures
