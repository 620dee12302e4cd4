use Rattle.std.proofs.Common.{[], ◌++◌, ◌≡◌, get_or, length}
use Rattle.semantics.specs.Items as rules
use Rattle.semantics.specs.Sites as sites
use Rattle.ttcn_graph.specs.Drafts.{IsDrawn, at_site}
use Rattle.ttcn_graph.specs.internal.Drawing.{declared_before, site_before}
use Rattle.ttcn_graph.proofs.Growing.{ok-map, start-drawn}
use Rattle.ttcn_graph.proofs.block.draw_start.Goals as goal

pub returns-in-Variables : goal.returns-in-Variables
returns-in-Variables c =
    let old = c.args.draft.now in
    let new = c.draw_names.new.draft in
    let s = c.args.statement.now in
    let rest = get_or old.lists c.args.rest [] in
    let variables = c.as_slice-variables.result.now in
    ok-map c.draw_names.result (λ at. IsDrawn (at_site (site_before (length variables) old.site) old) new at (declared_before old.site s (length variables) rest))
    (λ at. (site : sites.Site) → old.site ≡ rules.site_in_for old.definitions site c.args.start.now → IsDrawn (at_site site old) new at (rules.start_items old.definitions site s c.args.start.now ++ rest))
    (λ at h site behind. start-drawn old new site s c.args.start.now c.in-Variables.declared variables at rest c.in-Variables.is c.as_slice-variables.ensures behind h)
    c.draw_names.ensures
