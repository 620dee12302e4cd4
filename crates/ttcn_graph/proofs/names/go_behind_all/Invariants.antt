use Rattle.std.proofs.Common.{◌≡◌, drop}
use Rattle.ttcn_graph.specs.Drafts.{at_site}
use Rattle.ttcn_graph.specs.internal.Drawing.{site_behind_all}
use Rattle.ttcn_graph.proofs.names.go_behind_all.Given as goal

abbrev pub invariant-loop-statement : goal.invariant-loop-statement
invariant-loop-statement l =
    at_site (site_behind_all l.draft.definitions l.draft.site (drop l.statement-index l.body)) l.draft
    ≡ at_site (site_behind_all l.fn.draft.definitions l.fn.draft.site l.body) l.fn.draft
