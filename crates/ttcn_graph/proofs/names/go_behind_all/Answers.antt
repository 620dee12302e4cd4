use Rattle.ttcn_graph.specs.Drafts.{at_site}
use Rattle.ttcn_graph.specs.internal.Drawing.{site_behind_all}
use Rattle.ttcn_graph.proofs.Growing.{behind-all-end, behind-all-next}
use Rattle.ttcn_graph.proofs.names.go_behind_all.Goals as goal

pub loop-statement-preserved : goal.loop-statement-preserved
loop-statement-preserved c =
    behind-all-next c.loop-statement.draft c.go_behind.new.draft (at_site (site_behind_all c.args.draft.now.definitions c.args.draft.now.site c.args.body.now) c.args.draft.now)
    c.args.body.now c.loop-statement.statement-index c.statement-item.result c.loop-statement-test.true c.statement-item.is c.in_ok-go_behind.ensures c.loop-statement.invariant

pub returns : goal.returns
returns c =
    behind-all-end c.loop-statement.draft (at_site (site_behind_all c.args.draft.now.definitions c.args.draft.now.site c.args.body.now) c.args.draft.now)
    c.args.body.now c.loop-statement.statement-index c.loop-statement-test.false c.loop-statement.invariant
