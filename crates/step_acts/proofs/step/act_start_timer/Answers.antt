use Rattle.std.proofs.Common.{[]}
use Rattle.step_forms.proofs.Forms.{does-StartTimer, whole-asks}
use Rattle.step_forms.proofs.Standing.{facts-kept, first-known, known-there}
use Rattle.step_acts.proofs.step.act_start_timer.Goals as goal
use Rattle.step_forms.specs.internal.Stands.{legend_of, site_of, stand_by}
use Rattle.semantics.specs.Items.{Whole}
use Rattle.semantics.specs.Sites.{is_own}
use Rattle.ttcn_syntax.specs.declared.tree.statement.Action.TheOpen.{Action-F}

pub act_timer_state-requires-clause-known : goal.act_timer_state-requires-clause-known
act_timer_state-requires-clause-known c =
    let s = c.args.stand.now in
    let name = c.args.name.now in
    first-known ((s.snapshot.now).test.now).names name [] (known-there s Whole (Action-F.StartTimer name) c.requires.whole (does-StartTimer s.statement.now name c.requires.does))

pub act_timer_state-requires-clause-own : goal.act_timer_state-requires-clause-own
act_timer_state-requires-clause-own c =
    let s = c.args.stand.now in
    let name = c.args.name.now in
    c.is_own.ensures (is_own ((s.snapshot.now).test.now).definitions (site_of s) name) (facts-kept s Whole (Action-F.StartTimer name) c.requires.whole (does-StartTimer s.statement.now name c.requires.does))

pub returns-clause-asks : goal.returns-clause-asks
returns-clause-asks c =
    let s = c.args.stand.now in
    let name = c.args.name.now in
    whole-asks (legend_of s) (stand_by s) (site_of s) s.statement.now (Action-F.StartTimer name) c.act_timer_state.result (does-StartTimer s.statement.now name c.requires.does) c.act_timer_state.ensures.asks
