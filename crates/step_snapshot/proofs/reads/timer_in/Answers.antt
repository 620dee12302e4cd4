use Rattle.std.proofs.Common.{sym, ap, ◌∙◌}
use Rattle.std.specs.Prelude.{bytes_eq}
use Rattle.std.specs.List.{find}
use Rattle.std.specs.Option.{option_map}
use Rattle.step_snapshot.specs.Tests.{legend_by}
use Rattle.step_snapshot.proofs.Entries.{entry-by}
use Rattle.step_snapshot.proofs.reads.timer_in.Goals as goal

pub returns-in-Some : goal.returns-in-Some
returns-in-Some c =
    let legend = legend_by c.args.test.now in
    let name = c.args.name.now in
    ap (option_map (λ e. e.now.1)) (sym c.in-Some.is)
    ∙ entry-by legend name c.args.cells.now.timers c.timer_named.result (c.timer_named.ensures ∙ ap (find (λ e. bytes_eq (legend.names e.0) name)) c.as_slice.ensures)

pub returns-in-None : goal.returns-in-None
returns-in-None c =
    let legend = legend_by c.args.test.now in
    let name = c.args.name.now in
    ap (option_map (λ e. e.now.1)) (sym c.in-None.is)
    ∙ entry-by legend name c.args.cells.now.timers c.timer_named.result (c.timer_named.ensures ∙ ap (find (λ e. bytes_eq (legend.names e.0) name)) c.as_slice.ensures)
