use Rattle.step_forms.proofs.Asking.{part-fails, there}
use Rattle.step_forms.proofs.connect.act_connect.Goals as goal
use Rattle.step_forms.specs.internal.Stands.{legend_of, site_of, stand_by}
use Rattle.semantics.specs.Statements as said

pub returns-in_err-second-clause-asks : goal.returns-in_err-second-clause-asks
returns-in_err-second-clause-asks c =
    let s = c.args.stand.now in
    let stand = stand_by s in
    let one = c.args.one.now in
    let other = c.args.other.now in
    there (legend_of s) (λ x. said.acting (λ y. said.ask_connection stand x one.port y other.port) (said.component_meant_at stand (site_of s) other.component)) (said.component_meant_at stand (site_of s) one.component) c.in_ok-first.first
    c.from_residual-in_err-second.result c.in_ok-first.ensures
    (part-fails (legend_of s) (λ y. said.ask_connection stand c.in_ok-first.first one.port y other.port) (said.component_meant_at stand (site_of s) other.component) c.in_err-second.field-0.0 c.from_residual-in_err-second.result
    c.in_err-second.ensures c.from_residual-in_err-second.ensures.1)

pub returns-clause-asks : goal.returns-clause-asks
returns-clause-asks c =
    let s = c.args.stand.now in
    let stand = stand_by s in
    let one = c.args.one.now in
    let other = c.args.other.now in
    there (legend_of s) (λ x. said.acting (λ y. said.ask_connection stand x one.port y other.port) (said.component_meant_at stand (site_of s) other.component)) (said.component_meant_at stand (site_of s) one.component) c.in_ok-first.first
    c.connect_ends.result c.in_ok-first.ensures
    (there (legend_of s) (λ y. said.ask_connection stand c.in_ok-first.first one.port y other.port) (said.component_meant_at stand (site_of s) other.component) c.in_ok-second.second c.connect_ends.result c.in_ok-second.ensures c.connect_ends.ensures.asks)
