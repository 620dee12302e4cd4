use Rattle.std.specs.Option.{option_map}
use Rattle.config_parts.specs.Acts.{request_by}
use Rattle.ttcn_step.specs.Machines.{legend, said}
use Rattle.ttcnx_runs.proofs.Making.{alone-by}
use Rattle.ttcnx_runs.proofs.remembering.removed_at.Goals as goal

pub returns-in_ok-request-in-Statement : goal.returns-in_ok-request-in-Statement
returns-in_ok-request-in-Statement c =
    let machine = c.args.machine.now in
    alone-by machine (said machine c.args.config.now) c.args.label.now c.in-Statement.field-0 (option_map (request_by (legend machine)) c.in_ok-request-in-Statement.field-0) c.removed_by.result
    c.in-Statement.is c.in_ok-request-in-Statement.ensures (c.removed_by.ensures (legend machine))
