use Rattle.std.proofs.Common.{rules}
use Rattle.check_rules.specs.Definitions.{check_parameter, parameter_entry}
use Rattle.check_statements.proofs.parameter.check_parameters.Goals as goal

pub returns : goal.returns
returns c =
    let declared = c.declare_each.ensures check_parameter parameter_entry (λ before parameter done after said. search rules) in
    record { broken = declared.0; view = declared.1; around = declared.2 }
