use Rattle.std.proofs.Common.{Bool, List, Option, Some, ap, ◌∙◌}
use Rattle.check_rules.specs.Messages.{type_by_port}
use Rattle.check_scope.specs.declared.types.DataType.{DataType}
use Rattle.check_statements.proofs.message.Passing.at.Goals as goal

pub returns-in-Some-traffic : goal.returns-in-Some-traffic
returns-in-Some-traffic c =
    rw c.in-Some.is (ap (λ (types : List (Option DataType)). (Some types, type_by_port (Some types)))
    (c.towards.ensures ∙ ap (λ (types : Bool → List (Option DataType)). types c.args.incoming) c.in-Some-traffic.ensures))

pub returns-in-None : goal.returns-in-None
returns-in-None c =
    rw c.in-Some.is (ap (λ (types : List (Option DataType)). (Some types, type_by_port (Some types)))
    (ap (λ (types : Bool → List (Option DataType)). types c.args.incoming) c.in-None.ensures))
