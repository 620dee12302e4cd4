use Rattle.std.proofs.Common.{true, sym, ap, ◌∙◌}
use Rattle.std.specs.List.{list_any}
use Rattle.check_scope.specs.PortTypes.{agrees}
use Rattle.semantics.specs.Statements.{types_at}
use Rattle.report_script.proofs.message.comes_in.Goals as goal

pub returns-in-Some-traffic : goal.returns-in-Some-traffic
returns-in-Some-traffic c =
    c.lists.ensures ∙ ap (list_any (agrees c.args.data_type))
    (c.towards.ensures ∙ ap (λ types. types true) c.in-Some-traffic.ensures ∙ sym (ap (types_at c.args.scope.now.definitions.now true) c.in-Some.is))

pub returns-in-None : goal.returns-in-None
returns-in-None c =
    ap (list_any (agrees c.args.data_type)) (ap (λ types. types true) c.in-None.ensures ∙ sym (ap (types_at c.args.scope.now.definitions.now true) c.in-Some.is))
