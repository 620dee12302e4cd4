use Rattle.std.proofs.Common.{Bool, List, Option, ap, ◌∙◌}
use Rattle.check_scope.specs.Names.{kind_at, module_names}
use Rattle.check_scope.specs.PortTypes.{only_type, types_of_port}
use Rattle.check_scope.specs.declared.types.DataType.{DataType}
use Rattle.graph_sites.proofs.here.Here.type_passing.Goals as goal

pub returns-in-Some : goal.returns-in-Some
returns-in-Some c =
    c.only_type.ensures ∙ ap only_type (c.towards.ensures ∙ ap (λ (f : Bool → List (Option DataType)). f c.args.incoming) c.in-Some.ensures)
    ∙ ap (λ v. only_type (types_of_port (module_names v.0) c.args.incoming (kind_at v.0 c.args.at))) c.self.view_is

pub returns-in-None : goal.returns-in-None
returns-in-None c =
    ap (λ (f : Bool → List (Option DataType)). only_type (f c.args.incoming)) c.in-None.ensures
    ∙ ap (λ v. only_type (types_of_port (module_names v.0) c.args.incoming (kind_at v.0 c.args.at))) c.self.view_is
