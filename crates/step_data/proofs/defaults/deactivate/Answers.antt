use Rattle.std.proofs.Common.{ap, ◌∙◌, not, nat_eq}
use Rattle.std.specs.List.{filter}
use Rattle.semantics.specs.Statements as said
use Rattle.step_data.proofs.Changes.{defaults-left}
use Rattle.config_parts.specs.Legend.{data_by, default_by}
use Rattle.config_parts.specs.declared.frame.ActiveDefault.{ActiveDefault}
use Rattle.std.specs.Prelude.{List, map}
use Rattle.step_data.proofs.defaults.deactivate.Goals as goal

pub returns-clause-gone : goal.returns-clause-gone
returns-clause-gone c legend =
    ap (λ (ds : List ActiveDefault). said.with_defaults (map default_by ds) (data_by legend c.args.own))
    (c.without.ensures ∙ ap (filter (λ d. not (nat_eq d.number c.args.number))) c.replace-defaults.ensures.value)
    ∙ ap (λ ds. said.with_defaults ds (data_by legend c.args.own)) (defaults-left c.args.number c.args.own.defaults)
