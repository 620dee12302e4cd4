use Rattle.std.proofs.Common.{subst}
use Rattle.step_forms.proofs.create.create_at.Goals as goal
use Rattle.step_forms.specs.Asks.{Asks}
use Rattle.step_forms.specs.internal.Stands.{legend_of, stand_by}
use Rattle.semantics.specs.Statements as said
use Rattle.config_parts.specs.Legend.{data_by}
use Rattle.graph_items.specs.Standing.{target_of}
use Rattle.value_types.specs.declared.path.Path.{Path}

pub returns-clause-asks : goal.returns-clause-asks
returns-clause-asks c =
    let s = c.args.stand.now in
    subst (λ (p : Path). Asks (legend_of s) (said.create (stand_by s) (target_of c.args.target.now) (data_by (legend_of s) c.args.own) (record { path = p; component_type = c.args.component_type })) c.create_as.result)
    c.in_ok-path.ensures c.create_as.ensures.asks
