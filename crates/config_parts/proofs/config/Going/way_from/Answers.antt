use Rattle.std.proofs.Common.{option_map}
use Rattle.config_parts.specs.Legend.{end_by, going_by}
use Rattle.config_parts.specs.internal.Routes as spec
use Rattle.semantics.specs.Telling as telling
use Rattle.config_parts.proofs.Routed.{answered, way-from-by}
use Rattle.config_parts.proofs.config.Going.way_from.Goals as goal

pub returns : goal.returns
returns c legend is =
    let going = c.args.self.now in
    let from = c.args.from.now in
    let to = option_map (λ path. path.now) c.args.to in
    answered legend c.way_from.result (spec.way_from going from to) (telling.way_from (going_by legend going) (end_by legend from) to) (way-from-by legend is going from to) c.way_from.ensures
