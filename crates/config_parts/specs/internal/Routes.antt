-- Where messages go, as the private functions know it: slots are compared as numbers.
use Rattle.std.specs.Prelude.{ℕ, List, Option, Some, None, if◌then◌else◌}
use Rattle.std.specs.List.{find}
use Rattle.std.specs.Option.{option_map}
use Rattle.config_parts.specs.internal.Changes.{is_terminated_at}
use Rattle.config_parts.specs.internal.Ends.{peer, same_end}
use Rattle.config_parts.specs.declared.component.Component.{Component}
use Rattle.config_parts.specs.declared.config.Going.{Going}
use Rattle.config_parts.specs.declared.connection.End.{End}
use Rattle.config_parts.specs.declared.way.Way.{Way}
use Rattle.config_parts.specs.declared.way.Way.TheVariants as way
use Rattle.value_types.specs.declared.path.Path.{Path}

abbrev pub mapped_to : List (ℕ × End) → End → Option ℕ
mapped_to mappings d = option_map (λ m. m.0) (find (λ m. same_end d m.1) mappings)

abbrev pub way_to : List Component → End → Way
way_to components e = if is_terminated_at components e.component then way.Lost e else way.Reaches e

abbrev pub way_out : ℕ → Option Path → Option Way
way_out system_port None = Some (way.Leaves system_port)
way_out system_port (Some path) = None

abbrev pub way_mapped : Going → End → Option Path → Option ℕ → Option Way
way_mapped going d to (Some system_port) = way_out system_port to
way_mapped going d to None = option_map (way_to going.components) (peer going.links.connections d to)

abbrev pub way_from : Going → End → Option Path → Option Way
way_from going d to = way_mapped going d to (mapped_to going.links.mappings d)
