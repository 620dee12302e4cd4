-- The run to an aim among those that were found.
use Rattle.std.specs.Prelude.{List, Option}
use Rattle.std.specs.List.{find}
use Rattle.std.specs.Option.{option_map}
use Rattle.semantics.specs.Steps.{Label}
use Rattle.ttcnx.specs.declared.aim.Aim.{Aim}
use Rattle.ttcnx.specs.declared.aim.Aim.TheVariants as aim
use Rattle.ttcnx_runs.specs.Aims.{is_at, stands_at}
use Rattle.ttcnx_runs.specs.declared.sights.Sights.{Sights}

-- the first that gets there
abbrev pub reach_by : Sights → Aim → Option (List Label)
reach_by sights (aim.Step place) = option_map (λ s. s.run.items) (find (λ s. is_at place s.event.place) sights.places.items)
reach_by sights (aim.Block place) = option_map (λ s. s.run.items) (find (λ s. stands_at place s.event) sights.blocks.items)
