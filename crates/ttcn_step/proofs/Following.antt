-- Configurations behind steps fit.
use Rattle.std.proofs.Common.{IfSome, None, Option, option_map, Some, subst, sym, ◌≡◌}
use Rattle.laws_order.proofs.Runs.{next_ordered, start_ordered}
use Rattle.laws_order.specs.Order.{StandsInOrder}
use Rattle.semantics.specs.Runs.{start}
use Rattle.semantics.specs.Steps.{Label, next}
use Rattle.config_parts.specs.Views.{IsConfigWithin}
use Rattle.config_parts.specs.declared.config.Config.{Config}
use Rattle.ttcn_step.proofs.FramesKept.{limit_behind, start-within}
use Rattle.ttcn_step.specs.FrameLimit.{AllKeepFrameLimit}
use Rattle.ttcn_step.specs.Machines.{Fits, Machine, extent, said}

-- the configuration to which a label leads fits where each of its slots has a name
pub fits-after : (machine : Machine) (config after : Config) (label : Label) → Fits machine config → next machine.test (said machine config) label ≡ Some (said machine after) → IsConfigWithin (extent machine) after
    → Fits machine after
fits-after machine config after label fits e within = record {
  within = within;
  ordered = next_ordered machine.test (said machine config) (said machine after) label fits.ordered e;
  frames = limit_behind machine.test (said machine config) (said machine after) label fits.frames e;
}

pub fits-behind : (machine : Machine) (config : Config) (label : Label) (after : Option Config) → Fits machine config → option_map (said machine) after ≡ next machine.test (said machine config) label
    → IfSome after (IsConfigWithin (extent machine)) → IfSome after (Fits machine)
fits-behind machine config label None fits e within = tt
fits-behind machine config label (Some after) fits e within = fits-after machine config after label fits (sym e) within

-- the configuration in which runs start fits
pub fits-start : (machine : Machine) (config : Config) → said machine config ≡ start machine.test → IsConfigWithin (extent machine) config → Fits machine config
fits-start machine config e within = record {
  within = within;
  ordered = subst StandsInOrder (sym e) (start_ordered machine.test);
  frames = subst AllKeepFrameLimit (sym e) (start-within machine.test);
}
