-- What ways and messages of the code stand for among those of the rules.
use Rattle.semantics.specs.Telling as telling
use Rattle.config_parts.specs.Legend.{Legend, end_by}
use Rattle.config_parts.specs.declared.way.Way.{Way}
use Rattle.config_parts.specs.declared.way.Way.TheVariants as way

-- where a message goes, by the names that slots stand for
abbrev pub way_by : Legend → Way → telling.Way
way_by legend (way.Reaches e) = telling.Reaches (end_by legend e)
way_by legend (way.Lost e) = telling.Lost (end_by legend e)
way_by legend (way.Leaves system_port) = telling.Leaves (legend.names system_port)
