-- The messages of steps by the names that slots stand for.
use Rattle.std.specs.Option.{option_map}
use Rattle.semantics.specs.Telling as rules
use Rattle.config_parts.specs.Legend.{Legend, end_by}
use Rattle.config_parts.specs.Ways.{way_by}
use Rattle.ttcn_step.specs.declared.telling.Sent.{Sent}

-- what a message of the code stands for among those of the rules
abbrev pub sent_by : Legend → Sent → rules.Sent
sent_by legend sent = record { from = option_map (end_by legend) sent.from; value = sent.value; way = way_by legend sent.way }
