-- What components ask for, as the code keeps it, and what comes of it.
use Rattle.std.specs.Prelude.{◌≡◌, Bool, true, false, map, AllPairs, Option, Some, None, Result, Ok, Err}
use Rattle.std.specs.Option.{option_map}
use Rattle.std.specs.declared.cmp.Ordering.TheVariants.{Less}
use Rattle.semantics.specs.Configurations as rules
use Rattle.semantics.specs.Statements as said
use Rattle.semantics.specs.Taking.{uncovered}
use Rattle.config_parts.specs.Legend.{Legend, component_by, config_by, data_by, end_by, frame_by, going_by}
use Rattle.config_parts.specs.declared.act.Act.{Act}
use Rattle.config_parts.specs.declared.act.Request.{Request}
use Rattle.config_parts.specs.declared.act.Request.TheVariants as request
use Rattle.config_parts.specs.declared.config.Config.{Config}
use Rattle.config_parts.specs.declared.config.Going.{Going}
use Rattle.value_types.specs.Outcomes.{Fails, Outcome, Yields}
use Rattle.value_types.specs.declared.fault.Fault.{Fault}
use Rattle.value_types.specs.declared.fault.Fault.TheVariants.{Dynamic, Memory}

-- what a request of code stands for among those of the rules
abbrev pub request_by : Legend → Request → said.Request
request_by legend request.Continues = said.Continues
request_by legend (request.Worsens v) = said.Worsens v
request_by legend (request.Removes port) = said.Removes (legend.names port)
request_by legend (request.Sends port to v) = said.Sends (legend.names port) to v
request_by legend (request.Creates new) = said.Creates (component_by legend new)
request_by legend (request.Starts path frame) = said.Starts path (frame_by legend frame)
request_by legend (request.Stops path) = said.Stops path
request_by legend (request.Connects one other) = said.Connects (end_by legend one) (end_by legend other)
request_by legend (request.Maps e system_port) = said.Maps (end_by legend e) (legend.names system_port)
request_by legend (request.Unmaps e system_port) = said.Unmaps (end_by legend e) (legend.names system_port)

-- what the code's form of what a component does stands for among those of the rules
abbrev pub act_by : Legend → Act → said.Act
act_by legend act = said.Requests (request_by legend act.request) (data_by legend act.own)

-- the data behind a step, where it has any
abbrev pub data_behind : said.Act → Option rules.Data
data_behind said.Waits = None
data_behind (said.Errs why) = None
data_behind (said.Requests request own) = Some own

-- the marks that come first are gone from the data behind a step
abbrev pub IsUncovered : said.Act → Type 0
IsUncovered asked = option_map uncovered (data_behind asked) ≡ data_behind asked

-- the components stand in the order of their paths
abbrev pub HasPathsInOrder : Going → Type 0
HasPathsInOrder going = AllPairs (λ p q. rules.path_cmp p q ≡ Less) (map (λ component. component.itself.path) going.components)

-- there is a step, and it fails
abbrev pub IsFailing : Option (Outcome rules.Configuration) → Type 0
IsFailing None = ⊥
IsFailing (Some (Yields c)) = ⊥
IsFailing (Some (Fails why)) = Unit {0}

-- a call does the step, and says whether there is one, unless memory was refused
abbrev pub DoesStep : {E : Type 0} → Legend → Option (Outcome rules.Configuration) → Going → Result Bool E → Type 0
DoesStep legend step going (Ok true) = step ≡ Some (Yields (rules.Goes (going_by legend going)))
DoesStep legend step going (Ok false) = step ≡ None
DoesStep legend step going (Err refused) = Unit {0}

-- a call gives the configuration that a step leads to, or says that the step fails, unless memory was refused
abbrev pub Leads : Legend → Option (Outcome rules.Configuration) → Result Config Fault → Type 0
Leads legend step (Ok config) = step ≡ Some (Yields (config_by legend config))
Leads legend step (Err Dynamic) = IsFailing step
Leads legend step (Err Memory) = Unit {0}
