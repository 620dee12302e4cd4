-- What is told of the steps of a run.
use Rattle.std.specs.Prelude.{◌≡◌, List, [], ◌∷◌, Option, Some, Err}
use Rattle.std.specs.Option.{option_map}
use Rattle.ttcn_syntax.specs.declared.tree.statement.Verdict.{Verdict}
use Rattle.chart_steps.specs.declared.story.Told.{Told}
use Rattle.config_parts.specs.Acts.{request_by}
use Rattle.config_parts.specs.declared.config.Config.{Config}
use Rattle.graph_items.specs.Standing.{part_of}
use Rattle.semantics.specs.Configurations as rules
use Rattle.semantics.specs.Places.{branch_of}
use Rattle.semantics.specs.Runs.{replay}
use Rattle.semantics.specs.Steps.{Label, next}
use Rattle.semantics.specs.Telling.{place_of_step, request_of, sent_of}
use Rattle.ttcn_step.specs.Machines.{Machine, legend, said}
use Rattle.ttcn_step.specs.Parts.{part_of_step}
use Rattle.ttcn_step.specs.Telling.{sent_by}
use Rattle.ttcn_step.specs.declared.error.ReplayError.{ReplayError}
use Rattle.ttcn_step.specs.declared.error.ReplayError.TheVariants as replaying
use Rattle.value_types.specs.declared.path.Path.{Path}

-- what is told of the step of a label from a configuration is what the rules say
pub record IsTold (machine : Machine) (config : Config) (label : Label) (told : Told) : Type 0 where
  -- the statement that it begins with, what of that, and the branch that it takes
  pub place : told.place ≡ place_of_step (said machine config) label
  pub part : option_map part_of told.part ≡ part_of_step (said machine config) label
  pub branch : told.branch ≡ branch_of machine.test (said machine config) label
  -- what it asks for, and the message that it sends or brings, by the names that slots stand for
  pub request : option_map (request_by (legend machine)) told.request ≡ request_of machine.test (said machine config) label
  pub sent : option_map (sent_by (legend machine)) told.sent ≡ sent_of machine.test (said machine config) label
  -- where it leads
  pub leads : next machine.test (said machine config) label ≡ Some (said machine told.behind)

-- each step of a run is told, one behind the other, and nothing else is
abbrev pub AreTold : Machine → Config → List Label → List Told → Type 0
AreTold machine config [] [] = Unit {0}
AreTold machine config [] (told ∷ steps) = ⊥
AreTold machine config (label ∷ labels) [] = ⊥
AreTold machine config (label ∷ labels) (told ∷ steps) = IsTold machine config label told × AreTold machine told.behind labels steps

-- where steps lead, one behind the other
abbrev pub last_of : Config → List Told → Config
last_of config [] = config
last_of config (told ∷ steps) = last_of told.behind steps

-- what is refused of a run is the number of its first label that is not enabled where it stands, unless memory was refused
abbrev pub Refuses : Machine → List Label → ReplayError → Type 0
Refuses machine run (replaying.NotEnabled number) = replay machine.test run ≡ Err number
Refuses machine run replaying.Memory = Unit {0}

-- the verdict of a component that is there, and of a test case that ended
abbrev pub verdict_at : rules.Configuration → Path → Option Verdict
verdict_at (rules.Ended v) path = Some v
verdict_at (rules.Goes c) path = option_map (λ component. component.verdict) (rules.component_at c path)
