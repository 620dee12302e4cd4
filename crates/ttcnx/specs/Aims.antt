-- The least run to an aim, and what is answered where one is wanted, unless an allocation fails.
use Rattle.std.specs.Prelude.{◌≡◌, ◌≤◌, ℕ, List, Option, Result, Ok, Err}
use Rattle.std.specs.Option.{option_map}
use Rattle.explore.specs.Sightings.{shown_at_end, shown_by_step}
use Rattle.explore.specs.declared.ending.Stops.{Stops}
use Rattle.laws_live.specs.Parts.{CountsParts}
use Rattle.search_layer.specs.Limits.{IsWithinLimits}
use Rattle.search_layer.specs.declared.plan.Plan.{Plan}
use Rattle.semantics.specs.Labels.{label_cmp}
use Rattle.semantics.specs.Runs.{graph_of}
use Rattle.semantics.specs.Snapshots.{Test}
use Rattle.semantics.specs.Steps.{Label}
use Rattle.ttcnx.specs.declared.aim.Aim.{Aim}
use Rattle.ttcnx.specs.declared.aim.Aim.TheVariants as aim
use Rattle.ttcnx.specs.declared.aim.Reaching.{Reaching}
use Rattle.ttcnx.specs.Fault.{SameFault}
use Rattle.ttcnx.specs.declared.fault.Fault.{Fault}
use Rattle.ttcnx.specs.Named.{IsTestOf, Source}
use Rattle.ttcnx.specs.Until.{IsRefusedUntil}
use Rattle.ttcnx_runs.specs.Aims.{IsLeastTo, is_at, stands_at}
use Rattle.ttcnx_runs.specs.Endings.{HaveEnded}
use Rattle.ttcnx_runs.specs.Sights.{block_in, place_in_text}

-- the labels of the least of the shortest runs of at most n steps that get there, or none exactly where no run does
abbrev pub IsLeastToAim : Test → ℕ → Aim → Option (List Label) → Type 0
IsLeastToAim test n (aim.Step place) = IsLeastTo (graph_of test) label_cmp n (shown_by_step (graph_of test) (place_in_text test)) (is_at place)
IsLeastToAim test n (aim.Block place) = IsLeastTo (graph_of test) label_cmp n (shown_at_end (graph_of test) (block_in test)) (stands_at place)

-- the labels of the run that is answered, if there is one
abbrev pub labels_of_run : Reaching → Option (List Label)
labels_of_run reaching = option_map (λ run. run.items) reaching.run

-- what is answered
pub data IsAnswerTo (given : Source) (name : List ℕ) (plan : Plan) (stops : Stops) (aim : Aim) : Result Reaching Fault → Type 0 where
  -- there is no answer for the test case: why, as where a report is wanted
  refused : {why : Fault} → IsRefusedUntil given name plan stops why → IsAnswerTo given name plan stops aim (Err why)
  -- the least run to the aim, if there is one, of a bound within the plan's, with which no more configurations than the limit are
  -- reached: the least with which the exploration may end
  reached : {reaching : Reaching} {test : Test} {count : ℕ} → IsWithinLimits plan → IsTestOf given name test → reaching.steps ≤ plan.steps
      → CountsParts test reaching.steps count → count ≤ plan.limit → HaveEnded test plan stops reaching.steps reaching.ending
      → IsLeastToAim test reaching.steps aim (labels_of_run reaching) → IsAnswerTo given name plan stops aim (Ok reaching)

-- answers that tell the same: the labels of one run, or that there is none, of runs of so many steps and no longer ones for one
-- reason; or faults of one kind
abbrev pub SameReaching : Result Reaching Fault → Result Reaching Fault → Type 0
SameReaching (Ok reaching) (Ok other) = (reaching.steps ≡ other.steps) × (reaching.ending ≡ other.ending) × (labels_of_run reaching ≡ labels_of_run other)
SameReaching (Ok reaching) (Err other) = ⊥
SameReaching (Err one) (Ok other) = ⊥
SameReaching (Err one) (Err other) = SameFault one other

-- a module, a script, a name, a plan, stops and an aim have one answer at most
abbrev pub HasOneAnswerTo : Source → List ℕ → Plan → Stops → Aim → Type 0
HasOneAnswerTo given name plan stops aim = (answer other : Result Reaching Fault) → IsAnswerTo given name plan stops aim answer → IsAnswerTo given name plan stops aim other
    → SameReaching answer other
