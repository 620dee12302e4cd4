-- What is answered where the least runs to places in the text and to blocks are wanted besides a report, unless an allocation fails.
use Rattle.std.specs.Prelude.{◌≡◌, ℕ, List, Result, Ok, Err}
use Rattle.std.specs.List.{AllZip}
use Rattle.explore.specs.declared.ending.Stops.{Stops}
use Rattle.explore.specs.declared.sightings.Sighting.{Sighting}
use Rattle.search_layer.specs.declared.plan.Plan.{Plan}
use Rattle.semantics.specs.Snapshots.{Test}
use Rattle.semantics.specs.Steps.{Label}
use Rattle.ttcnx.specs.Fault.{SameFault}
use Rattle.ttcnx.specs.Named.{IsTestOf, Source}
use Rattle.ttcnx.specs.Until.{IsAnswerUntil, IsRefusedUntil, SameUntil}
use Rattle.ttcnx.specs.declared.fault.Fault.{Fault}
use Rattle.ttcnx.specs.declared.until.Sighted.{Sighted}
use Rattle.ttcnx_runs.specs.Sights.{AreBlocks, ArePlaces}

-- what is answered
pub data IsAnswerSighted (given : Source) (name : List ℕ) (plan : Plan) (stops : Stops) : Result Sighted Fault → Type 0 where
  -- there is no report: why
  refused : {why : Fault} → IsRefusedUntil given name plan stops why → IsAnswerSighted given name plan stops (Err why)
  -- the report, as where it alone is wanted, and the least runs of its bound to all places and to all blocks
  sighted : {sights : Sighted} {test : Test} → IsAnswerUntil given name plan stops (Ok sights.until) → IsTestOf given name test
      → ArePlaces test sights.until.report.steps sights.places.items → AreBlocks test sights.until.report.steps sights.blocks.items
      → IsAnswerSighted given name plan stops (Ok sights)

-- the same is shown, by runs with the same labels, in the same order
abbrev pub AreAlike : {E : Type 0} → List (Sighting E Label) → List (Sighting E Label) → Type 0
AreAlike = AllZip (λ one other. (one.event ≡ other.event) × (one.run.items ≡ other.run.items))

-- answers that tell the same: reports that do, with the same places and blocks, or faults of one kind
abbrev pub SameSighted : Result Sighted Fault → Result Sighted Fault → Type 0
SameSighted (Ok one) (Ok other) = SameUntil (Ok one.until) (Ok other.until) × AreAlike one.places.items other.places.items × AreAlike one.blocks.items other.blocks.items
SameSighted (Ok sights) (Err other) = ⊥
SameSighted (Err one) (Ok other) = ⊥
SameSighted (Err one) (Err other) = SameFault one other

-- a module, a script, a name, a plan and stops have one answer at most
abbrev pub HasOneAnswerSighted : Source → List ℕ → Plan → Stops → Type 0
HasOneAnswerSighted given name plan stops = (answer other : Result Sighted Fault) → IsAnswerSighted given name plan stops answer → IsAnswerSighted given name plan stops other
    → SameSighted answer other
