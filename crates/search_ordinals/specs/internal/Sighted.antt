-- What runs of ordinals show, and the labels of these runs.
use Rattle.std.specs.Prelude.{◌≡◌, Option}
use Rattle.explore.specs.declared.sightings.Sighting.{Sighting}
use Rattle.search_ordinals.specs.Told.{AreLabelsTold}
use Rattle.search_ordinals.specs.declared.ordinal.Ordinal.{Ordinal}
use Rattle.summary.specs.Graph.{Graph}

-- the same is shown, with the labels that the ordinals tell
abbrev pub IsSightingTold : {C L B E : Type 0} → (C → L → Option B) → Graph C L → Sighting E L → Sighting E (Ordinal B) → Type 0
IsSightingTold branch g sighting told = (sighting.event ≡ told.event) × AreLabelsTold branch g told.run.items sighting.run.items
