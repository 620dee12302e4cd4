-- What a label tells of a snapshot, as the private functions know it.
use Rattle.std.specs.Prelude.{◌≡◌, Option, Some, None}
use Rattle.laws_fine.specs.Fates as rules
use Rattle.laws_fine.specs.Gathering.{Told, first_by}
use Rattle.step_coarse.specs.Fates.{fate_by}
use Rattle.step_coarse.specs.declared.fate.Fate.{Fate}
use Rattle.value_types.specs.declared.path.Path.{Path}

-- a label tells this of the snapshot of the component with a path, or nothing
abbrev pub FirstIs : Path → Told → Option Fate → Type 0
FirstIs path told None = (later : rules.Fate) → first_by path told.0 told.1 later ≡ later
FirstIs path told (Some fate) = (later : rules.Fate) → first_by path told.0 told.1 later ≡ fate_by fate
