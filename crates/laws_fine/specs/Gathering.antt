-- The labels that fine labels stand for, where it is told what came of each choice.
use Rattle.std.specs.Prelude.{List, [], ◌∷◌, if◌then◌else◌}
use Rattle.laws_fine.specs.Fates.{Fate, Lapses, by_fate}
use Rattle.laws_fine.specs.Fine.{Choose, FineLabel, Plain, Snap}
use Rattle.semantics.specs.Configurations.{same_path}
use Rattle.semantics.specs.Steps.{Label}
use Rattle.value_types.specs.declared.path.Path.{Path}

-- a fine label, with what came of the choice where it is one
abbrev pub Told : Type 0
Told = FineLabel × Fate

abbrev pub first_by : Path → FineLabel → Fate → Fate → Fate
first_by path (Snap other) fate later = if same_path other path then Lapses else later
first_by path (Choose other) fate later = if same_path other path then fate else later
first_by path (Plain label) fate later = later

-- what came of the first choice of the component with a path, if it makes one before its next snapshot
abbrev pub first_told : Path → List Told → Fate
first_told path [] = Lapses
first_told path (told ∷ tolds) = first_by path told.0 told.1 (first_told path tolds)

-- the labels that a fine label stands for, in front of those of the labels behind it
abbrev pub gather : FineLabel → List Told → List Label → List Label
gather (Snap path) behind others = by_fate path (first_told path behind) others
gather (Choose path) behind others = others
gather (Plain label) behind others = label ∷ others

-- the labels that these stand for
abbrev pub gathered : List Told → List Label
gathered [] = []
gathered (told ∷ tolds) = gather told.0 tolds (gathered tolds)
