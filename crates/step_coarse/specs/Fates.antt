-- What is told of fine labels.
use Rattle.laws_fine.specs.Fates as rules
use Rattle.laws_fine.specs.Gathering.{Told}
use Rattle.step_coarse.specs.declared.fate.Fate.{Fate}
use Rattle.step_coarse.specs.declared.fate.Fate.TheVariants as fate
use Rattle.step_coarse.specs.declared.fate.Told.{Told as Kept}

abbrev pub fate_by : Fate → rules.Fate
fate_by fate.Lapses = rules.Lapses
fate_by fate.Takes = rules.Takes
fate_by fate.Faults = rules.Faults

-- a fine label, and what came of its choice
abbrev pub told_by : Kept → Told
told_by told = (told.label.now, fate_by told.fate)
