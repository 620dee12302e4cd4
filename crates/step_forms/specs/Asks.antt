-- What calls answer of the step that a component asks for.
use Rattle.std.specs.Prelude.{◌≡◌, Option, Some, None, Result, Ok, Err}
use Rattle.semantics.specs.Statements as said
use Rattle.semantics.specs.Taking.{uncovered}
use Rattle.config_parts.specs.Acts.{act_by}
use Rattle.config_parts.specs.Legend.{Legend}
use Rattle.config_parts.specs.Views.{Extent, IsActWithin}
use Rattle.config_parts.specs.declared.act.Act.{Act}
use Rattle.value_types.specs.declared.fault.Fault.{Fault}
use Rattle.value_types.specs.declared.fault.Fault.TheVariants.{Dynamic, Memory}

-- a step fails
abbrev pub IsFault : said.Act → Type 0
IsFault said.Waits = ⊥
IsFault (said.Errs why) = Unit {0}
IsFault (said.Requests request own) = ⊥

-- a call answers what is asked for, or that there is no step, or that the step fails, unless memory was refused
abbrev pub Asks : Legend → said.Act → Result (Option Act) Fault → Type 0
Asks legend asked (Ok None) = asked ≡ said.Waits
Asks legend asked (Ok (Some a)) = asked ≡ act_by legend a
Asks legend asked (Err Dynamic) = IsFault asked
Asks legend asked (Err Memory) = Unit {0}

-- what remains has positions, and each slot a name, in what is asked for
abbrev pub AsksWithin : Extent → Result (Option Act) Fault → Type 0
AsksWithin size (Ok None) = Unit {0}
AsksWithin size (Ok (Some a)) = IsActWithin size a
AsksWithin size (Err fault) = Unit {0}

-- what is asked for, where the marks go that come first in the data behind the step
abbrev pub uncovered_act : said.Act → said.Act
uncovered_act said.Waits = said.Waits
uncovered_act (said.Errs why) = said.Errs why
uncovered_act (said.Requests request own) = said.Requests request (uncovered own)
