-- What is answered in place of clap's error.
use Rattle.std.specs.Prelude.{◌≡◌, ◌≢◌}
use Rattle.clap.specs.Kinds.{IsAmong, Kinds}
use Rattle.clap.specs.declared.error.kind.ErrorKind.{ErrorKind}
use Rattle.clap.specs.declared.error.kind.ErrorKind.TheVariants.{OutOfMemory}
use Rattle.ttcnx_command_line.specs.Command.{IsRequest}
use Rattle.ttcnx_command_line.specs.declared.command.LineError.{LineError}
use Rattle.ttcnx_command_line.specs.declared.command.LineError.TheVariants.{Help, Bad, Memory}

-- what is answered where clap's error has this kind
abbrev pub IsAnswer : ErrorKind → LineError → Type 0
IsAnswer kind (Help text) = IsRequest kind
IsAnswer kind (Bad text) = (IsRequest kind → ⊥) × (kind ≢ OutOfMemory)
IsAnswer kind (Memory error) = kind ≡ OutOfMemory

-- words with these faults may be refused
abbrev pub HasRefusal : Kinds → Type 0
HasRefusal faults = (kind : ErrorKind) × IsAmong kind faults × (IsRequest kind → ⊥)

-- what is answered where a `run` has these faults, and `clap` finds none
abbrev pub IsBoundError : Kinds → LineError → Type 0
IsBoundError faults (Help text) = ⊥
IsBoundError faults (Bad text) = HasRefusal faults
IsBoundError faults (Memory error) = Unit {0}
