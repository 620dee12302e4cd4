-- What is known where messages pass, in the words of the private contracts.
use Rattle.std.specs.Prelude.{[], Some, None}
use Rattle.check_rules.specs.Expressions.{Judgement}
use Rattle.check_rules.specs.Messages as spec
use Rattle.check_statements.specs.declared.message.Passing.{Passing}
use Rattle.check_statements.specs.declared.message.Passing.TheVariants as at

-- the types of the messages that pass
abbrev pub passing : Passing → spec.Passing
passing (at.Types listing) = Some listing.now.types.items
passing at.Nothing = Some []
passing at.Unknown = None
passing at.Anywhere = None

-- what is known of a message that says nothing of its type by itself
abbrev pub otherwise : Passing → Judgement
otherwise (at.Types listing) = spec.type_by_port (Some listing.now.types.items)
otherwise at.Nothing = spec.type_by_port (Some [])
otherwise at.Unknown = spec.type_by_port None
otherwise at.Anywhere = spec.type_anywhere

-- what is known where a message passes: the types that pass, and the type of a message that says nothing of it
abbrev pub known : Passing → spec.Passage
known at = (passing at, otherwise at)
