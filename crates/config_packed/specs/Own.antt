-- What a component has of its own, and messages, from the bytes that spell them.
use Rattle.std.specs.Prelude.{ℕ, List}
use Rattle.ttcn_syntax.specs.declared.tree.statement.Verdict.{Verdict}
use Rattle.config_parts.specs.declared.component.Message.{Message}
use Rattle.config_parts.specs.declared.frame.Data.{Data}
use Rattle.config_packed.specs.Reading.{read_message, read_own}

-- the verdict and the data that bytes spell
abbrev pub own_in : List ℕ → Verdict × Data
own_in bytes = (read_own bytes).0

-- the message that bytes spell
abbrev pub message_in : List ℕ → Message
message_in bytes = (read_message bytes).0
