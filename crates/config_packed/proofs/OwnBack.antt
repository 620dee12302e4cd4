-- What a component has of its own is read back from the bytes that spell it, and so are messages.
use Rattle.std.proofs.Common.{◌≡◌, ℕ, List, [], sym, ap, ◌∙◌}
use Rattle.std.proofs.lemmas.List.{append-nil}
use Rattle.ttcn_syntax.specs.declared.tree.statement.Verdict.{Verdict}
use Rattle.config_parts.specs.declared.component.Message.{Message}
use Rattle.config_parts.specs.declared.frame.Data.{Data}
use Rattle.config_packed.proofs.ConfigsBack.{message_back, own_back}
use Rattle.config_packed.specs.Own.{message_in, own_in}
use Rattle.config_packed.specs.Spelling.{spell_message, spell_own}

pub own_in_back : (v : Verdict) (own : Data) → own_in (spell_own v own) ≡ (v, own)
own_in_back v own = ap own_in (sym (append-nil (spell_own v own))) ∙ ap (λ (read : (Verdict × Data) × List ℕ). read.0) (own_back v own [])

pub message_in_back : (message : Message) → message_in (spell_message message) ≡ message
message_in_back message = ap message_in (sym (append-nil (spell_message message))) ∙ ap (λ (read : Message × List ℕ). read.0) (message_back message [])
