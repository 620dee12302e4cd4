use Rattle.std.proofs.Common.{ℕ, List, sym, ap, ◌∙◌}
use Rattle.config_packed.specs.Reading.{read_byte}
use Rattle.config_packed.specs.Spelling.{spell_config}
use Rattle.config_packed.proofs.Cutting.{begins-ended, begins-going}
use Rattle.config_packed.proofs.packed.Packed.parts.Goals as goal

pub returns-then-byte-eq0 : goal.returns-then-byte-eq0
returns-then-byte-eq0 c =
    begins-ended c.args.self.now c.as_slice-bytes.result.now (c.as_slice-bytes.ensures.value ∙ c.self.invariant ∙ ap spell_config c.self.view_is)
    (ap (λ (bytes : List ℕ). (read_byte bytes).0) (sym c.new.ensures) ∙ sym c.byte.ensures.value ∙ c.if-byte-eq0.true)

pub returns : goal.returns
returns c =
    begins-going c.args.self.now c.as_slice-bytes.result.now c.in_ok-take_parts.field-0 (c.as_slice-bytes.ensures.value ∙ c.self.invariant ∙ ap spell_config c.self.view_is)
    (λ none. c.if-byte-eq0.false (c.byte.ensures.value ∙ ap (λ (bytes : List ℕ). (read_byte bytes).0) c.new.ensures ∙ none))
    c.in_ok-take_parts.ensures
