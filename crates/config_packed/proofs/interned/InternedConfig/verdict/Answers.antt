use Rattle.std.proofs.Common.{ℕ, List, Some, sym, ap, ◌∙◌}
use Rattle.config_packed.specs.Reading.{read_byte}
use Rattle.config_packed.specs.Shares.{head_of}
use Rattle.config_packed.proofs.Cutting.{verdict-ended, verdict-none}
use Rattle.config_packed.proofs.interned.InternedConfig.verdict.Goals as goal

pub returns-then-byte-eq0 : goal.returns-then-byte-eq0
returns-then-byte-eq0 c =
    let bytes-are = c.new-reader.ensures ∙ c.as_bytes.ensures in
    ap Some c.take_verdict.ensures.value
    ∙ verdict-ended c.args.self.now c.self.inside.head.now c.byte.new.self (c.self.invariant.head ∙ ap head_of c.self.view_is)
    (ap (λ (bytes : List ℕ). (read_byte bytes).0) (sym bytes-are) ∙ sym c.byte.ensures.value ∙ c.if-byte-eq0.true)
    (c.byte.ensures.rest ∙ ap (λ (bytes : List ℕ). (read_byte bytes).1) bytes-are)

pub returns : goal.returns
returns c =
    verdict-none c.args.self.now c.as_bytes.result.now (c.as_bytes.ensures ∙ c.self.invariant.head ∙ ap head_of c.self.view_is)
    (λ none. c.if-byte-eq0.false (c.byte.ensures.value ∙ ap (λ (bytes : List ℕ). (read_byte bytes).0) c.new-reader.ensures ∙ none))
