use Rattle.std.proofs.Common.{ℕ, List, Some, sym, ap, ◌∙◌, subst}
use Rattle.config_packed.specs.Pieces.{AreParts}
use Rattle.config_packed.specs.Reading.{read_byte}
use Rattle.config_packed.specs.Shares.{AreOf, head_of}
use Rattle.config_packed.proofs.Cutting.{head-ended, head-going}
use Rattle.config_parts.specs.declared.config.Config.{Config}
use Rattle.config_packed.proofs.interned.InternedConfig.parts.Goals as goal

pub returns-then-byte-eq0 : goal.returns-then-byte-eq0
returns-then-byte-eq0 c =
    head-ended c.args.self.now c.as_bytes-head.result.now (c.as_bytes-head.ensures ∙ c.self.invariant.head ∙ ap head_of c.self.view_is)
    (ap (λ (bytes : List ℕ). (read_byte bytes).0) (sym c.new.ensures) ∙ sym c.byte.ensures.value ∙ c.if-byte-eq0.true)

pub returns : goal.returns
returns c =
    let parts = c.self.inside in
    let going = head-going c.args.self.now c.as_bytes-head.result.now (c.as_bytes-head.ensures ∙ c.self.invariant.head ∙ ap head_of c.self.view_is)
    (λ none. c.if-byte-eq0.false (c.byte.ensures.value ∙ ap (λ (bytes : List ℕ). (read_byte bytes).0) c.new.ensures ∙ none)) in
    let of = subst (AreOf parts.head.now parts.front.now parts.back.now) (c.self.view_is ∙ going.1) c.self.invariant in
    subst (λ (whole : Config). AreParts whole (Some c.in_ok-parts.parts)) (sym going.1)
    (c.in_ok-parts.ensures going.0 (record { head = c.as_bytes-head.ensures ∙ of.head; front = c.as_bytes.ensures ∙ of.front; back = c.as_bytes-2.ensures ∙ of.back }))
