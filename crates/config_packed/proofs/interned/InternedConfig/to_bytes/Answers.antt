use Rattle.std.proofs.Common.{◌++◌, ap, append_assoc, ◌∙◌}
use Rattle.config_packed.specs.Spelling.{spell_config}
use Rattle.config_packed.proofs.Shares.{are-spelled}
use Rattle.config_packed.proofs.interned.InternedConfig.to_bytes.Goals as goal

pub returns : goal.returns
returns c =
    let head = c.self.inside.head.now in
    let front = c.self.inside.front.now in
    let back = c.self.inside.back.now in
    let first = c.in_ok-extend_from_slice.ensures.items ∙ (λ i. c.in_ok-bytes.ensures.items i ++ c.as_bytes-head.ensures i) in
    let second = c.in_ok-extend_from_slice-2.ensures.items ∙ (λ i. first i ++ c.as_bytes-front.ensures i) in
    c.in_ok-extend_from_slice-3.ensures.items ∙ (λ i. second i ++ c.as_bytes-back.ensures i) ∙ append_assoc head front back
    ∙ are-spelled head front back _ c.self.invariant ∙ ap spell_config c.self.view_is
