use Rattle.std.proofs.Common.{ℕ, List, ◌++◌, length, take, drop, ap, ◌∙◌}
use Rattle.config_packed.specs.Shares.{half}
use Rattle.config_packed.specs.Spelling.{spell_contents, spell_head}
use Rattle.config_parts.specs.declared.component.Component.{Component}
use Rattle.config_parts.specs.declared.config.Config.TheVariants.{Going}
use Rattle.config_packed.proofs.interned.intern_going.Goals as goal

pub of-requires : goal.of-requires
of-requires c =
    let same = c.as_slice-components.ensures in
    let first = c.half.ensures.half ∙ ap (λ (components : List Component). half (length components)) same in (
      Going c.args.going.now,
      record {
        head = c.in_ok-head.ensures ∙ c.as_slice.ensures.value ∙ c.in_ok-put_head.ensures ∙ ap (λ (bytes : List ℕ). bytes ++ spell_head c.args.going.now) c.in_ok-bytes.ensures.items;
        front = c.in_ok-front.ensures ∙ ap spell_contents (c.split_at.ensures.front ∙ (λ i. take (first i) (same i)));
        back = c.in_ok-back.ensures ∙ ap spell_contents (c.split_at.ensures.back ∙ (λ i. drop (first i) (same i)));
      },
    )

pub returns : goal.returns
returns c =
    let same = c.as_slice-components.ensures in
    let first = c.half.ensures.half ∙ ap (λ (components : List Component). half (length components)) same in
    c.of.ensures (Going c.args.going.now) (record {
      head = c.in_ok-head.ensures ∙ c.as_slice.ensures.value ∙ c.in_ok-put_head.ensures ∙ ap (λ (bytes : List ℕ). bytes ++ spell_head c.args.going.now) c.in_ok-bytes.ensures.items;
      front = c.in_ok-front.ensures ∙ ap spell_contents (c.split_at.ensures.front ∙ (λ i. take (first i) (same i)));
      back = c.in_ok-back.ensures ∙ ap spell_contents (c.split_at.ensures.back ∙ (λ i. drop (first i) (same i)));
    })
