use Rattle.std.proofs.Common.{ℕ, List, ◌++◌, ap, ◌∙◌}
use Rattle.config_packed.specs.Spelling.{spell_config}
use Rattle.config_parts.specs.declared.config.Config.TheVariants.{Ended}
use Rattle.config_packed.proofs.interned.intern_ended.Goals as goal

pub of-requires : goal.of-requires
of-requires c = (
  Ended c.args.verdict,
  record {
    head = c.in_ok-head.ensures ∙ c.as_slice.ensures.value ∙ c.in_ok-put_config.ensures ∙ ap (λ (bytes : List ℕ). bytes ++ spell_config (Ended c.args.verdict)) c.in_ok-bytes.ensures.items;
    front = c.in_ok-nothing.ensures ∙ c.as_slice-2.ensures.value ∙ c.clear.ensures.items;
    back = c.in_ok-nothing.ensures ∙ c.as_slice-2.ensures.value ∙ c.clear.ensures.items;
  },
)

pub returns : goal.returns
returns c =
    c.of.ensures (Ended c.args.verdict) (record {
      head = c.in_ok-head.ensures ∙ c.as_slice.ensures.value ∙ c.in_ok-put_config.ensures ∙ ap (λ (bytes : List ℕ). bytes ++ spell_config (Ended c.args.verdict)) c.in_ok-bytes.ensures.items;
      front = c.in_ok-nothing.ensures ∙ c.as_slice-2.ensures.value ∙ c.clear.ensures.items;
      back = c.in_ok-nothing.ensures ∙ c.as_slice-2.ensures.value ∙ c.clear.ensures.items;
    })
