use Rattle.std.proofs.Common.{rules, ap, ◌∙◌}
use Rattle.std.proofs.lemmas.Fn.{filter_same}
use Rattle.config_parts.specs.internal.Mappings as mapped
use Rattle.config_parts.proofs.mapping.without_mapping.Goals as goal

pub returns : goal.returns
returns c =
    c.from_vec.ensures
    ∙ filter_same _ _ _ (λ x b f' k. search rules) _ _ c.retain.ensures.filtered
    ∙ ap (mapped.without_mapping c.args.end.now c.args.system_port) c.into_vec-mappings.ensures
