use Rattle.std.proofs.Common.{rules, ap, ◌∙◌}
use Rattle.std.proofs.lemmas.Fn.{filter_same}
use Rattle.config_parts.specs.internal.Mappings as mapped
use Rattle.config_parts.proofs.mapping.without_ports.Goals as goal

pub returns : goal.returns
returns c =
    c.from_vec.ensures
    ∙ filter_same _ _ _ (λ x b f' k. search rules) _ _ c.retain.ensures.filtered
    ∙ ap (mapped.without_ports c.args.path.now) c.into_vec-mappings.ensures
