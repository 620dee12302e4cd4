use Rattle.std.proofs.Common.{rules, ap, ◌∙◌}
use Rattle.std.proofs.lemmas.Fn.{filter_same}
use Rattle.config_parts.specs.internal.Stored as spec
use Rattle.config_parts.proofs.cells.without.Goals as goal

pub returns : goal.returns
returns g c =
    c.from_vec.ensures
    ∙ filter_same _ _ _ (λ x b f' k. search rules) _ _ c.retain.ensures.filtered
    ∙ ap (spec.without c.args.slot) c.into_vec-entries.ensures
