use Rattle.std.proofs.Common.{rules, ap, ◌∙◌}
use Rattle.std.proofs.lemmas.Fn.{filter_same}
use Rattle.std.proofs.Common.{not, nat_eq}
use Rattle.std.specs.List.{filter}
use Rattle.step_data.proofs.defaults.without.Goals as goal

pub returns : goal.returns
returns c =
    c.from_vec.ensures
    ∙ filter_same _ _ _ (λ x b f' k. search rules) _ _ c.retain.ensures.filtered
    ∙ ap (filter (λ d. not (nat_eq d.number c.args.number))) c.into_vec-defaults.ensures
