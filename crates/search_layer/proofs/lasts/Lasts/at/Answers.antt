use Rattle.std.proofs.Common.{None, get_or, subst, ap, ◌∙◌}
use Rattle.std.specs.Slice.{IsItemAt}
use Rattle.search_layer.proofs.LastSteps.{last-at}
use Rattle.search_layer.proofs.lasts.Lasts.at.Goals as goal

pub returns : goal.returns
returns g c =
    last-at c.self.inside.steps.items c.args.place c.in_ok-checked_sub.field-0 c.get.result c.in_ok-checked_sub.ensures.0 c.in_ok-checked_sub.ensures.1
    (subst (λ steps. IsItemAt steps c.in_ok-checked_sub.field-0 c.get.result) c.as_slice-steps.ensures.value c.get.ensures.lookup)
    ∙ ap (λ lasts. get_or lasts c.args.place None) c.self.view_is
