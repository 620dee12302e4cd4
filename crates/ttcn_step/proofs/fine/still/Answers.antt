use Rattle.std.proofs.Common.{rules, ap, sym, ◌∙◌}
use Rattle.std.proofs.lemmas.Fn.{filter_same}
use Rattle.ttcn_step.specs.internal.Fine.{runs, still}
use Rattle.ttcn_step.proofs.fine.still.Goals as goal

pub returns-in-Going : goal.returns-in-Going
returns-in-Going c =
    filter_same _ (λ entry. runs c.in-Going.going entry.path.numbers) _ (λ x b f' k. search rules) _ _ c.retain.ensures.filtered
    ∙ ap (λ now. still now c.args.stored.items) (sym c.in-Going.is)
