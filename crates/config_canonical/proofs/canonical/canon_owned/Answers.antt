use Rattle.std.proofs.Common.{ap, sym, subst, ◌∙◌}
use Rattle.config_canonical.proofs.Living.{config-within, going-live}
use Rattle.config_canonical.proofs.canonical.canon_owned.Goals as goal
use Rattle.semantics.specs.Configurations.{Goes}
use Rattle.semantics.specs.LiveParts.{live_part}
use Rattle.config_parts.specs.Legend.{config_by, going_by}
use Rattle.config_parts.specs.Views.{IsConfigWithin}
use Rattle.config_parts.specs.declared.config.Config.{Config}
use Rattle.config_parts.specs.declared.config.Config.TheVariants as config
use Rattle.config_parts.specs.declared.config.Going.{Going}

pub returns-in_ok-live_going-in-Going-clause-live : goal.returns-in_ok-live_going-in-Going-clause-live
returns-in_ok-live_going-in-Going-clause-live c = λ legend.
    ap (λ (g : Going). Goes (going_by legend g)) (c.in_ok-live_going-in-Going.ensures)
    ∙ ap Goes (going-live legend c.in-Going.going)
    ∙ sym (ap (λ (x : Config). live_part (config_by legend x)) c.in-Going.is)

pub returns-in_ok-live_going-in-Going-clause-within : goal.returns-in_ok-live_going-in-Going-clause-within
returns-in_ok-live_going-in-Going-clause-within c = λ size within.
    subst (λ (g : Going). IsConfigWithin size (config.Going g)) (sym (c.in_ok-live_going-in-Going.ensures))
    (config-within size (config.Going c.in-Going.going) (subst (λ (x : Config). IsConfigWithin size x) c.in-Going.is within))
