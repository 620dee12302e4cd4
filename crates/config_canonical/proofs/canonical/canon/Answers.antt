use Rattle.std.proofs.Common.{sym, subst}
use Rattle.config_canonical.proofs.canonical.canon.Goals as goal
use Rattle.config_parts.specs.Views.{IsConfigWithin}
use Rattle.config_parts.specs.declared.config.Config.{Config}

pub returns-clause-within : goal.returns-clause-within
returns-clause-within c = λ size within.
    c.canon_owned.ensures.within size (subst (λ (x : Config). IsConfigWithin size x) (sym (c.in_ok-copy.ensures)) within)
