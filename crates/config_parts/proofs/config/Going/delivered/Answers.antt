use Rattle.std.proofs.Common.{ap, ◌∙◌}
use Rattle.config_parts.proofs.Delivered.{count-by}
use Rattle.config_parts.specs.declared.connection.Links.{Links}
use Rattle.config_parts.specs.internal.Mappings.{count_at}
use Rattle.config_parts.proofs.config.Going.delivered.Goals as goal

pub returns : goal.returns
returns c legend is =
    c.count_at.ensures
    ∙ ap (λ delivered. count_at delivered c.args.system_port) (c.as_slice.ensures ∙ ap (λ (links : Links). links.delivered) c.deref.ensures)
    ∙ count-by legend is c.args.self.now c.args.system_port
