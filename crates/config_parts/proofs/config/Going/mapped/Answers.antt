use Rattle.std.proofs.Common.{List, ℕ, option_map, ap, ◌∙◌}
use Rattle.std.specs.List.{find}
use Rattle.config_parts.proofs.Delivered.{mapping-by}
use Rattle.config_parts.specs.declared.connection.End.{End}
use Rattle.config_parts.specs.declared.connection.Links.{Links}
use Rattle.config_parts.specs.internal.Expiries.{is_of_slot}
use Rattle.config_parts.proofs.config.Going.mapped.Goals as goal

pub returns : goal.returns
returns c legend is =
    mapping-by legend is c.args.self.now c.args.system_port c.mapped_at.result
    (c.mapped_at.ensures
    ∙ ap (λ (mappings : List (ℕ × End)). option_map (λ e. e.1) (find (is_of_slot c.args.system_port) mappings)) (c.as_slice.ensures ∙ ap (λ (links : Links). links.mappings) c.deref.ensures))
