use Rattle.std.proofs.Common.{List, ℕ, sym, ap, ◌∙◌}
use Rattle.std.specs.List.{list_any}
use Rattle.config_parts.proofs.Unmapped.{links-stay}
use Rattle.config_parts.specs.internal.Mappings.{is_of}
use Rattle.config_parts.specs.declared.connection.End.{End}
use Rattle.config_parts.specs.declared.connection.Links.{Links}
use Rattle.config_parts.proofs.mapping.without_component.Goals as goal

pub returns-then-not-has_mappings : goal.returns-then-not-has_mappings
returns-then-not-has_mappings c =
    links-stay c.args.path.now c.args.links
    (sym (ap (λ (ms : List (ℕ × End)). list_any (is_of c.args.path.now) ms) (c.as_slice.ensures ∙ ap (λ (links : Links). links.mappings) c.deref.ensures)) ∙ sym c.if-not-has_mappings.ensures)
