use Rattle.std.proofs.Common.{ap, sym, ◌∙◌, List}
use Rattle.std.specs.List.{list_any}
use Rattle.config_canonical.proofs.Living.{links-stay}
use Rattle.config_canonical.specs.internal.Husks.{is_dead}
use Rattle.config_parts.specs.declared.connection.Connection.{Connection}
use Rattle.config_parts.specs.declared.connection.Links.{Links}
use Rattle.config_canonical.proofs.canonical.live_links.Goals as goal

pub returns-then-not-has_dead : goal.returns-then-not-has_dead
returns-then-not-has_dead c =
    links-stay c.args.components.now c.args.links
    (sym (ap (λ (ks : List Connection). list_any (is_dead c.args.components.now) ks) (c.as_slice.ensures ∙ ap (λ (links : Links). links.connections) c.deref.ensures)) ∙ sym c.if-not-has_dead.ensures)
