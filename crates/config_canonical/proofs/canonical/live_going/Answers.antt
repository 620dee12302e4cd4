use Rattle.std.proofs.Common.{ap, sym, ◌∙◌, List}
use Rattle.std.specs.List.{list_any}
use Rattle.config_canonical.proofs.Living.{going-stays}
use Rattle.config_canonical.specs.internal.Husks.{is_over}
use Rattle.config_parts.specs.declared.component.Component.{Component}
use Rattle.config_canonical.proofs.canonical.live_going.Goals as goal

pub returns-then-not-has_terminated : goal.returns-then-not-has_terminated
returns-then-not-has_terminated c =
    going-stays c.args.going (sym (ap (λ (xs : List Component). list_any is_over xs) c.as_slice.ensures) ∙ sym c.if-not-has_terminated.ensures)
