use Rattle.std.proofs.Common.{sym, ap, ◌∙◌}
use Rattle.config_parts.proofs.Places.{found-at, placed, unfound}
use Rattle.config_parts.specs.internal.Changes.{is_of, is_terminated_component}
use Rattle.config_parts.proofs.change.is_terminated_at.Goals as goal

pub returns-in-Some : goal.returns-in-Some
returns-in-Some c =
    c.is_terminated.ensures
    ∙ ap is_terminated_component (sym (found-at (is_of c.args.path.now) c.args.components.now c.in-Some.at c.index-components-at.result
    (sym (placed (is_of c.args.path.now) c.args.components.now) ∙ sym c.place_of.ensures ∙ c.in-Some.is)))

pub returns-in-None : goal.returns-in-None
returns-in-None c =
    ap is_terminated_component (sym (unfound (is_of c.args.path.now) c.args.components.now
    (sym (placed (is_of c.args.path.now) c.args.components.now) ∙ sym c.place_of.ensures ∙ c.in-None.is)))
