use Rattle.std.proofs.Common.{true, false, sym, ◌∙◌}
use Rattle.config_parts.proofs.Places.{live-at, none-live, placed}
use Rattle.config_parts.specs.internal.Changes.{is_of}
use Rattle.config_parts.proofs.change.live_place.Goals as goal

pub returns-in_default-clause-found : goal.returns-in_default-clause-found
returns-in_default-clause-found c =
    sym (none-live c.args.components.now c.args.path.now (sym (placed (is_of c.args.path.now) c.args.components.now) ∙ sym c.place_of.ensures ∙ c.in_default.is))

pub returns-then-is_terminated-clause-found : goal.returns-then-is_terminated-clause-found
returns-then-is_terminated-clause-found c =
    sym (live-at c.args.components.now c.args.path.now c.in-Some.at c.index-components-at.result true
    (sym (placed (is_of c.args.path.now) c.args.components.now) ∙ sym c.place_of.ensures ∙ c.in-Some.is)
    (sym c.is_terminated.ensures ∙ c.if-is_terminated.true))

pub returns-clause-found : goal.returns-clause-found
returns-clause-found c =
    sym (live-at c.args.components.now c.args.path.now c.in-Some.at c.index-components-at.result false
    (sym (placed (is_of c.args.path.now) c.args.components.now) ∙ sym c.place_of.ensures ∙ c.in-Some.is)
    (sym c.is_terminated.ensures ∙ c.if-is_terminated.false))
