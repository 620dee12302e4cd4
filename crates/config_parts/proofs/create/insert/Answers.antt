use Rattle.std.proofs.Common.{sym, ap, ◌∙◌}
use Rattle.config_parts.proofs.Inserted.{inserted, pushed}
use Rattle.config_parts.proofs.Places.{placed}
use Rattle.config_parts.specs.internal.Changes.{place}
use Rattle.config_parts.specs.internal.Done.{is_before}
use Rattle.config_parts.proofs.create.insert.Goals as goal

pub returns-in_ok-insert-in-Some : goal.returns-in_ok-insert-in-Some
returns-in_ok-insert-in-Some c =
    let is = is_before c.args.new in
    c.in_ok-insert-in-Some.ensures.items
    ∙ inserted c.args.new c.args.components.now.items c.in-Some.at
    (ap (place is) (sym c.deref.ensures.value) ∙ sym (placed is c.deref.result.now) ∙ sym c.place_for.ensures ∙ c.in-Some.is)

pub returns-in_ok-push-in-None : goal.returns-in_ok-push-in-None
returns-in_ok-push-in-None c =
    let is = is_before c.args.new in
    c.in_ok-push-in-None.ensures.items
    ∙ pushed c.args.new c.args.components.now.items
    (ap (place is) (sym c.deref.ensures.value) ∙ sym (placed is c.deref.result.now) ∙ sym c.place_for.ensures ∙ c.in-None.is)
