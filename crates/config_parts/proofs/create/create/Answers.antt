use Rattle.std.proofs.Common.{◌≡◌, is_some, sym, ap, subst, ◌∙◌, if◌then◌else◌}
use Rattle.std.specs.Result.{OnOk}
use Rattle.config_parts.proofs.Places.{found-at, placed, unfound}
use Rattle.config_parts.specs.internal.Changes.{is_of, place}
use Rattle.config_parts.specs.internal.Done.{insert}
use Rattle.config_parts.proofs.create.create.Goals as goal

pub returns-in-Some : goal.returns-in-Some
returns-in-Some c =
    let is = is_of c.args.new.itself.path in
    sym (ap (λ found. if is_some found then c.args.components.now.items else insert c.args.new c.args.components.now.items)
    (found-at is c.args.components.now.items c.in-Some.field-0 c.args.new
    (ap (place is) (sym c.deref.ensures.value) ∙ sym (placed is c.deref.result.now) ∙ sym c.place_of.ensures ∙ c.in-Some.is)))

pub returns-in-None : goal.returns-in-None
returns-in-None c =
    let is = is_of c.args.new.itself.path in
    subst (λ components. OnOk c.insert.result (c.insert.new.components.items ≡ components))
    (sym (ap (λ found. if is_some found then c.args.components.now.items else insert c.args.new c.args.components.now.items)
    (unfound is c.args.components.now.items
    (ap (place is) (sym c.deref.ensures.value) ∙ sym (placed is c.deref.result.now) ∙ sym c.place_of.ensures ∙ c.in-None.is))))
    c.insert.ensures
