use Rattle.std.proofs.Common.{false, Some, None, sym, ap, ◌∙◌, get_or, if◌then◌else◌}
use Rattle.config_parts.proofs.Changed.{live-changed}
use Rattle.config_parts.proofs.Places.{created-lives, found-at, live-at, placed, unfound}
use Rattle.config_parts.specs.internal.Changes.{begun, is_of, place, touch}
use Rattle.config_parts.specs.internal.Done.{is_created, start_found}
use Rattle.config_parts.proofs.going.start.Goals as goal

pub returns-in_default : goal.returns-in_default
returns-in_default c =
    ap (start_found c.args.components.now.items c.args.path.now c.args.frame)
    (unfound (is_of c.args.path.now) c.args.components.now.items
    (ap (place (is_of c.args.path.now)) (sym c.deref.ensures.value) ∙ sym (placed (is_of c.args.path.now) c.deref.result.now) ∙ sym c.place_of.ensures ∙ c.in_default.is))

pub returns-then-not-is_created : goal.returns-then-not-is_created
returns-then-not-is_created c =
    ap (start_found c.args.components.now.items c.args.path.now c.args.frame)
    (found-at (is_of c.args.path.now) c.args.components.now.items c.in-Some.at c.index.result.now
    (ap (place (is_of c.args.path.now)) (sym c.deref.ensures.value) ∙ sym (placed (is_of c.args.path.now) c.deref.result.now) ∙ sym c.place_of.ensures ∙ c.in-Some.is))
    ∙ ap (λ b. if b then Some (touch c.args.components.now.items c.args.path.now (begun c.args.frame)) else None)
    (ap (λ x. is_created x.state) (sym c.index.ensures) ∙ sym c.is_created.ensures ∙ c.if-not-is_created.true)

pub returns : goal.returns
returns c =
    let created = ap (λ x. is_created x.state) (sym c.index.ensures) ∙ sym c.is_created.ensures ∙ c.if-not-is_created.false in
    ap (start_found c.args.components.now.items c.args.path.now c.args.frame)
    (found-at (is_of c.args.path.now) c.args.components.now.items c.in-Some.at c.index.result.now
    (ap (place (is_of c.args.path.now)) (sym c.deref.ensures.value) ∙ sym (placed (is_of c.args.path.now) c.deref.result.now) ∙ sym c.place_of.ensures ∙ c.in-Some.is))
    ∙ ap (λ b. if b then Some (touch c.args.components.now.items c.args.path.now (begun c.args.frame)) else None) created
    ∙ ap Some (sym (c.in_ok-begin.ensures
    ∙ live-changed c.args.components.now.items c.args.path.now c.in-Some.at (begun c.args.frame)
    (live-at c.args.components.now.items c.args.path.now c.in-Some.at c.index.result.now false
    (ap (place (is_of c.args.path.now)) (sym c.deref.ensures.value) ∙ sym (placed (is_of c.args.path.now) c.deref.result.now) ∙ sym c.place_of.ensures ∙ c.in-Some.is)
    (created-lives (get_or c.args.components.now.items c.in-Some.at c.index.result.now).state created))))
