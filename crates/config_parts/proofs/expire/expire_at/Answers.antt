use Rattle.std.proofs.Common.{true, false, Some, None, ◌&&◌, sym, ap, ◌∙◌, slice_set, if◌then◌else◌}
use Rattle.config_parts.proofs.Changed.{written}
use Rattle.config_parts.proofs.Expired.{running-lives}
use Rattle.config_parts.proofs.Places.{found-at, live-at, placed, unfound}
use Rattle.config_parts.specs.internal.Changes.{is_of, is_terminated, place, touch, with_own}
use Rattle.config_parts.specs.internal.Expiries.{expired_found, expired_of, runs_of}
use Rattle.config_parts.proofs.expire.expire_at.Goals as goal

pub returns-in_default : goal.returns-in_default
returns-in_default c =
    ap (expired_found c.args.components.now.items c.args.path.now c.args.number c.args.timer)
    (unfound (is_of c.args.path.now) c.args.components.now.items
    (ap (place (is_of c.args.path.now)) (sym c.deref.ensures.value) ∙ sym (placed (is_of c.args.path.now) c.deref.result.now) ∙ sym c.place_of.ensures ∙ c.in_default.is))

pub returns-then-not-is_running : goal.returns-then-not-is_running
returns-then-not-is_running c =
    let x = c.index_mut-component.result.now in
    ap (expired_found c.args.components.now.items c.args.path.now c.args.number c.args.timer)
    (found-at (is_of c.args.path.now) c.args.components.now.items c.in-Some.at x
    (ap (place (is_of c.args.path.now)) (sym c.deref.ensures.value) ∙ sym (placed (is_of c.args.path.now) c.deref.result.now) ∙ sym c.place_of.ensures ∙ c.in-Some.is)
    ∙ ap Some (sym c.index_mut-component.ensures.value))
    ∙ ap (λ b. if b && runs_of c.args.number c.args.timer x.own then Some (touch c.args.components.now.items c.args.path.now (with_own (expired_of c.args.number c.args.timer x.own))) else None)
    (sym c.is_running.ensures ∙ c.if-not-is_running.true)

pub returns-then-not-runs : goal.returns-then-not-runs
returns-then-not-runs c =
    let x = c.index_mut-component.result.now in
    ap (expired_found c.args.components.now.items c.args.path.now c.args.number c.args.timer)
    (found-at (is_of c.args.path.now) c.args.components.now.items c.in-Some.at x
    (ap (place (is_of c.args.path.now)) (sym c.deref.ensures.value) ∙ sym (placed (is_of c.args.path.now) c.deref.result.now) ∙ sym c.place_of.ensures ∙ c.in-Some.is)
    ∙ ap Some (sym c.index_mut-component.ensures.value))
    ∙ ap (λ b. if b && runs_of c.args.number c.args.timer x.own then Some (touch c.args.components.now.items c.args.path.now (with_own (expired_of c.args.number c.args.timer x.own))) else None)
    (sym c.is_running.ensures ∙ c.if-not-is_running.false)
    ∙ ap (λ b. if b then Some (touch c.args.components.now.items c.args.path.now (with_own (expired_of c.args.number c.args.timer x.own))) else None)
    (sym (c.runs.ensures ∙ ap (runs_of c.args.number c.args.timer) c.deref-2.ensures) ∙ c.if-not-runs.true)

pub returns : goal.returns
returns c =
    let x = c.index_mut-component.result.now in
    let found = ap (place (is_of c.args.path.now)) (sym c.deref.ensures.value) ∙ sym (placed (is_of c.args.path.now) c.deref.result.now) ∙ sym c.place_of.ensures ∙ c.in-Some.is in
    let running = sym c.is_running.ensures ∙ c.if-not-is_running.false in
    ap (expired_found c.args.components.now.items c.args.path.now c.args.number c.args.timer)
    (found-at (is_of c.args.path.now) c.args.components.now.items c.in-Some.at x found ∙ ap Some (sym c.index_mut-component.ensures.value))
    ∙ ap (λ b. if b && runs_of c.args.number c.args.timer x.own then Some (touch c.args.components.now.items c.args.path.now (with_own (expired_of c.args.number c.args.timer x.own))) else None)
    running
    ∙ ap (λ b. if b then Some (touch c.args.components.now.items c.args.path.now (with_own (expired_of c.args.number c.args.timer x.own))) else None)
    (sym (c.runs.ensures ∙ ap (runs_of c.args.number c.args.timer) c.deref-2.ensures) ∙ c.if-not-runs.false)
    ∙ ap Some (sym (ap (λ own. slice_set c.args.components.now.items c.in-Some.at (with_own own x)) (c.in_ok-component.ensures ∙ c.in_ok-expire.ensures ∙ ap (expired_of c.args.number c.args.timer) (c.in_ok-own.ensures ∙ c.deref-3.ensures))
    ∙ written c.args.components.now.items c.args.path.now c.in-Some.at x (with_own (expired_of c.args.number c.args.timer x.own))
    (live-at c.args.components.now.items c.args.path.now c.in-Some.at x false found
    (ap (λ y. is_terminated y.state) (sym c.index_mut-component.ensures.value) ∙ running-lives x.state running))
    c.index_mut-component.ensures.value))
