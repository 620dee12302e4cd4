use Rattle.std.proofs.Common.{sym, ap, ◌∙◌}
use Rattle.config_parts.proofs.Expired.{is-place, place-zero}
use Rattle.config_parts.specs.internal.Expiries.{place_above}
use Rattle.config_parts.proofs.expire.place_of_frame.Goals as goal

pub returns-then-number-eq0-clause-found : goal.returns-then-number-eq0-clause-found
returns-then-number-eq0-clause-found c = sym (ap (λ n. place_above n c.args.calls.now) c.if-number-eq0.true ∙ place-zero c.args.calls.now)

pub returns-clause-found : goal.returns-clause-found
returns-clause-found c = is-place c.args.number c.args.calls.now c.checked_sub.result c.if-number-eq0.false c.checked_sub.ensures
