use Rattle.std.proofs.Common.{◌≡◌, sym, ap, ◌∙◌, slice_set}
use Rattle.config_parts.proofs.Changed.{overwritten}
use Rattle.config_parts.proofs.Expired.{expired-nowhere, expired-other, expired-there}
use Rattle.config_parts.specs.internal.Changes.{with_calls}
use Rattle.config_parts.specs.internal.Expiries.{expired_above, place_above, with_expired}
use Rattle.config_parts.proofs.frame.Data.expire.Goals.{in-Some+in_ok-expire, in_default}
use Rattle.config_parts.proofs.frame.Data.expire.Goals as goal

pub returns : goal.returns
returns c =
    let items = c.into_vec-calls.result.items in
    let found = ap (place_above c.args.number) (sym c.deref.ensures.value) ∙ sym c.place_of_frame.ensures.found in
    let changed : c.match-place_of_frame.calls.items ≡ expired_above c.args.number c.args.slot items =
    elim c.match-place_of_frame.branch [
      | in-Some+in_ok-expire w ↦
          ap (λ v. v.items) w.calls-is
          ∙ ap (slice_set items w.in-Some.at) w.in_ok-expire.ensures
          ∙ overwritten items w.in-Some.at w.index_mut.result.now (with_expired c.args.slot) w.index_mut.ensures.value
          ∙ expired-there c.args.number c.args.slot items w.in-Some.at (found ∙ w.in-Some.is)
      | in_default w ↦ ap (λ v. v.items) w.calls-is ∙ expired-nowhere c.args.number c.args.slot items (found ∙ w.in_default.is)
    ] in
    ap (λ calls. with_calls calls c.args.self.now)
    (c.from_vec.ensures ∙ changed ∙ ap (expired_above c.args.number c.args.slot) (c.into_vec-calls.ensures ∙ c.replace.ensures.value))
    ∙ expired-other c.args.number c.args.slot c.args.self.now c.if-number-eq0.false
