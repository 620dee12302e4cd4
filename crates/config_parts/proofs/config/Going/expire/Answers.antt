use Rattle.std.proofs.Common.{Ok, Some, sym, ap, subst, ◌∙◌}
use Rattle.config_parts.proofs.Expired.{expired-by}
use Rattle.config_parts.proofs.Within.{expire-within}
use Rattle.std.specs.declared.alloc.AllocError.{AllocError}
use Rattle.config_parts.specs.internal.Expiries.{DoesOrNot, expired_at}
use Rattle.config_parts.proofs.config.Going.expire.Goals as goal

pub returns-clause-steps : goal.returns-clause-steps
returns-clause-steps c legend test is ascend =
    let p = c.args.path.now in
    expired-by {E = AllocError} legend is test c.args.self.now ascend p c.args.number c.args.timer c.from_vec.result (Ok c.in_ok-expired.expired)
    (subst (λ cs. DoesOrNot {E = AllocError} (expired_at cs p c.args.number c.args.timer) c.from_vec.result (Ok c.in_ok-expired.expired))
    (c.into_vec-components.ensures ∙ c.replace.ensures.value)
    (subst (λ cs. DoesOrNot {E = AllocError} (expired_at c.into_vec-components.result.items p c.args.number c.args.timer) cs (Ok c.in_ok-expired.expired))
    (sym c.from_vec.ensures) c.in_ok-expired.ensures))

pub returns-clause-within : goal.returns-clause-within
returns-clause-within c size one all done = record {
  components = expire-within size c.args.number c.args.timer c.args.path.now c.args.self.now.components c.from_vec.result one all.components
      (ap (λ cs. expired_at cs c.args.path.now c.args.number c.args.timer) (sym (c.into_vec-components.ensures ∙ c.replace.ensures.value))
      ∙ subst (λ b. DoesOrNot {E = AllocError} (expired_at c.into_vec-components.result.items c.args.path.now c.args.number c.args.timer) c.expire_at.new.components.items (Ok b)) done c.in_ok-expired.ensures
      ∙ ap Some (sym c.from_vec.ensures));
  mappings = all.mappings;
}
