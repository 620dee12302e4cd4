use Rattle.std.proofs.Common.{subst, sym, ◌∙◌}
use Rattle.step_forms.proofs.end.left_data.Goals as goal
use Rattle.step_snapshot.specs.Tests.{extent_of}
use Rattle.config_parts.specs.Views.{IsWithin}

pub returns-clause-within : goal.returns-clause-within
returns-clause-within c =
    let s = c.args.snapshot.now in
    let size = extent_of s.test.now in
    c.leave.ensures.within size (subst (IsWithin size) (sym (c.in_ok-own.ensures ∙ c.deref.ensures)) s.within)
