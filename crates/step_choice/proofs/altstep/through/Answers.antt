use Rattle.std.proofs.Common.{◌++◌, ◌∷◌, [], refl, ap, ◌∙◌}
use Rattle.config_parts.specs.declared.frame.Cells.{Cells}
use Rattle.config_parts.specs.declared.frame.Frame.{Frame}
use Rattle.step_choice.proofs.Through.{taken-through}
use Rattle.step_choice.specs.internal.Judged.{test_of}
use Rattle.step_choice.specs.internal.Later.{chance_through}
use Rattle.step_choice.proofs.altstep.through.Goals as goal

pub returns : goal.returns
returns c chance effect values block so seen =
    let s = c.args.snapshot.now in
    let frame = λ (cells : Cells). let f : Frame = record { remaining = c.in-Some.remaining; cells = cells } in f in
    let pushed = c.in_ok-push.ensures.ok ∙ ap (λ (cells : Cells). c.args.taken.frames ++ frame cells ∷ []) c.in_ok-new.ensures in (
      chance_through (test_of s) c.args.at values block chance,
      (
        effect,
        (
          refl,
          taken-through s c.args.way c.args.at c.in-Some.remaining c.args.inner c.args.taken c.push.new.self chance effect values block c.requires.within c.in-Some.ensures.found pushed so seen,
        ),
      ),
    )
