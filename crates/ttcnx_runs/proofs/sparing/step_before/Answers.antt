use Rattle.std.proofs.Common.{◌≡◌, subst, sym, ◌∙◌}
use Rattle.config_packed.specs.Pieces.{IsCut}
use Rattle.config_parts.specs.declared.config.Config.TheVariants as config
use Rattle.config_parts.specs.declared.config.Going.{Going}
use Rattle.ttcnx_runs.proofs.Parting.{parts-going}
use Rattle.ttcnx_runs.proofs.sparing.step_before.Goals as goal

going-is : {a b : Going} → config.Going a ≡ config.Going b → a ≡ b
going-is e = cc

pub returns-in-Some : goal.returns-in-Some
returns-in-Some g c earlier going is cut =
    let whole = parts-going c.args.before.now c.in_ok-before.field-0 c.in-Some.before c.in_ok-before.ensures c.in-Some.is in
    c.last_step.ensures earlier going (subst (λ (w : Going). IsCut w c.in-Some.before) (going-is (sym whole.1 ∙ is)) whole.2) cut
