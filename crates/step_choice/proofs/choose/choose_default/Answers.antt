use Rattle.std.proofs.Common.{◌+◌, arith, drop, Option, Some, None, Ok, Err, [], ap, sym, subst, ◌∙◌}
use Rattle.std.proofs.lemmas.List.{at_drop_all}
use Rattle.semantics.specs.Branches.{written_defaults}
use Rattle.step_choice.proofs.Choosing.{none-chosen}
use Rattle.step_choice.proofs.Defaulted.{default-is, default-next, first_of_default, first_of_defaults}
use Rattle.step_choice.proofs.Found.{fault-before, same-choice, taken-before}
use Rattle.step_choice.specs.Choices.{Finds}
use Rattle.step_choice.specs.declared.taken.Taken.{Taken}
use Rattle.step_choice.specs.internal.Judged.{Is, first_of, test_of}
use Rattle.step_choice.specs.internal.Later.{or_later}
use Rattle.step_choice.proofs.choose.choose_default.Goals as goal
use Rattle.step_snapshot.specs.Seen.{own_by, seen_by}
use Rattle.config_parts.specs.declared.frame.Data.{Data}
use Rattle.check_rules.specs.Limits.{longest_chain}

pub loop-default-init : goal.loop-default-init
loop-default-init c =
    ap (first_of_defaults c.args.snapshot.now longest_chain) (sym (c.as_slice-default-items.ensures ∙ ap (λ (own : Data). own.defaults) c.deref.ensures))

pub returns-in-Ok-Some : goal.returns-in-Ok-Some
returns-in-Ok-Some c =
    let s = c.args.snapshot.now in
    let d = c.default-item.result in
    let one = first_of_default s longest_chain d.altstep d.arguments in
    let found = first_of_default s c.longest_chain-levels.result d.altstep c.in_ok-arguments.arguments in
    let later = first_of_defaults s longest_chain (drop (c.loop-default.default-index + 1) c.as_slice-default-items.result.now) in
    let P : Option Taken → Type 0 = λ r. Finds s (Is c.args.way []) found (Ok r) in
    same-choice s (Is c.args.way []) (or_later one later) (first_of s (written_defaults (test_of s) (seen_by s) (own_by s))) (Ok (Some c.in-Ok-Some.taken))
    (c.loop-default.invariant ∙ default-next s longest_chain c.as_slice-default-items.result.now c.loop-default.default-index d c.loop-default-test.true c.default-item.is)
    (taken-before s (Is c.args.way []) one later c.in-Ok-Some.taken
    (same-choice s (Is c.args.way []) found one (Ok (Some c.in-Ok-Some.taken)) (default-is s c.longest_chain-levels.result longest_chain d.altstep c.in_ok-arguments.arguments d.arguments c.longest_chain-levels.ensures c.in_ok-arguments.ensures)
    (subst P c.in-Ok-Some.field-0-is (c.in-Ok-Some.ensures []))))

pub returns-in-Err : goal.returns-in-Err
returns-in-Err c =
    let s = c.args.snapshot.now in
    let d = c.default-item.result in
    let one = first_of_default s longest_chain d.altstep d.arguments in
    let found = first_of_default s c.longest_chain-levels.result d.altstep c.in_ok-arguments.arguments in
    let later = first_of_defaults s longest_chain (drop (c.loop-default.default-index + 1) c.as_slice-default-items.result.now) in
    same-choice s (Is c.args.way []) (or_later one later) (first_of s (written_defaults (test_of s) (seen_by s) (own_by s))) (Err c.in-Err.fault)
    (c.loop-default.invariant ∙ default-next s longest_chain c.as_slice-default-items.result.now c.loop-default.default-index d c.loop-default-test.true c.default-item.is)
    (fault-before s (Is c.args.way []) one later c.in-Err.fault
    (same-choice s (Is c.args.way []) found one (Err c.in-Err.fault) (default-is s c.longest_chain-levels.result longest_chain d.altstep c.in_ok-arguments.arguments d.arguments c.longest_chain-levels.ensures c.in_ok-arguments.ensures)
    (c.in-Err.ensures [])))

pub loop-default-preserved : goal.loop-default-preserved
loop-default-preserved c =
    let s = c.args.snapshot.now in
    let d = c.default-item.result in
    let one = first_of_default s longest_chain d.altstep d.arguments in
    let found = first_of_default s c.longest_chain-levels.result d.altstep c.in_ok-arguments.arguments in
    let later = first_of_defaults s longest_chain (drop (c.loop-default.default-index + 1) c.as_slice-default-items.result.now) in
    let P : Option Taken → Type 0 = λ r. Finds s (Is c.args.way []) found (Ok r) in
    c.loop-default.invariant ∙ default-next s longest_chain c.as_slice-default-items.result.now c.loop-default.default-index d c.loop-default-test.true c.default-item.is
    ∙ none-chosen one later
    (default-is s c.longest_chain-levels.result longest_chain d.altstep c.in_ok-arguments.arguments d.arguments c.longest_chain-levels.ensures c.in_ok-arguments.ensures
    ∙ subst P c.in-Ok-None.field-0-is (c.in-Ok-None.ensures []))

pub returns : goal.returns
returns c =
    c.loop-default.invariant
    ∙ at_drop_all (first_of_defaults c.args.snapshot.now longest_chain) c.as_slice-default-items.result.now c.loop-default.default-index (omega (arith, c.loop-default-test.false))
