use Rattle.std.proofs.Common.{Option, Some, None, Ok, Err, [], refl, subst}
use Rattle.semantics.specs.Branches.{written_call, written_defaults}
use Rattle.semantics.specs.Sites.{beginning}
use Rattle.step_choice.proofs.Chosen.{call-found, call-way}
use Rattle.step_choice.proofs.Found.{after-none, fault-before, other-way, taken-before}
use Rattle.step_choice.proofs.KnownBranches.{lone-call-known}
use Rattle.step_choice.specs.Choices.{Finds, IsWayOf}
use Rattle.step_choice.specs.declared.taken.Taken.{Taken}
use Rattle.step_choice.specs.internal.Judged.{Is, below, first_of, judge_of, test_of}
use Rattle.step_choice.proofs.choose.choose_call.Goals as goal
use Rattle.step_snapshot.specs.Seen.{own_by, seen_by}
use Rattle.ttcn_graph.proofs.Forms.{does-Call}

pub returns-in-Ok-None-clause-chosen : goal.returns-in-Ok-None-clause-chosen
returns-in-Ok-None-clause-chosen c site at =
    let s = c.args.snapshot.now in
    let st = c.args.statement.now in
    let call = c.args.call.now in
    let definitions = (test_of s).definitions in
    let does = does-Call st call c.requires.form in
    let one = first_of s (written_call (below c.longest_chain-levels.result s) (test_of s) (seen_by s) (own_by s) (judge_of s site c.last_cells-inner.result.now) call [] (Some c.args.at)) in
    let later = first_of s (written_defaults (test_of s) (seen_by s) (own_by s)) in
    let P : Option Taken → Type 0 = λ r. Finds s (Is 0 []) one (Ok r) in
    call-found s site st call c.args.at c.longest_chain-levels.result c.last_cells-inner.result.now c.choose_default.result does c.requires.altstep c.longest_chain-levels.ensures c.last_cells-inner.ensures.seen
    (after-none s (IsWayOf definitions site st) one later c.choose_default.result (subst P c.in-Ok-None.field-0-is (c.in-Ok-None.ensures site [] at))
    (other-way s (Is 0 []) (IsWayOf definitions site st) later c.choose_default.result (call-way definitions site st call c.args.at does c.requires.altstep) c.choose_default.ensures))

pub returns-in-Ok-Some-clause-chosen : goal.returns-in-Ok-Some-clause-chosen
returns-in-Ok-Some-clause-chosen c site at =
    let s = c.args.snapshot.now in
    let st = c.args.statement.now in
    let call = c.args.call.now in
    let definitions = (test_of s).definitions in
    let does = does-Call st call c.requires.form in
    let one = first_of s (written_call (below c.longest_chain-levels.result s) (test_of s) (seen_by s) (own_by s) (judge_of s site c.last_cells-inner.result.now) call [] (Some c.args.at)) in
    let later = first_of s (written_defaults (test_of s) (seen_by s) (own_by s)) in
    let P : Option Taken → Type 0 = λ r. Finds s (Is 0 []) one (Ok r) in
    call-found s site st call c.args.at c.longest_chain-levels.result c.last_cells-inner.result.now (Ok (Some c.in-Ok-Some.taken)) does c.requires.altstep c.longest_chain-levels.ensures c.last_cells-inner.ensures.seen
    (taken-before s (IsWayOf definitions site st) one later c.in-Ok-Some.taken
    (other-way s (Is 0 []) (IsWayOf definitions site st) one (Ok (Some c.in-Ok-Some.taken)) (call-way definitions site st call c.args.at does c.requires.altstep)
    (subst P c.in-Ok-Some.field-0-is (c.in-Ok-Some.ensures site [] at))))

pub returns-in-Err-clause-chosen : goal.returns-in-Err-clause-chosen
returns-in-Err-clause-chosen c site at =
    let s = c.args.snapshot.now in
    let st = c.args.statement.now in
    let call = c.args.call.now in
    let definitions = (test_of s).definitions in
    let does = does-Call st call c.requires.form in
    let one = first_of s (written_call (below c.longest_chain-levels.result s) (test_of s) (seen_by s) (own_by s) (judge_of s site c.last_cells-inner.result.now) call [] (Some c.args.at)) in
    let later = first_of s (written_defaults (test_of s) (seen_by s) (own_by s)) in
    call-found s site st call c.args.at c.longest_chain-levels.result c.last_cells-inner.result.now (Err c.in-Err.fault) does c.requires.altstep c.longest_chain-levels.ensures c.last_cells-inner.ensures.seen
    (fault-before s (IsWayOf definitions site st) one later c.in-Err.fault
    (other-way s (Is 0 []) (IsWayOf definitions site st) one (Err c.in-Err.fault) (call-way definitions site st call c.args.at does c.requires.altstep) (c.in-Err.ensures site [] at)))

pub returns-in-Ok-None-clause-known : goal.returns-in-Ok-None-clause-known
returns-in-Ok-None-clause-known c =
    let site = beginning c.args.behaviour in
    lone-call-known c.args.snapshot.now site c.args.statement.now c.args.call.now c.args.at c.choose_default.result (does-Call c.args.statement.now c.args.call.now c.requires.form) c.requires.altstep
    (returns-in-Ok-None-clause-chosen c site refl)

pub returns-in-Ok-Some-clause-known : goal.returns-in-Ok-Some-clause-known
returns-in-Ok-Some-clause-known c =
    let site = beginning c.args.behaviour in
    lone-call-known c.args.snapshot.now site c.args.statement.now c.args.call.now c.args.at (Ok (Some c.in-Ok-Some.taken)) (does-Call c.args.statement.now c.args.call.now c.requires.form) c.requires.altstep
    (returns-in-Ok-Some-clause-chosen c site refl)
