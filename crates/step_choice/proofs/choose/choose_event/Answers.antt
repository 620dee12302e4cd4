use Rattle.std.proofs.Common.{Option, Some, None, Ok, Err, [], ◌∷◌, subst}
use Rattle.ttcn_syntax.specs.declared.tree.statement.Statement.{out-Statement}
use Rattle.semantics.specs.Branches.{open_branch, written_defaults}
use Rattle.step_choice.proofs.Chosen.{event-found, event-way}
use Rattle.step_choice.proofs.Found.{after-none, fault-before, other-way, taken-before}
use Rattle.step_choice.proofs.KnownBranches.{lone-event-known}
use Rattle.step_choice.specs.Choices.{Finds, IsWayOf}
use Rattle.step_choice.specs.declared.taken.Taken.{Taken}
use Rattle.step_choice.specs.internal.Judged.{Is, first_of, judge_of, test_of}
use Rattle.step_choice.proofs.choose.choose_event.Goals as goal
use Rattle.step_snapshot.specs.Seen.{own_by, seen_by}
use Rattle.ttcn_graph.proofs.Forms.{does-Event}

pub returns-in-Ok-None-clause-chosen : goal.returns-in-Ok-None-clause-chosen
returns-in-Ok-None-clause-chosen c site at same =
    let s = c.args.snapshot.now in
    let st = c.args.statement.now in
    let e = c.args.event.now in
    let definitions = (test_of s).definitions in
    let does = does-Event st e c.requires.form in
    let one = first_of s (open_branch (test_of s) (judge_of s site c.last_cells-inner.result.now) (out-Statement st).place (Some e) [] ∷ []) in
    let later = first_of s (written_defaults (test_of s) (seen_by s) (own_by s)) in
    let P : Option Taken → Type 0 = λ r. Finds s (Is 0 []) one (Ok r) in
    event-found s site st e c.last_cells-inner.result.now c.choose_default.result does c.last_cells-inner.ensures.seen
    (after-none s (IsWayOf definitions site st) one later c.choose_default.result (subst P c.in-Ok-None.field-0-is (c.in-Ok-None.ensures site [] at same))
    (other-way s (Is 0 []) (IsWayOf definitions site st) later c.choose_default.result (event-way definitions site st e does) c.choose_default.ensures))

pub returns-in-Ok-Some-clause-chosen : goal.returns-in-Ok-Some-clause-chosen
returns-in-Ok-Some-clause-chosen c site at same =
    let s = c.args.snapshot.now in
    let st = c.args.statement.now in
    let e = c.args.event.now in
    let definitions = (test_of s).definitions in
    let does = does-Event st e c.requires.form in
    let one = first_of s (open_branch (test_of s) (judge_of s site c.last_cells-inner.result.now) (out-Statement st).place (Some e) [] ∷ []) in
    let later = first_of s (written_defaults (test_of s) (seen_by s) (own_by s)) in
    let P : Option Taken → Type 0 = λ r. Finds s (Is 0 []) one (Ok r) in
    event-found s site st e c.last_cells-inner.result.now (Ok (Some c.in-Ok-Some.taken)) does c.last_cells-inner.ensures.seen
    (taken-before s (IsWayOf definitions site st) one later c.in-Ok-Some.taken
    (other-way s (Is 0 []) (IsWayOf definitions site st) one (Ok (Some c.in-Ok-Some.taken)) (event-way definitions site st e does)
    (subst P c.in-Ok-Some.field-0-is (c.in-Ok-Some.ensures site [] at same))))

pub returns-in-Err-clause-chosen : goal.returns-in-Err-clause-chosen
returns-in-Err-clause-chosen c site at same =
    let s = c.args.snapshot.now in
    let st = c.args.statement.now in
    let e = c.args.event.now in
    let definitions = (test_of s).definitions in
    let does = does-Event st e c.requires.form in
    let one = first_of s (open_branch (test_of s) (judge_of s site c.last_cells-inner.result.now) (out-Statement st).place (Some e) [] ∷ []) in
    let later = first_of s (written_defaults (test_of s) (seen_by s) (own_by s)) in
    event-found s site st e c.last_cells-inner.result.now (Err c.in-Err.fault) does c.last_cells-inner.ensures.seen
    (fault-before s (IsWayOf definitions site st) one later c.in-Err.fault
    (other-way s (Is 0 []) (IsWayOf definitions site st) one (Err c.in-Err.fault) (event-way definitions site st e does) (c.in-Err.ensures site [] at same)))

pub returns-in-Ok-None-clause-known : goal.returns-in-Ok-None-clause-known
returns-in-Ok-None-clause-known c site at same =
    lone-event-known c.args.snapshot.now site c.args.statement.now c.args.event.now c.choose_default.result (does-Event c.args.statement.now c.args.event.now c.requires.form) c.requires.named
    (returns-in-Ok-None-clause-chosen c site at same)

pub returns-in-Ok-Some-clause-known : goal.returns-in-Ok-Some-clause-known
returns-in-Ok-Some-clause-known c site at same =
    lone-event-known c.args.snapshot.now site c.args.statement.now c.args.event.now (Ok (Some c.in-Ok-Some.taken)) (does-Event c.args.statement.now c.args.event.now c.requires.form) c.requires.named
    (returns-in-Ok-Some-clause-chosen c site at same)
