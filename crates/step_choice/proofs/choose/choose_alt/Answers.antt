use Rattle.std.proofs.Common.{length, map, Option, Some, None, Ok, Err, [], subst}
use Rattle.step_choice.proofs.Chosen.{alt-found, branch-way, default-way}
use Rattle.step_choice.proofs.Choosing.{first_of_branches}
use Rattle.step_choice.proofs.Found.{after-none, fault-before, other-way, taken-before}
use Rattle.step_choice.proofs.KnownBranches.{alt-known}
use Rattle.step_choice.specs.Choices.{Finds, IsWayOf}
use Rattle.step_choice.specs.declared.taken.Taken.{Taken}
use Rattle.step_choice.specs.internal.Judged.{Is, IsAmong, first_of, test_of}
use Rattle.step_choice.proofs.choose.choose_alt.Goals as goal
use Rattle.semantics.specs.Branches.{written_defaults}
use Rattle.step_snapshot.specs.Seen.{own_by, seen_by}
use Rattle.ttcn_graph.proofs.Forms.{does-Alt}
use Rattle.ttcn_graph.specs.Ways.{items_of_branch}

pub returns-in-Ok-None-clause-chosen : goal.returns-in-Ok-None-clause-chosen
returns-in-Ok-None-clause-chosen c site at same =
    let s = c.args.snapshot.now in
    let st = c.args.statement.now in
    let branches = c.args.branches.now in
    let definitions = (test_of s).definitions in
    let does = does-Alt st branches c.requires.form in
    let one = first_of_branches s c.longest_chain-levels.result site c.last_cells-inner.result.now branches in
    let later = first_of s (written_defaults (test_of s) (seen_by s) (own_by s)) in
    let P : Option Taken → Type 0 = λ r. Finds s (IsAmong (map (items_of_branch definitions site) branches)) one (Ok r) in
    alt-found s site st branches c.longest_chain-levels.result c.last_cells-inner.result.now c.choose_default.result does c.longest_chain-levels.ensures c.last_cells-inner.ensures.seen
    (after-none s (IsWayOf definitions site st) one later c.choose_default.result (subst P c.in-Ok-None.field-0-is (c.in-Ok-None.ensures site at same))
    (other-way s (Is (length branches) []) (IsWayOf definitions site st) later c.choose_default.result
    (default-way definitions site st branches does) c.choose_default.ensures))

pub returns-in-Ok-Some-clause-chosen : goal.returns-in-Ok-Some-clause-chosen
returns-in-Ok-Some-clause-chosen c site at same =
    let s = c.args.snapshot.now in
    let st = c.args.statement.now in
    let branches = c.args.branches.now in
    let definitions = (test_of s).definitions in
    let does = does-Alt st branches c.requires.form in
    let one = first_of_branches s c.longest_chain-levels.result site c.last_cells-inner.result.now branches in
    let later = first_of s (written_defaults (test_of s) (seen_by s) (own_by s)) in
    let P : Option Taken → Type 0 = λ r. Finds s (IsAmong (map (items_of_branch definitions site) branches)) one (Ok r) in
    alt-found s site st branches c.longest_chain-levels.result c.last_cells-inner.result.now (Ok (Some c.in-Ok-Some.taken)) does c.longest_chain-levels.ensures c.last_cells-inner.ensures.seen
    (taken-before s (IsWayOf definitions site st) one later c.in-Ok-Some.taken
    (other-way s (IsAmong (map (items_of_branch definitions site) branches)) (IsWayOf definitions site st) one (Ok (Some c.in-Ok-Some.taken))
    (branch-way definitions site st branches does) (subst P c.in-Ok-Some.field-0-is (c.in-Ok-Some.ensures site at same))))

pub returns-in-Err-clause-chosen : goal.returns-in-Err-clause-chosen
returns-in-Err-clause-chosen c site at same =
    let s = c.args.snapshot.now in
    let st = c.args.statement.now in
    let branches = c.args.branches.now in
    let definitions = (test_of s).definitions in
    let does = does-Alt st branches c.requires.form in
    let one = first_of_branches s c.longest_chain-levels.result site c.last_cells-inner.result.now branches in
    let later = first_of s (written_defaults (test_of s) (seen_by s) (own_by s)) in
    alt-found s site st branches c.longest_chain-levels.result c.last_cells-inner.result.now (Err c.in-Err.fault) does c.longest_chain-levels.ensures c.last_cells-inner.ensures.seen
    (fault-before s (IsWayOf definitions site st) one later c.in-Err.fault
    (other-way s (IsAmong (map (items_of_branch definitions site) branches)) (IsWayOf definitions site st) one (Err c.in-Err.fault)
    (branch-way definitions site st branches does) (c.in-Err.ensures site at same)))

pub returns-in-Ok-None-clause-known : goal.returns-in-Ok-None-clause-known
returns-in-Ok-None-clause-known c site at same =
    alt-known c.args.snapshot.now site c.args.statement.now c.args.branches.now c.choose_default.result (does-Alt c.args.statement.now c.args.branches.now c.requires.form) c.requires.named
    (returns-in-Ok-None-clause-chosen c site at same)

pub returns-in-Ok-Some-clause-known : goal.returns-in-Ok-Some-clause-known
returns-in-Ok-Some-clause-known c site at same =
    alt-known c.args.snapshot.now site c.args.statement.now c.args.branches.now (Ok (Some c.in-Ok-Some.taken)) (does-Alt c.args.statement.now c.args.branches.now c.requires.form) c.requires.named
    (returns-in-Ok-Some-clause-chosen c site at same)
