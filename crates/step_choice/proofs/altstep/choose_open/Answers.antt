use Rattle.std.proofs.Common.{Ok, Some, Option, [], ◌∷◌, subst, sym}
use Rattle.semantics.specs.Branches.{open_branch}
use Rattle.semantics.specs.Events.{try_event}
use Rattle.step_choice.proofs.Guarded.{open-taken}
use Rattle.step_choice.specs.Choices.{Finds}
use Rattle.step_choice.specs.declared.taken.Deed.{Deed}
use Rattle.step_choice.specs.declared.taken.Taken.{Taken}
use Rattle.step_choice.specs.internal.Judged.{Is, Tries, first_of, judge_of, test_of}
use Rattle.step_choice.proofs.altstep.choose_open.Goals as goal
use Rattle.step_snapshot.specs.Seen.{own_by, seen_by}

pub returns-in-Ok-Some : goal.returns-in-Ok-Some
returns-in-Ok-Some c site block at same =
    let s = c.args.snapshot.now in
    let judge = judge_of s site c.args.inner.now in
    let e = c.args.event.now in
    let P : Option Deed → Type 0 = λ r. Tries s site (try_event (test_of s) (seen_by s) (own_by s) judge e) (Ok r) in
    let Q : Taken → Type 0 = λ taken. Finds s (Is c.args.way block) (first_of s (open_branch (test_of s) judge c.args.place (Some e) block ∷ [])) (Ok (Some taken)) in
    subst Q (sym c.taken.ensures)
    (open-taken s judge c.args.place c.args.way e block c.in-Ok-Some.deed (subst P c.in-Ok-Some.field-0-is (c.in-Ok-Some.ensures site at same)))
