use Rattle.std.proofs.Common.{refl, sym, ap, ◌∙◌}
use Rattle.check_scope.specs.internal.Checking.{around, both, least, least_in, view}
use Rattle.check_statements.specs.internal.Places.{place_with}
use Rattle.check_rules.specs.Statements as spec
use Rattle.check_statements.proofs.Blocks.{alt-whole, behind-is-for, block-end, block-next, call-rest, conditional-next, do_while-rest, else-whole, event-rest, for-rest, if-rest, if-whole, left-seen, rest_of_block, while-rest}
use Rattle.check_statements.proofs.Insides.{parts-end, parts-next}
use Rattle.check_statements.proofs.statement.+statement.Goals as goal

pub block-loop-item-init : goal.block-loop-item-init
block-loop-item-init t c = record {
  found_is = ap (λ s. rest_of_block c.args.place s c.args.body.now (least_in c.args.found.now)) c.in_ok-enter.ensures.view;
  around_is = c.in_ok-enter.ensures.around;
}

pub block-loop-item-preserved : goal.block-loop-item-preserved
block-loop-item-preserved t c = record {
  found_is =
      block-next c.args.place (view c.loop-item.scope) (view c.statement.new.scope) c.args.body.now c.loop-item.item-index c.item-item.result
      (least_in c.loop-item.found) (least_in c.statement.new.found) c.loop-item-test.true c.item-item.is
      c.in_ok-statement.ensures.found c.in_ok-statement.ensures.view
      ∙ c.loop-item.invariant.found_is;
  around_is = c.in_ok-statement.ensures.around ∙ c.loop-item.invariant.around_is;
}

pub block-returns-clause-found : goal.block-returns-clause-found
block-returns-clause-found t c =
    sym (block-end c.args.place (view c.loop-item.scope) c.args.body.now c.loop-item.item-index (least_in c.loop-item.found) c.loop-item-test.false)
    ∙ c.loop-item.invariant.found_is

pub branches-loop-item-preserved : goal.branches-loop-item-preserved
branches-loop-item-preserved t c = record {
  found_is =
      sym (parts-next (λ b. spec.branch b (place_with (view c.args.scope.now) c.args.place)) c.args.branches.now c.loop-item.item-index c.item-item.result
      (least_in c.loop-item.found) (least (spec.branch c.item-item.result (place_with (view c.args.scope.now) c.args.place))) (least_in c.branch-alloc.new.found)
      c.loop-item-test.true c.item-item.is refl (rw c.loop-item.invariant.seen_is at c.in_ok-branch.ensures.found))
      ∙ c.loop-item.invariant.found_is;
  seen_is = c.in_ok-branch.ensures.view ∙ c.loop-item.invariant.seen_is;
  around_is = c.in_ok-branch.ensures.around ∙ c.loop-item.invariant.around_is;
}

pub branches-returns-clause-found : goal.branches-returns-clause-found
branches-returns-clause-found t c =
    sym (parts-end (λ b. spec.branch b (place_with (view c.args.scope.now) c.args.place)) c.args.branches.now c.loop-item.item-index (least_in c.loop-item.found) c.loop-item-test.false)
    ∙ c.loop-item.invariant.found_is

pub block-returns-clause-view : goal.block-returns-clause-view
block-returns-clause-view t c =
    left-seen c.args.scope.now c.leave.new.self (c.leave.ensures.around (around c.args.scope.now) c.args.scope.now.locals c.loop-item.invariant.around_is)
    (c.leave.ensures.locals (around c.args.scope.now) c.args.scope.now.locals c.loop-item.invariant.around_is)

pub block-returns-clause-around : goal.block-returns-clause-around
block-returns-clause-around t c = c.leave.ensures.around (around c.args.scope.now) c.args.scope.now.locals c.loop-item.invariant.around_is

pub branch-returns-in-Some-clause-found : goal.branch-returns-in-Some-clause-found
branch-returns-in-Some-clause-found t c =
    rw (event-rest c.args.branch.now (place_with (view c.args.scope.now) c.args.place) (least_in c.args.found.now) c.in-Event.guard c.in-Event.event c.in-Event.body c.in-Some.body
    c.in_ok-broken-in-Event.broken (least_in c.note.new.self) (place_with (view c.args.scope.now) c.inside_branch-inside.result) (sym c.get.ensures ∙ c.in-Event.is) c.in-Some.is
    (rw c.as_ref.ensures.value at c.in_ok-broken-in-Event.ensures) c.note.ensures (c.inside_branch-inside.ensures (view c.args.scope.now)))
    (rw c.as_slice.ensures at c.block.ensures.found)

pub branch-returns-in-Some-body-clause-found : goal.branch-returns-in-Some-body-clause-found
branch-returns-in-Some-body-clause-found t c =
    rw (call-rest c.args.branch.now (place_with (view c.args.scope.now) c.args.place) (least_in c.args.found.now) c.in-Call.guard c.in-Call.call c.in-Call.body c.in-Some-body.body
    c.in_ok-broken-in-Call.broken (least_in c.note-in-Call.new.self) (place_with (view c.args.scope.now) c.inside_branch-inside.result) (sym c.get.ensures ∙ c.in-Call.is) c.in-Some-body.is
    (rw c.as_ref-in-Call.ensures.value at c.in_ok-broken-in-Call.ensures) c.note-in-Call.ensures (c.inside_branch-inside.ensures (view c.args.scope.now)))
    (rw c.as_slice-in-Some-body.ensures at c.block-in-Some-body.ensures.found)

pub branch-returns-in-Else-clause-found : goal.branch-returns-in-Else-clause-found
branch-returns-in-Else-clause-found t c =
    rw (else-whole c.args.branch.now (place_with (view c.args.scope.now) c.args.place) (least_in c.args.found.now) c.in-Else.body
    (place_with (view c.args.scope.now) c.inside_branch-inside.result) (sym c.get.ensures ∙ c.in-Else.is) (c.inside_branch-inside.ensures (view c.args.scope.now)))
    (rw c.as_slice-in-Else.ensures at c.block-in-Else.ensures.found)

pub conditionals-loop-conditional-preserved : goal.conditionals-loop-conditional-preserved
conditionals-loop-conditional-preserved t c = record {
  found_is =
      sym (conditional-next c.args.place (view c.args.scope.now) c.args.conditionals.now c.loop-conditional.conditional-index c.conditional-item.result
      (least_in c.loop-conditional.found) (least_in c.note.new.self) (least_in c.block.new.found) c.check_condition.result
      c.loop-conditional-test.true c.conditional-item.is (rw c.loop-conditional.invariant.seen_is at c.check_condition.ensures) c.note.ensures
      (rw (c.as_slice.ensures, c.loop-conditional.invariant.seen_is) at c.in_ok-block.ensures.found))
      ∙ c.loop-conditional.invariant.found_is;
  seen_is = c.in_ok-block.ensures.view ∙ c.loop-conditional.invariant.seen_is;
  around_is = c.in_ok-block.ensures.around ∙ c.loop-conditional.invariant.around_is;
}

pub statement-returns-in-Alt-clause-found : goal.statement-returns-in-Alt-clause-found
statement-returns-in-Alt-clause-found t c =
    rw (alt-whole c.args.statement.now (place_with (view c.args.scope.now) c.args.place) (least_in c.args.found.now) c.in-Alt.items (sym c.get.ensures ∙ c.in-Alt.is))
    (rw c.as_slice.ensures at c.branches.ensures.found)

pub statement-returns-in-Some-clause-found : goal.statement-returns-in-Some-clause-found
statement-returns-in-Some-clause-found t c =
    rw (if-rest c.args.statement.now (place_with (view c.args.scope.now) c.args.place) (least_in c.args.found.now) c.in-If.items c.in-If.last c.in-Some.body (least_in c.conditionals.new.found)
    (sym c.get.ensures ∙ c.in-If.is) c.in-Some.is (rw c.as_slice-in-If.ensures at c.in_ok-conditionals-in-If.ensures.found))
    (rw (c.as_slice-in-Some.ensures, c.in_ok-conditionals-in-If.ensures.view) at c.block.ensures.found)

pub statement-returns-in-None-clause-found : goal.statement-returns-in-None-clause-found
statement-returns-in-None-clause-found t c =
    rw (if-whole c.args.statement.now (place_with (view c.args.scope.now) c.args.place) (least_in c.args.found.now) c.in-If.items c.in-If.last (sym c.get.ensures ∙ c.in-If.is) c.in-None.is)
    (rw c.as_slice-in-If.ensures at c.in_ok-conditionals-in-If.ensures.found)

pub statement-returns-in-While-clause-found : goal.statement-returns-in-While-clause-found
statement-returns-in-While-clause-found t c =
    rw (while-rest c.args.statement.now (place_with (view c.args.scope.now) c.args.place) (least_in c.args.found.now) c.in-While.condition c.in-While.body
    c.check_condition.result (least_in c.note.new.self) (sym c.get.ensures ∙ c.in-While.is) c.check_condition.ensures c.note.ensures)
    (rw c.as_slice-in-While.ensures at c.block-in-While.ensures.found)

pub statement-returns-in_ok-block-in-DoWhile-clause-found : goal.statement-returns-in_ok-block-in-DoWhile-clause-found
statement-returns-in_ok-block-in-DoWhile-clause-found t c =
    c.note-in-DoWhile.ensures
    ∙ ap (both (least_in c.block-in-DoWhile.new.found)) (rw c.in_ok-block-in-DoWhile.ensures.view at c.check_condition-in-DoWhile.ensures)
    ∙ sym (do_while-rest c.args.statement.now (place_with (view c.args.scope.now) c.args.place) (least_in c.args.found.now) c.in-DoWhile.body c.in-DoWhile.condition
    (least_in c.block-in-DoWhile.new.found) (sym c.get.ensures ∙ c.in-DoWhile.is) (rw c.as_slice-in-DoWhile.ensures at c.in_ok-block-in-DoWhile.ensures.found))

pub statement-returns-in_ok-block-in-For-clause-found : goal.statement-returns-in_ok-block-in-For-clause-found
statement-returns-in_ok-block-in-For-clause-found t c =
    rw (c.as_slice-in-For.ensures, c.in_ok-head-in-For.ensures.view, c.in_ok-enter-in-For.ensures.view) at c.in_ok-block-in-For.ensures.found
    ∙ sym (for-rest c.args.statement.now (place_with (view c.args.scope.now) c.args.place) (least_in c.args.found.now) c.in-For.start c.in-For.condition c.in-For.step c.in-For.body
    c.in_ok-head-in-For.head (least_in c.note-in-For.new.self) (sym c.get.ensures ∙ c.in-For.is) (rw c.in_ok-enter-in-For.ensures.view at c.in_ok-head-in-For.ensures.broken) c.note-in-For.ensures)

pub statement-returns-in_ok-block-in-For-clause-view : goal.statement-returns-in_ok-block-in-For-clause-view
statement-returns-in_ok-block-in-For-clause-view t c =
    let around_is = c.in_ok-block-in-For.ensures.around ∙ c.in_ok-head-in-For.ensures.around ∙ c.in_ok-enter-in-For.ensures.around in
    rw (behind-is-for c.args.statement.now c.in-For.start c.in-For.condition c.in-For.step c.in-For.body (sym c.get.ensures ∙ c.in-For.is))
    (left-seen c.args.scope.now c.leave.new.self (c.leave.ensures.around (around c.args.scope.now) c.args.scope.now.locals around_is)
    (c.leave.ensures.locals (around c.args.scope.now) c.args.scope.now.locals around_is))

pub statement-returns-in_ok-block-in-For-clause-around : goal.statement-returns-in_ok-block-in-For-clause-around
statement-returns-in_ok-block-in-For-clause-around t c =
    c.leave.ensures.around (around c.args.scope.now) c.args.scope.now.locals
    (c.in_ok-block-in-For.ensures.around ∙ c.in_ok-head-in-For.ensures.around ∙ c.in_ok-enter-in-For.ensures.around)
