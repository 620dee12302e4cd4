use Rattle.std.proofs.Common.{◌≡◌, ◌-◌, ◌++◌, ◌∙◌, suc, [], ◌∷◌, ap, arith, get_or, length, refl, subst, sym}
use Rattle.std.proofs.Math.ListN.{length-map}
use Rattle.ttcn_syntax.specs.declared.tree.statement.Action.TheOpen.{Action-F}
use Rattle.ttcn_syntax.specs.declared.tree.statement.Conditional.{out-Conditional}
use Rattle.check_scope.specs.Names.{resolved}
use Rattle.check_scope.specs.declared.names.Meaning.TheVariants as meaning
use Rattle.semantics.specs.Items as rules
use Rattle.semantics.specs.Sites as sites
use Rattle.ttcn_graph.specs.Drafts.{AreDrawn, Draft, IsDrawn, at_site}
use Rattle.ttcn_graph.specs.internal.Drawing.{declared_before, site_before, ways_of_condition}
use Rattle.std.specs.List.{slice_get}
use Rattle.ttcn_graph.proofs.Drawing.{alt-drawn, alt-ways, branches-next, chain-next, chain-ways, condition-drawn, condition-none, declared-drawn, do-drawn, do-ways, do-whole-ways, for-drawn, for-loop-drawn, for-loop-ways, for-ways, item-more, loop-drawn, loop-ways, rest-within, while-ways, whole-ways}
use Rattle.ttcn_graph.proofs.Forms.{does-Constants, does-Timers, does-Variables}
use Rattle.ttcn_graph.proofs.Growing.{block-next, ok-map, put-drawn, put-ways}
use Rattle.ttcn_graph.proofs.block.+drawing.Goals.{draw_condition-then-place-conditionals+in_ok-held+in_ok-push, draw_condition-else-place-conditionals}
use Rattle.ttcn_graph.proofs.block.+drawing.Goals as goal

pub draw_alt-finish-requires-clause-ways : goal.draw_alt-finish-requires-clause-ways
draw_alt-finish-requires-clause-ways t c =
    alt-ways c.args.draft.now c.begin.new.self c.mark.new.self c.draw_branches.new.draft c.args.statement.now c.args.branches.now c.in_ok-whole.whole c.in_ok-marked.marked c.args.rest
    c.in_ok-ways.ways c.requires.rest c.in_ok-whole.ensures c.in_ok-marked.ensures c.in_ok-ways.ensures c.push.new.self c.in_ok-push.ensures.ok c.requires.form

pub draw_alt-returns : goal.draw_alt-returns
draw_alt-returns t c =
    alt-drawn c.args.draft.now c.begin.new.self c.mark.new.self c.draw_branches.new.draft c.args.statement.now c.args.branches.now c.in_ok-whole.whole c.in_ok-marked.marked c.args.rest
    c.in_ok-ways.ways c.requires.rest c.in_ok-whole.ensures c.in_ok-marked.ensures c.in_ok-ways.ensures c.finish.new.self c.in_ok-finish.ensures

pub draw_block-loop-place-preserved : goal.draw_block-loop-place-preserved
draw_block-loop-place-preserved t c =
    let some = c.loop-place-test.true in
    let most = c.loop-place.auto.place in
    let one : c.loop-place.place ≡ suc (c.loop-place.place - 1) = omega (arith, some) in
    block-next c.args.draft.now c.loop-place.draft c.draw_statement.new.draft c.args.body.now (get_or c.args.draft.now.lists c.args.rest []) c.index-body-place.result
    c.loop-place.at c.in_ok-at.at (c.loop-place.place - 1) c.loop-place.place one (omega (arith, some, most)) c.index-body-place.is c.loop-place.invariant c.in_ok-at.ensures

pub draw_branches-loop-branch-preserved : goal.draw_branches-loop-branch-preserved
draw_branches-loop-branch-preserved t c =
    branches-next c.args.draft.now c.loop-branch.draft c.draw_branch.new.draft c.args.branches.now c.args.rest c.loop-branch.branch-index c.branch-item.result
    c.loop-branch.ways c.push.new.self c.in_ok-at.at c.requires c.loop-branch-test.true c.branch-item.is c.loop-branch.invariant c.in_ok-at.ensures c.in_ok-push.ensures.ok

pub draw_condition-returns : goal.draw_condition-returns
draw_condition-returns t c =
    let old = c.args.draft.now in
    let all = c.args.conditionals.now in
    let lists = ways_of_condition old.definitions old.site (get_or old.lists c.args.rest []) (get_or old.lists c.args.failed []) (slice_get all c.args.place) in
    elim c.if-place-conditionals.branch as (λ _. AreDrawn old c.if-place-conditionals.draft c.push-2.new.self lists) [
      | draw_condition-then-place-conditionals+in_ok-held+in_ok-push w ↦
          subst (λ (d : Draft). AreDrawn old d c.push-2.new.self lists) (sym w.draft-is)
          (condition-drawn old w.draw_block.new.draft all c.args.place c.args.failed c.args.rest w.in_ok-held.held w.index-conditionals-place.result w.as_slice.result.now
          c.no_ways-ways.result w.push.new.self c.push-2.new.self w.if-place-conditionals.true w.index-conditionals-place.is
          (w.as_slice.ensures ∙ ap (λ conditional. (out-Conditional conditional).block) (sym w.index-conditionals-place.is)) c.requires.failed w.in_ok-held.ensures
          c.no_ways-ways.ensures w.in_ok-push.ensures.ok (c.in_ok-push-2.ensures.ok ∙ ap (λ ways. ways ++ c.args.failed ∷ []) w.ways-is))
      | draw_condition-else-place-conditionals w ↦
          subst (λ (d : Draft). AreDrawn old d c.push-2.new.self lists) (sym w.draft-is)
          (condition-none old all c.args.place c.args.failed c.args.rest c.no_ways-ways.result c.push-2.new.self w.if-place-conditionals.false c.requires.failed c.no_ways-ways.ensures
          (c.in_ok-push-2.ensures.ok ∙ ap (λ ways. ways ++ c.args.failed ∷ []) w.ways-is))
    ]

pub draw_conditions-put-requires-clause-ways : goal.draw_conditions-put-requires-clause-ways
draw_conditions-put-requires-clause-ways t c =
    let d = c.loop-place.draft in
    let some = c.loop-place-test.true in
    let most = c.loop-place.auto.place in
    let j = c.loop-place.place - 1 in
    put-ways d c.draw_condition.new.draft c.args.statement.now (rules.From j) c.in_ok-ways.ways
    (ways_of_condition d.definitions d.site (get_or d.lists c.args.rest []) (get_or d.lists c.loop-place.failed []) (slice_get c.args.conditionals.now j)) c.args.rest c.in_ok-ways.ensures
    (rest-within c.args.draft.now d c.args.statement.now c.args.rest c.args.conditionals.now c.args.last.now c.loop-place.failed c.loop-place.place c.requires.rest c.loop-place.invariant)
    (chain-ways c.args.draft.now d c.args.statement.now c.args.rest c.args.conditionals.now c.args.last.now c.loop-place.failed c.loop-place.place c.requires.rest c.loop-place.invariant j
    (omega (arith, some)) (omega (arith, some, most)) c.requires.form)

pub draw_conditions-loop-place-preserved : goal.draw_conditions-loop-place-preserved
draw_conditions-loop-place-preserved t c =
    let d = c.loop-place.draft in
    let some = c.loop-place-test.true in
    let most = c.loop-place.auto.place in
    let j = c.loop-place.place - 1 in
    chain-next c.args.draft.now d c.args.statement.now c.args.rest c.args.conditionals.now c.args.last.now c.loop-place.failed c.loop-place.place c.requires.rest c.loop-place.invariant
    c.draw_condition.new.draft c.put.new.self c.in_ok-ways.ways
    (ways_of_condition d.definitions d.site (get_or d.lists c.args.rest []) (get_or d.lists c.loop-place.failed []) (slice_get c.args.conditionals.now j))
    c.in_ok-failed.failed j (omega (arith, some)) (omega (arith, some)) (omega (arith, some, most)) c.in_ok-ways.ensures c.in_ok-failed.ensures

pub draw_conditions-put-requires-2-clause-ways : goal.draw_conditions-put-requires-2-clause-ways
draw_conditions-put-requires-2-clause-ways t c =
    let d = c.loop-place.draft in
    let end = c.loop-place-test.false in
    let most = c.loop-place.auto.place in
    put-ways d c.draw_condition-2.new.draft c.args.statement.now rules.Whole c.in_ok-ways-2.ways
    (ways_of_condition d.definitions d.site (get_or d.lists c.args.rest []) (get_or d.lists c.loop-place.failed []) (slice_get c.args.conditionals.now 0)) c.args.rest c.in_ok-ways-2.ensures
    (rest-within c.args.draft.now d c.args.statement.now c.args.rest c.args.conditionals.now c.args.last.now c.loop-place.failed c.loop-place.place c.requires.rest c.loop-place.invariant)
    (whole-ways c.args.draft.now d c.args.statement.now c.args.rest c.args.conditionals.now c.args.last.now c.loop-place.failed c.loop-place.place c.requires.rest c.loop-place.invariant
    (λ more. omega (arith, more, end)) c.requires.form (omega (arith, most)))

pub draw_conditions-returns : goal.draw_conditions-returns
draw_conditions-returns t c =
    let old = c.args.draft.now in
    let d = c.loop-place.draft in
    let s = c.args.statement.now in
    item-more old d c.put-2.new.self s rules.Whole c.args.rest c.in_ok-at.at c.loop-place.invariant.grown c.requires.rest
    (put-drawn d c.draw_condition-2.new.draft c.put-2.new.self s rules.Whole c.in_ok-ways-2.ways
    (ways_of_condition d.definitions d.site (get_or d.lists c.args.rest []) (get_or d.lists c.loop-place.failed []) (slice_get c.args.conditionals.now 0)) c.args.rest c.in_ok-at.at c.in_ok-ways-2.ensures
    (rest-within old d s c.args.rest c.args.conditionals.now c.args.last.now c.loop-place.failed c.loop-place.place c.requires.rest c.loop-place.invariant) c.in_ok-at.ensures)

pub draw_do_while-finish_one-requires-clause-ways : goal.draw_do_while-finish_one-requires-clause-ways
draw_do_while-finish_one-requires-clause-ways t c =
    let old = c.args.draft.now in
    loop-ways old c.begin.new.self c.draw_block.new.draft c.args.body.now c.in_ok-again.again c.in_ok-held.held (rules.Doing old.site c.args.statement.now rules.Loop ∷ get_or old.lists c.args.rest [])
    c.in_ok-again.ensures c.in_ok-held.ensures
    (do-ways old.definitions old.site c.args.statement.now (get_or old.lists c.args.rest []) c.args.condition.now c.args.body.now c.requires.form)

pub draw_do_while-finish_one-requires-2-clause-ways : goal.draw_do_while-finish_one-requires-2-clause-ways
draw_do_while-finish_one-requires-2-clause-ways t c =
    do-whole-ways c.args.draft.now c.begin.new.self c.draw_block.new.draft c.finish_one.new.self c.begin-2.new.self c.args.statement.now c.args.condition.now c.args.body.now
    c.in_ok-again.again c.in_ok-held.held c.in_ok-whole.whole c.args.rest c.requires.rest c.in_ok-again.ensures c.in_ok-held.ensures c.in_ok-finish_one.ensures c.in_ok-whole.ensures c.requires.form

pub draw_do_while-returns : goal.draw_do_while-returns
draw_do_while-returns t c =
    do-drawn c.args.draft.now c.begin.new.self c.draw_block.new.draft c.finish_one.new.self c.begin-2.new.self c.args.statement.now c.args.condition.now c.args.body.now
    c.in_ok-again.again c.in_ok-held.held c.in_ok-whole.whole c.args.rest c.requires.rest c.in_ok-again.ensures c.in_ok-held.ensures c.in_ok-finish_one.ensures c.in_ok-whole.ensures
    c.finish_one-2.new.self c.in_ok-finish_one-2.ensures

pub draw_for-finish_one-requires-clause-ways : goal.draw_for-finish_one-requires-clause-ways
draw_for-finish_one-requires-clause-ways t c =
    for-ways c.args.draft.now c.declare_start.new.draft c.draw_loop.new.draft c.draw_start.new.draft c.begin.new.self c.args.statement.now c.args.start.now c.args.body.now
    c.in_ok-again.again c.in_ok-first.first c.in_ok-whole.whole c.args.rest c.requires.rest c.in_ok-declare_start.ensures c.in_ok-again.ensures c.in_ok-first.ensures c.in_ok-whole.ensures
    c.args.condition.now c.args.step.now c.requires.form

pub draw_for-returns : goal.draw_for-returns
draw_for-returns t c =
    for-drawn c.args.draft.now c.declare_start.new.draft c.draw_loop.new.draft c.draw_start.new.draft c.begin.new.self c.args.statement.now c.args.start.now c.args.body.now
    c.in_ok-again.again c.in_ok-first.first c.in_ok-whole.whole c.args.rest c.requires.rest c.in_ok-declare_start.ensures c.in_ok-again.ensures c.in_ok-first.ensures c.in_ok-whole.ensures
    c.finish_one.new.self c.in_ok-finish_one.ensures

pub draw_loop-finish_one-requires-clause-ways : goal.draw_loop-finish_one-requires-clause-ways
draw_loop-finish_one-requires-clause-ways t c =
    for-loop-ways c.args.draft.now c.begin.new.self c.draw_assignment.new.draft c.draw_block.new.draft c.args.statement.now c.args.body.now
    c.in_ok-again.again c.in_ok-last.last c.in_ok-held.held c.args.rest c.in_ok-again.ensures c.in_ok-last.ensures c.in_ok-held.ensures
    c.args.start.now c.args.condition.now c.args.step.now c.requires.form

pub draw_loop-returns : goal.draw_loop-returns
draw_loop-returns t c =
    for-loop-drawn c.args.draft.now c.begin.new.self c.draw_assignment.new.draft c.draw_block.new.draft c.args.statement.now c.args.body.now
    c.in_ok-again.again c.in_ok-last.last c.in_ok-held.held c.args.rest c.in_ok-again.ensures c.in_ok-last.ensures c.in_ok-held.ensures c.finish_one.new.self c.in_ok-finish_one.ensures

pub draw_statement-returns-in-Variables : goal.draw_statement-returns-in-Variables
draw_statement-returns-in-Variables t c =
    let old = c.args.draft.now in
    let new = c.draw_names.new.draft in
    let s = c.args.statement.now in
    let rest = get_or old.lists c.args.rest [] in
    let vs = c.in-Variables.declared in
    let count = length c.as_slice-variables.result.now in
    ok-map c.draw_names.result (λ at. IsDrawn (at_site (site_before count old.site) old) new at (declared_before old.site s count rest))
    (λ at. (site : sites.Site) → old.site ≡ rules.site_after old.definitions site s → IsDrawn (at_site site old) new at (rules.items_of_statement old.definitions site s ++ rest))
    (λ at h site behind.
    declared-drawn old new site s (Action-F.Variables vs) (sites.variable_entries (sites.scope_at old.definitions site) vs) count at rest (does-Variables s vs (sym c.get.ensures ∙ c.in-Variables.is)) refl refl
    (length-map vs.variables (λ v. (v.name, meaning.Variable (resolved (sites.scope_at old.definitions site).names vs.type_name))) ∙ ap length (sym c.as_slice-variables.ensures)) behind h)
    c.draw_names.ensures

pub draw_statement-returns-in-Constants : goal.draw_statement-returns-in-Constants
draw_statement-returns-in-Constants t c =
    let old = c.args.draft.now in
    let new = c.draw_names-in-Constants.new.draft in
    let s = c.args.statement.now in
    let rest = get_or old.lists c.args.rest [] in
    let cs = c.in-Constants.declared in
    let count = c.len.result in
    ok-map c.draw_names-in-Constants.result (λ at. IsDrawn (at_site (site_before count old.site) old) new at (declared_before old.site s count rest))
    (λ at. (site : sites.Site) → old.site ≡ rules.site_after old.definitions site s → IsDrawn (at_site site old) new at (rules.items_of_statement old.definitions site s ++ rest))
    (λ at h site behind.
    declared-drawn old new site s (Action-F.Constants cs) (sites.constant_entries (sites.scope_at old.definitions site) cs) count at rest (does-Constants s cs (sym c.get.ensures ∙ c.in-Constants.is)) refl refl
    (length-map cs.constants (λ v. (v.name, meaning.Constant (resolved (sites.scope_at old.definitions site).names cs.type_name))) ∙ sym c.len.ensures) behind h)
    c.draw_names-in-Constants.ensures

pub draw_statement-returns-in-Timers : goal.draw_statement-returns-in-Timers
draw_statement-returns-in-Timers t c =
    let old = c.args.draft.now in
    let new = c.draw_names-in-Timers.new.draft in
    let s = c.args.statement.now in
    let rest = get_or old.lists c.args.rest [] in
    let timers = c.in-Timers.timers in
    let count = c.len-in-Timers.result in
    ok-map c.draw_names-in-Timers.result (λ at. IsDrawn (at_site (site_before count old.site) old) new at (declared_before old.site s count rest))
    (λ at. (site : sites.Site) → old.site ≡ rules.site_after old.definitions site s → IsDrawn (at_site site old) new at (rules.items_of_statement old.definitions site s ++ rest))
    (λ at h site behind.
    declared-drawn old new site s (Action-F.Timers timers) (sites.timer_entries timers) count at rest (does-Timers s timers (sym c.get.ensures ∙ c.in-Timers.is)) refl refl
    (length-map timers (λ t. (t.name, meaning.Timer)) ∙ sym c.len-in-Timers.ensures) behind h)
    c.draw_names-in-Timers.ensures

pub draw_while-finish_one-requires-clause-ways : goal.draw_while-finish_one-requires-clause-ways
draw_while-finish_one-requires-clause-ways t c =
    let old = c.args.draft.now in
    loop-ways old c.begin.new.self c.draw_block.new.draft c.args.body.now c.in_ok-whole.whole c.in_ok-held.held (rules.Doing old.site c.args.statement.now rules.Whole ∷ get_or old.lists c.args.rest [])
    c.in_ok-whole.ensures c.in_ok-held.ensures
    (while-ways old.definitions old.site c.args.statement.now (get_or old.lists c.args.rest []) c.args.condition.now c.args.body.now c.requires.form)

pub draw_while-returns : goal.draw_while-returns
draw_while-returns t c =
    let old = c.args.draft.now in
    let b = c.begin.new.self in
    loop-drawn old b c.draw_block.new.draft c.finish_one.new.self c.in_ok-whole.whole c.in_ok-held.held (rules.Doing old.site c.args.statement.now rules.Whole ∷ get_or old.lists c.args.rest [])
    (rules.items b.definitions b.site c.args.body.now ++ get_or b.lists c.in_ok-whole.whole []) c.in_ok-whole.ensures c.in_ok-held.ensures c.in_ok-finish_one.ensures

pub draw_whole-returns-in_ok-otherwise-in-If : goal.draw_whole-returns-in_ok-otherwise-in-If
draw_whole-returns-in_ok-otherwise-in-If t c =
    let old = c.args.draft.now in
    let d = c.draw_block_if_any.new.draft in
    let e = c.draw_conditions.new.draft in
    let s = c.args.statement.now in
    ok-map c.draw_conditions.result (λ at. IsDrawn d e at (rules.Doing d.site s rules.Whole ∷ get_or d.lists c.args.rest []))
    (λ at. IsDrawn old e at (rules.Doing old.site s rules.Whole ∷ get_or old.lists c.args.rest []))
    (λ at h. item-more old d e s rules.Whole c.args.rest at c.in_ok-otherwise-in-If.ensures.grown c.requires h)
    c.draw_conditions.ensures
