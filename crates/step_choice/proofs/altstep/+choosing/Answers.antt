use Rattle.std.proofs.Common.{◌+◌, ◌-◌, suc, true, false, arith, drop, map, Option, Some, None, Ok, Err, [], ◌∷◌, refl, sym, ap, subst, ◌∙◌}
use Rattle.std.proofs.lemmas.List.{at_drop_all}
use Rattle.std.specs.Option.{option_map}
use Rattle.ttcn_syntax.specs.declared.tree.statement.Branch.{out-Branch}
use Rattle.check_rules.specs.Calls.{altstep_meant, parameters_of}
use Rattle.check_scope.specs.Names.{kind_at, module_names}
use Rattle.semantics.specs.Branches.{branches_of, guard_holds, open_branch, written_call}
use Rattle.semantics.specs.Events as events
use Rattle.semantics.specs.Items.{items, items_if_any}
use Rattle.semantics.specs.Sites.{beginning}
use Rattle.step_choice.proofs.Alternatives.{facts-of-event, of-call, of-else, of-event}
use Rattle.step_choice.proofs.Altsteps.{as-long, fault-through, first_from_call, found-in-altstep, from-call, memory-found, no-levels, none-from-call, parameters-known, there}
use Rattle.step_choice.proofs.Choosing.{among, branch-next, first_of_branch, first_of_branches, known-at, none-chosen}
use Rattle.step_choice.proofs.Found.{fault-before, other-way, same-choice, taken-before}
use Rattle.step_choice.proofs.Guarded.{call-fault, call-given, else-taken, guard-false, guard-fault, guard-true, is-altstep}
use Rattle.step_choice.specs.Choices.{Finds}
use Rattle.step_choice.specs.declared.taken.Taken.{Taken}
use Rattle.step_choice.specs.internal.Judged.{Is, IsAmong, below, first_of, judge_of, reads, test_of}
use Rattle.step_choice.specs.internal.Later.{chance_through, choice_through, or_later}
use Rattle.step_choice.proofs.altstep.+choosing.Goals as goal
use Rattle.step_snapshot.specs.Seen.{own_by, seen_by}
use Rattle.graph_sites.specs.Facts.{branch_facts, event_by}
use Rattle.ttcn_graph.specs.Graphs.{beginnings_at}
use Rattle.ttcn_graph.specs.Ways.{items_of_branch}
use Rattle.value_types.specs.Outcomes.{Unmet, Yields}
use Rattle.value_types.specs.Templates.{arguments}

-- ---- branches

pub choose_branches-choose_branch-requires : goal.choose_branches-choose_branch-requires
choose_branches-choose_branch-requires t c = (omega (arith, c.decreases), c.requires.within)

pub choose_branches-returns-in-Ok-Some : goal.choose_branches-returns-in-Ok-Some
choose_branches-returns-in-Ok-Some t c site at same =
    let s = c.args.snapshot.now in
    let definitions = (test_of s).definitions in
    let branches = c.args.branches.now in
    let b = c.index-branches-way.result in
    let k = c.loop-way.way in
    let one = first_of_branch s c.args.levels site c.args.inner.now b in
    let later = first_of_branches s c.args.levels site c.args.inner.now (drop (k + 1) branches) in
    let P : Option Taken → Type 0 = λ r. Finds s (Is k (items_of_branch definitions site b)) one (Ok r) in
    let known = known-at event_by (branch_facts definitions site) c.args.facts.now branches k c.index-facts-way.result b same (omega (arith, c.requires.known, c.loop-way-test.true)) c.index-facts-way.is c.loop-way-test.true c.index-branches-way.is in
    same-choice s (IsAmong (map (items_of_branch definitions site) branches)) (or_later one later) (first_of_branches s c.args.levels site c.args.inner.now branches) (Ok (Some c.in-Ok-Some.taken))
    (c.loop-way.invariant site at same ∙ branch-next s c.args.levels site c.args.inner.now branches k b c.loop-way-test.true c.index-branches-way.is)
    (taken-before s (IsAmong (map (items_of_branch definitions site) branches)) one later c.in-Ok-Some.taken
    (other-way s (Is k (items_of_branch definitions site b)) (IsAmong (map (items_of_branch definitions site) branches)) one (Ok (Some c.in-Ok-Some.taken))
    (among (items_of_branch definitions site) branches k b c.loop-way-test.true c.index-branches-way.is)
    (subst P c.in-Ok-Some.field-0-is (c.in-Ok-Some.ensures site at known))))

pub choose_branches-returns-in-Err : goal.choose_branches-returns-in-Err
choose_branches-returns-in-Err t c site at same =
    let s = c.args.snapshot.now in
    let definitions = (test_of s).definitions in
    let branches = c.args.branches.now in
    let b = c.index-branches-way.result in
    let k = c.loop-way.way in
    let one = first_of_branch s c.args.levels site c.args.inner.now b in
    let later = first_of_branches s c.args.levels site c.args.inner.now (drop (k + 1) branches) in
    let known = known-at event_by (branch_facts definitions site) c.args.facts.now branches k c.index-facts-way.result b same (omega (arith, c.requires.known, c.loop-way-test.true)) c.index-facts-way.is c.loop-way-test.true c.index-branches-way.is in
    same-choice s (IsAmong (map (items_of_branch definitions site) branches)) (or_later one later) (first_of_branches s c.args.levels site c.args.inner.now branches) (Err c.in-Err.fault)
    (c.loop-way.invariant site at same ∙ branch-next s c.args.levels site c.args.inner.now branches k b c.loop-way-test.true c.index-branches-way.is)
    (fault-before s (IsAmong (map (items_of_branch definitions site) branches)) one later c.in-Err.fault
    (other-way s (Is k (items_of_branch definitions site b)) (IsAmong (map (items_of_branch definitions site) branches)) one (Err c.in-Err.fault)
    (among (items_of_branch definitions site) branches k b c.loop-way-test.true c.index-branches-way.is)
    (c.in-Err.ensures site at known)))

pub choose_branches-loop-way-preserved : goal.choose_branches-loop-way-preserved
choose_branches-loop-way-preserved t c site at same =
    let s = c.args.snapshot.now in
    let definitions = (test_of s).definitions in
    let branches = c.args.branches.now in
    let b = c.index-branches-way.result in
    let k = c.loop-way.way in
    let one = first_of_branch s c.args.levels site c.args.inner.now b in
    let later = first_of_branches s c.args.levels site c.args.inner.now (drop (k + 1) branches) in
    let P : Option Taken → Type 0 = λ r. Finds s (Is k (items_of_branch definitions site b)) one (Ok r) in
    let known = known-at event_by (branch_facts definitions site) c.args.facts.now branches k c.index-facts-way.result b same (omega (arith, c.requires.known, c.loop-way-test.true)) c.index-facts-way.is c.loop-way-test.true c.index-branches-way.is in
    c.loop-way.invariant site at same ∙ branch-next s c.args.levels site c.args.inner.now branches k b c.loop-way-test.true c.index-branches-way.is
    ∙ none-chosen one later (subst P c.in-Ok-None.field-0-is (c.in-Ok-None.ensures site at known))

pub choose_branches-returns : goal.choose_branches-returns
choose_branches-returns t c site at same =
    c.loop-way.invariant site at same
    ∙ at_drop_all (first_of_branches c.args.snapshot.now c.args.levels site c.args.inner.now) c.args.branches.now c.loop-way.way (omega (arith, c.loop-way-test.false))

-- ---- one branch

pub choose_branch-choose_call-requires : goal.choose_branch-choose_call-requires
choose_branch-choose_call-requires t c = (omega (arith, c.decreases), c.requires)

pub choose_branch-returns-in-Ok-true : goal.choose_branch-returns-in-Ok-true
choose_branch-returns-in-Ok-true t c site at same =
    let s = c.args.snapshot.now in
    let b = c.args.branch.now in
    let inner = c.args.inner.now in
    let guard = c.in-Event.guard in
    let block = items_if_any (test_of s).definitions site c.in-Event._block in
    of-event s c.args.levels c.args.way site inner b guard c.in-Event.event c.in-Event._block c.choose_open.result (sym c.get.ensures ∙ c.in-Event.is)
    (guard-true s (Is c.args.way block) (guard_holds (reads s site inner) guard) (open_branch (test_of s) (judge_of s site inner) (out-Branch b).place (Some c.in-Event.event) block ∷ []) c.choose_open.result
    (c.in-Ok-true.ensures site at ∙ ap Yields c.in-Ok-true.field-0-test)
    (c.choose_open.ensures site block at (facts-of-event s site b guard c.in-Event.event c.in-Event._block (event_by c.args.facts.now) (sym c.get.ensures ∙ c.in-Event.is) same)))

pub choose_branch-returns-in-Ok-false : goal.choose_branch-returns-in-Ok-false
choose_branch-returns-in-Ok-false t c site at same =
    let s = c.args.snapshot.now in
    let b = c.args.branch.now in
    let inner = c.args.inner.now in
    let guard = c.in-Event.guard in
    let block = items_if_any (test_of s).definitions site c.in-Event._block in
    of-event s c.args.levels c.args.way site inner b guard c.in-Event.event c.in-Event._block (Ok None) (sym c.get.ensures ∙ c.in-Event.is)
    (guard-false s (guard_holds (reads s site inner) guard) (open_branch (test_of s) (judge_of s site inner) (out-Branch b).place (Some c.in-Event.event) block ∷ [])
    (c.in-Ok-false.ensures site at ∙ ap Yields c.in-Ok-false.field-0-test))

pub choose_branch-returns-in-Err : goal.choose_branch-returns-in-Err
choose_branch-returns-in-Err t c site at same =
    let s = c.args.snapshot.now in
    let b = c.args.branch.now in
    let inner = c.args.inner.now in
    let guard = c.in-Event.guard in
    let block = items_if_any (test_of s).definitions site c.in-Event._block in
    of-event s c.args.levels c.args.way site inner b guard c.in-Event.event c.in-Event._block (Err c.in-Err.fault) (sym c.get.ensures ∙ c.in-Event.is)
    (guard-fault s (Is c.args.way block) (guard_holds (reads s site inner) guard) (open_branch (test_of s) (judge_of s site inner) (out-Branch b).place (Some c.in-Event.event) block ∷ []) c.in-Err.fault
    (c.in-Err.ensures site at))

pub choose_branch-returns-in-Ok-true-holds : goal.choose_branch-returns-in-Ok-true-holds
choose_branch-returns-in-Ok-true-holds t c site at same =
    let s = c.args.snapshot.now in
    let b = c.args.branch.now in
    let inner = c.args.inner.now in
    let guard = c.in-Call.guard in
    let call = c.in-Call.call in
    let block = items_if_any (test_of s).definitions site c.in-Call._block in
    of-call s c.args.levels c.args.way site inner b guard call c.in-Call._block c.choose_call.result (sym c.get.ensures ∙ c.in-Call.is)
    (guard-true s (Is c.args.way block) (guard_holds (reads s site inner) guard)
    (written_call (below c.args.levels s) (test_of s) (seen_by s) (own_by s) (judge_of s site inner) call block (altstep_meant (module_names (test_of s).definitions call.name))) c.choose_call.result
    (c.in-Ok-true-holds.ensures site at ∙ ap Yields c.in-Ok-true-holds.field-0-test)
    (c.choose_call.ensures site block at))

pub choose_branch-returns-in-Ok-false-holds : goal.choose_branch-returns-in-Ok-false-holds
choose_branch-returns-in-Ok-false-holds t c site at same =
    let s = c.args.snapshot.now in
    let b = c.args.branch.now in
    let inner = c.args.inner.now in
    let guard = c.in-Call.guard in
    let call = c.in-Call.call in
    let block = items_if_any (test_of s).definitions site c.in-Call._block in
    of-call s c.args.levels c.args.way site inner b guard call c.in-Call._block (Ok None) (sym c.get.ensures ∙ c.in-Call.is)
    (guard-false s (guard_holds (reads s site inner) guard)
    (written_call (below c.args.levels s) (test_of s) (seen_by s) (own_by s) (judge_of s site inner) call block (altstep_meant (module_names (test_of s).definitions call.name)))
    (c.in-Ok-false-holds.ensures site at ∙ ap Yields c.in-Ok-false-holds.field-0-test))

pub choose_branch-returns-in-Err-holds : goal.choose_branch-returns-in-Err-holds
choose_branch-returns-in-Err-holds t c site at same =
    let s = c.args.snapshot.now in
    let b = c.args.branch.now in
    let inner = c.args.inner.now in
    let guard = c.in-Call.guard in
    let call = c.in-Call.call in
    let block = items_if_any (test_of s).definitions site c.in-Call._block in
    of-call s c.args.levels c.args.way site inner b guard call c.in-Call._block (Err c.in-Err-holds.fault) (sym c.get.ensures ∙ c.in-Call.is)
    (guard-fault s (Is c.args.way block) (guard_holds (reads s site inner) guard)
    (written_call (below c.args.levels s) (test_of s) (seen_by s) (own_by s) (judge_of s site inner) call block (altstep_meant (module_names (test_of s).definitions call.name))) c.in-Err-holds.fault
    (c.in-Err-holds.ensures site at))

pub choose_branch-returns-in-Else : goal.choose_branch-returns-in-Else
choose_branch-returns-in-Else t c site at same =
    let s = c.args.snapshot.now in
    let b = c.args.branch.now in
    let inner = c.args.inner.now in
    let block = items (test_of s).definitions site c.in-Else._block in
    let P : Taken → Type 0 = λ taken. Finds s (Is c.args.way block) (first_of s (open_branch (test_of s) (judge_of s site inner) (out-Branch b).place None block ∷ [])) (Ok (Some taken)) in
    of-else s c.args.levels c.args.way site inner b c.in-Else._block (Ok (Some c.taken.result)) (sym c.get.ensures ∙ c.in-Else.is)
    (subst P (sym c.taken.ensures) (else-taken s (judge_of s site inner) (out-Branch b).place c.args.way block))

-- ---- calls

pub choose_call-choose_called-requires : goal.choose_call-choose_called-requires
choose_call-choose_called-requires t c = (omega (arith, c.decreases), c.requires)

pub choose_call-returns-in-Some : goal.choose_call-returns-in-Some
choose_call-returns-in-Some t c site block at =
    let s = c.args.snapshot.now in
    let write = written_call (below c.args.levels s) (test_of s) (seen_by s) (own_by s) (judge_of s site c.args.inner.now) c.args.call.now block in
    same-choice s (Is c.args.way block) (first_of s (write (Some c.in-Some.at))) (first_of s (write (altstep_meant (module_names (test_of s).definitions c.args.call.now.name)))) c.choose_called.result
    (ap (λ o. first_of s (write o)) (sym c.altstep_called.ensures ∙ c.in-Some.is)) (c.choose_called.ensures site block at)

pub choose_call-returns-in-None : goal.choose_call-returns-in-None
choose_call-returns-in-None t c site block at =
    let s = c.args.snapshot.now in
    let write = written_call (below c.args.levels s) (test_of s) (seen_by s) (own_by s) (judge_of s site c.args.inner.now) c.args.call.now block in
    (Unmet, ap (λ o. first_of s (write o)) (sym c.altstep_called.ensures ∙ c.in-None.is))

pub choose_called-choose_altstep-requires : goal.choose_called-choose_altstep-requires
choose_called-choose_altstep-requires t c = omega (arith, c.decreases)

pub choose_called-returns-in-Ok : goal.choose_called-returns-in-Ok
choose_called-returns-in-Ok t c site block at =
    let s = c.args.snapshot.now in
    call-given s (Is c.args.way block) c.args.levels c.args.at block (arguments (reads s site c.args.inner.now) (parameters_of (kind_at (test_of s).definitions c.args.at)) c.args.call.now.arguments) c.in-Ok.values c.choose_altstep.result
    (c.in-Ok.ensures site at) (c.choose_altstep.ensures block)

pub choose_called-returns-in-Err : goal.choose_called-returns-in-Err
choose_called-returns-in-Err t c site block at =
    let s = c.args.snapshot.now in
    call-fault s (Is c.args.way block) c.args.levels c.args.at block (arguments (reads s site c.args.inner.now) (parameters_of (kind_at (test_of s).definitions c.args.at)) c.args.call.now.arguments) c.in-Err.fault
    (c.in-Err.ensures site at)

-- ---- altsteps

pub choose_altstep-returns-then-levels-eq0 : goal.choose_altstep-returns-then-levels-eq0
choose_altstep-returns-then-levels-eq0 t c block =
    let s = c.args.snapshot.now in
    (Unmet, no-levels s c.args.levels c.args.at c.args.values block (branches_of (kind_at (test_of s).definitions c.args.at)) c.if-levels-eq0.true)

pub choose_altstep-returns-in_default : goal.choose_altstep-returns-in_default
choose_altstep-returns-in_default t c block =
    none-from-call c.args.snapshot.now c.args.levels (c.args.levels - 1) c.args.at c.args.values block (omega (arith, c.if-levels-eq0.false))
    (sym c.altstep_at.ensures ∙ ap (option_map (λ altstep. altstep.now)) c.in_default.is)

pub choose_altstep-argument_cells-requires : goal.choose_altstep-argument_cells-requires
choose_altstep-argument_cells-requires t c =
    let test = c.args.snapshot.now.test.now in
    parameters-known test.names (kind_at test.definitions c.args.at) c.in-Some.altstep.now
    (is-altstep (kind_at test.definitions c.args.at) c.in-Some.altstep.now (sym c.altstep_at.ensures ∙ ap (option_map (λ altstep. altstep.now)) c.in-Some.is))
    (test.known c.args.at)

pub choose_altstep-returns-in_err-inner : goal.choose_altstep-returns-in_err-inner
choose_altstep-returns-in_err-inner t c block =
    let s = c.args.snapshot.now in
    memory-found s (Is c.args.way block) (first_from_call s c.args.levels c.args.at c.args.values block (branches_of (kind_at (test_of s).definitions c.args.at))) c.from_residual.result c.from_residual.ensures.1

pub choose_altstep-choose_branches-requires : goal.choose_altstep-choose_branches-requires
choose_altstep-choose_branches-requires t c =
    let test = c.args.snapshot.now.test.now in
    let kind_is = is-altstep (kind_at test.definitions c.args.at) c.in-Some.altstep.now (sym c.altstep_at.ensures ∙ ap (option_map (λ altstep. altstep.now)) c.in-Some.is) in (
      omega (arith, c.decreases, c.if-levels-eq0.false),
      (
        c.in_ok-inner.ensures.within,
        as-long event_by (branch_facts test.definitions (beginning c.args.at)) c.altstep_facts-facts.result.now c.as_slice-branches.result.now
            (c.altstep_facts-facts.ensures ∙ ap (map (branch_facts test.definitions (beginning c.args.at))) (ap branches_of kind_is ∙ sym c.as_slice-branches.ensures)),
      ),
    )

pub choose_altstep-through-requires-clause-start : goal.choose_altstep-through-requires-clause-start
choose_altstep-through-requires-clause-start t c =
    let s = c.args.snapshot.now in
    let definitions = (test_of s).definitions in
    let at = c.args.at in
    let branches = c.as_slice-branches.result.now in
    let inner = c.in_ok-inner.inner in
    let kind_is = is-altstep (kind_at definitions at) c.in-Some.altstep.now (sym c.altstep_at.ensures ∙ ap (option_map (λ altstep. altstep.now)) c.in-Some.is) in
    let facts = c.altstep_facts-facts.ensures ∙ ap (map (branch_facts definitions (beginning at))) (ap branches_of kind_is ∙ sym c.as_slice-branches.ensures) in
    let P : Option Taken → Type 0 = λ r. Finds s (IsAmong (map (items_of_branch definitions (beginning at)) branches)) (first_of_branches s (c.args.levels - 1) (beginning at) inner branches) (Ok r) in
    let found : Finds s (IsAmong (beginnings_at definitions at)) (first_of_branches s (c.args.levels - 1) (beginning at) inner (branches_of (kind_at definitions at))) (Ok (Some c.in-Ok-Some.taken)) =
    found-in-altstep s (c.args.levels - 1) at inner branches c.in-Some.altstep.now (kind_at definitions at) (Ok (Some c.in-Ok-Some.taken)) c.as_slice-branches.ensures kind_is
    (subst P c.in-Ok-Some.field-0-is (c.in-Ok-Some.ensures (beginning at) refl facts)) in
    there (beginnings_at definitions at) c.in-Ok-Some.taken.way found.0.way.block found.1.1.1.way

pub choose_altstep-returns-in-Ok-Some : goal.choose_altstep-returns-in-Ok-Some
choose_altstep-returns-in-Ok-Some t c block =
    let s = c.args.snapshot.now in
    let definitions = (test_of s).definitions in
    let at = c.args.at in
    let branches = c.as_slice-branches.result.now in
    let inner = c.in_ok-inner.inner in
    let kind_is = is-altstep (kind_at definitions at) c.in-Some.altstep.now (sym c.altstep_at.ensures ∙ ap (option_map (λ altstep. altstep.now)) c.in-Some.is) in
    let facts = c.altstep_facts-facts.ensures ∙ ap (map (branch_facts definitions (beginning at))) (ap branches_of kind_is ∙ sym c.as_slice-branches.ensures) in
    let P : Option Taken → Type 0 = λ r. Finds s (IsAmong (map (items_of_branch definitions (beginning at)) branches)) (first_of_branches s (c.args.levels - 1) (beginning at) inner branches) (Ok r) in
    let found : Finds s (IsAmong (beginnings_at definitions at)) (first_of_branches s (c.args.levels - 1) (beginning at) inner (branches_of (kind_at definitions at))) (Ok (Some c.in-Ok-Some.taken)) =
    found-in-altstep s (c.args.levels - 1) at inner branches c.in-Some.altstep.now (kind_at definitions at) (Ok (Some c.in-Ok-Some.taken)) c.as_slice-branches.ensures kind_is
    (subst P c.in-Ok-Some.field-0-is (c.in-Ok-Some.ensures (beginning at) refl facts)) in
    same-choice s (Is c.args.way block) (events.Taken (chance_through (test_of s) at c.args.values block found.0) found.1.0) (first_from_call s c.args.levels at c.args.values block (branches_of (kind_at definitions at))) c.through.result
    (from-call s c.args.levels (c.args.levels - 1) at c.args.values block inner (branches_of (kind_at definitions at)) (omega (arith, c.if-levels-eq0.false)) c.in_ok-inner.ensures.said
    ∙ ap (choice_through (test_of s) at c.args.values block) found.1.1.0)
    (c.through.ensures found.0 found.1.0 c.args.values block found.1.1.1 c.in_ok-inner.ensures.said)

pub choose_altstep-returns-in-Ok-None : goal.choose_altstep-returns-in-Ok-None
choose_altstep-returns-in-Ok-None t c block =
    let s = c.args.snapshot.now in
    let definitions = (test_of s).definitions in
    let at = c.args.at in
    let branches = c.as_slice-branches.result.now in
    let inner = c.in_ok-inner.inner in
    let kind_is = is-altstep (kind_at definitions at) c.in-Some.altstep.now (sym c.altstep_at.ensures ∙ ap (option_map (λ altstep. altstep.now)) c.in-Some.is) in
    let facts = c.altstep_facts-facts.ensures ∙ ap (map (branch_facts definitions (beginning at))) (ap branches_of kind_is ∙ sym c.as_slice-branches.ensures) in
    let P : Option Taken → Type 0 = λ r. Finds s (IsAmong (map (items_of_branch definitions (beginning at)) branches)) (first_of_branches s (c.args.levels - 1) (beginning at) inner branches) (Ok r) in
    let found : Finds s (IsAmong (beginnings_at definitions at)) (first_of_branches s (c.args.levels - 1) (beginning at) inner (branches_of (kind_at definitions at))) (Ok None) =
    found-in-altstep s (c.args.levels - 1) at inner branches c.in-Some.altstep.now (kind_at definitions at) (Ok None) c.as_slice-branches.ensures kind_is
    (subst P c.in-Ok-None.field-0-is (c.in-Ok-None.ensures (beginning at) refl facts)) in
    from-call s c.args.levels (c.args.levels - 1) at c.args.values block inner (branches_of (kind_at definitions at)) (omega (arith, c.if-levels-eq0.false)) c.in_ok-inner.ensures.said
    ∙ ap (choice_through (test_of s) at c.args.values block) found

pub choose_altstep-returns : goal.choose_altstep-returns
choose_altstep-returns t c block =
    let s = c.args.snapshot.now in
    let definitions = (test_of s).definitions in
    let at = c.args.at in
    let branches = c.as_slice-branches.result.now in
    let inner = c.in_ok-inner.inner in
    let kind_is = is-altstep (kind_at definitions at) c.in-Some.altstep.now (sym c.altstep_at.ensures ∙ ap (option_map (λ altstep. altstep.now)) c.in-Some.is) in
    let facts = c.altstep_facts-facts.ensures ∙ ap (map (branch_facts definitions (beginning at))) (ap branches_of kind_is ∙ sym c.as_slice-branches.ensures) in
    let chosen = first_of_branches s (c.args.levels - 1) (beginning at) inner (branches_of (kind_at definitions at)) in
    let found : Finds s (IsAmong (beginnings_at definitions at)) chosen (Err c.in-Err.fault) =
    found-in-altstep s (c.args.levels - 1) at inner branches c.in-Some.altstep.now (kind_at definitions at) (Err c.in-Err.fault) c.as_slice-branches.ensures kind_is
    (c.in-Err.ensures (beginning at) refl facts) in
    same-choice s (Is c.args.way block) (choice_through (test_of s) at c.args.values block chosen) (first_from_call s c.args.levels at c.args.values block (branches_of (kind_at definitions at))) (Err c.in-Err.fault)
    (from-call s c.args.levels (c.args.levels - 1) at c.args.values block inner (branches_of (kind_at definitions at)) (omega (arith, c.if-levels-eq0.false)) c.in_ok-inner.ensures.said)
    (fault-through s (IsAmong (beginnings_at definitions at)) (Is c.args.way block) at c.args.values block chosen c.in-Err.fault found)
