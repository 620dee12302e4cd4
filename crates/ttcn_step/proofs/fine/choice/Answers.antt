use Rattle.std.proofs.Common.{◌≡◌, Option, Some, None, Ok, Err, ap, subst, sym, ◌∙◌, option_map}
use Rattle.laws_fine.specs.Holding.{act_then, follow}
use Rattle.step_forms.specs.Asks.{Asks, AsksWithin, IsFault, uncovered_act}
use Rattle.semantics.specs.Snapshots.{snapshot_of}
use Rattle.semantics.specs.Statements as said
use Rattle.semantics.specs.Steps.{apply, settled}
use Rattle.step_snapshot.specs.Tests.{extent_of, legend_by, test_by}
use Rattle.config_parts.specs.Acts.{IsUncovered, act_by}
use Rattle.config_parts.specs.Legend.{component_by, config_by, going_by}
use Rattle.config_parts.specs.declared.act.Act.{Act}
use Rattle.ttcn_step.proofs.FineChoices.{fault-chosen, fault-fate, takes-chosen, takes-fate, then-found, waits-chosen, waits-fate}
use Rattle.ttcn_step.proofs.FineSteps.{fits-done}
use Rattle.ttcn_step.proofs.Found.{found-within, said-found, searched}
use Rattle.ttcn_step.proofs.Steps.{apply-uncovered, is-uncovered, paths-in-order}
use Rattle.ttcn_step.proofs.fine.choice.Goals as goal
use Rattle.ttcn_step.specs.Machines.{machine_of}
use Rattle.ttcn_step.specs.internal.Fine.{held_by}
use Rattle.ttcn_step.specs.internal.Steps as spec
use Rattle.value_types.specs.declared.fault.Fault.{Fault}

pub returns-in_default-clause-after : goal.returns-in_default-clause-after
returns-in_default-clause-after c =
    let t = c.args.test.now in
    let entry = c.args.entry.now in
    waits-chosen (test_by t) (going_by (legend_by t) c.args.going.now) c.args.itself.now entry.since.items (act_then (test_by t) (held_by (legend_by t) entry))
    (ap uncovered_act (then-found (legend_by t) (test_by t) entry None
    (searched entry.path.numbers c.as_slice.result.now entry.taken.components c.component_of.result None c.component_of.ensures c.as_slice.ensures c.in_default.is)))

pub returns-in_default-clause-fate : goal.returns-in_default-clause-fate
returns-in_default-clause-fate c =
    let t = c.args.test.now in
    let entry = c.args.entry.now in
    waits-fate (test_by t) (going_by (legend_by t) c.args.going.now) c.args.itself.now entry.since.items (act_then (test_by t) (held_by (legend_by t) entry))
    (ap uncovered_act (then-found (legend_by t) (test_by t) entry None
    (searched entry.path.numbers c.as_slice.result.now entry.taken.components c.component_of.result None c.component_of.ensures c.as_slice.ensures c.in_default.is)))

pub asked-requires-clause-ordered : goal.asked-requires-clause-ordered
asked-requires-clause-ordered c = paths-in-order (legend_by c.args.test.now) c.args.entry.now.taken c.requires.taken.ordered.ordered

pub asked-requires-clause-within : goal.asked-requires-clause-within
asked-requires-clause-within c =
    let entry = c.args.entry.now in
    found-within (extent_of c.args.test.now) entry.path.numbers entry.taken.components c.in-Some.asking.now c.requires.taken.within.components
    (searched entry.path.numbers c.as_slice.result.now entry.taken.components c.component_of.result (Some c.in-Some.asking) c.component_of.ensures c.as_slice.ensures c.in-Some.is)

pub follow-requires : goal.follow-requires
follow-requires c =
    let t = c.args.test.now in
    let l = legend_by t in
    let entry = c.args.entry.now in
    let x = c.in-Some.asking.now in
    let g = going_by l c.args.going.now in
    let asks = spec.asked t entry.taken x in
    let found = searched entry.path.numbers c.as_slice.result.now entry.taken.components c.component_of.result (Some c.in-Some.asking) c.component_of.ensures c.as_slice.ensures c.in-Some.is in
    let asked : uncovered_act asks ≡ act_by l c.in-Ok-Some.act = let P : Option Act → Type 0 = λ o. Asks l (uncovered_act asks) (Ok o) in subst P c.in-Ok-Some.field-0-is c.in-Ok-Some.ensures.asks in
    let within = let P : Option Act → Type 0 = λ o. AsksWithin (extent_of t) (Ok o) in subst P c.in-Ok-Some.field-0-is c.in-Ok-Some.ensures.within in
    let behind = c.in_ok-after-in-Ok-Some.ensures.behind l (test_by t) c.slots_are_ordered.ensures.legend (paths-in-order l c.args.going.now c.requires.now.ordered.ordered) (subst IsUncovered asked (is-uncovered asks)) in
    fits-done (machine_of t) c.args.going.now entry.taken c.args.itself.now entry.path (component_by l x) (snapshot_of (going_by l entry.taken) (component_by l x)) c.in_ok-after-in-Ok-Some.after c.requires.now c.requires.taken
    (said-found l (test_by t) entry.taken entry.path (Some x) found)
    (sym (behind ∙ ap (λ b. option_map settled (apply (test_by t) g c.args.itself.now b)) (sym asked) ∙ ap (option_map settled) (apply-uncovered (test_by t) g c.args.itself.now asks)))
    (c.in_ok-after-in-Ok-Some.ensures.within (extent_of t) c.requires.now.within within)

pub returns-in-Ok-None-clause-after : goal.returns-in-Ok-None-clause-after
returns-in-Ok-None-clause-after c =
    let t = c.args.test.now in
    let l = legend_by t in
    let entry = c.args.entry.now in
    let x = c.in-Some.asking.now in
    let asks = spec.asked t entry.taken x in
    let found = searched entry.path.numbers c.as_slice.result.now entry.taken.components c.component_of.result (Some c.in-Some.asking) c.component_of.ensures c.as_slice.ensures c.in-Some.is in
    let waits : uncovered_act asks ≡ said.Waits = let P : Option Act → Type 0 = λ o. Asks l (uncovered_act asks) (Ok o) in subst P c.in-Ok-None.field-0-is c.in-Ok-None.ensures.asks in
    waits-chosen (test_by t) (going_by l c.args.going.now) c.args.itself.now entry.since.items (act_then (test_by t) (held_by l entry)) (ap uncovered_act (then-found l (test_by t) entry (Some x) found) ∙ waits)

pub returns-in-Ok-None-clause-fate : goal.returns-in-Ok-None-clause-fate
returns-in-Ok-None-clause-fate c =
    let t = c.args.test.now in
    let l = legend_by t in
    let entry = c.args.entry.now in
    let x = c.in-Some.asking.now in
    let asks = spec.asked t entry.taken x in
    let found = searched entry.path.numbers c.as_slice.result.now entry.taken.components c.component_of.result (Some c.in-Some.asking) c.component_of.ensures c.as_slice.ensures c.in-Some.is in
    let waits : uncovered_act asks ≡ said.Waits = let P : Option Act → Type 0 = λ o. Asks l (uncovered_act asks) (Ok o) in subst P c.in-Ok-None.field-0-is c.in-Ok-None.ensures.asks in
    waits-fate (test_by t) (going_by l c.args.going.now) c.args.itself.now entry.since.items (act_then (test_by t) (held_by l entry)) (ap uncovered_act (then-found l (test_by t) entry (Some x) found) ∙ waits)

pub returns-in_ok-after-in-Ok-Some-2-clause-after : goal.returns-in_ok-after-in-Ok-Some-2-clause-after
returns-in_ok-after-in-Ok-Some-2-clause-after c =
    let t = c.args.test.now in
    let l = legend_by t in
    let entry = c.args.entry.now in
    let x = c.in-Some.asking.now in
    let g = going_by l c.args.going.now in
    let asks = spec.asked t entry.taken x in
    let found = searched entry.path.numbers c.as_slice.result.now entry.taken.components c.component_of.result (Some c.in-Some.asking) c.component_of.ensures c.as_slice.ensures c.in-Some.is in
    let asked : uncovered_act asks ≡ act_by l c.in-Ok-Some.act = let P : Option Act → Type 0 = λ o. Asks l (uncovered_act asks) (Ok o) in subst P c.in-Ok-Some.field-0-is c.in-Ok-Some.ensures.asks in
    let behind = c.in_ok-after-in-Ok-Some.ensures.behind l (test_by t) c.slots_are_ordered.ensures.legend (paths-in-order l c.args.going.now c.requires.now.ordered.ordered) (subst IsUncovered asked (is-uncovered asks)) in
    takes-chosen (test_by t) g c.args.itself.now entry.since.items (act_then (test_by t) (held_by l entry)) l c.in-Ok-Some.act c.in_ok-after-in-Ok-Some.after c.in_ok-after-in-Ok-Some-2.after
    (ap uncovered_act (then-found l (test_by t) entry (Some x) found) ∙ asked) behind
    (c.in_ok-after-in-Ok-Some-2.ensures.follows ∙ ap (λ ls. follow (test_by t) ls (config_by l c.in_ok-after-in-Ok-Some.after)) c.as_slice-in-Ok-Some.ensures.value)

pub returns-in_ok-after-in-Ok-Some-2-clause-fate : goal.returns-in_ok-after-in-Ok-Some-2-clause-fate
returns-in_ok-after-in-Ok-Some-2-clause-fate c =
    let t = c.args.test.now in
    let l = legend_by t in
    let entry = c.args.entry.now in
    let x = c.in-Some.asking.now in
    let asks = spec.asked t entry.taken x in
    let found = searched entry.path.numbers c.as_slice.result.now entry.taken.components c.component_of.result (Some c.in-Some.asking) c.component_of.ensures c.as_slice.ensures c.in-Some.is in
    let asked : uncovered_act asks ≡ act_by l c.in-Ok-Some.act = let P : Option Act → Type 0 = λ o. Asks l (uncovered_act asks) (Ok o) in subst P c.in-Ok-Some.field-0-is c.in-Ok-Some.ensures.asks in
    takes-fate (test_by t) (going_by l c.args.going.now) c.args.itself.now entry.since.items (act_then (test_by t) (held_by l entry)) l c.in-Ok-Some.act (ap uncovered_act (then-found l (test_by t) entry (Some x) found) ∙ asked)

pub returns-in-Err-Dynamic-clause-after : goal.returns-in-Err-Dynamic-clause-after
returns-in-Err-Dynamic-clause-after c =
    let t = c.args.test.now in
    let l = legend_by t in
    let entry = c.args.entry.now in
    let x = c.in-Some.asking.now in
    let asks = spec.asked t entry.taken x in
    let found = searched entry.path.numbers c.as_slice.result.now entry.taken.components c.component_of.result (Some c.in-Some.asking) c.component_of.ensures c.as_slice.ensures c.in-Some.is in
    let fault : IsFault (uncovered_act asks) = let P : Fault → Type 0 = λ f. Asks l (uncovered_act asks) (Err f) in subst P c.in-Err-Dynamic.field-0-is c.in-Err-Dynamic.ensures.asks in
    fault-chosen (test_by t) (going_by l c.args.going.now) c.args.itself.now entry.since.items (act_then (test_by t) (held_by l entry))
    (subst (λ b. IsFault (uncovered_act b)) (sym (then-found l (test_by t) entry (Some x) found)) fault)

pub returns-in-Err-Dynamic-clause-fate : goal.returns-in-Err-Dynamic-clause-fate
returns-in-Err-Dynamic-clause-fate c =
    let t = c.args.test.now in
    let l = legend_by t in
    let entry = c.args.entry.now in
    let x = c.in-Some.asking.now in
    let asks = spec.asked t entry.taken x in
    let found = searched entry.path.numbers c.as_slice.result.now entry.taken.components c.component_of.result (Some c.in-Some.asking) c.component_of.ensures c.as_slice.ensures c.in-Some.is in
    let fault : IsFault (uncovered_act asks) = let P : Fault → Type 0 = λ f. Asks l (uncovered_act asks) (Err f) in subst P c.in-Err-Dynamic.field-0-is c.in-Err-Dynamic.ensures.asks in
    fault-fate (act_then (test_by t) (held_by l entry)) (subst (λ b. IsFault (uncovered_act b)) (sym (then-found l (test_by t) entry (Some x) found)) fault)
