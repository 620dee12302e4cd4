use Rattle.step_acts.proofs.InTurn.{holds-of, one-fails, one-stored, split-on}
use Rattle.step_acts.proofs.waiting.store_all.Goals as goal
use Rattle.step_acts.specs.internal.Takings.{stored_all}
use Rattle.step_choice.specs.Deeds.{stored_by}
use Rattle.step_choice.specs.declared.taken.Stored.{Stored}
use Rattle.semantics.specs.Storing.{store}
use Rattle.step_snapshot.specs.Slots.{IsKnown}
use Rattle.step_snapshot.specs.Tests.{legend_by, test_by}
use Rattle.std.proofs.Common.{map}
use Rattle.config_parts.specs.Legend.{data_by}
use Rattle.graph_items.specs.Standing.{target_of}
use Rattle.value_types.proofs.Faults.{given-by, handed-on-by}

pub store_at-requires-clause-known : goal.store_at-requires-clause-known
store_at-requires-clause-known c =
    holds-of (λ (one : Stored). IsKnown (c.args.test.now).names (one.target.now).reference.name) c.args.stored.items c.loop-one.yielded c.loop-one.one-iterator.rest.items c.next.new.self.rest.items c.in-Some.one
    c.loop-one.invariant.split c.in-Some.ensures.steps.0 c.requires.known

pub returns-in_err-own-clause-stored : goal.returns-in_err-own-clause-stored
returns-in_err-own-clause-stored c =
    let t = c.args.test.now in
    let test = test_by t in
    let legend = legend_by t in
    let one = c.in-Some.one in
    let part = store test (target_of one.target.now) one.value (data_by legend c.loop-one.own) in
    handed-on-by (data_by legend) part (stored_all test (map stored_by c.args.stored.items) (data_by legend c.args.own)) c.in_err-own.field-0.0 c.from_residual.result c.from_residual.ensures.1
    (given-by (data_by legend) part c.in_err-own.field-0.0 c.in_err-own.ensures.stored)
    (λ why fails. one-fails test stored_by c.loop-one.yielded one (data_by legend c.args.own) (data_by legend c.loop-one.own) c.loop-one.invariant.stored c.args.stored.items c.loop-one.one-iterator.rest.items c.next.new.self.rest.items why
    c.loop-one.invariant.split c.in-Some.ensures.steps.0 fails)

pub loop-one-preserved : goal.loop-one-preserved
loop-one-preserved c =
    let t = c.args.test.now in
    let legend = legend_by t in
    record {
      split = split-on c.args.stored.items c.loop-one.yielded c.loop-one.one-iterator.rest.items c.next.new.self.rest.items c.in-Some.one c.loop-one.invariant.split c.in-Some.ensures.steps.0;
      within = c.in_ok-own.ensures.within;
      stored = one-stored (test_by t) stored_by c.loop-one.yielded c.in-Some.one (data_by legend c.args.own) (data_by legend c.loop-one.own) c.loop-one.invariant.stored (data_by legend c.in_ok-own.own) c.in_ok-own.ensures.stored;
    }
