use Rattle.std.proofs.Common.{◌++◌, ◌∷◌, [], length, subst, sym}
use Rattle.std.specs.Prelude.{Contains}
use Rattle.std.specs.List.{AllZip}
use Rattle.std.proofs.lemmas.Iterator.Adapters.{YieldsList-from_vec}
use Rattle.std.proofs.lemmas.Iterator.Consumers.{YieldsList-turn}
use Rattle.std.proofs.lemmas.List.Elements.{AllZip-push, Contains-get_or}
use Rattle.std.proofs.lemmas.Result.{err_from_is_err_and}
use Rattle.ttcnx.proofs.few.fewest_outcomes.Goals as goal
use Rattle.ttcnx.specs.Few.{IsFewestOutcome}

pub loop-outcome-preserved : goal.loop-outcome-preserved
loop-outcome-preserved g c =
    let before = c.loop-outcome.fewest.items in
    let added = c.in_ok-fewest_outcome.field-0 in
    let is = IsFewestOutcome c.args.machine.now.test c.args.patient c.args.plan.now.steps in
    subst (AllZip is (c.loop-outcome.yielded ++ c.in-Some.outcome ∷ [])) (sym c.in_ok-push.ensures.items)
    (AllZip-push is c.loop-outcome.yielded before c.in-Some.outcome added c.loop-outcome.invariant c.in_ok-fewest_outcome.ensures.fewest)

-- the outcome stands among those that are given
pub returns-in_err-fewest_outcome-clause-too_many : goal.returns-in_err-fewest_outcome-clause-too_many
returns-in_err-fewest_outcome-clause-too_many g c many =
    let items = c.args.outcomes.items in
    let turn = YieldsList-turn (YieldsList-from_vec {s = c.into_iter-outcome-iterator.result} items (cc) (cc)) c.loop-outcome.yielded c.loop-outcome.outcome-iterator c.loop-outcome.yielded_by
    c.next.result c.next.new.self c.in-Some.outcome c.in-Some.is c.next.ensures.steps in
    let p = err_from_is_err_and c.from_residual.result c.from_residual.ensures.1 in (
      c.in-Some.outcome,
      subst (Contains items) (sym turn.1) (Contains-get_or items (length c.loop-outcome.yielded) c.in-Some.outcome turn.0),
      c.in_err-fewest_outcome.ensures.too_many (cc (p.1, p.2, many)),
    )
