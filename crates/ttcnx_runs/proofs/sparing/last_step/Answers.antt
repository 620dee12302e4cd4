use Rattle.std.proofs.Common.{◌≡◌, ◌+◌, ◌<◌, ℕ, List, Some, ap, arith, get_or, length, subst, ◌∙◌}
use Rattle.std.proofs.lemmas.List.{length_push}
use Rattle.std.specs.List.{flat_map}
use Rattle.std.specs.Prelude.{slice_get}
use Rattle.config_packed.specs.Pieces.{spell_key}
use Rattle.ttcnx_runs.proofs.Gathering.{keys-more}
use Rattle.ttcnx_runs.proofs.LastSteps.{first-keys, many-more, step-found}
use Rattle.ttcnx_runs.proofs.Parting.{as-long, get-found}
use Rattle.ttcnx_runs.proofs.Recalled.{if-some}
use Rattle.ttcnx_runs.proofs.sparing.last_step.Goals as goal
use Rattle.ttcnx_runs.specs.declared.outcome.Outcome.{Outcome}

pub loop-at-preserved : goal.loop-at-preserved
loop-at-preserved g c =
    let one = c.in-Some.one in
    let known = c.loop-at.known.items in
    let all = c.push.new.self.items in
    let at = c.loop-at.at in
    let outcomes : c.as_slice-outcomes.result.now ≡ one.now.outcomes.items = c.as_slice-outcomes.ensures.value in
    let long = ap length outcomes in
    let more = ap (λ xs. length (flat_map (λ one. one.now.outcomes.items) xs)) c.in_ok-push.ensures.items ∙ many-more (λ one. one.now.outcomes.items) known one in
    let before = c.loop-at.invariant.counted in
    record {
      count = ap length c.in_ok-push.ensures.items ∙ length_push known one ∙ ap (λ (n : ℕ). n + 1) c.loop-at.invariant.count;
      counted = omega (arith, long, more, before, c.if-left-outcomes.false);
      each = λ earlier going cut behind.
          keys-more known all one (λ one. one.now.key.items) earlier at c.in_ok-push.ensures.items c.loop-at.invariant.count (c.loop-at.invariant.each earlier going cut behind)
          (λ component found. if-some c.in_ok-one.field-0 one (λ one. one.now.key.items ≡ spell_key earlier at component) (c.in_ok-one.ensures earlier going component cut behind found) c.in-Some.is);
    }

pub returns-then-left-outcomes : goal.returns-then-left-outcomes
returns-then-left-outcomes g c earlier going cut behind =
    let one = c.in-Some.one in
    let known = c.loop-at.known.items in
    let all = c.push.new.self.items in
    let at = c.loop-at.at in
    let outcome : Outcome = c.index-outcomes-left.result in
    let outcomes : c.as_slice-outcomes.result.now ≡ one.now.outcomes.items = c.as_slice-outcomes.ensures.value in
    let many : c.len-at-end.result ≡ length earlier.components = c.len-at-end.ensures ∙ c.args.before.now.components.ok.0 ∙ as-long c.args.before.now.components.items earlier.components cut.components in
    let below : at < length earlier.components = omega (arith, c.loop-at-test.true, many) in (
      first-keys (λ one. one.now.key.items) known all one at earlier c.in_ok-push.ensures.items c.loop-at.invariant.count below
          (keys-more known all one (λ one. one.now.key.items) earlier at c.in_ok-push.ensures.items c.loop-at.invariant.count (c.loop-at.invariant.each earlier going cut behind)
          (λ component found. if-some c.in_ok-one.field-0 one (λ one. one.now.key.items ≡ spell_key earlier at component) (c.in_ok-one.ensures earlier going component cut behind found) c.in-Some.is)),
      step-found (λ one. one.now.outcomes.items) known all one c.args.nth at c.loop-at.left outcome (get_or c.as_slice-outcomes.result.now c.loop-at.left outcome).effect c.in_ok-push.ensures.items c.loop-at.invariant.count c.loop-at.invariant.counted
          (subst (λ (os : List Outcome). slice_get os c.loop-at.left ≡ Some outcome) outcomes (get-found c.as_slice-outcomes.result.now c.loop-at.left outcome c.if-left-outcomes.true c.index-outcomes-left.is))
          (ap (λ (o : Outcome). o.effect) c.index-outcomes-left.is),
    )
