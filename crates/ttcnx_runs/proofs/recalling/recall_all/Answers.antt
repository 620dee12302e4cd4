use Rattle.std.proofs.Common.{◌≡◌, ℕ, ◌+◌, ap, arith, length, ◌∙◌}
use Rattle.std.proofs.lemmas.List.{length-map, length_push}
use Rattle.config_packed.specs.Pieces.{spell_key}
use Rattle.ttcnx_runs.proofs.Gathering.{keys-more}
use Rattle.ttcnx_runs.proofs.Parting.{as-long, get-below}
use Rattle.ttcnx_runs.proofs.Recalled.{if-some}
use Rattle.ttcnx_runs.proofs.recalling.recall_all.Goals as goal

pub loop-at-preserved : goal.loop-at-preserved
loop-at-preserved g c = record {
  count = ap length c.in_ok-push.ensures.items ∙ length_push c.loop-at.all.items c.in-Some.one ∙ ap (λ (n : ℕ). n + 1) c.loop-at.invariant.count;
  each = λ going cut.
      keys-more c.loop-at.all.items c.push.new.self.items c.in-Some.one (λ one. one.now.key.items) going c.loop-at.at c.in_ok-push.ensures.items c.loop-at.invariant.count (c.loop-at.invariant.each going cut)
      (λ component found. if-some c.in_ok-one.field-0 c.in-Some.one (λ one. one.now.key.items ≡ spell_key going c.loop-at.at component) (c.in_ok-one.ensures going component cut found) c.in-Some.is);
}

pub returns : goal.returns
returns g c going cut =
    let there : c.len-at-end.result ≡ length going.components =
    c.len-at-end.ensures ∙ c.args.parts.now.components.ok.0 ∙ as-long c.args.parts.now.components.items going.components cut.components in
    let all : c.loop-at.at ≡ length going.components = omega (arith, c.loop-at-test.false, c.loop-at.auto.at-end, there) in
    record {
      count = length-map c.loop-at.all.items (λ one. one.now.key.items) ∙ c.loop-at.invariant.count ∙ all;
      each = λ at component found. c.loop-at.invariant.each going cut at component (let below = get-below going.components at component found in omega (arith, below, all)) found;
    }
