use Rattle.std.proofs.Common.{◌≡◌, ◌<◌, arith, length, sym, ◌∙◌}
use Rattle.config_packed.specs.Pieces.{spell_key}
use Rattle.ttcnx_runs.proofs.Gathering.{have-steps}
use Rattle.ttcnx_runs.proofs.Parting.{as-long, some-at}
use Rattle.ttcnx_runs.proofs.Recalled.{if-some, outcomes-shown, surely-enabled}
use Rattle.ttcnx_runs.proofs.recalling.has_active.Goals as goal

pub returns-then-not-is_empty : goal.returns-then-not-is_empty
returns-then-not-is_empty g c active going cut live none =
    let machine = g.K.Scheme.machine in
    let at = c.loop-at.at in
    let one = c.in-Some.one in
    let many : c.len-at-end.result ≡ length going.components = c.len-at-end.ensures ∙ c.args.parts.now.components.ok.0 ∙ as-long c.args.parts.now.components.items going.components cut.components in
    let below : at < length going.components = omega (arith, c.loop-at-test.true, many) in
    let here = some-at going.components at below in
    let key : one.now.key.items ≡ spell_key going at here.0 = if-some c.in_ok-one.field-0 one (λ one. one.now.key.items ≡ spell_key going at here.0) (c.in_ok-one.ensures going here.0 cut here.1) c.in-Some.is in
    surely-enabled machine going at here.0 one.now.outcomes.items here.1 (outcomes-shown machine one.now.key.items one.now.outcomes.items one.now.right going at here.0 live here.1 key)
    (have-steps one.now.outcomes.items one.now.outcomes.len one.now.outcomes.ok.0 (sym c.if-not-is_empty.true ∙ c.is_empty.ensures)) none
