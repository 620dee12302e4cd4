use Rattle.std.proofs.Common.{◌≡◌, ◌≤◌, ◌<◌, ℕ, List, arith, ap, length, subst, ◌∙◌}
use Rattle.std.specs.Prelude.{IfOk}
use Rattle.config_parts.specs.declared.config.Config.TheVariants as config
use Rattle.config_parts.specs.declared.config.Going.{Going}
use Rattle.config_parts.specs.internal.Changes.{with_message}
use Rattle.ttcnx_runs.proofs.Parting.{as-long, changed-sent, changed-unsent, part-at, some-at}
use Rattle.ttcnx_runs.proofs.recalling.changed_by_sending.Goals as goal

pub changed-requires : goal.changed-requires
changed-requires c =
    let part = part-at c.requires.0 c.args.parts.now c.args.at c.index.result.now c.requires.1 c.requires.2 c.index.ensures c.requires.3 in
    ((c.requires.0, c.requires.4, c.requires.2), (c.args.own.now.0, (c.args.own.now.1, c.as_bytes.ensures)), (c.requires.1.queues, ap (λ (p : List ℕ × List ℕ). p.1) part))

pub returns-then-sending-len : goal.returns-then-sending-len
returns-then-sending-len c going component cut found whole =
    let long = as-long c.args.parts.now.components.items going.components cut.components in
    let many : c.len.result ≡ length going.components = c.len.ensures ∙ c.args.parts.now.components.ok.0 ∙ long in
    let past : length going.components ≤ c.args.sending.now.to = omega (arith, c.if-sending-len.true, many) in
    let part = part-at going c.args.parts.now c.args.at c.index.result.now component cut c.index.ensures found in
    subst (λ (behind : Going). IfOk c.changed.result (λ packed. packed ≡ config.Going behind)) (changed-unsent going c.args.at c.args.own.now c.args.sending.now component found past)
    (c.changed.ensures going c.args.own.now.0 c.args.own.now.1 component.queues whole cut c.as_bytes.ensures (ap (λ (p : List ℕ × List ℕ). p.1) part))

pub changed-requires-2 : goal.changed-requires-2
changed-requires-2 c =
    let going : Going = c.requires.0 in
    let cut = c.requires.2 in
    let long = as-long c.args.parts.now.components.items going.components cut.components in
    let many : c.len.result ≡ length going.components = c.len.ensures ∙ c.args.parts.now.components.ok.0 ∙ long in
    let below : c.args.sending.now.to < length going.components = omega (arith, c.if-sending-len.false, many) in
    let w = some-at going.components c.args.sending.now.to below in
    let part = part-at going c.args.parts.now c.args.sending.now.to c.index-2.result.now w.0 cut c.index-2.ensures w.1 in (
      (going, c.requires.4, cut),
      (c.args.own.now.0, (c.args.own.now.1, c.as_bytes-2.ensures)),
      (
        with_message c.args.sending.now.port c.args.sending.now.message w.0.queues,
        c.as_slice-queues.ensures.value ∙ c.in_ok-queues.ensures w.0.queues (ap (λ (p : List ℕ × List ℕ). p.1) part),
      ),
    )

pub returns : goal.returns
returns c going component cut found whole =
    let long = as-long c.args.parts.now.components.items going.components cut.components in
    let many : c.len.result ≡ length going.components = c.len.ensures ∙ c.args.parts.now.components.ok.0 ∙ long in
    let below : c.args.sending.now.to < length going.components = omega (arith, c.if-sending-len.false, many) in
    let w = some-at going.components c.args.sending.now.to below in
    let part = part-at going c.args.parts.now c.args.sending.now.to c.index-2.result.now w.0 cut c.index-2.ensures w.1 in
    subst (λ (behind : Going). IfOk c.changed-2.result (λ packed. packed ≡ config.Going behind)) (changed-sent going c.args.at c.args.own.now c.args.sending.now w.0 w.1)
    (c.changed-2.ensures going c.args.own.now.0 c.args.own.now.1 (with_message c.args.sending.now.port c.args.sending.now.message w.0.queues) whole cut c.as_bytes-2.ensures
    (c.as_slice-queues.ensures.value ∙ c.in_ok-queues.ensures w.0.queues (ap (λ (p : List ℕ × List ℕ). p.1) part)))
