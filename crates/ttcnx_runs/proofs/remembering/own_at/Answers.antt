use Rattle.std.proofs.Common.{ℕ, List, arith, ap}
use Rattle.config_parts.specs.declared.config.Going.{Going}
use Rattle.ttcnx_runs.proofs.Parting.{as-long, part-at, parts-going, some-at}
use Rattle.ttcnx_runs.proofs.remembering.own_at.Goals as goal

pub copy-requires : goal.copy-requires
copy-requires c =
    let whole = parts-going c.args.packed.now c.in_ok-parts.field-0 c.in-Some.parts c.in_ok-parts.ensures c.in-Some.is in
    let going : Going = whole.0 in
    let long = as-long c.in-Some.parts.components.items going.components whole.2.components in
    let here = some-at going.components c.args.at (omega (arith, long)) in
    let part = part-at going c.in-Some.parts c.args.at c.index-component.result.now here.0 whole.2 c.index-component.ensures here.1 in
    (here.0.verdict, here.0.own, ap (λ (p : List ℕ × List ℕ). p.0) part)

pub returns : goal.returns
returns c =
    let whole = parts-going c.args.packed.now c.in_ok-parts.field-0 c.in-Some.parts c.in_ok-parts.ensures c.in-Some.is in
    let going : Going = whole.0 in
    let long = as-long c.in-Some.parts.components.items going.components whole.2.components in
    let here = some-at going.components c.args.at (omega (arith, long)) in
    let part = part-at going c.in-Some.parts c.args.at c.index-component.result.now here.0 whole.2 c.index-component.ensures here.1 in
    (going, here.0, whole.1, here.1, c.in_ok-copy.ensures here.0.verdict here.0.own (ap (λ (p : List ℕ × List ℕ). p.0) part))
