use Rattle.std.proofs.Common.{ap, arith, sym, ◌∙◌}
use Rattle.config_packed.specs.Pieces.{spell_key}
use Rattle.ttcnx_runs.proofs.Parting.{some-at}
use Rattle.ttcnx_runs.proofs.Recalled.{key-at, keys-long}
use Rattle.ttcnx_runs.proofs.sparing.recall_before.Goals as goal

pub returns-then-sees_the_same : goal.returns-then-sees_the_same
returns-then-sees_the_same g c earlier going component cut behind found =
    let all = c.args.all.now in
    let at = c.args.at in
    let keys = c.requires.keys going behind in
    let long = keys-long (λ one. one.now.key.items) all going keys in
    let there = some-at going.components at (omega (arith, long, c.if-at-all.true)) in
    ap (λ one. one.now.key.items) c.index-all-at.is
    ∙ key-at (λ one. one.now.key.items) all at c.index-all-at.result (spell_key going at there.0) c.if-at-all.true (keys.each at there.0 there.1)
    ∙ sym (c.sees_the_same.ensures c.if-sees_the_same.true earlier going component there.0 cut behind found there.1)

pub returns : goal.returns
returns g c earlier going component cut behind found = c.recall_at.ensures earlier component cut found
