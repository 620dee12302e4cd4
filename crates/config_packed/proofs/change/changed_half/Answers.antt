use Rattle.std.proofs.Common.{◌++◌, map, ap, ◌∙◌}
use Rattle.std.proofs.lemmas.Result.{IfOk-weaker}
use Rattle.config_packed.specs.internal.Cuts.{changed_at_place, joined}
use Rattle.config_packed.specs.Pieces.{bytes_of}
use Rattle.config_packed.specs.declared.pieces.ComponentBytes.{ComponentBytes}
use Rattle.config_packed.proofs.Changing.{half-all, half-kept, half-more}
use Rattle.config_packed.proofs.change.changed_half.Goals as goal

pub returns-then-is_elsewhere : goal.returns-then-is_elsewhere
returns-then-is_elsewhere c is =
    let change = c.args.change.now in
    let elsewhere = c.is_elsewhere.ensures c.if-is_elsewhere.true in
    half-kept change.at change.own.now change.behind change.queues.now c.args.from c.args.to (map bytes_of c.args.parts.now.components.items) c.args.kept.now elsewhere.0 elsewhere.1 c.requires.0 is

pub loop-place-preserved : goal.loop-place-preserved
loop-place-preserved c =
    let change = c.args.change.now in
    half-more change.at change.own.now change.behind change.queues.now c.loop-place.place c.args.to _ c.loop-place.bytes.items c.put.new.bytes.items c.args.parts.now.components.items c.index.result.now
    c.loop-place-test.true c.requires.1
    (c.in_ok-put.ensures ∙ ap (λ (item : ComponentBytes). c.loop-place.bytes.items ++ joined (changed_at_place change.at change.own.now change.behind change.queues.now c.loop-place.place (bytes_of item))) c.index.ensures)
    c.loop-place.invariant

pub returns : goal.returns
returns c is =
    let change = c.args.change.now in
    IfOk-weaker c.intern.result _ _ (λ one interned.
    interned ∙ c.as_slice.ensures.value
    ∙ half-all change.at change.own.now change.behind change.queues.now c.loop-place.place c.args.to _ c.loop-place.bytes.items c.args.parts.now.components.items c.loop-place-test.false c.loop-place.invariant)
    c.intern.ensures
