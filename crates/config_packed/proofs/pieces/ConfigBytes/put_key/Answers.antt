use Rattle.std.proofs.Common.{ℕ, List, ◌++◌, ap, ◌∙◌}
use Rattle.std.proofs.lemmas.Result.{on_ok_weaker}
use Rattle.config_packed.specs.internal.Cuts.{cut_fronts}
use Rattle.config_packed.proofs.Cutting.{cut-at, fronts-back, key-put}
use Rattle.config_packed.proofs.pieces.ConfigBytes.put_key.Goals as goal

pub returns : goal.returns
returns c going component cut found =
    let parts = cut-at c.args.self.now.components.items going.components c.args.at c.index-component.result.now component cut.components c.index-component.ensures c.requires found in
    on_ok_weaker c.put_fronts.result
    (λ put.
    key-put going c.args.at component c.args.self.now.outline.now c.index-component.result.now.own.now c.args.key.now.items c.extend_from_slice.new.self.items c.put_long.new.bytes.items c.extend_from_slice-2.new.self.items c.put_fronts.new.key.items
    cut.outline
    (ap (λ (p : List ℕ × List ℕ). p.0) parts)
    c.in_ok-extend_from_slice.ensures.items
    c.in_ok-put_long.ensures
    c.in_ok-extend_from_slice-2.ensures.items
    (put ∙ ap (λ (fronts : List ℕ). c.extend_from_slice-2.new.self.items ++ fronts) (ap (λ (p : List ℕ × List ℕ). cut_fronts p.1) parts ∙ fronts-back component.queues)))
    c.put_fronts.ensures
