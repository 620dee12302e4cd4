use Rattle.std.proofs.Common.{map, sym, ap, arith}
use Rattle.config_packed.specs.internal.Cuts.{cut_content}
use Rattle.config_packed.specs.Pieces.{bytes_of}
use Rattle.config_packed.proofs.Cutting.{cut-more}
use Rattle.config_packed.proofs.Items.{items-all}
use Rattle.config_packed.proofs.pieces.take_components.Goals as goal

pub loop-turn-preserved : goal.loop-turn-preserved
loop-turn-preserved c =
    cut-more c.args.count c.loop-turn._turn c.loop-turn.reader c.take_component.new.reader _ c.loop-turn.components.items c.push.new.self.items c.take_component.result
    c.loop-turn-test.true c.in_ok-push.ensures.items c.take_component.ensures.value c.take_component.ensures.rest c.loop-turn.invariant

pub returns : goal.returns
returns c =
    sym (ap (λ p. p.0) (items-all cut_content c.args.count c.loop-turn._turn c.loop-turn.reader _ (map bytes_of c.loop-turn.components.items) (omega arith) c.loop-turn.invariant))
