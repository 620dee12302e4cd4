use Rattle.std.proofs.Common.{◌&&◌, ◌∙◌, subst}
use Rattle.config_packed.specs.Shares.{AreOf}
use Rattle.config_packed.proofs.Shares.{same-told}
use Rattle.config_packed.proofs.interned.InternedConfigPartialEq.eq.Goals as goal

pub returns : goal.returns
returns c =
    let mine = c.self.inside in
    let theirs = c.other.inside in
    c.are_all.ensures
    ∙ (λ i. c.eq-same_head.ensures i && (c.eq-same_front.ensures i && c.eq-same_back.ensures i))
    ∙ same-told mine.head.now mine.front.now mine.back.now theirs.head.now theirs.front.now theirs.back.now c.args.self.now c.args.other.now
    (subst (AreOf mine.head.now mine.front.now mine.back.now) c.self.view_is c.self.invariant)
    (subst (AreOf theirs.head.now theirs.front.now theirs.back.now) c.other.view_is c.other.invariant)
