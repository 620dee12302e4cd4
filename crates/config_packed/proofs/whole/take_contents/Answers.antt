use Rattle.std.proofs.Common.{sym, ap, ◌∙◌, arith}
use Rattle.config_packed.proofs.Items.{contents-all, contents-more}
use Rattle.config_packed.proofs.whole.take_contents.Goals as goal

pub loop-name-preserved : goal.loop-name-preserved
loop-name-preserved c =
    rw c.in_ok-push.ensures.items
    (contents-more c.loop-name.name-iterator.rest.items c.next.new.self.rest.items c.in-Some.name c.loop-name.reader c.take_component.new.reader _ c.loop-name.components.items c.in_ok-take_component.field-0
    c.in-Some.ensures.steps.0 c.in_ok-take_component.ensures.value c.in_ok-take_component.ensures.rest c.loop-name.invariant)

pub returns-clause-value : goal.returns-clause-value
returns-clause-value c =
    let none = c.in-None.ensures.steps.0 in
    let ok = c.loop-name.name-iterator.rest.ok in
    c.from_vec.ensures
    ∙ sym (ap (λ p. p.0) (contents-all c.loop-name.name-iterator.rest.items c.loop-name.reader _ c.loop-name.components.items (omega arith) c.loop-name.invariant))

pub returns-clause-rest : goal.returns-clause-rest
returns-clause-rest c =
    let none = c.in-None.ensures.steps.0 in
    let ok = c.loop-name.name-iterator.rest.ok in
    sym (ap (λ p. p.1) (contents-all c.loop-name.name-iterator.rest.items c.loop-name.reader _ c.loop-name.components.items (omega arith) c.loop-name.invariant))
