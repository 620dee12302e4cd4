use Rattle.std.proofs.Common.{◌∷◌, [], ◌++◌, ap, sym, ◌∙◌}
use Rattle.std.proofs.lemmas.List.{map-append}
use Rattle.std.specs.Prelude.{Some}
use Rattle.explore.proofs.expand.all_given.Goals as goal

pub loop-label-preserved : goal.loop-label-preserved
loop-label-preserved g c =
    c.in_ok-push.ensures.items
    ∙ ap (λ made. made ++ (c.in-Some.label, Some c.in-Some.state) ∷ []) c.loop-label.invariant
    ∙ sym (map-append (λ p. (p.0, Some p.1)) c.loop-label.yielded ((c.in-Some.label, c.in-Some.state) ∷ []))
