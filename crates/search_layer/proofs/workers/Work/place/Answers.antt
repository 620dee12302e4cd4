use Rattle.std.proofs.Common.{◌≡◌, Some, ap, sym, ◌∙◌}
use Rattle.std.specs.Option.{option_eq}
use Rattle.search_layer.specs.internal.Work.{or_none}
use Rattle.search_layer.proofs.Placing.{one-placed, none-placed}
use Rattle.search_layer.proofs.Thinned.{any-or_none}
use Rattle.search_layer.proofs.workers.Work.place.Goals as goal

pub returns-then-not-contains_in-clause-placed : goal.returns-then-not-contains_in-clause-placed
returns-then-not-contains_in-clause-placed g c =
    let eq = g.Y.State.PartialEq.eq in
    let known = c.args.self.now.visited.now.keys in
    let candidate = c.index-self-at.result in
    let given : candidate.state ≡ Some c.in-Some.state = ap (λ (k : _). k.state) c.index-self-at.is ∙ c.in-Some.is in
    one-placed (option_eq eq) (or_none known) c.args.self.now.candidates.now c.args.at candidate _ _ c.requires.at c.index-self-at.is
    (any-or_none eq candidate.state c.in-Some.state known given ∙ sym c.contains_in.ensures ∙ c.if-not-contains_in.true) c.place.ensures.placed

pub returns-else-not-contains_in-clause-placed : goal.returns-else-not-contains_in-clause-placed
returns-else-not-contains_in-clause-placed g c =
    let eq = g.Y.State.PartialEq.eq in
    let known = c.args.self.now.visited.now.keys in
    let candidate = c.index-self-at.result in
    let given : candidate.state ≡ Some c.in-Some.state = ap (λ (k : _). k.state) c.index-self-at.is ∙ c.in-Some.is in
    none-placed (option_eq eq) (or_none known) c.args.self.now.candidates.now c.args.at candidate _ c.requires.at c.index-self-at.is
    (any-or_none eq candidate.state c.in-Some.state known given ∙ sym c.contains_in.ensures ∙ c.if-not-contains_in.false)
