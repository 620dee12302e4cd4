use Rattle.std.proofs.Common.{◌∷◌, ◌++◌, [], List, ap, map, subst, sym, ◌∙◌}
use Rattle.std.proofs.lemmas.Iterator.Adapters.{YieldsList-from_vec}
use Rattle.std.proofs.lemmas.Iterator.Consumers.{YieldsList-end}
use Rattle.std.proofs.lemmas.List.{map-append}
use Rattle.std.specs.List.{AllZip}
use Rattle.search_ordinals.proofs.Numbers.{map-itself}
use Rattle.search_ordinals.proofs.Sparing.{all-given, nothing-left-out}
use Rattle.search_ordinals.specs.Sparing.{IsSparedAt}
use Rattle.search_ordinals.proofs.branched.Branched.sparing_branches.Goals as goal

pub loop-branch-preserved : goal.loop-branch-preserved
loop-branch-preserved g c =
    c.in_ok-push.ensures.items
    ∙ ap (λ found. found ++ all-given (c.in-Some.branch, c.in-Some.after) ∷ []) c.loop-branch.invariant
    ∙ sym (map-append all-given c.loop-branch.yielded ((c.in-Some.branch, c.in-Some.after) ∷ []))

pub returns : goal.returns
returns g c =
    let graph = g.Self.System.graph c.args.self.now in
    let branch = g.Self.Located.branch c.args.self.now in
    let state = c.args.state.now in
    let items = c.in_ok-items.items.items in
    let ended = YieldsList-end (YieldsList-from_vec {s = c.into_iter-branch-iterator.result} items (cc) (cc)) c.loop-branch.yielded c.loop-branch.branch-iterator c.loop-branch.yielded_by c.next.result c.next.new.self c.in-None.is c.next.ensures.steps in
    subst (λ (found : List _). AllZip (IsSparedAt branch graph c.args.before.now c.args.nth state) (graph.enabled state) found)
    (sym (c.loop-branch.invariant ∙ ap (map all-given) (sym (map-itself c.loop-branch.yielded) ∙ ended.0 ∙ c.in_ok-items.ensures)))
    (nothing-left-out branch graph c.args.before.now c.args.nth state (graph.enabled state))
