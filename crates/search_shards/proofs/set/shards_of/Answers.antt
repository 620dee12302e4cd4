use Rattle.std.proofs.Common.{◌≡◌, [], ◌∷◌, ◌++◌, map, Ok, sym, ap, ◌∙◌, append-nil, arith}
use Rattle.std.proofs.lemmas.List.{map-append}
use Rattle.std.specs.Vec.Iter.{into_iter_items}
use Rattle.search_shards.proofs.Shards.{all-moved, one-moved}
use Rattle.search_shards.proofs.set.shards_of.Goals as goal

pub loop-answer-init : goal.loop-answer-init
loop-answer-init g c =
    sym c.into_iter-answer-iterator.ensures.into_iter_gives.0
    ∙ ap (λ shards. map Ok shards ++ into_iter_items c.into_iter-answer-iterator.result) (sym c.in_ok-shards.ensures.items)

pub loop-answer-preserved : goal.loop-answer-preserved
loop-answer-preserved g c =
    let shards = c.loop-answer.shards.items in
    let shard = c.in_ok-answer.field-0 in
    let items = into_iter_items c.loop-answer.answer-iterator in
    let rest = into_iter_items c.next.new.self in
    let first : items ≡ c.in-Some.answer ∷ rest = c.in-Some.ensures.steps.0 in
    let next : items ≡ Ok shard ∷ rest = first ∙ ap (λ answer. answer ∷ rest) c.in_ok-answer.was in
    let new : c.push.new.self.items ≡ shards ++ shard ∷ [] = c.in_ok-push.ensures.items in
    one-moved c.args.answers.items (map Ok shards) (map Ok c.push.new.self.items) items rest (Ok shard)
    c.loop-answer.invariant next (ap (map Ok) new ∙ map-append Ok shards (shard ∷ []))

pub returns : goal.returns
returns g c =
    sym (all-moved c.args.answers.items (map Ok c.loop-answer.shards.items) (into_iter_items c.loop-answer.answer-iterator) [] c.loop-answer.invariant
    (let none = c.in-None.ensures.steps.0 in let ok = c.loop-answer.answer-iterator.rest.ok in omega arith) (λ _. []))
    ∙ append-nil (map Ok c.loop-answer.shards.items)
