use Rattle.std.proofs.Common.{Bor, List, [], map, sym, ap, ◌∙◌, subst, ◌≤◌}
use Rattle.std.proofs.lemmas.List.{get_or-map}
use Rattle.std.proofs.Math.ListN.{length-map}
use Rattle.graph_numbers.proofs.Ordered.{Name, all-there, one-more}
use Rattle.graph_numbers.proofs.names.set_of.Goals as goal

texts : List (Bor Name) → List Name
texts names = map (λ n. n.now) names

pub loop-name-preserved : goal.loop-name-preserved
loop-name-preserved c =
    one-more (map (λ n. n.now) c.args.names.now) c.loop-name.set.keys c.insert.new.self.keys c.in_ok-try_clone.field-0 c.loop-name.name-index c.loop-name.invariant
    c.in_ok-insert.ensures.keys
    (c.in_ok-try_clone.ensures ∙ ap (λ n. n.now) c.name-item.is ∙ sym (get_or-map (λ n. n.now) c.args.names.now c.loop-name.name-index _ [] c.loop-name-test.true))

pub returns : goal.returns
returns c =
    all-there (map (λ n. n.now) c.args.names.now) c.loop-name.set.keys c.loop-name.name-index c.loop-name.invariant
    (subst (λ n. n ≤ c.loop-name.name-index) (sym (length-map {A = Bor Name} c.args.names.now (λ n. n.now))) c.loop-name-test.false)
