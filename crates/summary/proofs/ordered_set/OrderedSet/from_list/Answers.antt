use Rattle.std.proofs.Common.{ap, sym, subst, ◌∙◌}
use Rattle.std.proofs.lemmas.List.Filters.{dedup_is}
use Rattle.std.proofs.lemmas.List.Kept.{IsStrictlySortedBy-dedup}
use Rattle.summary.specs.Ascent.{Ascends}
use Rattle.summary.specs.KeySet.{from_list}
use Rattle.summary.proofs.Adding.{ascends-from-recursion, same-from-permutation, deduped, one-by-test}
use Rattle.summary.proofs.ordered_set.OrderedSet.from_list.Goals as goal

pub invariant_of-result : goal.invariant_of-result
invariant_of-result g c =
    subst (Ascends g.T.Ord.cmp) (sym (dedup_is g.T.PartialEq.eq c.sort_unstable.new.self.items c.dedup.new.self.items c.dedup.ensures.filtered))
    (ascends-from-recursion g.met.T.Ord.total _ (IsStrictlySortedBy-dedup g.met.T.Ord.total g.met.T.Ord.matches_eq c.sort_unstable.new.self.items c.sort_unstable.ensures.sorted))

pub returns : goal.returns
returns g c =
    ap from_list (dedup_is g.T.PartialEq.eq c.sort_unstable.new.self.items c.dedup.new.self.items c.dedup.ensures.filtered)
    ∙ deduped g.met.T.Eq.laws (one-by-test g.met.T.Key.one g.met.T.Ord.matches_eq) c.sort_unstable.new.self.items
    ∙ sym (same-from-permutation c.args.keys.items c.sort_unstable.new.self.items c.sort_unstable.ensures.permutation)
