use Rattle.std.proofs.Common.{◌≡◌, ◌∙◌, subst, IfOk}
use Rattle.summary.specs.KeySet.{from_list, union, union_semilattice}
use Rattle.summary.proofs.ordered_set.OrderedSet.union.Goals as goal

pub returns-then-len : goal.returns-then-len
returns-then-len g c =
    subst (λ both. IfOk c.extended.result (λ s. s ≡ both))
    (union_semilattice.commutes (from_list c.other.inside.keys.items) (from_list c.self.inside.keys.items) ∙ (λ i. union (c.self.view_is i) (c.other.view_is i)))
    c.extended.ensures
