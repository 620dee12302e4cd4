use Rattle.std.proofs.Common.{◌≡◌, ◌∷◌, subst, sym}
use Rattle.laws_fine.specs.Fine.{begins_with_alt}
use Rattle.graph_items.specs.Begun.{item_at}
use Rattle.graph_items.specs.declared.first.First.{First}
use Rattle.step_snapshot.specs.Tests.{test_by}
use Rattle.ttcn_step.proofs.alt.is_alt_first.Goals as goal

pub returns-in-Doing : goal.returns-in-Doing
returns-in-Doing c = λ site rest. subst (λ (first : First). c.is_alt_part.result ≡ begins_with_alt (test_by c.args.test.now) (item_at site first ∷ rest)) (sym c.in-Doing.is) (c.is_alt_part.ensures site rest)
