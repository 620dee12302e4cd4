use Rattle.std.proofs.Common.{◌∷◌, subst, sym}
use Rattle.graph_items.specs.Begun.{item_at}
use Rattle.graph_items.specs.declared.first.First.{First}
use Rattle.ttcn_step.proofs.plain.is_plain_first.Goals as goal
use Rattle.ttcn_step.specs.internal.Plain.{IsPlainFirst}

pub returns-in-Doing : goal.returns-in-Doing
returns-in-Doing c = λ plain site rest. subst (λ (first : First). IsPlainFirst (item_at site first ∷ rest)) (sym c.in-Doing.is) (c.is_plain_part.ensures plain site rest)
