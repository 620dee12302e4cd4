-- What lasts of the lists that remain in frames.
use Rattle.std.specs.Prelude.{ℕ, List, [], ◌∷◌}
use Rattle.ttcn_syntax.specs.declared.tree.definition.Definition.{Definition}
use Rattle.ttcn_syntax.specs.declared.tree.statement.Statement.{Statement}
use Rattle.laws_repeat.specs.Following.{Follows, IsBody}
use Rattle.semantics.specs.Items.{Item, items}
use Rattle.semantics.specs.Sites.{beginning}
use Rattle.semantics.specs.Taking.{without_marks}

-- what holds of the lists that remain in each component's frames, where it holds at the beginning of bodies and stays with steps and with marks that go
pub record IsLasting (definitions : List Definition) (Holds : List (List Item) → Type 0) : Type 0 where
  pub none : Holds []
  pub begun : (at : ℕ) (body : List Statement) → IsBody definitions at body → Holds (items definitions (beginning at) body ∷ [])
  pub followed : (before after : List (List Item)) → Follows definitions before after → Holds before → Holds after
  pub uncovered : (remaining : List Item) (lists : List (List Item)) → Holds (remaining ∷ lists) → Holds (without_marks remaining ∷ lists)
