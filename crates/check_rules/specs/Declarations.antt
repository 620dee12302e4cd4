-- Names that are declared one behind the other.
use Rattle.std.specs.Prelude.{List, [], ◌∷◌, ◌++◌}
use Rattle.check_scope.specs.Names.{Entry, Scope, declaring}
use Rattle.check_scope.specs.declared.rule.Rule.{Rule}

-- the rules that items break, each in the scope that has the names of those before it
abbrev pub one_by_one : {A : Type 0} → (Scope → A → List Rule) → (Scope → A → Entry) → Scope → List A → List Rule
one_by_one rules entry scope [] = []
one_by_one rules entry scope (item ∷ items) = rules scope item ++ one_by_one rules entry (declaring scope (entry scope item ∷ [])) items

-- the scope behind them
abbrev pub behind_all : {A : Type 0} → (Scope → A → Entry) → Scope → List A → Scope
behind_all entry scope [] = scope
behind_all entry scope (item ∷ items) = behind_all entry (declaring scope (entry scope item ∷ [])) items
