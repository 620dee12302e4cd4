-- How declared names are kept.
use Rattle.std.specs.Prelude.{◌≡◌, ℕ, List, [], ◌∷◌, Option, Some, None, bytes_eq}
use Rattle.std.specs.HashMap.{HashMap, get_by}
use Rattle.std.specs.declared.hash.BuildHasherDefault.{BuildHasherDefault}
use Rattle.std.specs.declared.hash.FoldHasher.{FoldHasher}
use Rattle.std.specs.Borrow.{Bor}
use Rattle.check_scope.specs.Names.{Entry, Names}
use Rattle.check_scope.specs.declared.names.Meaning.{Meaning}
use Rattle.graph_sites.specs.internal.OwnNames.{own_names}
use Rattle.graph_sites.specs.declared.own.Kept.{Kept}

-- the names in front of these, the last one first
abbrev pub entries_of : List Entry → List Kept → List Entry
entries_of before [] = before
entries_of before (k ∷ kept) = entries_of ((k.name.now, k.meaning) ∷ before) kept

-- each name is kept with what it stood for before
abbrev pub AreKept : List Entry → List Kept → Type 0
AreKept before [] = Unit {0}
AreKept before (k ∷ kept) = (k.before ≡ own_names before k.name.now) × AreKept ((k.name.now, k.meaning) ∷ before) kept

abbrev pub meant : Option (Option Meaning) → Option Meaning
meant None = None
meant (Some m) = m

-- what a table of the latest meanings says of a name
abbrev pub latest_in : HashMap (Bor (List ℕ)) (Option Meaning) (BuildHasherDefault FoldHasher) → Names
latest_in latest name = meant (get_by (λ key. bytes_eq name key.now) latest)
