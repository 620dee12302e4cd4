-- Graphs that are being drawn, and how they grow.
use Rattle.std.specs.Prelude.{◌≡◌, ℕ, ◌<◌, Bool, false, ◌||◌, nat_eq, List, [], ◌∷◌, length, get_or, slice_get, Some}
use Rattle.ttcn_syntax.specs.declared.tree.definition.Definition.{Definition}
use Rattle.graph_numbers.specs.Lists.{Extends}
use Rattle.semantics.specs.Items.{Item}
use Rattle.semantics.specs.Sites.{Site, beginning}
use Rattle.ttcn_graph.specs.Ways.{ways_of}

-- the module, the site that was reached, the lists by their positions, and for each position those of the lists that may come of it
pub record Draft : Type 0 where
  pub definitions : List Definition
  pub site : Site
  pub lists : List (List Item)
  pub ways : List (List ℕ)

-- the lists at positions
abbrev pub AreAt : List (List Item) → List ℕ → List (List Item) → Type 0
AreAt lists [] [] = Unit {0}
AreAt lists [] (list ∷ others) = ⊥
AreAt lists (p ∷ positions) [] = ⊥
AreAt lists (p ∷ positions) (list ∷ others) = (p < length lists) × (get_or lists p [] ≡ list) × AreAt lists positions others

-- what may come of the list at a position is at the positions that stand there
abbrev pub HasWays : Draft → ℕ → Type 0
HasWays d p = AreAt d.lists (get_or d.ways p []) (ways_of d.definitions (get_or d.lists p []))

-- what may come of the list at each position that isn't open is at the positions that stand there
abbrev pub AllBut : Draft → (ℕ → Bool) → Type 0
AllBut d is_open = (p : ℕ) → p < length d.lists → is_open p ≡ false → HasWays d p

-- a further position is open
abbrev pub and_open : ℕ → (ℕ → Bool) → ℕ → Bool
and_open p is_open q = nat_eq p q || is_open q

-- lists are added, and no position is left open but those that were
pub record Grows (old new : Draft) : Type 0 where
  pub definitions : new.definitions ≡ old.definitions
  pub site : new.site ≡ old.site
  pub lists : Extends old.lists new.lists
  pub keeps : (is_open : ℕ → Bool) → AllBut old is_open → AllBut new is_open

-- a position stands for a list
pub record IsDrawn (old new : Draft) (at : ℕ) (list : List Item) : Type 0 where
  pub grown : Grows old new
  pub within : at < length new.lists
  pub stands : get_or new.lists at [] ≡ list

-- a position stands for a list, and is open
pub record IsBegun (old new : Draft) (at : ℕ) (list : List Item) : Type 0 where
  pub definitions : new.definitions ≡ old.definitions
  pub site : new.site ≡ old.site
  pub lists : Extends old.lists new.lists
  pub keeps : (is_open : ℕ → Bool) → AllBut old is_open → AllBut new (and_open at is_open)
  pub within : at < length new.lists
  pub stands : get_or new.lists at [] ≡ list

-- a position is open no more
pub record IsFinished (old new : Draft) (at : ℕ) : Type 0 where
  pub definitions : new.definitions ≡ old.definitions
  pub site : new.site ≡ old.site
  pub lists : new.lists ≡ old.lists
  pub keeps : (is_open : ℕ → Bool) → AllBut old (and_open at is_open) → AllBut new is_open

-- positions stand for lists
pub record AreDrawn (old new : Draft) (positions : List ℕ) (lists : List (List Item)) : Type 0 where
  pub grown : Grows old new
  pub stand : AreAt new.lists positions lists

-- a draft at another site
abbrev pub at_site : Site → Draft → Draft
at_site site d = record { definitions = d.definitions; site = site; lists = d.lists; ways = d.ways }

-- the empty list alone, at the beginning of the first behaviour
abbrev pub empty_draft : List Definition → Draft
empty_draft definitions = record { definitions = definitions; site = beginning 0; lists = [] ∷ []; ways = [] }

-- a position is that of the list that comes at a place among those that may come of the list at another
pub record IsWay (d : Draft) (at place way : ℕ) : Type 0 where
  pub within : way < length d.lists
  pub stands : slice_get (ways_of d.definitions (get_or d.lists at [])) place ≡ Some (get_or d.lists way [])
