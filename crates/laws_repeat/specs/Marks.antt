-- Each `repeat` has the mark of its `alt` behind it or below, and marks stand no further in than what comes before them, as in all runs of modules that break no rule (ES 201 873-1, 20.2 and 20.3).
use Rattle.std.specs.Prelude.{◌≡◌, false, ◌||◌, Bool, List, [], ◌∷◌, is_some}
use Rattle.std.specs.List.{All}
use Rattle.ttcn_syntax.specs.declared.tree.statement.Action.TheOpen.{Action-F}
use Rattle.check_scope.specs.Names.{Entry}
use Rattle.laws_repeat.specs.Following.{IsClosedItem, IsOutside, lists_of}
use Rattle.semantics.specs.Configurations.{Configuration, Ended, Frame, Goes}
use Rattle.semantics.specs.Items.{Doing, Item, Mark, Waiting, action_of}
use Rattle.semantics.specs.Snapshots.{Test}
use Rattle.semantics.specs.Taking.{from_mark}

-- a list has a mark
abbrev pub has_mark : List Item → Bool
has_mark items = is_some (from_mark items)

-- one of the lists has a mark
abbrev pub some_marked : List (List Item) → Bool
some_marked [] = false
some_marked (items ∷ lists) = has_mark items || some_marked lists

-- an item is closed, unless there is a mark among those behind it, or below
abbrev pub FindsMark : Bool → Item → List Item → Type 0
FindsMark below item behind = (has_mark behind || below) ≡ false → IsClosedItem item

-- a mark stands where these names are declared, or not all of them
abbrev pub IsMarkOutside : List Entry → Item → Type 0
IsMarkOutside inner (Doing site s part) = Unit {0}
IsMarkOutside inner (Mark site s) = IsOutside site.declared inner
IsMarkOutside inner (Waiting target) = Unit {0}

-- a list in a frame, where there is a mark in a frame below or not: each item finds a mark or is closed, and the marks behind it stand no further in
abbrev pub AreMarked : Bool → List Item → Type 0
AreMarked below [] = Unit {0}
AreMarked below (Doing site s part ∷ items) = FindsMark below (Doing site s part) items × All (IsMarkOutside site.declared) items × AreMarked below items
AreMarked below (Mark site s ∷ items) = FindsMark below (Mark site s) items × All (IsMarkOutside site.declared) items × AreMarked below items
AreMarked below (Waiting target ∷ items) = AreMarked below items

-- in the lists of all frames each item finds a mark or is closed, and the marks behind it stand no further in
abbrev pub AllAreMarked : List (List Item) → Type 0
AllAreMarked [] = Unit {0}
AllAreMarked (items ∷ lists) = AreMarked (some_marked lists) items × AllAreMarked lists

-- the lists of frames are marked (`AllAreMarked`) in each component of a test case that goes on; one that ended has no components
abbrev pub StandsMarked : Test → Configuration → Type 0
StandsMarked test (Ended v) = Unit {0}
StandsMarked test (Goes c) = All (λ component. AllAreMarked (lists_of component.own.calls)) c.components

-- the first item is a `repeat`
abbrev pub IsAtRepeat : List Item → Type 0
IsAtRepeat (Doing site s part ∷ items) = action_of s ≡ Action-F.Repeat
IsAtRepeat _ = ⊥

-- a component with these frames stands at one
abbrev pub StandsAtRepeat : List Frame → Type 0
StandsAtRepeat [] = ⊥
StandsAtRepeat (frame ∷ frames) = IsAtRepeat frame.remaining
