-- What remains to be done in the frames of a component, and what comes of it in a step (ES 201 873-1, 16 and 19 to 22).
use Rattle.std.specs.Prelude.{◌≡◌, ◌⊎◌, ℕ, false, List, [], ◌∷◌, ◌++◌, map, Option, Some, None}
use Rattle.std.specs.List.{All}
use Rattle.ttcn_syntax.specs.declared.tree.definition.Definition.{Definition}
use Rattle.ttcn_syntax.specs.declared.tree.statement.Action.TheOpen.{Action-F}
use Rattle.ttcn_syntax.specs.declared.tree.statement.LogItem.{LogItem}
use Rattle.ttcn_syntax.specs.declared.tree.statement.Statement.{Statement}
use Rattle.ttcn_syntax.specs.declared.tree.statement.Verdict.{Verdict}
use Rattle.ttcn_syntax.specs.declared.tree.statement.Verdict.TheVariants as verdict
use Rattle.check_scope.specs.Names.{Entry, kind_at}
use Rattle.check_rules.specs.Statements.{Place, statement}
use Rattle.laws_checker.specs.Laws.{IsWhole}
use Rattle.semantics.specs.Configurations.{Frame}
use Rattle.semantics.specs.Items.{Doing, Item, Mark, Part, Target, Waiting, Whole, action_of, items}
use Rattle.semantics.specs.Runs.{testcase_body}
use Rattle.semantics.specs.Sites.{Site, beginning}
use Rattle.semantics.specs.Statements.{Act, Creates, Errs, Request, Requests, Starts, Waits, Worsens, body_of}
use Rattle.semantics.specs.Taking.{from_mark}

-- ---- frames

-- what remains in each frame, the last one first
abbrev pub lists_of : List Frame → List (List Item)
lists_of calls = map (λ frame. frame.remaining) calls

-- the lists from this one on where it has a mark, and else what those below give
abbrev pub repeated_from : List (List Item) → Option (List Item) → Option (List (List Item)) → Option (List (List Item))
repeated_from lists None below = below
repeated_from lists (Some remaining) below = Some (remaining ∷ lists)

-- `repeat`: the lists from the last one on that has a mark, with the marked `alt` put back
abbrev pub repeated_lists : List (List Item) → Option (List (List Item))
repeated_lists [] = None
repeated_lists (remaining ∷ lists) = repeated_from lists (from_mark remaining) (repeated_lists lists)

-- ---- items

-- what is declared at the same place or further out: the same names but for some of the last ones
abbrev pub IsOutside : List Entry → List Entry → Type 0
IsOutside outer inner = (more : List Entry) × (more ++ outer ≡ inner)

-- an item that is no mark and stands at a site, or further in; a target that waits for a result has no site
abbrev pub IsInside : Site → Item → Type 0
IsInside site (Doing inner s part) = IsOutside site.declared inner.declared
IsInside site (Mark inner s) = ⊥
IsInside site (Waiting target) = Unit {0}

-- an item that is no mark
abbrev pub IsUnmarked : Item → Type 0
IsUnmarked (Doing site s part) = Unit {0}
IsUnmarked (Mark site s) = ⊥
IsUnmarked (Waiting target) = Unit {0}

-- a statement breaks no rule at some place outside of all branches: each `repeat` in it stands in the block of a branch within it
abbrev pub IsClosed : Statement → Type 0
IsClosed s = (place : Place) × IsWhole place.scope × (place.in_branch ≡ false) × ((statement s).broken place ≡ [])

-- the statement of an item is closed (`IsClosed`); a target that waits for a result has none
abbrev pub IsClosedItem : Item → Type 0
IsClosedItem (Doing site s part) = IsClosed s
IsClosedItem (Mark site s) = IsClosed s
IsClosedItem (Waiting target) = Unit {0}

-- what a statement at a site leaves to be done in its place: items that stand there or further in, and are closed where the statement is
pub record IsMade (site : Site) (s : Statement) (made : List Item) : Type 0 where
  pub inside : All (IsInside site) made
  pub closed : IsClosed s → All IsClosedItem made

-- the body of the function or test case at a position
abbrev pub IsBody : List Definition → ℕ → List Statement → Type 0
IsBody definitions at body = (body_of (kind_at definitions at) ≡ Some body) ⊎ (testcase_body (kind_at definitions at) ≡ Some body)

-- ---- steps

-- what remains in a component's frames before a step of its own, and behind it
pub data Follows (definitions : List Definition) (before after : List (List Item)) : Type 0 where
  -- the first item of the last frame is done, and what it makes stands in its place
  Replaced : (site : Site) (s : Statement) (part : Part) (made rest : List Item) (lists : List (List Item))
      → before ≡ (Doing site s part ∷ rest) ∷ lists → IsMade site s made → after ≡ (made ++ rest) ∷ lists → Follows definitions before after
  -- the first item of the last frame is done, what it makes stands in its place, and a frame with the body of a function or test case comes on top
  Called : (site : Site) (s : Statement) (part : Part) (made rest : List Item) (lists : List (List Item)) (at : ℕ) (body : List Statement)
      → before ≡ (Doing site s part ∷ rest) ∷ lists → IsMade site s made → IsBody definitions at body
      → after ≡ items definitions (beginning at) body ∷ (made ++ rest) ∷ lists → Follows definitions before after
  -- a branch is taken: its block and a mark stand in the place of the `alt`, and frames without marks come on top
  Branched : (site : Site) (s : Statement) (part : Part) (block rest : List Item) (lists frames : List (List Item))
      → before ≡ (Doing site s part ∷ rest) ∷ lists → All (IsInside site) block → All (All IsUnmarked) frames
      → after ≡ frames ++ (block ++ Mark site s ∷ rest) ∷ lists → Follows definitions before after
  -- the last frame goes
  Left : (remaining : List Item) (lists : List (List Item)) → before ≡ remaining ∷ lists → after ≡ lists → Follows definitions before after
  -- the last frame goes, with a result for which the one below waits
  GaveBack : (remaining : List Item) (target : Target) (rest : List Item) (lists : List (List Item)) → before ≡ remaining ∷ (Waiting target ∷ rest) ∷ lists → after ≡ rest ∷ lists → Follows definitions before after
  -- the `alt` of the last mark is put back
  Repeated : repeated_lists before ≡ Some after → Follows definitions before after

-- a frame in which the body of a function or test case remains
abbrev pub IsNewFrame : List Definition → Frame → Type 0
IsNewFrame definitions frame = (at : ℕ) × (body : List Statement) × IsBody definitions at body × (frame.remaining ≡ items definitions (beginning at) body)

-- the first item is a `setverdict` of this verdict
abbrev pub SetsVerdict : List (List Item) → Verdict → Type 0
SetsVerdict before v =
    (site : Site) × (s : Statement) × (rest : List Item) × (lists : List (List Item)) × (reasons : List LogItem) × (before ≡ (Doing site s Whole ∷ rest) ∷ lists) × (action_of s ≡ Action-F.Setverdict v reasons)

-- what is asked for where this remained before: a verdict gets worse by a `setverdict`, a new component has no frames and verdict none, and one that starts has a frame in which a body remains
abbrev pub IsFollowedRequest : List Definition → List (List Item) → Request → Type 0
IsFollowedRequest definitions before (Worsens v) = SetsVerdict before v
IsFollowedRequest definitions before (Creates new) = (new.own.calls ≡ []) × (new.verdict ≡ verdict.None)
IsFollowedRequest definitions before (Starts path frame) = IsNewFrame definitions frame
IsFollowedRequest definitions before _ = Unit {0}

-- what a component does where this remained before: what remains behind follows
abbrev pub IsFollowed : List Definition → List (List Item) → Act → Type 0
IsFollowed definitions before Waits = Unit {0}
IsFollowed definitions before (Errs why) = Unit {0}
IsFollowed definitions before (Requests request own) = IsFollowedRequest definitions before request × Follows definitions before (lists_of own.calls)
